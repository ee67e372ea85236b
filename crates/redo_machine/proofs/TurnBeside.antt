-- A turn of a machine, beside an archive or none.
use Rattle.std.proofs.Common.{Bool, List, None, false, true, Option, Some, ap, arith, get_or, inl, inr, is_some, length, refl, set, subst, sym, ⊎_elim, ℕ, ◌<◌, ◌∙◌, ◌≡◌, ◌⊎◌}
use lib.ListN.{get_elem?}
use mathlib.Core.Option.{some}
use Rattle.model_core.proofs.Lists.{at_set}
use Rattle.model_core.specs.{archives, Given, HasLost, next, ReaderState}
use Rattle.model_core.specs.States as model
use Rattle.model_core.specs.declared.ops.Step.{Step}
use Rattle.model_core.specs.declared.ops.Step.TheVariants as ended
use Rattle.model_logcore.specs.LogLaws.{LogLaws}
use Rattle.model_pagecore.specs.DataLaws.{DataLaws}
use Rattle.model_running.specs.{IsNoAppend}
use Rattle.redo_archive.specs.Part.{Part}
use Rattle.redo_disk.specs.{Call, Seen}
use Rattle.redo_drive.proofs.ArchiveGroups.{comes_on}
use Rattle.redo_drive.proofs.ArchiveTurns as turns
use Rattle.redo_drive.proofs.FailedTurns.{failed_turn_has_some}
use Rattle.redo_drive.proofs.TurnsOf.{its_turn, runs_on}
use Rattle.redo_drive.proofs.Viewed.{own_at}
use Rattle.redo_drive.specs.{Appends, HasComeTo, HasNoArchiver, IsBeside, HasSamePages, RunOf, run_data_side, run_log_side, RunsWith, FailedHasCause, code_in, core_of, follower_of, IsSameFollower, view_of, views_of}
use Rattle.redo_drive.specs.declared.actor.Actor.{Actor}
use Rattle.redo_drive.specs.declared.actor.Actor.TheVariants as own
use Rattle.redo_drive.specs.declared.parts.Parts.{Parts}
use Rattle.redo_follow.specs.Following.{Following}
use Rattle.redo_machine.specs.Reading.{AreNumbered, IsServedWith}

-- a follower keeps its number
numbered_then : {R : Type 0} (a : Actor R) (g : Following R) → IsSameFollower (follower_of a) (Some g)
    → ((f : Following R) → a ≡ own.Follower f → 0 < f.state.number) → 0 < g.state.number
numbered_then (own.Follower f) g same old = let z = old f refl in let e : g.state.number ≡ f.state.number = same in
    omega arith
numbered_then (own.Archiver s) g same old = absurd same
numbered_then (own.User u) g same old = absurd same
numbered_then (own.Writer s) g same old = absurd same
numbered_then (own.Flusher s) g same old = absurd same
numbered_then (own.Closer s) g same old = absurd same
numbered_then (own.Cleaner s) g same old = absurd same
numbered_then (own.Checkpointer s) g same old = absurd same

one_part : {A : Type 0} (x y : Part A) → Some x ≡ Some y → ◌≡◌ {A = Part A} x y
one_part x y e = cc

no_part : {A : Type 0} (x : Part A) → ◌≡◌ {A = Option (Part A)} None (Some x) → ⊥
no_part x e = absurd (cc)

module _ {L D A R : Type 0} {gives : A → Call → A → Type 0} (log_seen : L → Seen) (data_seen : D → Seen)
    (seen : A → Seen) (stands : R → List Given → Type 0) (run : RunOf L D) (old new : Parts L D)
    (actors : List (Actor R)) (seat : ℕ) (d who : Actor R) (step : Step)
    (below : seat < length actors) (before after : Option (Part A))
    (S : IsServedWith log_seen data_seen seen gives stands run old before (get_or actors seat d) step new after who)
    (log_laws : LogLaws (run_log_side log_seen data_seen run))
    (data_laws : DataLaws (run_data_side log_seen data_seen run)) (same : HasSamePages old new) where
  abbrev mine : Actor R
  mine = get_or actors seat d

  abbrev later_actors : List (Actor R)
  later_actors = set actors seat who

  -- which archives there are is as it was
  pub some_stays : is_some after ≡ is_some before
  some_stays = ⊎_elim (λ h. ap is_some h.after_is ∙ sym (ap is_some h.before_is)) (λ z. ap is_some z.1) S.archives

  -- each follower has its number still
  pub numbered : AreNumbered actors → AreNumbered later_actors
  numbered are j g at = ⊎_elim
      (λ here. numbered_then mine g
      (subst (λ (z : Actor R). IsSameFollower (follower_of mine) (follower_of z)) here.1 S.served.same)
      (λ f is. are seat f (own_at actors seat d below ∙ ap some is)))
      (λ other. are j g other.1)
      (at_set actors seat j who (own.Follower g) at)

  -- what the archive was served with
  served_as : (part later : Part A) → before ≡ Some part → after ≡ Some later
      → ((r : ReaderState) × (view_of mine ≡ model.Reader r) × Appends seen gives r part S.served.answer later)
      ⊎ (IsNoAppend (next (view_of mine)) × (later ≡ part))
  served_as part later was is = ⊎_elim
      (λ h.
      let one = one_part h.before part (sym h.before_is ∙ was) in
      let two = one_part h.after later (sym h.after_is ∙ is) in
      inl (
        h.archiver,
        ap view_of h.is,
        subst (λ (p : Part A). Appends seen gives h.archiver part S.served.answer p) two
            (subst (λ (p : Part A). Appends seen gives h.archiver p S.served.answer h.after) one h.appends),
      ))
      (λ z. inr (z.0, one_part later part (sym is ∙ z.1 ∙ was))) S.archives

  module _ {archive : Bool} (runs : RunsWith log_seen data_seen run archive old (views_of actors)) where
    abbrev its : RunsWith log_seen data_seen run archive new (views_of later_actors)
    its = runs_on log_seen data_seen stands run old new actors seat d who step below S.served log_laws data_laws same runs

    still_none : (none : (seat : ℕ) (r : ReaderState) → get_elem? (views_of actors) seat ≡ some (model.Reader r) → archives r ≡ false)
        → HasNoArchiver (views_of later_actors)
    still_none none = turns.none_beside log_seen data_seen run old new (views_of actors) (views_of later_actors) seat S.served.answer step
        log_laws data_laws same runs
        (its_turn log_seen data_seen stands run old new actors seat d who step below S.served) none

    -- THE ARCHIVE STANDS BESIDE THE ACTORS.
    pub beside_then : IsBeside seen run.setup old.words.words (views_of actors) before
        → IsBeside seen run.setup new.words.words (views_of later_actors) after
    beside_then = by before after refl refl
      where
        by : (b a : Option (Part A)) → before ≡ b → after ≡ a
            → IsBeside seen run.setup old.words.words (views_of actors) b
            → IsBeside seen run.setup new.words.words (views_of later_actors) a
        by None None was is none = still_none none
        by None (Some later) was is none =
            let e = some_stays in let z : true ≡ false = sym (ap is_some is) ∙ e ∙ ap is_some was in absurd (cc)
        by (Some part) None was is there =
            let e = some_stays in let z : true ≡ false = sym (ap is_some was) ∙ sym e ∙ ap is_some is in absurd (cc)
        by (Some part) (Some later) was is there =
            turns.stands log_seen data_seen run old new (views_of actors) (views_of later_actors) seat S.served.answer step log_laws
            data_laws same runs
            (its_turn log_seen data_seen stands run old new actors seat d who step below S.served) seen part
            later there (served_as part later was is)

    -- THE RUN THAT CAME TO THE MACHINE has come to it then.
    pub come_then : (first : Option (Part A))
        → HasComeTo log_seen data_seen seen gives run old (views_of actors) runs first before
        → HasComeTo log_seen data_seen seen gives run new (views_of later_actors) its first after
    come_then first = by first before after refl refl
      where
        by : (f b a : Option (Part A)) → before ≡ b → after ≡ a
            → HasComeTo log_seen data_seen seen gives run old (views_of actors) runs f b
            → HasComeTo log_seen data_seen seen gives run new (views_of later_actors) its f a
        by None None None was is none = still_none none
        by None (Some part) a was is come = absurd come
        by (Some f) None a was is come = absurd come
        by f None (Some later) was is come =
            let e = some_stays in let z : true ≡ false = sym (ap is_some is) ∙ e ∙ ap is_some was in absurd (cc)
        by f (Some part) None was is come =
            let e = some_stays in let z : true ≡ false = sym (ap is_some was) ∙ sym e ∙ ap is_some is in absurd (cc)
        by (Some f) (Some part) (Some later) was is come =
            comes_on log_seen data_seen seen run old new (views_of actors) (views_of later_actors) seat S.served.answer step
            log_laws data_laws same runs
            (its_turn log_seen data_seen stands run old new actors seat d who step below S.served) f part later come
            (served_as part later was is)

    -- WHAT A FAILED TURN MET.
    pub met : (code : ℕ) → step ≡ ended.Failed code
        → FailedHasCause log_seen data_seen run new ⊎ HasLost (views_of later_actors) (code_in new)
    met code failed = ⊎_elim (λ cause. inl (inl cause)) (⊎_elim (λ cause. inl (inr cause)) (λ lost. inr lost))
        (failed_turn_has_some (run_log_side log_seen data_seen run) log_laws (run_data_side log_seen data_seen run) data_laws
        run.setup (core_of log_seen data_seen run old (views_of actors))
        (core_of log_seen data_seen run new (views_of later_actors)) seat S.served.answer step its.running
        (its_turn log_seen data_seen stands run old new actors seat d who step below S.served) code failed)
