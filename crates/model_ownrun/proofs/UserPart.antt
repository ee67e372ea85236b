-- The Ops of a user that writes for itself that are no part of the log's work: those of its own steps, its checks for a
-- failure, and those with which its errand begins and ends.
use Rattle.std.proofs.Common.{Bool, List, ap, cond, eqb, false, refl, set, subst, sym, true, ℕ, ◌∙◌, ◌≡◌}
use Rattle.std.proofs.lemmas.List.{set-set}
use lib.ListN.{get_elem?}
use mathlib.Core.Option.{some}
use Rattle.model_core.proofs.Lists.{set_at}
use Rattle.model_core.specs.{Actor, DataServed, heard, Listed, LogServed, Nothing, shared_left, SharedWords, user_op, user_took, UserState, DataSide, LogSide, Setup}
use Rattle.model_core.specs.declared.ops.Op.{Op}
use Rattle.model_core.specs.declared.steps.UserStep.{UserStep}
use Rattle.model_core.specs.declared.steps.UserStep.TheVariants as user_step
use Rattle.model_core.specs.declared.words.LinkBuffer.TheVariants as link_buffer
use Rattle.model_logcore.specs.LogLaws.{LogLaws}
use Rattle.model_own.proofs.SetsOut.{out_at}
use Rattle.model_own.specs.{all_actors, LogWork, OwnUser, asks_again, begins_again, given_back, keeps_helped, loads_again, own_checked, own_stepped, sets_out, taken_up, waiting, has_work, MayHelpAt}
use Rattle.model_own.specs.ErrandFits.{ErrandFits}
use Rattle.model_own.specs.declared.errand.ErrandStep.{ErrandStep}
use Rattle.model_own.specs.declared.errand.ErrandStep.TheVariants as errand_step
use Rattle.model_ownrun.proofs.ActorSteps.{user_checks, user_goes_on}
use Rattle.model_ownrun.proofs.Moves.{advance_keeps, answer_to, flusher_gives, flusher_takes, lists_after, Runs, user_moves}
use Rattle.model_ownrun.proofs.UserAlike.{again_begins, again_loads, again_same}
use Rattle.model_ownrun.proofs.WriterPart.{Leaves, goes_to}
use Rattle.model_ownrun.specs.OwnRunning.{WorkFits}
use Rattle.model_pagecore.specs.DataLaws.{DataLaws}

-- a user's own Op leaves the log part
pub user_keeps_part : (D : LogSide) (p q : D.Part) (code : ℕ) (u : UserState) (s : UserStep)
    → LogServed D p Nothing (user_op u s) code q → ◌≡◌ {A = D.Part} q p
user_keeps_part D p q code u (user_step.AdvanceWritten s) z =
    advance_keeps D p q Nothing code link_buffer.Written u.advance s z
user_keeps_part D p q code u (user_step.AdvanceClosed s) z =
    advance_keeps D p q Nothing code link_buffer.Closed u.advance s z
user_keeps_part D p q code u _ z = z

module _ (D : LogSide) (L : LogLaws D) (E : DataSide) (EL : DataLaws E) (c : Setup) (m : SharedWords)
    (ls : ℕ → List Listed) (p : D.Part) (d : E.Part) (users : List OwnUser) (k : LogWork) (others : List Actor)
    (runs : Runs D E c m ls p d (all_actors users k others)) (i : ℕ) (o : OwnUser)
    (at : get_elem? users i ≡ some o) where
  -- what an Op leaves for which the log's work stays where it is
  abbrev pub Aside : SharedWords → (ℕ → List Listed) → D.Part → E.Part → OwnUser → Type 0
  Aside m' ls' q e x = Runs D E c m' ls' q e (all_actors (set users i x) k others)
      × ErrandFits x.user x.errand
      × (has_work x.errand ≡ false)

  -- who checks for a failure has nothing in hand
  pub none_checking : (x : ErrandStep) → o.user.checks ≡ true → ErrandFits o.user x → has_work x ≡ false
  none_checking errand_step.Done asks fits = refl
  none_checking errand_step.TakeDevice asks fits = refl
  none_checking errand_step.GiveBroken asks fits = let z : true ≡ false = sym asks ∙ fits.1 in absurd (cc)
  none_checking errand_step.Write asks fits = let z : true ≡ false = sym asks ∙ fits.1 in absurd (cc)
  none_checking errand_step.Flush asks fits = let z : true ≡ false = sym asks ∙ fits.1 in absurd (cc)

  -- its check for a failure
  pub checks : o.user.checks ≡ true → ErrandFits o.user o.errand → Aside m ls p d (own_checked o m.failed)
  checks asks fits = (
    user_checks D L E EL c m ls p d users k others runs i o at asks (own_checked o m.failed) refl,
    by (eqb m.failed 0) o.errand fits,
    none (eqb m.failed 0),
  )
    where
      none : (b : Bool) → has_work (cond b o.errand errand_step.Done) ≡ false
      none false = refl
      none true = none_checking o.errand asks fits

      by : (b : Bool) (x : ErrandStep) → ErrandFits o.user x
          → ErrandFits
          (cond b (record o.user { checks = false })
          (record o.user { checks = false; code = m.failed; step = user_step.Failed })) (cond b x errand_step.Done)
      by false x fits = tt
      by true errand_step.Done fits = tt
      by true errand_step.TakeDevice fits = fits
      by true errand_step.GiveBroken fits = let z : true ≡ false = sym asks ∙ fits.1 in absurd (cc)
      by true errand_step.Write fits = let z : true ≡ false = sym asks ∙ fits.1 in absurd (cc)
      by true errand_step.Flush fits = let z : true ≡ false = sym asks ∙ fits.1 in absurd (cc)

  module _ (asks : o.user.checks ≡ false) where
    abbrev asked : Op
    asked = user_op o.user o.user.step

    module _ (code : ℕ) (q : D.Part) (e : E.Part) where
      abbrev heard_by : ℕ
      heard_by = heard (answer_to D p code q m ls asked)

      abbrev stepped : UserState
      stepped = user_took o.user heard_by o.user.step

      abbrev set_out : OwnUser
      set_out = record o {
        user = record stepped { checks = false; step = loads_again stepped.step };
        errand = errand_step.TakeDevice;
      }

      abbrev gone_on : OwnUser
      gone_on = record o { user = stepped; helped = cond (keeps_helped o.user.step) o.helped false }

      abbrev StepLeaves : OwnUser → Type 0
      StepLeaves x = Aside (shared_left m asked) (lists_after m ls asked) q e x

      -- its own step, after which it may set out on an errand
      pub steps : o.errand ≡ errand_step.Done → LogServed D p Nothing asked code q → DataServed E d Nothing asked code e
          → StepLeaves (own_stepped o heard_by)
      steps off served stored = by (sets_out o heard_by) refl
        where
          by : (b : Bool) → sets_out o heard_by ≡ b → StepLeaves (cond b set_out gone_on)
          by true is =
              let m' : SharedWords = shared_left m asked in
              let ls' : ℕ → List Listed = lists_after m ls asked in
              let may : MayHelpAt stepped.step = out_at o heard_by is in
              let x : OwnUser = record { user = stepped; errand = errand_step.Done; helped = false } in
              let r = user_goes_on D L E EL c m ls p d users k others runs i o at asks code q e served stored x
              refl in
              let left = user_moves D E c m' ls' q e (set users i x) k others i x (set_at users i o x at)
              stepped.code false (loads_again stepped.step) (again_loads stepped.step may) errand_step.TakeDevice
              o.helped r in (
                subst (λ (l : List OwnUser). Runs D E c m' ls' q e (all_actors l k others))
                    (set-set users i x set_out) left,
                loads_may stepped.step may,
                refl,
              )
            where
              loads_may : (s : UserStep) → MayHelpAt s → MayHelpAt (loads_again s)
              loads_may user_step.LoadCheckpoint z = tt
              loads_may user_step.LoadWrite z = tt
              loads_may user_step.LoadWtail z = tt
              loads_may user_step.ReloadWtail z = tt
              loads_may user_step.AwaitMark z = tt
              loads_may _ z = absurd z
          by false is = (
            user_goes_on D L E EL c m ls p d users k others runs i o at asks code q e served stored gone_on refl,
            subst (λ (x : ErrandStep). ErrandFits stepped x) (sym off) tt,
            ap has_work off,
          )

    -- it finds the log part held
    pub finds_held : MayHelpAt o.user.step → Aside m ls p d (waiting o)
    finds_held may = (
      user_moves D E c m ls p d users k others i o at o.user.code true (begins_again o.user.step)
          (again_begins o.user.step may) errand_step.Done false runs,
      tt,
      refl,
    )

    abbrev with_device : ℕ → SharedWords
    with_device device = record m { device = device }

    abbrev Left : SharedWords → OwnUser × LogWork → Type 0
    Left m' x = Leaves D L E EL c users others i o at m' ls p d x

    -- it takes the log part, and the log's work with it, which nobody has in hand
    pub takes : MayHelpAt o.user.step → m.device ≡ 0 → (errand : ErrandStep) → ErrandFits o.user errand
        → WorkFits D p errand (taken_up k) → Left (with_device 1) (record o { errand = errand }, taken_up k)
    takes may free errand fits work = (
      (let r = flusher_takes D E c m ls p d users k others runs.0 runs.1 runs.2 free in
          goes_to D L E EL c users others i o at (with_device 1) ls p d (taken_up k) r may errand o.helped),
      fits,
      work,
    )

    -- it gives the failed log part back, and asks for it again after a check
    pub gives_broken : MayHelpAt o.user.step → WorkFits D p errand_step.GiveBroken k
        → Left (with_device 0) (asks_again o, given_back k)
    gives_broken may work = (
      (let r = flusher_gives D E c m ls p d users k others runs.0 runs.1 runs.2 work.step.1
          work.flusher_goes_on in
          user_moves D E c (with_device 0) ls p d users (given_back k) others i o at o.user.code true o.user.step
          (again_same o.user.step may) errand_step.TakeDevice o.helped r),
      may,
      record { writer_goes_on = work.writer_goes_on; flusher_goes_on = work.flusher_goes_on; step = (work.step.0, tt) },
    )
