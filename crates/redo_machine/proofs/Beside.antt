-- A turn beside an archive.
use Rattle.std.proofs.Common.{Bool, List, None, Option, Some, ap, arith, cond, eqb-true, false, inl, inr, refl, subst, sym, true, ℕ, ◌<◌, ◌==◌, ◌∙◌, ◌≡◌}
use lib.ListN.{get_elem?}
use mathlib.Core.Option.{some, some-injective}
use Rattle.model_core.specs.States as model
use Rattle.model_core.specs.{archives, next, OwnServed, ReaderState}
use Rattle.model_core.specs.declared.ops.Answer.{Answer}
use Rattle.model_core.specs.declared.ops.Answer.TheVariants as answers
use Rattle.model_core.specs.declared.ops.Op.{Op}
use Rattle.model_core.specs.declared.ops.Op.TheVariants as op
use Rattle.model_logcore.specs.LogLaws.{LogLaws}
use Rattle.model_pagecore.specs.DataLaws.{DataLaws}
use Rattle.model_running.proofs.Archiving.{others_append_not}
use Rattle.model_running.specs.{IsNoAppend}
use Rattle.redo_archive.specs.Part.{Part}
use Rattle.redo_archiver.specs.{append_answer, append_code, IsAppended, KeepsPace, MayAppendBlock}
use Rattle.redo_disk.specs.{Seen}
use Rattle.redo_disk.specs.declared.error.DevError.{DevError}
use Rattle.redo_disk.specs.declared.error.DevError.TheVariants.{Failed, NoMemory}
use Rattle.redo_drive.proofs.ArchiveTurns.{one_reader, who_appends}
use Rattle.redo_drive.proofs.MayTurn as may_turn
use Rattle.redo_drive.proofs.Played.{untouched}
use Rattle.redo_drive.specs.{IsBeside, IsPlayed, RunOf, run_data_side, run_log_side, RunsWith, view_of, views_of}
use Rattle.redo_drive.proofs.Viewed.{views_at}
use Rattle.redo_drive.specs.declared.actor.Actor.{Actor}
use Rattle.redo_drive.specs.declared.actor.Actor.TheVariants as own
use Rattle.redo_drive.specs.declared.parts.Parts.{Parts}
use Rattle.redo_follow.specs.Following.{Following}
use Rattle.redo_machine.specs.Reading.{AreNumbered, IsArchiver, MayAppendTo, MayServeWith}

-- whoever appends is a reader
pub reader_appends : (a : model.Actor) (mark : ℕ) → next a ≡ op.Append mark
    → (r : ReaderState) × ◌≡◌ {A = model.Actor} a (model.Reader r)
reader_appends (model.Reader r) mark asks = (r, refl)
reader_appends (model.User u) mark asks = absurd (subst IsNoAppend asks (others_append_not (model.User u) tt))
reader_appends (model.Writer s) mark asks = absurd (subst IsNoAppend asks (others_append_not (model.Writer s) tt))
reader_appends (model.Flusher s) mark asks = absurd (subst IsNoAppend asks (others_append_not (model.Flusher s) tt))
reader_appends (model.Closer s) mark asks = absurd (subst IsNoAppend asks (others_append_not (model.Closer s) tt))
reader_appends (model.Cleaner s) mark asks = absurd (subst IsNoAppend asks (others_append_not (model.Cleaner s) tt))
reader_appends (model.Checkpointer s) mark asks =
    absurd (subst IsNoAppend asks (others_append_not (model.Checkpointer s) tt))

module _ {L D A : Type 0} {archive : Bool} (log_seen : L → Seen) (data_seen : D → Seen) (seen : A → Seen) (run : RunOf L D)
    (parts : Parts L D) (actors : List model.Actor) (R : RunsWith log_seen data_seen run archive parts actors)
    (log_laws : LogLaws (run_log_side log_seen data_seen run)) (data_laws : DataLaws (run_data_side log_seen data_seen run))
    (law : (limit flushed mark : ℕ) (r : ReaderState) (part : Part A) → next (model.Reader r) ≡ op.Append mark
    → KeepsPace seen limit flushed r part → MayAppendBlock seen part mark)
    (seat : ℕ) (who : model.Actor) (at : get_elem? actors seat ≡ some who) where
  -- who asks for an append may have it
  pub may_append : (part : Option (Part A)) → IsBeside seen run.setup parts.words.words actors part
      → (mark : ℕ) → next who ≡ op.Append mark → MayAppendTo seen part mark
  may_append None none mark asks =
      let r = reader_appends who mark asks in
      let there : get_elem? actors seat ≡ some (model.Reader r.0) = at ∙ ap some r.1 in
      let kind = who_appends run.setup r.0 (R.running.both.in_run seat (model.Reader r.0) there) mark
      (sym (ap next r.1) ∙ asks) in
      let z : true ≡ false = sym kind ∙ none seat r.0 there in absurd (cc)
  may_append (Some part) S mark asks =
      let r = reader_appends who mark asks in
      let there : get_elem? actors seat ≡ some (model.Reader r.0) = at ∙ ap some r.1 in
      let own : next (model.Reader r.0) ≡ op.Append mark = sym (ap next r.1) ∙ asks in
      let kind = who_appends run.setup r.0 (R.running.both.in_run seat (model.Reader r.0) there) mark own in
      let here = S.only seat r.0 there kind in
      let mine : ◌≡◌ {A = ReaderState} S.archiver r.0 = one_reader S.archiver r.0
      (some-injective (model.Reader S.archiver) (model.Reader r.0) (sym S.at ∙ ap (get_elem? actors) (sym here) ∙ there)) in
      law S.limit _ mark r.0 part own (subst (λ (x : ReaderState). KeepsPace seen S.limit _ x part) mine S.pace)

-- the code that an append has
own_code : (mark : ℕ) (met : Option DevError) → OwnServed (op.Append mark) (append_code met)
own_code mark None = inl refl
own_code mark (Some Failed) = inr (inl refl)
own_code mark (Some NoMemory) = inr (inr refl)

said : (met : Option DevError)
    → ◌≡◌ {A = Answer} (append_answer met) (cond (append_code met == 0) (answers.Called 0) (answers.Failed (append_code met)))
said None = refl
said (Some Failed) = refl
said (Some NoMemory) = refl

-- AN APPEND IS PLAYED: it calls neither part.
pub append_played : {L D A : Type 0} (log_seen : L → Seen) (data_seen : D → Seen) (seen : A → Seen) (run : RunOf L D)
    (parts : Parts L D) (l : model.Lent) (o : Op) (mark : ℕ) (before after : Part A) (r : Answer) → o ≡ op.Append mark
    → IsAppended seen before mark r after → IsPlayed log_seen data_seen run o l parts r parts
append_played log_seen data_seen seen run parts l o mark before after r is appended =
    subst (λ (z : Op). IsPlayed log_seen data_seen run z l parts r parts) (sym is) (record {
      code = append_code after.failed;
      log_served = refl;
      data_served = untouched (run_data_side log_seen data_seen run) parts.store parts.store l (op.Append mark)
          (append_code after.failed) tt refl;
      own_served = own_code mark after.failed;
      layout = refl;
      words = refl;
      lists = refl;
      answered = appended.answer_is ∙ said after.failed;
    })

-- the archiver is the own actor whose view archives
is_archiver : {R : Type 0} (a : Actor R) → ((f : Following R) → a ≡ own.Follower f → 0 < f.state.number) → (r : ReaderState)
    → view_of a ≡ model.Reader r → archives r ≡ true → IsArchiver a
is_archiver (own.Archiver s) numbered r is kind = tt
is_archiver (own.Follower f) numbered r is kind =
    let same : ◌≡◌ {A = ReaderState} f.state r = one_reader f.state r is in
    let some_number = numbered f refl in
    let none : f.state.number ≡ 0 = ap (λ (x : ReaderState). x.number) same ∙ eqb-true r.number 0 kind in
    absurd (omega arith)
is_archiver (own.User u) numbered r is kind = absurd (cc)
is_archiver (own.Writer s) numbered r is kind = absurd (cc)
is_archiver (own.Flusher s) numbered r is kind = absurd (cc)
is_archiver (own.Closer s) numbered r is kind = absurd (cc)
is_archiver (own.Cleaner s) numbered r is kind = absurd (cc)
is_archiver (own.Checkpointer s) numbered r is kind = absurd (cc)

module _ {L D A R : Type 0} {archive : Bool} (log_seen : L → Seen) (data_seen : D → Seen) (seen : A → Seen) (run : RunOf L D)
    (parts : Parts L D) (actors : List (Actor R)) (runs : RunsWith log_seen data_seen run archive parts (views_of actors))
    (log_laws : LogLaws (run_log_side log_seen data_seen run)) (data_laws : DataLaws (run_data_side log_seen data_seen run))
    (law : (limit flushed mark : ℕ) (r : ReaderState) (part : Part A) → next (model.Reader r) ≡ op.Append mark
    → KeepsPace seen limit flushed r part → MayAppendBlock seen part mark)
    (seat : ℕ) (a : Actor R) (at : get_elem? actors seat ≡ some a) (numbered : AreNumbered actors) where
  abbrev view_is : get_elem? (views_of actors) seat ≡ some (view_of a)
  view_is = views_at actors seat a at

  archiver_asks : (mark : ℕ) → next (view_of a) ≡ op.Append mark → IsArchiver a
  archiver_asks mark asks =
      let r = reader_appends (view_of a) mark asks in
      let there : get_elem? (views_of actors) seat ≡ some (model.Reader r.0) = view_is ∙ ap some r.1 in
      is_archiver a (λ f is. numbered seat f (at ∙ ap some is)) r.0 r.1
      (who_appends run.setup r.0 (runs.running.both.in_run seat (model.Reader r.0) there) mark (sym (ap next r.1) ∙ asks))

  pub serves_with : (part : Option (Part A)) → IsBeside seen run.setup parts.words.words (views_of actors) part
      → MayServeWith seen parts part a
  serves_with part beside = record {
    other = may_turn.serves_other log_seen data_seen run parts (views_of actors) runs log_laws data_laws seat (view_of a) view_is;
    append = λ mark asks. (
      may_append log_seen data_seen seen run parts (views_of actors) runs log_laws data_laws law seat (view_of a) view_is
          part beside mark asks,
      archiver_asks mark asks,
    );
    fits = may_turn.fits log_seen data_seen run parts (views_of actors) runs log_laws data_laws seat (view_of a) view_is;
    mark = may_turn.mark_fits log_seen data_seen run parts (views_of actors) runs log_laws data_laws seat (view_of a) view_is;
  }
