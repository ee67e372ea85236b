-- Reads of the log for its readers, and what an actor makes of the answer to what was played for it.
use Rattle.std.proofs.Common.{List, ap, refl, subst, sym, ℕ, ⊎_elim, ◌∙◌, ◌≡◌}
use Rattle.model_core.specs.States as model
use Rattle.model_core.specs.{AnswerFits, Given, lent, next, ReaderState}
use Rattle.model_core.specs.declared.ops.Answer.{Answer}
use Rattle.model_core.specs.declared.ops.Op.{Op}
use Rattle.model_core.specs.declared.ops.Op.TheVariants as op
use Rattle.model_core.specs.declared.ops.Step.{Step}
use Rattle.redo_disk.specs.{Seen}
use Rattle.redo_drive.proofs.Filled.{block_fits, block_mark_fits, IsNoRead, reader_or_no_read, serves, serves_archiver, serves_read}
use Rattle.redo_drive.proofs.TurnsOf.{answer_fits, mark_fits, some_run}
use Rattle.redo_drive.specs.{IsPlayed, LogReady, RunOf, IsServed, MayServe, HasTaken, MarkFits, view_of}
use Rattle.redo_drive.specs.declared.actor.Actor.{Actor}
use Rattle.redo_drive.specs.declared.actor.Actor.TheVariants as own
use Rattle.redo_drive.specs.declared.parts.Parts.{Parts}
use Rattle.redo_follow.specs.Following.{Following}
use Rattle.redo_logdev.specs.{MayRead}
use Rattle.redo_machine.specs.Reading.{HasBlock, HasPlayed, HasPlayedOther, HasRead}
use Rattle.redo_words.specs.{Lends}
use Rattle.redo_words.specs.declared.lent.Lent.TheVariants as lending

-- an actor that reads is the archiver or a follower
other_reads_not : (a : model.Actor) → ((r : ReaderState) → ◌≡◌ {A = model.Actor} a (model.Reader r) → ⊥)
    → (lsn : ℕ) → next a ≡ op.ReadBlock lsn → ⊥
other_reads_not a none lsn asks =
    ⊎_elim (λ reader. none reader.0 reader.1) (λ no_read. subst IsNoRead asks no_read) (reader_or_no_read a)

pub reader_reads : {R : Type 0} (a : Actor R) (lsn : ℕ) → next (view_of a) ≡ op.ReadBlock lsn
    → (r : ReaderState) × ◌≡◌ {A = model.Actor} (view_of a) (model.Reader r)
reader_reads (own.Archiver r) lsn asks = (r, refl)
reader_reads (own.Follower follower) lsn asks = (follower.state, refl)
reader_reads (own.User u) lsn asks = absurd (other_reads_not (model.User u) (λ r e. absurd (cc)) lsn asks)
reader_reads (own.Writer s) lsn asks = absurd (other_reads_not (model.Writer s) (λ r e. absurd (cc)) lsn asks)
reader_reads (own.Flusher t) lsn asks = absurd (other_reads_not (model.Flusher t) (λ r e. absurd (cc)) lsn asks)
reader_reads (own.Closer t) lsn asks = absurd (other_reads_not (model.Closer t) (λ r e. absurd (cc)) lsn asks)
reader_reads (own.Cleaner v) lsn asks = absurd (other_reads_not (model.Cleaner v) (λ r e. absurd (cc)) lsn asks)
reader_reads (own.Checkpointer t) lsn asks =
    absurd (other_reads_not (model.Checkpointer t) (λ r e. absurd (cc)) lsn asks)

pub no_other_reads : {R : Type 0} (a : Actor R) (lsn : ℕ) → next (view_of a) ≡ op.ReadBlock lsn
    → ((r : ReaderState) → a ≡ own.Archiver r → ⊥) → ((f : Following R) → a ≡ own.Follower f → ⊥) → ⊥
no_other_reads (own.Archiver r) lsn asks one two = one r refl
no_other_reads (own.Follower f) lsn asks one two = two f refl
no_other_reads (own.User u) lsn asks one two = other_reads_not (model.User u) (λ r e. absurd (cc)) lsn asks
no_other_reads (own.Writer s) lsn asks one two = other_reads_not (model.Writer s) (λ r e. absurd (cc)) lsn asks
no_other_reads (own.Flusher t) lsn asks one two = other_reads_not (model.Flusher t) (λ r e. absurd (cc)) lsn asks
no_other_reads (own.Closer t) lsn asks one two = other_reads_not (model.Closer t) (λ r e. absurd (cc)) lsn asks
no_other_reads (own.Cleaner v) lsn asks one two = other_reads_not (model.Cleaner v) (λ r e. absurd (cc)) lsn asks
no_other_reads (own.Checkpointer t) lsn asks one two = other_reads_not (model.Checkpointer t) (λ r e. absurd (cc)) lsn asks

-- so a read that an actor asks for may be made
pub may_read : {L D R : Type 0} (parts : Parts L D) (a : Actor R) (lsn : ℕ) → MayServe parts (view_of a)
    → next (view_of a) ≡ op.ReadBlock lsn → MayRead parts.log lsn
may_read {L} {D} {R} parts a lsn may asks =
    let lends : Lends lending.Nothing (lent (view_of a)) =
    subst (λ (z : model.Actor). Lends lending.Nothing (lent z)) (sym (reader_reads a lsn asks).1) tt in
    subst (λ (o : Op). LogReady parts.log lending.Nothing o) asks (may.playable lending.Nothing lends).log

-- WHAT WAS PLAYED FOR AN ACTOR: the actor may be given the answer, and by that it has its turn.
module _ {L D R : Type 0} (log_seen : L → Seen) (data_seen : D → Seen) (old new : Parts L D) (a b : Actor R)
    (r : Answer)
    (played : HasPlayed log_seen data_seen old a r new b) where
  -- a reader that has read, as the definitions see it
  abbrev HasState : List ℕ → Type 0
  HasState bytes = (s : ReaderState) × ◌≡◌ {A = model.Actor} (view_of a) (model.Reader s)
      × ◌≡◌ {A = model.Actor} (view_of b) (model.Reader (record s { block = bytes }))

  module _ (lsn : ℕ) (h : HasRead log_seen data_seen lsn old a r new b) where
    reads : HasState h.bytes
    reads = by a h.has
      where
        by : (z : Actor R) → HasBlock h.bytes z b → (s : ReaderState) × ◌≡◌ {A = model.Actor} (view_of z) (model.Reader s)
            × ◌≡◌ {A = model.Actor} (view_of b) (model.Reader (record s { block = h.bytes }))
        by (own.Archiver s) is = (s, refl, ap view_of is)
        by (own.Follower f) is = (f.state, refl, ap view_of is)
        by (own.User u) is = absurd is
        by (own.Writer s) is = absurd is
        by (own.Flusher t) is = absurd is
        by (own.Closer t) is = absurd is
        by (own.Cleaner v) is = absurd is
        by (own.Checkpointer t) is = absurd is

    abbrev state : ReaderState
    state = reads.0

    asked : next (model.Reader state) ≡ op.ReadBlock lsn
    asked = sym (ap next reads.1) ∙ h.asks

  module _ (may : MayServe old (view_of a)) where
    read_may : (lsn : ℕ) (h : HasRead log_seen data_seen lsn old a r new b) → MayServe old (model.Reader (state lsn h))
    read_may lsn h = subst (MayServe old) (reads lsn h).1 may

    read_fits : (lsn : ℕ) × HasRead log_seen data_seen lsn old a r new b → AnswerFits (view_of b) r
    read_fits (lsn, h) = subst (λ (z : model.Actor). AnswerFits z r) (sym (reads lsn h).2)
        (block_fits (state lsn h) h.bytes r
        (answer_fits log_seen data_seen (some_run old) old new (model.Reader (state lsn h)) (op.ReadBlock lsn) r
        (sym (asked lsn h)) (model.Room h.bytes) (h.played (some_run old)) (read_may lsn h)))

    other_fits : HasPlayedOther log_seen data_seen old a r new b → AnswerFits (view_of b) r
    other_fits h = subst (λ (z : Actor R). AnswerFits (view_of z) r) (sym h.same)
        (answer_fits log_seen data_seen (some_run old) old new (view_of a) (next (view_of a)) r refl (lent (view_of a))
        (h.played (some_run old)) may)

    pub may_take : AnswerFits (view_of b) r
    may_take = ⊎_elim read_fits other_fits played

    read_mark : (lsn : ℕ) × HasRead log_seen data_seen lsn old a r new b → MarkFits (view_of b) r
    read_mark (lsn, h) = subst (λ (z : model.Actor). MarkFits z r) (sym (reads lsn h).2)
        (block_mark_fits (state lsn h) h.bytes r
        (mark_fits log_seen data_seen (some_run old) old new (model.Reader (state lsn h)) (op.ReadBlock lsn) r
        (sym (asked lsn h)) (model.Room h.bytes) (h.played (some_run old)) (read_may lsn h)))

    other_mark : HasPlayedOther log_seen data_seen old a r new b → MarkFits (view_of b) r
    other_mark h = subst (λ (z : Actor R). MarkFits (view_of z) r) (sym h.same)
        (mark_fits log_seen data_seen (some_run old) old new (view_of a) (next (view_of a)) r refl (lent (view_of a))
        (h.played (some_run old)) may)

    pub may_mark : MarkFits (view_of b) r
    may_mark = ⊎_elim read_mark other_mark played

  module _ (stands : R → List Given → Type 0) (run : RunOf L D) (c : Actor R) (step : Step)
      (taken : HasTaken stands b r step c) where
    read_served : (lsn : ℕ) × HasRead log_seen data_seen lsn old a r new b
        → IsServed log_seen data_seen stands run old a step new c
    read_served (lsn, h) = by a h.asks h.has
      where
        by : (z : Actor R) → next (view_of z) ≡ op.ReadBlock lsn → HasBlock h.bytes z b
            → IsServed log_seen data_seen stands run old z step new c
        by (own.Archiver s) asks is = serves_archiver log_seen data_seen stands run old new s h.bytes lsn c r step asks
            (subst (λ (o : Op). IsPlayed log_seen data_seen run o (model.Room h.bytes) old r new) (sym asks) (h.played run))
            (subst (λ (z : Actor R). HasTaken stands z r step c) is taken)
        by (own.Follower f) asks is = serves_read log_seen data_seen stands run old new f h.bytes lsn c r step asks
            (subst (λ (o : Op). IsPlayed log_seen data_seen run o (model.Room h.bytes) old r new) (sym asks) (h.played run))
            (subst (λ (z : Actor R). HasTaken stands z r step c) is taken)
        by (own.User u) asks is = absurd is
        by (own.Writer s) asks is = absurd is
        by (own.Flusher t) asks is = absurd is
        by (own.Closer t) asks is = absurd is
        by (own.Cleaner v) asks is = absurd is
        by (own.Checkpointer t) asks is = absurd is

    other_served : HasPlayedOther log_seen data_seen old a r new b → IsServed log_seen data_seen stands run old a step
        new c
    other_served h = serves log_seen data_seen stands run old new a c r step (h.played run)
        (subst (λ (z : Actor R). HasTaken stands z r step c) h.same taken)

    pub is_served : IsServed log_seen data_seen stands run old a step new c
    is_served = ⊎_elim read_served other_served played
