-- Whoever has a turn may take it: a user asks for what its own seat asks for, or those of the writer and the flusher, had
-- the store these.
use Rattle.std.proofs.Common.{Bool, ap, cond, false, refl, subst, sym, true, ℕ, ⊎_elim, ◌∙◌, ◌≡◌, is_some}
use lib.ListN.{get_elem?}
use mathlib.Core.Option.{some}
use Rattle.model_core.specs.States as model
use Rattle.model_core.specs.{AnswerFits, LogSide, answer_of, flusher_op, lsn, next, ReaderState, user_op, writer_op}
use Rattle.model_core.specs.declared.ops.Answer.{Answer}
use Rattle.model_core.specs.declared.ops.Op.{Op}
use Rattle.model_core.specs.declared.ops.Op.TheVariants as op
use Rattle.model_core.specs.declared.words.Word.TheVariants as word
use Rattle.model_logcore.specs.LogLaws.{LogLaws}
use Rattle.model_own.specs.{LogWork, OwnUser, errand_lends, errand_op, own_lends, own_next, has_work}
use Rattle.model_own.specs.ErrandFits.{ErrandFits}
use Rattle.model_own.specs.declared.errand.ErrandStep.{ErrandStep}
use Rattle.model_own.specs.declared.errand.ErrandStep.TheVariants as errand_step
use Rattle.model_ownrun.proofs.Errands.{in_hand}
use Rattle.model_ownrun.proofs.Seats.{flusher_seat, flusher_there, user_there, writer_seat, writer_there}
use Rattle.model_pagecore.specs.DataLaws.{DataLaws}
use Rattle.redo_disk.specs.{Seen}
use Rattle.redo_drive.proofs.DataPartLaws.{data_laws}
use Rattle.redo_drive.proofs.Filled.{IsNoRead, reader_or_no_read}
use Rattle.redo_drive.proofs.LogPartLaws.{log_laws}
use Rattle.model_running.proofs.Archiving.{others_append_not}
use Rattle.model_running.specs.{IsNoAppend}
use Rattle.redo_drive.proofs.MayTurn.{serves_other}
use Rattle.redo_drive.proofs.TurnsOf.{some_run}
use Rattle.redo_drive.specs.DataPartSide as data_part
use Rattle.redo_drive.specs.LogPartSide as log_part
use Rattle.redo_drive.specs.{lists_of, HasWholePages, IsPlayable, IsPlayed, RunOf, run_data_side, run_log_side, MayServe}
use Rattle.redo_drive.specs.declared.parts.Parts.{Parts}
use Rattle.redo_ownmachine.specs.OwnSeats.{OwnSeats, actors_of}
use Rattle.redo_ownmachine.specs.OwnStore.{OwnRunsWith}
use Rattle.redo_ownmachine.specs.Serving.{MayServeUser}
use Rattle.redo_ownuser.specs.OwnFits.{ErrandAnswerFits, OwnAnswerFits, WorkGoesOn}
use Rattle.redo_words.specs.{Lends}
use Rattle.redo_words.specs.declared.lent.Lent.{Lent}

-- both parts keep the laws by which the running store speaks of them
pub its_log_laws : {L D : Type 0} (log_seen : L → Seen) (data_seen : D → Seen) (run : RunOf L D)
    → LogLaws (run_log_side log_seen data_seen run)
its_log_laws log_seen data_seen run = log_laws log_seen (log_seen run.first_log.dev).faults run.first_log.marks.number
    (log_part.HasBegun log_seen (lsn run.setup.base) run.first_log)

pub its_data_laws : {L D : Type 0} (log_seen : L → Seen) (data_seen : D → Seen) (run : RunOf L D)
    → DataLaws (run_data_side log_seen data_seen run)
its_data_laws log_seen data_seen run = data_laws data_seen (data_seen run.first_data.dev).faults run.shape
    (data_part.HasBegun data_seen run.setup.opened run.first_data)

-- only a reader reads
no_read : (a : model.Actor) → ((r : ReaderState) → ◌≡◌ {A = model.Actor} a (model.Reader r) → ⊥) → IsNoRead (next a)
no_read a none = ⊎_elim (λ reader. absurd (none reader.0 reader.1)) (λ is. is) (reader_or_no_read a)

reads_not : (o : Op) → IsNoRead o → (lsn : ℕ) → o ≡ op.ReadBlock lsn → ⊥
reads_not o none lsn is = subst IsNoRead is none

module _ {L D : Type 0} (parts : Parts L D) (o : OwnUser) (k : LogWork) (goes : WorkGoesOn o.errand k)
    (stands : ErrandFits o.user o.errand) (as_user : MayServe parts (model.User o.user))
    (as_writer : MayServe parts (model.Writer k.writer)) (as_flusher : MayServe parts (model.Flusher k.flusher)) where
  abbrev asked : Bool → ErrandStep → Op
  asked b x = cond b (op.Load word.Failed) (errand_op o k x)

  abbrev said : ℕ → ℕ → Op → Answer
  said code mark a = answer_of parts.words.layout (lists_of parts.lists) (is_some parts.log.failed) code mark parts.words.words a

  -- what holds of an Op with what is lent for it, and of its answers
  record Asks (a : Op) (l : model.Lent) (Fits : Answer → Type 0) : Type 0 where
    playable : (given : Lent) → Lends given l → IsPlayable parts a given
    whole : HasWholePages parts.store.shape a l
    none : IsNoRead a
    fits : (code mark : ℕ) → Fits (said code mark a)

  abbrev AsksAt : Bool → ErrandStep → Type 0
  AsksAt b x = Asks (asked b x) (errand_lends k x)
      (λ r. cond b (AnswerFits (model.User o.user) r) (ErrandAnswerFits o k r x))

  user_asks : Asks (next (model.User o.user)) model.Nothing (AnswerFits (model.User o.user))
  user_asks = record {
    playable = as_user.playable;
    whole = as_user.whole;
    none = no_read (model.User o.user) (λ r e. absurd (cc));
    fits = as_user.fits;
  }

  own_step : (b : Bool) → o.user.checks ≡ b
      → Asks (cond b (op.Load word.Failed) (user_op o.user o.user.step)) model.Nothing (AnswerFits (model.User o.user))
  own_step b is = subst (λ (z : Bool). Asks (cond z (op.Load word.Failed) (user_op o.user o.user.step)) model.Nothing
      (AnswerFits (model.User o.user))) is user_asks

  -- DEVICE may be taken and given
  turns_device : (a : Op) → ((given : Lent) → Lends given model.Nothing → IsPlayable parts a given)
      → HasWholePages parts.store.shape a model.Nothing → IsNoRead a → Asks a model.Nothing (λ r. Unit {0})
  turns_device a may whole none = record { playable = may; whole = whole; none = none; fits = λ code mark. tt }

  takes_device : Asks op.TakeDevice model.Nothing (λ r. Unit {0})
  takes_device = turns_device op.TakeDevice (λ given lends. record {
    there = tt;
    sum = tt;
    listing = tt;
    real = (as_user.playable given lends).real;
    log = tt;
    data_part = tt;
    own = tt;
  }) tt tt

  gives_device : Asks op.GiveDevice model.Nothing (λ r. Unit {0})
  gives_device = turns_device op.GiveDevice (λ given lends. record {
    there = tt;
    sum = tt;
    listing = tt;
    real = (as_user.playable given lends).real;
    log = tt;
    data_part = tt;
    own = tt;
  }) tt tt

  writer_asks : k.writer.checks ≡ false → Asks (writer_op k.writer k.writer.step)
      (model.Blocks k.writer.kept k.writer.firsts) (λ r. AnswerFits (model.Writer k.writer) r × (k.writer.checks ≡ false))
  writer_asks on =
      let Then : Bool → Type 0 = λ z. Asks (cond z (op.Load word.Failed) (writer_op k.writer k.writer.step))
      (model.Blocks k.writer.kept k.writer.firsts)
      (λ r. AnswerFits (model.Writer k.writer) r × (k.writer.checks ≡ false)) in
      subst Then on (record {
        playable = as_writer.playable;
        whole = as_writer.whole;
        none = no_read (model.Writer k.writer) (λ r e. absurd (cc));
        fits = λ code mark. (as_writer.fits code mark, on);
      })

  flusher_asks : k.flusher.checks ≡ false → Asks (flusher_op k.flusher k.flusher.step) model.Nothing
      (λ r. AnswerFits (model.Flusher k.flusher) r × (k.flusher.checks ≡ false))
  flusher_asks on =
      let Then : Bool → Type 0 = λ z. Asks (cond z (op.Load word.Failed) (flusher_op k.flusher k.flusher.step))
      model.Nothing (λ r. AnswerFits (model.Flusher k.flusher) r × (k.flusher.checks ≡ false)) in
      subst Then on (record {
        playable = as_flusher.playable;
        whole = as_flusher.whole;
        none = no_read (model.Flusher k.flusher) (λ r e. absurd (cc));
        fits = λ code mark. (as_flusher.fits code mark, on);
      })

  asks_at : (b : Bool) (x : ErrandStep) → o.user.checks ≡ b → ErrandFits o.user x → WorkGoesOn x k → AsksAt b x
  asks_at true errand_step.Done is fit on = own_step true is
  asks_at true errand_step.TakeDevice is fit on = own_step true is
  asks_at true errand_step.GiveBroken is fit on = own_step true is
  asks_at true errand_step.Write is fit on = let z : true ≡ false = sym is ∙ fit.1 in absurd (cc)
  asks_at true errand_step.Flush is fit on = own_step true is
  asks_at false errand_step.Done is fit on = own_step false is
  asks_at false errand_step.TakeDevice is fit on = takes_device
  asks_at false errand_step.GiveBroken is fit on = gives_device
  asks_at false errand_step.Write is fit on = writer_asks on
  asks_at false errand_step.Flush is fit on = flusher_asks on

  pub user_may : MayServeUser parts o k
  user_may = let all = asks_at o.user.checks o.errand refl stands goes in record {
    goes_on = goes;
    stands = stands;
    playable = all.playable;
    whole = all.whole;
    no_read = reads_not (own_next o k) all.none;
    fits = all.fits;
  }

module _ {L D : Type 0} {archive : Bool} (log_seen : L → Seen) (data_seen : D → Seen) (run : RunOf L D) (parts : Parts L D)
    (seats : OwnSeats) (R : OwnRunsWith log_seen data_seen run archive parts seats) where
  abbrev A : LogSide
  A = run_log_side log_seen data_seen run

  pub may_at : (seat : ℕ) (a : model.Actor) → get_elem? (actors_of seats) seat ≡ some a → IsNoAppend (next a)
      → MayServe parts a
  may_at seat a at none = serves_other log_seen data_seen run parts (actors_of seats) R.runs
      (its_log_laws log_seen data_seen run) (its_data_laws log_seen data_seen run) seat a at none

  pub goes_on : (seat : ℕ) (o : OwnUser) → get_elem? seats.users seat ≡ some o → (x : ErrandStep) → o.errand ≡ x
      → WorkGoesOn x seats.work
  goes_on seat o at errand_step.Write is =
      (in_hand A parts.log seats.users seats.work R.errands seat o at (ap has_work is)).writer_goes_on
  goes_on seat o at errand_step.Flush is =
      (in_hand A parts.log seats.users seats.work R.errands seat o at (ap has_work is)).flusher_goes_on
  goes_on seat o at _ is = tt

  pub may_serve_user : (seat : ℕ) (o : OwnUser) → get_elem? seats.users seat ≡ some o
      → MayServeUser parts o seats.work
  may_serve_user seat o at = user_may parts o seats.work (goes_on seat o at o.errand refl) (R.errands.fits seat o at)
      (may_at seat (model.User o.user) (user_there seats.users seats.work seats.others seat o at)
      (others_append_not (model.User o.user) tt))
      (may_at (writer_seat seats.users) (model.Writer seats.work.writer)
      (writer_there seats.users seats.work seats.others)
      (others_append_not (model.Writer seats.work.writer) tt))
      (may_at (flusher_seat seats.users) (model.Flusher seats.work.flusher)
      (flusher_there seats.users seats.work seats.others)
      (others_append_not (model.Flusher seats.work.flusher) tt))

-- the answer to what was played for it is one that it may take
pub user_fits : {L D : Type 0} (log_seen : L → Seen) (data_seen : D → Seen) (old new : Parts L D) (o : OwnUser)
    (k : LogWork) → MayServeUser old o k → (a : Op) → a ≡ own_next o k → (given : Lent) → Lends given (own_lends o k)
    → (r : Answer)
    → ((run : RunOf L D) (l : model.Lent) → Lends given l → HasWholePages old.store.shape a l
    → IsPlayed log_seen data_seen run a l old r new) → OwnAnswerFits o k r
user_fits log_seen data_seen old new o k may a is given lends r played =
    let did = played (some_run old) (own_lends o k) lends
    (subst (λ (z : Op). HasWholePages old.store.shape z (own_lends o k)) (sym is) may.whole) in
    let said : ◌≡◌ {A = Answer} r (answer_of old.words.layout (lists_of old.lists) (is_some old.log.failed) did.code
    new.log.marks.stable old.words.words (own_next o k)) =
    did.answered ∙ ap {B = Answer} (λ (z : Op). answer_of old.words.layout (lists_of old.lists) (is_some old.log.failed) did.code
    new.log.marks.stable old.words.words z) is in
    subst (λ (z : Answer). OwnAnswerFits o k z) (sym said) (may.fits did.code new.log.marks.stable)
