-- That an Op was played, for each kind of Op.
use Rattle.std.proofs.Common.{None, ap, refl, subst, sym, ℕ, ◌%◌, ◌∙◌, ◌≡◌, is_some}
use Rattle.std.specs.Prelude.{slice_set}
use Rattle.model_core.specs.States as model
use Rattle.model_core.specs.{DataSide, answer_of, DataServed, list_answer, list_word, lists_left, LogServed, OnWord, word_found, words_after, words_left}
use Rattle.model_core.specs.declared.ops.Answer.{Answer}
use Rattle.model_core.specs.declared.ops.Answer.TheVariants as answer
use Rattle.model_core.specs.declared.ops.Op.{Op}
use Rattle.model_core.specs.declared.ops.Op.TheVariants as op
use Rattle.redo_disk.specs.{Seen}
use Rattle.redo_drive.proofs.Devices.{answer_by_code}
use Rattle.redo_drive.specs.Asking.{call_code}
use Rattle.redo_drive.specs.Calls.{call_answer}
use Rattle.redo_drive.specs.Lists.{Listings, lists_of}
use Rattle.redo_drive.specs.Running.{HasSameDevices, IsPlayed, RunOf, run_data_side, run_log_side, told_by}
use Rattle.redo_drive.specs.declared.device.Device.TheVariants.{Data, Log}
use Rattle.redo_drive.specs.declared.parts.Parts.{Parts}
use Rattle.redo_words.specs.Plain.{Plain}

-- the Op is no writing of a batch
abbrev pub IsNoBatch : Op → Type 0
IsNoBatch op.WriteBatch = ⊥
IsNoBatch _ = Unit {0}

-- such an Op leaves the data part
pub untouched : (E : DataSide) (d e : E.Part) (l : model.Lent) (o : Op) (code : ℕ) → IsNoBatch o → ◌≡◌ {A = E.Part} e d → DataServed E d l o code e
untouched E d e model.Nothing o code other same = same
untouched E d e (model.Blocks kept offsets) o code other same = same
untouched E d e (model.Batch batch) op.WriteBatch code other same = absurd other
untouched E d e (model.Batch batch) _ code other same = same
untouched E d e (model.Room bytes) o code other same = same

-- the Op calls the log part
abbrev pub CallsLog : Op → Type 0
CallsLog (op.WriteTo t) = Unit {0}
CallsLog op.Sync = Unit {0}
CallsLog (op.Checkpoint x) = Unit {0}
CallsLog (op.ReadBlock x) = Unit {0}
CallsLog _ = ⊥

module _ {L D : Type 0} (log_seen : L → Seen) (data_seen : D → Seen) (run : RunOf L D) (l : model.Lent) (old : Parts L D) where
  abbrev Played : Op → Answer → Parts L D → Type 0
  Played o r new = IsPlayed log_seen data_seen run o l old r new

  abbrev with_words : Plain → Parts L D
  with_words w = record { words = w; log = old.log; store = old.store; lists = old.lists }

  none : (o : Op) → IsNoBatch o → (code : ℕ) → DataServed (run_data_side log_seen data_seen run) old.store l o code old.store
  none o other code = untouched (run_data_side log_seen data_seen run) old.store old.store l o code other refl

  pub word_played : (o : Op) (w : Plain) (r : Answer) → OnWord o → w.layout ≡ old.words.layout
      → w.words ≡ words_after old.words.layout o old.words.words → r ≡ answer.Old (word_found old.words.layout o old.words.words) → Played o r (with_words w)
  word_played (op.Load v) w r on layout words is = record { code = 0; log_served = refl; data_served = none (op.Load v) tt 0; own_served = tt; layout = layout; words = words; lists = refl; answered = is }
  word_played (op.Store v x) w r on layout words is = record { code = 0; log_served = refl; data_served = none (op.Store v x) tt 0; own_served = tt; layout = layout; words = words; lists = refl; answered = is }
  word_played (op.Add v x) w r on layout words is = record { code = 0; log_served = refl; data_served = none (op.Add v x) tt 0; own_served = tt; layout = layout; words = words; lists = refl; answered = is }
  word_played (op.Swap v x y) w r on layout words is = record { code = 0; log_served = refl; data_served = none (op.Swap v x y) tt 0; own_served = tt; layout = layout; words = words; lists = refl; answered = is }
  word_played _ w r on layout words is = absurd on

  by_op : (o p : Op) (r : Answer) (new : Parts L D) → o ≡ p → Played p r new → Played o r new
  by_op o p r new is played = subst (λ (z : Op). Played z r new) (sym is) played

  pub gave_device : (o : Op) → o ≡ op.GiveDevice → (w : Plain) (r : Answer) → r ≡ answer.Taken None
      → w.layout ≡ old.words.layout → w.words ≡ slice_set old.words.words 7 0 → Played o r (with_words w)
  gave_device o is w r taken layout words = by_op o op.GiveDevice r (with_words w) is (record { code = 0; log_served = refl; data_served = none op.GiveDevice tt 0; own_served = tt; layout = layout; words = words; lists = refl; answered = taken })

  pub rested : (o : Op) → o ≡ op.Rest → Played o answer.Rested old
  rested o is = by_op o op.Rest answer.Rested old is (record { code = 0; log_served = refl; data_served = none op.Rest tt 0; own_served = tt; layout = refl; words = refl; lists = refl; answered = refl })

  module _ (new : Parts L D) (r : Answer) (same : HasSameDevices old new) (layout : new.words.layout ≡ old.words.layout) where
    left : (o : Op) → IsNoBatch o → DataServed (run_data_side log_seen data_seen run) old.store l o 0 new.store
    left o other = untouched (run_data_side log_seen data_seen run) old.store new.store l o 0 other same.data_part

    pub took_device : (o : Op) → o ≡ op.TakeDevice → new.words.words ≡ words_left old.words.layout old.words.words op.TakeDevice → ◌≡◌ {A = Listings} new.lists old.lists
        → ((code mark : ℕ) → r ≡ answer_of old.words.layout (lists_of old.lists) (is_some old.log.failed) code mark old.words.words op.TakeDevice) → Played o r new
    took_device o is words lists answers = by_op o op.TakeDevice r new is (record { code = 0; log_served = same.log; data_served = left op.TakeDevice tt; own_served = tt; layout = layout; words = words; lists = ap lists_of lists; answered = answers 0 new.log.marks.stable })

    pub took_add : (o : Op) (p x : ℕ) → o ≡ op.TakeAdd p x → new.words.words ≡ words_left old.words.layout old.words.words (op.TakeAdd p x)
        → lists_of new.lists ≡ lists_left (lists_of old.lists) (list_word old.words.words) (op.TakeAdd p x) → r ≡ list_answer (list_word old.words.words (p % 4)) None → Played o r new
    took_add o p x is words lists answers = by_op o (op.TakeAdd p x) r new is (record { code = 0; log_served = same.log; data_served = left (op.TakeAdd p x) tt; own_served = tt; layout = layout; words = words; lists = lists; answered = answers })

    pub took_remove : (o : Op) (p : ℕ) → o ≡ op.TakeRemove p → new.words.words ≡ words_left old.words.layout old.words.words (op.TakeRemove p)
        → lists_of new.lists ≡ lists_left (lists_of old.lists) (list_word old.words.words) (op.TakeRemove p) → r ≡ list_answer (list_word old.words.words (p % 4)) None → Played o r new
    took_remove o p is words lists answers = by_op o (op.TakeRemove p) r new is (record { code = 0; log_served = same.log; data_served = left (op.TakeRemove p) tt; own_served = tt; layout = layout; words = words; lists = lists; answered = answers })

  -- a call of the log part, and one of the data part
  module _ (o : Op) (new : Parts L D) (r : Answer) (layout : new.words.layout ≡ old.words.layout) (words : new.words.words ≡ old.words.words) (lists : ◌≡◌ {A = Listings} new.lists old.lists) where
    pub log_played : (p : Op) → o ≡ p → CallsLog p → new.store ≡ old.store → LogServed (run_log_side log_seen data_seen run) old.log l p (call_code Log new.log.failed) new.log
        → r ≡ call_answer Log new.log.failed (told_by p new.log.marks.stable) → Played o r new
    log_played (op.WriteTo t) is calls same served told = by_op o (op.WriteTo t) r new is (record { code = call_code Log new.log.failed; log_served = served; data_served = untouched (run_data_side log_seen data_seen run) old.store new.store l (op.WriteTo t) (call_code Log new.log.failed) tt same; own_served = tt; layout = layout; words = words; lists = ap lists_of lists; answered = told ∙ answer_by_code Log new.log.failed 0 })
    log_played op.Sync is calls same served told = by_op o op.Sync r new is (record { code = call_code Log new.log.failed; log_served = served; data_served = untouched (run_data_side log_seen data_seen run) old.store new.store l op.Sync (call_code Log new.log.failed) tt same; own_served = tt; layout = layout; words = words; lists = ap lists_of lists; answered = told ∙ answer_by_code Log new.log.failed new.log.marks.stable })
    log_played (op.Checkpoint y) is calls same served told = by_op o (op.Checkpoint y) r new is (record { code = call_code Log new.log.failed; log_served = served; data_served = untouched (run_data_side log_seen data_seen run) old.store new.store l (op.Checkpoint y) (call_code Log new.log.failed) tt same; own_served = tt; layout = layout; words = words; lists = ap lists_of lists; answered = told ∙ answer_by_code Log new.log.failed 0 })
    log_played (op.ReadBlock y) is calls same served told = by_op o (op.ReadBlock y) r new is (record {
      code = call_code Log new.log.failed;
      log_served = served;
      data_served = untouched (run_data_side log_seen data_seen run) old.store new.store l (op.ReadBlock y)
          (call_code Log new.log.failed) tt same;
      own_served = tt;
      layout = layout;
      words = words;
      lists = ap lists_of lists;
      answered = told ∙ answer_by_code Log new.log.failed 0;
    })
    log_played _ is calls same served told = absurd calls

    pub batch_played : o ≡ op.WriteBatch → new.log ≡ old.log → DataServed (run_data_side log_seen data_seen run) old.store l op.WriteBatch (call_code Data new.store.failed) new.store
        → r ≡ call_answer Data new.store.failed 0 → Played o r new
    batch_played is same served told = by_op o op.WriteBatch r new is (record { code = call_code Data new.store.failed; log_served = same; data_served = served; own_served = tt; layout = layout; words = words; lists = ap lists_of lists; answered = told ∙ answer_by_code Data new.store.failed 0 })
