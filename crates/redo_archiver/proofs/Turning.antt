-- The archiver's turns beside its archive.
use Rattle.std.proofs.Common.{Bool, ap, arith, cond, false, refl, subst, sym, true, ℕ, ◌+◌, ◌<◌, ◌==◌, ◌∙◌, ◌≡◌, ◌≤◌}
use Rattle.std.proofs.lemmas.Bool.{leb-false}
use Rattle.std.specs.Prelude.{nat_le}
use Rattle.model_log.specs.{IsDataLsn}
use Rattle.model_core.specs.Lanes.{floor}
use Rattle.model_core.specs.{after_of, archives, checked_of, followed, has_all, next, next_mark, old_of, reader_op, reader_program, reader_took, ReaderState, to_append}
use Rattle.model_core.specs.States as actor
use Rattle.model_core.specs.ReaderProgram.{Filling, reader_filled}
use Rattle.model_core.specs.declared.ops.Answer.{Answer}
use Rattle.model_core.specs.declared.ops.Answer.TheVariants as answer
use Rattle.model_core.specs.declared.ops.Op.TheVariants as op
use Rattle.model_core.specs.declared.steps.ReaderStep.{ReaderStep}
use Rattle.model_core.specs.declared.steps.ReaderStep.TheVariants as reader_step
use Rattle.model_core.specs.declared.words.Word.TheVariants as word
use Rattle.redo_archive.specs.Part.{Part}
use Rattle.redo_archiver.specs.Appending.{appends_at, AppendsNothing, heard_at, HearsFlushed, KeepsPace, RoundAt}
use Rattle.redo_disk.specs.{Seen}

-- where it asks for an append that is of its next mark
pub appending-mark : (r : ReaderState) (mark : ℕ) → next (actor.Reader r) ≡ op.Append mark → mark ≡ next_mark r
appending-mark r mark is = by r.checks r.step is
  where
    by : (checks : Bool) (step : ReaderStep) → cond checks (op.Load word.Failed) (reader_op r step) ≡ op.Append mark
        → mark ≡ next_mark r
    by false reader_step.Append is = cc
    by false reader_step.LoadFlushed is = cc
    by false reader_step.TakeDevice is = cc
    by false reader_step.GiveBroken is = cc
    by false reader_step.ReadBlock is = cc
    by false reader_step.GiveDevice is = cc
    by false reader_step.StorePlace is = cc
    by false reader_step.StoreFailed is = cc
    by false reader_step.GiveFailed is = cc
    by false reader_step.StoreLost is = cc
    by false reader_step.Failed is = cc
    by true step is = cc

-- a state of the archiver at which the archive is as far as at another
pace-on : {A : Type 0} (seen : A → Seen) (limit flushed : ℕ) (r w : ReaderState) (part : Part A)
    → KeepsPace seen limit flushed r part → w.number ≡ r.number → w.place ≡ r.place → w.lost ≡ r.lost
    → w.mark ≤ flushed → RoundAt w w.step → KeepsPace seen limit flushed w part
pace-on seen limit flushed r w part pace number place lost loaded round = record {
  kind = ap (λ n. n == 0) number ∙ pace.kind;
  start = pace.start;
  mark = pace.mark ∙ ap (λ n. n + 12) (sym place);
  counted = pace.counted;
  lost = lost ∙ pace.lost;
  round = round;
  loaded = loaded;
  up_to = pace.up_to;
  within = pace.within;
  small = pace.small;
  room = pace.room;
}

module _ {A : Type 0} (seen : A → Seen) (limit flushed : ℕ) (part : Part A) where
  abbrev Pace : ReaderState → Type 0
  Pace r = KeepsPace seen limit flushed r part

  goes : (r w : ReaderState) → Pace r → w.number ≡ r.number → w.place ≡ r.place → w.lost ≡ r.lost → w.mark ≡ r.mark
      → RoundAt w w.step → Pace w
  goes r w pace number place lost mark round =
      let loaded = pace.loaded in
      pace-on seen limit flushed r w part pace number place lost (omega (arith, mark)) round

  -- it has loaded FLUSHED
  loads : (r : ReaderState) (n : ℕ) → Pace r → r.lost ≡ 0 → n ≤ flushed → IsDataLsn n → (b : Bool) → has_all r n ≡ b
      → Pace (cond b (record r { mark = n; checks = true; step = reader_step.LoadFlushed })
      (record r { mark = n; step = reader_step.TakeDevice }))
  loads r n pace sound below place true all =
      pace-on seen limit flushed r (record r { mark = n; checks = true; step = reader_step.LoadFlushed }) part pace refl
      refl refl below sound
  loads r n pace sound below place false more =
      let at = pace.mark in
      let counted = pace.counted in
      let start = pace.start in
      let above : nat_le (floor n) r.place ≡ false =
      subst (λ (b : Bool). cond b (nat_le (floor n) r.place) (n == r.place) ≡ false) pace.kind more in
      let under : r.place < floor n = leb-false (floor n) r.place above in
      pace-on seen limit flushed r (record r { mark = n; step = reader_step.TakeDevice }) part pace refl refl refl below
      (sound, omega (arith, at, counted, start, under, place.0))

  -- it has given the log part back
  gives : (r : ReaderState) → Pace r → r.lost ≡ 0 → next_mark r ≤ r.mark → (b : Bool) → archives r ≡ b
      → Pace (cond b (to_append r) (followed r))
  gives r pace sound more true is = goes r (to_append r) pace refl refl refl refl (sound, more)
  gives r pace sound more false is = let kind : true ≡ false = sym pace.kind ∙ is in cc

  -- it has asked for the log part; it has read its block, or has failed to
  takes : (r : ReaderState) → Pace r → r.lost ≡ 0 → next_mark r ≤ r.mark → (a : Answer)
      → Pace (reader_took r a reader_step.TakeDevice)
  takes r pace sound more (answer.Taken n) = goes r _ pace refl refl refl refl (sound, more)
  takes r pace sound more answer.Broken = goes r _ pace refl refl refl refl (sound, more)
  takes r pace sound more answer.Held = goes r _ pace refl refl refl refl (sound, more)
  takes r pace sound more (answer.Old n) = goes r _ pace refl refl refl refl (sound, more)
  takes r pace sound more (answer.Called n) = goes r _ pace refl refl refl refl (sound, more)
  takes r pace sound more (answer.Failed c) = goes r _ pace refl refl refl refl (sound, more)
  takes r pace sound more answer.Rested = goes r _ pace refl refl refl refl (sound, more)

  reads : (r : ReaderState) → Pace r → r.lost ≡ 0 → next_mark r ≤ r.mark → (a : Answer)
      → Pace (reader_took r a reader_step.ReadBlock)
  reads r pace sound more (answer.Taken n) = goes r _ pace refl refl refl refl (sound, more)
  reads r pace sound more answer.Broken = goes r _ pace refl refl refl refl (sound, more)
  reads r pace sound more answer.Held = goes r _ pace refl refl refl refl (sound, more)
  reads r pace sound more (answer.Old n) = goes r _ pace refl refl refl refl (sound, more)
  reads r pace sound more (answer.Called n) = goes r _ pace refl refl refl refl (sound, more)
  reads r pace sound more (answer.Failed c) = goes r _ pace refl refl refl refl tt
  reads r pace sound more answer.Rested = goes r _ pace refl refl refl refl (sound, more)

  -- it has done the Op of its step
  steps : (r : ReaderState) (a : Answer) (st : ReaderStep) → Pace r → RoundAt r st → appends_at st
      → heard_at flushed (old_of a) st → Pace (reader_took r a st)
  steps r a reader_step.LoadFlushed pace round none heard =
      loads r (old_of a) pace round heard.0 heard.1 (has_all r (old_of a)) refl
  steps r a reader_step.TakeDevice pace round none heard = takes r pace round.0 round.1 a
  steps r a reader_step.GiveBroken pace round none heard = goes r _ pace refl refl refl refl round
  steps r a reader_step.ReadBlock pace round none heard = reads r pace round.0 round.1 a
  steps r a reader_step.GiveDevice pace round none heard = gives r pace round.0 round.1 (archives r) refl
  steps r a reader_step.Append pace round none heard = absurd none
  steps r a reader_step.StorePlace pace round none heard = goes r _ pace refl refl refl refl round
  steps r a reader_step.StoreFailed pace round none heard = goes r _ pace refl refl refl refl tt
  steps r a reader_step.GiveFailed pace round none heard = goes r _ pace refl refl refl refl tt
  steps r a reader_step.StoreLost pace round none heard = goes r _ pace refl refl refl refl tt
  steps r a reader_step.Failed pace round none heard = pace

  same-round : (r w : ReaderState) (st : ReaderStep) → w.place ≡ r.place → w.lost ≡ r.lost → w.mark ≡ r.mark
      → RoundAt r st → RoundAt w st
  same-round r w reader_step.LoadFlushed place lost mark round = lost ∙ round
  same-round r w reader_step.TakeDevice place lost mark round =
      (lost ∙ round.0, (let more = round.1 in omega (arith, place, mark, more)))
  same-round r w reader_step.GiveBroken place lost mark round =
      (lost ∙ round.0, (let more = round.1 in omega (arith, place, mark, more)))
  same-round r w reader_step.ReadBlock place lost mark round =
      (lost ∙ round.0, (let more = round.1 in omega (arith, place, mark, more)))
  same-round r w reader_step.GiveDevice place lost mark round =
      (lost ∙ round.0, (let more = round.1 in omega (arith, place, mark, more)))
  same-round r w reader_step.Append place lost mark round =
      (lost ∙ round.0, (let more = round.1 in omega (arith, place, mark, more)))
  same-round r w reader_step.StorePlace place lost mark round = lost ∙ round
  same-round r w reader_step.StoreFailed place lost mark round = tt
  same-round r w reader_step.GiveFailed place lost mark round = tt
  same-round r w reader_step.StoreLost place lost mark round = tt
  same-round r w reader_step.Failed place lost mark round = tt

  -- it has loaded FAILED
  checks-on : (r : ReaderState) (n : ℕ) → Pace r → (b : Bool)
      → Pace (cond b (record r { checks = false }) (record r { checks = false; code = n; step = reader_step.Failed }))
  checks-on r n pace true =
      goes r (record r { checks = false }) pace refl refl refl refl
      (same-round r (record r { checks = false }) r.step refl refl refl pace.round)
  checks-on r n pace false =
      goes r (record r { checks = false; code = n; step = reader_step.Failed }) pace refl refl refl refl tt

  turn : (r : ReaderState) (a : Answer) → AppendsNothing r → HearsFlushed flushed r a → Pace r
      → Pace (after_of reader_program r a)
  turn r a none heard pace = by r.checks none heard
    where
      by : (b : Bool) → cond b (Unit {0}) (appends_at r.step) → cond b (Unit {0}) (heard_at flushed (old_of a) r.step)
          → Pace (cond b (checked_of reader_program r (old_of a)) (reader_took r a r.step))
      by true none heard = checks-on r (old_of a) pace (old_of a == 0)
      by false none heard = steps r a r.step pace pace.round none heard

  -- the same once it has what the turn puts into it
  by-step : (r : ReaderState) (f : Filling) (a : Answer) (st : ReaderStep) → AppendsNothing r
      → HearsFlushed flushed r a → Pace r → Pace (after_of reader_program (reader_filled r f st) a)
  by-step r f a reader_step.ReadBlock none heard pace =
      let w : ReaderState = record r { block = f.block } in
      turn w a none heard (goes r w pace refl refl refl refl (same-round r w r.step refl refl refl pace.round))
  by-step r f a reader_step.GiveDevice none heard pace =
      let w : ReaderState = record r { texts = f.texts } in
      turn w a none heard (goes r w pace refl refl refl refl (same-round r w r.step refl refl refl pace.round))
  by-step r f a reader_step.LoadFlushed none heard pace = turn r a none heard pace
  by-step r f a reader_step.TakeDevice none heard pace = turn r a none heard pace
  by-step r f a reader_step.GiveBroken none heard pace = turn r a none heard pace
  by-step r f a reader_step.Append none heard pace = turn r a none heard pace
  by-step r f a reader_step.StorePlace none heard pace = turn r a none heard pace
  by-step r f a reader_step.StoreFailed none heard pace = turn r a none heard pace
  by-step r f a reader_step.GiveFailed none heard pace = turn r a none heard pace
  by-step r f a reader_step.StoreLost none heard pace = turn r a none heard pace
  by-step r f a reader_step.Failed none heard pace = turn r a none heard pace

  pub pace-turns : (r : ReaderState) (f : Filling) (a : Answer) → AppendsNothing r → HearsFlushed flushed r a → Pace r
      → Pace (after_of reader_program (reader_filled r f r.step) a)
  pace-turns r f a none heard pace = by-step r f a r.step none heard pace
