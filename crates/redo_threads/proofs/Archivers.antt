-- The archive beside its archiver, through a turn of that.
use Rattle.std.proofs.Common.{Bool, List, None, Option, Some, [], ap, arith, cond, false, refl, slice_index, subst, sym, true, ℕ, ⊎_elim, is_some, ◌++◌, ◌+◌, ◌∙◌, ◌∷◌, ◌≡◌, ◌≤◌}
use Rattle.std.specs.List.{AllByRecursion}
use native.Mathlib.Decide.{dec_le}
use mathlib.Core.Option as maybe
use Rattle.model_archive.specs.declared.marks.ArchMarks.{ArchMarks}
use Rattle.model_core.specs.States as model
use Rattle.model_core.specs.ReaderProgram.{Filling, reader_filled}
use Rattle.model_core.specs.declared.ops.Answer.{Answer}
use Rattle.model_core.specs.declared.ops.Op.TheVariants as op
use Rattle.model_core.specs.declared.ops.Step.{Step}
use Rattle.model_core.specs.declared.steps.ReaderStep.{ReaderStep}
use Rattle.model_core.specs.declared.steps.ReaderStep.TheVariants as reader_step
use Rattle.model_core.specs.declared.words.Layout.{Layout}
use Rattle.model_core.specs.declared.words.Word.TheVariants as word
use Rattle.model_core.specs.{after_of, answer_of, Listed, next, next_mark, old_of, reader_op, reader_program, ReaderState, took}
use Rattle.model_log.specs.{IsDataLsn, IsRunOf}
use Rattle.model_log.specs.declared.group.Whole.{Whole}
use Rattle.model_page.specs.declared.content.Content.{Content}
use Rattle.model_running.proofs.Archiving.{took_reader}
use Rattle.model_running.specs.{IsNoAppend}
use Rattle.redo_archive.specs.Part.{Part, PartArchives}
use Rattle.redo_archiver.proofs.Turning.{pace-turns}
use Rattle.redo_archiver.specs.Appending.{appends_at, heard_at, RoundAt}
use Rattle.redo_archiver.specs.{append_answer, append_code, AppendsNothing, HearsFlushed, KeepsPace, marks_after}
use Rattle.redo_disk.specs.{Call, Seen}
use Rattle.redo_disk.specs.declared.error.DevError.{DevError}
use Rattle.redo_drive.proofs.ArchiveGroups.{risen_since}
use Rattle.redo_drive.proofs.ArchiveTurns.{asked_then, flushed_place, one_reader, step_appends}
use Rattle.redo_drive.proofs.CallsOn.{calls_then}
use Rattle.redo_drive.specs.{Appends, IsSameArchive, lists_of}
use Rattle.redo_rule.proofs.Loading.{Loads, reader_loads}
use Rattle.redo_rule.proofs.Told.{fixed_run}
use Rattle.redo_rule.specs.Handing.{appended_at, appended_by}
use Rattle.redo_rule.specs.Mine.{HasPlayed, heard_of}
use Rattle.redo_rule.specs.declared.law.About.{About}
use Rattle.redo_rule.specs.declared.law.Block.{Block}
use Rattle.redo_rule.specs.declared.law.View.{View}
use Rattle.redo_threads.proofs.ScriptBytes.{flushed_within}
use Rattle.redo_threads.specs.Archiving.{Archives, end_about, IsFullIn}

-- what asks for no append does so by its step
appends_none : (r : ReaderState) → IsNoAppend (next (model.Reader r)) → AppendsNothing r
appends_none r none = by r.checks r.step none
  where
    by : (b : Bool) (st : ReaderStep) → IsNoAppend (cond b (op.Load word.Failed) (reader_op r st))
        → cond b (Unit {0}) (appends_at st)
    by true st none = tt
    by false reader_step.Append none = absurd none
    by false reader_step.LoadFlushed none = tt
    by false _ none = tt

-- what a load of FLUSHED tells is the word
module _ (layout : Layout) (ls : ℕ → List Listed) (broken : Bool) (code mark : ℕ) (ws : List ℕ)
    (place : IsDataLsn (slice_index ws 3)) (limit : ℕ) (low : slice_index ws 3 ≤ limit) where
  hears : (r : ReaderState) → HearsFlushed limit r (answer_of layout ls broken code mark ws (next (model.Reader r)))
  hears r = by r.checks r.step
    where
      by : (b : Bool) (st : ReaderStep) → cond b (Unit {0})
          (heard_at limit (old_of (answer_of layout ls broken code mark ws (cond b (op.Load word.Failed) (reader_op r st)))) st)
      by true st = tt
      by false reader_step.LoadFlushed = (low, place)
      by false reader_step.TakeDevice = tt
      by false reader_step.GiveBroken = tt
      by false reader_step.ReadBlock = tt
      by false reader_step.GiveDevice = tt
      by false reader_step.Append = tt
      by false reader_step.StorePlace = tt
      by false reader_step.StoreFailed = tt
      by false reader_step.GiveFailed = tt
      by false reader_step.StoreLost = tt
      by false reader_step.Failed = tt

-- the archive is as far where more is flushed
flushed_later : {A : Type 0} (seen : A → Seen) (limit flushed later : ℕ) (r : ReaderState) (part : Part A) → flushed ≤ later
    → later ≤ limit → KeepsPace seen limit flushed r part → KeepsPace seen limit later r part
flushed_later seen limit flushed later r part up within pace = record {
  kind = pace.kind;
  start = pace.start;
  mark = pace.mark;
  counted = pace.counted;
  lost = pace.lost;
  round = pace.round;
  loaded = (let z = pace.loaded in omega arith);
  up_to = (let z = pace.up_to in omega arith);
  within = within;
  small = pace.small;
  room = pace.room;
}

-- the greater of two marks
pub record Upper (a b limit : ℕ) : Type 0 where
  pub most : ℕ
  pub first : a ≤ most
  pub second : b ≤ most
  pub within : most ≤ limit

upper : (a b limit : ℕ) → a ≤ limit → b ≤ limit → Upper a b limit
upper a b limit low high = elim (dec_le a b) [
  | yes less ↦ record { most = b; first = less; second = omega arith; within = high }
  | no more ↦ record { most = a; first = omega arith; second = omega arith; within = low }
]

pub all_front : (P : Block → Type 0) (xs ys : List Block) → AllByRecursion P (xs ++ ys) → AllByRecursion P xs
all_front P [] ys all = tt
all_front P (x ∷ xs) ys all = (all.0, all_front P xs ys all.1)

all_back : (P : Block → Type 0) (xs ys : List Block) → AllByRecursion P (xs ++ ys) → AllByRecursion P ys
all_back P [] ys all = all
all_back P (x ∷ xs) ys all = all_back P xs ys all.1

one_about : {L D : Type 0} (x y : About L D) → Some x ≡ Some y → ◌≡◌ {A = About L D} x y
one_about x y e = cc

-- the block that the archiver appends
appended_is : (r : ReaderState) (mark : ℕ) → next (model.Reader r) ≡ op.Append mark
    → ◌≡◌ {A = List Block} (appended_by (model.Reader r)) ((record { place = r.place; bytes = r.block }) ∷ [])
appended_is r mark asks = by r.checks r.step asks
  where
    by : (b : Bool) (st : ReaderStep) → cond b (op.Load word.Failed) (reader_op r st) ≡ op.Append mark
        → ◌≡◌ {A = List Block} (cond b [] (appended_at r st)) ((record { place = r.place; bytes = r.block }) ∷ [])
    by true st e = absurd (cc)
    by false reader_step.Append e = refl
    by false reader_step.LoadFlushed e = absurd (cc)
    by false reader_step.TakeDevice e = absurd (cc)
    by false reader_step.GiveBroken e = absurd (cc)
    by false reader_step.ReadBlock e = absurd (cc)
    by false reader_step.GiveDevice e = absurd (cc)
    by false reader_step.StorePlace e = absurd (cc)
    by false reader_step.StoreFailed e = absurd (cc)
    by false reader_step.GiveFailed e = absurd (cc)
    by false reader_step.StoreLost e = absurd (cc)
    by false reader_step.Failed e = absurd (cc)

-- up to the end of its next block
mark_is : (r : ReaderState) (mark : ℕ) → next (model.Reader r) ≡ op.Append mark → mark ≡ next_mark r
mark_is r mark asks = by r.checks r.step asks
  where
    by : (b : Bool) (st : ReaderStep) → cond b (op.Load word.Failed) (reader_op r st) ≡ op.Append mark → mark ≡ next_mark r
    by true st e = absurd (cc)
    by false reader_step.Append e = cc
    by false reader_step.LoadFlushed e = absurd (cc)
    by false reader_step.TakeDevice e = absurd (cc)
    by false reader_step.GiveBroken e = absurd (cc)
    by false reader_step.ReadBlock e = absurd (cc)
    by false reader_step.GiveDevice e = absurd (cc)
    by false reader_step.StorePlace e = absurd (cc)
    by false reader_step.StoreFailed e = absurd (cc)
    by false reader_step.GiveFailed e = absurd (cc)
    by false reader_step.StoreLost e = absurd (cc)
    by false reader_step.Failed e = absurd (cc)

-- an append puts nothing into the archiver
put_nothing : Filling
put_nothing = record { block = []; texts = [] }

filled_same : (r : ReaderState) → r.step ≡ reader_step.Append → ◌≡◌ {A = ReaderState} (reader_filled r put_nothing r.step) r
filled_same r is = ap (reader_filled r put_nothing) is

module _ {L D A : Type 0} {gives : A → Call → A → Type 0} (log_seen : L → Seen) (data_seen : D → Seen) (seen : A → Seen)
    (about : About L D) (before part : Part A) (v w : View L D) (r x : ReaderState)
    (S : Archives seen gives about before v r part) (same_about : w.about ≡ v.about) where
  -- A TURN THAT APPENDS NOTHING leaves the archive beside its archiver.
  module _ (step : Step) (played : HasPlayed log_seen data_seen v (model.Reader r) step (model.Reader x))
      (none : IsNoAppend (next (model.Reader r))) (more : List Block)
      (blocks : (heard_of w).blocks ≡ (heard_of v).blocks ++ more) where
    abbrev filling : Filling
    filling = played.shown.turn.filling

    abbrev ws : List ℕ
    ws = played.shown.old.words.words

    x_is : ◌≡◌ {A = ReaderState} (after_of reader_program (reader_filled r filling r.step) played.answer) x
    x_is = one_reader (after_of reader_program (reader_filled r filling r.step) played.answer) x
        (sym (took_reader (reader_filled r filling r.step) played.answer) ∙ sym played.is)

    who_is : played.shown.turn.who ≡ model.Reader r
    who_is = maybe.some-injective played.shown.turn.who (model.Reader r) (sym played.shown.turn.who_is ∙ played.shown.at)

    its_about : ◌≡◌ {A = About L D} played.shown.about about
    its_about = one_about played.shown.about about (sym played.shown.about_is ∙ S.told)

    within : slice_index ws 3 ≤ end_about about
    within =
        let s = played.shown in
        subst (λ (z : About L D). slice_index ws 3 ≤ end_about z) its_about
        (flushed_within log_seen data_seen s.run s.old s.actors s.runs s.about.opened.value s.about.script.value
        s.about.plan
        (fixed_run log_seen data_seen s.about s.run (ap (λ (z : About L D). z.live) its_about ∙ S.fixed) s.is_about))

    said : ◌≡◌ {A = Answer} played.answer (answer_of played.shown.old.words.layout (lists_of played.shown.old.lists)
        (is_some played.shown.old.log.failed) played.shown.turn.code played.shown.new.log.marks.stable ws (next (model.Reader r)))
    said = played.shown.turn.answered ∙ ap {B = Answer} (λ (a : model.Actor). answer_of played.shown.old.words.layout
        (lists_of played.shown.old.lists)
        (is_some played.shown.old.log.failed) played.shown.turn.code played.shown.new.log.marks.stable ws (next a)) who_is

    its_flushed : Upper S.flushed (slice_index ws 3) (end_about about)
    its_flushed = upper S.flushed (slice_index ws 3) (end_about about) S.pace.within within

    pace_then : KeepsPace seen (end_about about) its_flushed.most x part
    pace_then =
        let s = played.shown in
        let heard : HearsFlushed its_flushed.most r played.answer =
        subst (λ (a : Answer). HearsFlushed its_flushed.most r a) (sym said)
        (hears s.old.words.layout (lists_of s.old.lists) (is_some s.old.log.failed) s.turn.code s.new.log.marks.stable ws
        (flushed_place log_seen data_seen s.run s.old s.actors s.runs) its_flushed.most its_flushed.second r) in
        subst (λ (z : ReaderState). KeepsPace seen (end_about about) its_flushed.most z part) x_is
        (pace-turns seen (end_about about) its_flushed.most part r filling played.answer (appends_none r none) heard
        (flushed_later seen (end_about about) S.flushed its_flushed.most r part its_flushed.first its_flushed.within S.pace))

    -- once its append has failed it loads no more
    over_then : (part.failed ≡ None → ⊥) → part.marks.asked ≤ x.mark
    over_then failed =
        let low = S.over failed in
        let l : Loads r r.checks r.step played.answer x =
        subst (λ (z : ReaderState). Loads r r.checks r.step played.answer z) x_is (reader_loads r filling played.answer) in
        ⊎_elim (λ e. omega arith)
        (λ e. absurd (failed (by part.failed
        (sym S.pace.lost ∙ subst (λ (st : ReaderStep). RoundAt r st) e.1 S.pace.round)))) l
      where
        by : (f : Option DevError) → append_code f ≡ 0 → f ≡ None
        by None is = refl
        by (Some fault) is = absurd (some_code fault is)
          where
            some_code : (fault : DevError) → append_code (Some fault) ≡ 0 → ⊥
            some_code DevError.Failed is = absurd (cc)
            some_code DevError.NoMemory is = absurd (cc)

    pub archive_turned : Archives seen gives about before w x part
    archive_turned = record {
      told = same_about ∙ S.told;
      fixed = S.fixed;
      may = S.may;
      same = S.same;
      flushed = its_flushed.most;
      pace = pace_then;
      later = S.later;
      live = S.live;
      over = over_then;
      archives = λ pages begun wholes run all. S.archives pages begun wholes run
          (all_front (IsFullIn part.start wholes) (heard_of v).blocks more
          (subst (λ (l : List Block). AllByRecursion (IsFullIn part.start wholes) l) blocks all));
    }

  -- AN APPEND brings it as far as the archiver again.
  module _ (new : Part A) (mark : ℕ) (asks : next (model.Reader r) ≡ op.Append mark)
      (appends : Appends seen gives r part (append_answer new.failed) new)
      (took_is : model.Reader x ≡ took (model.Reader r) (append_answer new.failed))
      (blocks : (heard_of w).blocks ≡ (heard_of v).blocks ++ appended_by (model.Reader r)) where
    step_is : r.step ≡ reader_step.Append
    step_is = step_appends r mark asks

    x_so : ◌≡◌ {A = ReaderState} (after_of reader_program (reader_filled r put_nothing r.step) (append_answer new.failed)) x
    x_so = ap (λ (z : ReaderState). after_of reader_program z (append_answer new.failed)) (filled_same r step_is)
        ∙ one_reader (after_of reader_program r (append_answer new.failed)) x
        (sym (took_reader r (append_answer new.failed)) ∙ sym took_is)

    mark_stays : x.mark ≡ r.mark
    mark_stays = ⊎_elim (λ e. e) (λ e. let z : reader_step.LoadFlushed ≡ reader_step.Append = sym e.1 ∙ step_is in absurd (cc))
        (subst (λ (z : ReaderState). Loads r r.checks r.step (append_answer new.failed) z) x_so
        (reader_loads r put_nothing (append_answer new.failed)))

    its_mark : appends.mark ≡ next_mark r
    its_mark = mark_is r appends.mark appends.asks

    asked_so : (part.marks.mark ≤ appends.mark) × (appends.mark ≤ r.mark)
    asked_so =
        let here = subst (RoundAt r) step_is S.pace.round in
        let mark = its_mark in
        let at = S.pace.mark in
        let next = here.1 in (omega arith, omega arith)

    live_so : (f : Option DevError) → new.failed ≡ f → f ≡ None → new.marks.asked ≡ new.marks.mark
    live_so None is none =
        let e : ◌≡◌ {A = ArchMarks} new.marks (marks_after appends.mark None part.marks) =
        appends.appended.marks ∙ ap (λ (f : Option DevError). marks_after appends.mark f part.marks) is in
        ap (λ (z : ArchMarks). z.asked) e ∙ sym (ap (λ (z : ArchMarks). z.mark) e)
    live_so (Some fault) is none = absurd (cc)

    still_same : IsSameArchive seen gives before new
    still_same = let a = appends.appended in let s = S.same in record {
      shape = a.shape ∙ s.shape;
      start = a.start ∙ s.start;
      size = a.size ∙ s.size;
      later = (let x = a.later in let y = s.later in omega arith);
      risen = λ is. risen_since (seen before.dev).faults (seen part.dev).faults (seen new.dev).faults
          s.later a.later (a.risen is);
      calls = calls_then gives before.dev part.dev new.dev before.failed part.failed new.failed s.calls appends.calls;
    }

    pub archive_appended : Archives seen gives about before w x new
    archive_appended =
        let asked = asked_then r.mark appends.mark part new appends.appended.marks asked_so.0 asked_so.1 in
        let e = mark_stays in
        record {
          told = same_about ∙ S.told;
          fixed = S.fixed;
          may = S.may;
          same = still_same;
          flushed = S.flushed;
          pace = subst (λ (z : ReaderState). KeepsPace seen (end_about about) S.flushed z new) x_so
              (appends.pace (end_about about) S.flushed put_nothing S.pace);
          later = asked.later;
          live = live_so new.failed refl;
          over = λ failed. let most = asked.most in omega arith;
          archives = λ pages begun wholes run all. its_groups pages begun wholes
              (subst (λ (s : ℕ). IsRunOf s wholes) appends.appended.start run)
              (subst (λ (s : ℕ). AllByRecursion (IsFullIn s wholes) ((heard_of v).blocks ++ appended_by (model.Reader r)))
              appends.appended.start
              (subst (λ (l : List Block). AllByRecursion (IsFullIn new.start wholes) l) blocks all));
        }
      where
        its_groups : (pages : List Content) → PartArchives seen pages [] before → (wholes : List Whole)
            → IsRunOf part.start wholes
            → AllByRecursion (IsFullIn part.start wholes) ((heard_of v).blocks ++ appended_by (model.Reader r))
            → PartArchives seen pages wholes new
        its_groups pages begun wholes run all =
            let old = S.archives pages begun wholes run
            (all_front (IsFullIn part.start wholes) (heard_of v).blocks (appended_by (model.Reader r)) all) in
            let last = subst (λ (l : List Block). AllByRecursion (IsFullIn part.start wholes) l) (appended_is r mark asks)
            (all_back (IsFullIn part.start wholes) (heard_of v).blocks (appended_by (model.Reader r)) all) in
            let b = last.0 in
            subst (λ (l : List Whole). PartArchives seen pages l new) (sym b.are)
            (appends.archives (end_about about) S.flushed pages b.early b.late S.pace
            (subst (IsRunOf part.start) b.are run) b.full
            (subst (λ (l : List Whole). PartArchives seen pages l part) b.are old))
