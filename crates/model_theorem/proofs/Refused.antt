-- What the parts of the promise refuse.
use Rattle.std.proofs.Common.{◌≡◌, ◌≢◌, ℕ, ◌+◌, ◌<◌, true, List, [], ◌∷◌, Option, Some, None, inl, refl, sym, ap, ◌∙◌, subst, arith, ⊎_elim}
use Rattle.std.specs.Prelude.{slice_get}
use Rattle.std.proofs.lemmas.Bool.Decides.{nat_tests}
use Rattle.model_base.proofs.ShapeLimits.{early_facts}
use Rattle.model_base.specs.declared.limits.TheConstants.{SLOTS}
use Rattle.model_base.specs.declared.shape.Shape.{Shape}
use Rattle.model_device.specs.{IsImage, Disk}
use Rattle.model_log.specs.{has_sizes_of, head_of, header_block, IsTiled, layout_of, newest_checkpoint, run_layout, start_after, run_format}
use Rattle.model_log.specs.declared.head.Format.{Format}
use Rattle.model_log.specs.declared.head.Format.TheVariants.{One, Two, Three}
use Rattle.model_log.specs.declared.head.Head.TheVariants.{Good}
use Rattle.model_store.proofs.Heads.{head-sizes}
use Rattle.model_log.specs.declared.layout.Layout.{Layout}
use Rattle.model_script.specs.declared.script.ScriptLine.{ScriptLine}
use Rattle.model_store.specs.{IsFairLog, Reading}
use Rattle.model_report.specs.{count_up_to, entry_spans}
use Rattle.model_report.specs.declared.entry.Entry.{Entry}
use Rattle.model_report.specs.declared.entry.State.TheVariants.{Lost}
use Rattle.model_theorem.specs.Run.{Opened, Ran, entries_of, IsPrefixRead, IsRun, LosesOnlyByFailure, HasCheckpoint, HasCheckpointFrom, IsOpenedBefore}
use Rattle.model_theorem.specs.Examples.{HasGap, IsStillUnopened, LacksFlushedGroup, WasOpened}
use Rattle.model_theorem.proofs.Sizes.{run-slots}

none-up-to : (end : ℕ) (entry : Entry) → end < entry.end → count_up_to end (entry ∷ []) ≡ 0
none-up-to end entry below = grind (arith, nat_tests)

pub refuses-lack : (script : List ScriptLine) (opened : Opened) (run : Ran) (reading : Reading) → IsPrefixRead script opened (Some run) reading
    → LacksFlushedGroup run reading → ⊥
refuses-lack script opened run reading prefix lack =
    let reached = prefix.reaching_flushed 0 lack.entry (ap (λ (es : List Entry). slice_get es 0) lack.only) lack.flushed in
    let none : count_up_to reading.end run.entries ≡ 0 =
    ap (count_up_to reading.end) lack.only ∙ none-up-to reading.end lack.entry lack.lacks in
    absurd (omega arith)

pub refuses-gap : (script : List ScriptLine) (opened : Opened) (run : Ran) → IsRun script opened run → HasGap run → ⊥
refuses-gap script opened run is has =
    let tiled = subst (λ (entries : List Entry). IsTiled run.start (entry_spans entries)) has.both is.legal.tiled in
    has.gap tiled.1.0

pub refuses-start : (script : List ScriptLine) (opened : Opened) (run : Ran) → IsRun script opened run → run.start ≢ start_after opened.end → ⊥
refuses-start script opened run is elsewhere = elsewhere is.start

pub refuses-change : (script : List ScriptLine) (opened : Opened) (reading : Reading) → IsPrefixRead script opened None reading
    → reading.pages ≢ opened.pages → ⊥
refuses-change script opened reading prefix changed = changed prefix.first_groups_whole

pub refuses-loss : (run : Option Ran) (left : List (ℕ × ℕ)) (i : ℕ) (entry : Entry) → LosesOnlyByFailure 0 run left
    → slice_get (entries_of run) i ≡ Some entry → entry.state ≡ Lost → ⊥
refuses-loss run left i entry loses at lost =
    let failed = loses.lost i entry at lost in
    absurd (omega arith)

-- what a device held at its last good sync is an image
pub base-image : (disk : Disk) → IsImage disk disk.base
base-image disk = record { same_length = refl; each = λ k below. inl refl }

pub base-fair : (disk : Disk) → IsFairLog disk disk.base
base-fair disk = record { possible = base-image disk; each = λ k within fits. record { count = 0; some = omega arith; same = refl } }

-- a header is of one format, and names one shape
one-head : (one other : Format) (was shape : Shape) → Good one was ≡ Good other shape → (one ≡ other) × (was ≡ shape)
one-head one other was shape same = (cc, cc)

-- and with the slots of the latest format it is of that
is-three : (format : Format) (shape : Shape) → has_sizes_of format shape ≡ true → shape.slots ≡ SLOTS → format ≡ Three
is-three One shape sizes slots = absurd (omega (arith, (early_facts shape sizes).slots, slots))
is-three Two shape sizes slots = absurd (omega (arith, (early_facts shape sizes).slots, slots))
is-three Three shape sizes slots = refl

head-three : (log : List ℕ) (format : Format) (shape : Shape) → head_of log ≡ Good format shape → shape.slots ≡ SLOTS
    → format ≡ Three
head-three log format shape head slots =
    is-three format shape (head-sizes (header_block 0 log) (header_block 2 log) format shape head) slots

-- of one newest checkpoint there is one number
same-number : (found now : Option (ℕ × ℕ)) (number ckpt later later_ckpt : ℕ) → now ≡ found → found ≡ Some (number, ckpt) → now ≡ Some (later, later_ckpt) → number ≡ later
same-number found now number ckpt later later_ckpt same is is_now =
    let both : Some (number, ckpt) ≡ Some (later, later_ckpt) = sym is ∙ sym same ∙ is_now in
    let pair : (number, ckpt) ≡ (later, later_ckpt) = cc in
    ap (λ (checkpoint : ℕ × ℕ). checkpoint.0) pair

pub refuses-run : (shape : Shape) (armed met : Disk) (run : Ran) → IsOpenedBefore shape armed met (Some run)
    → IsStillUnopened shape armed met → ⊥
refuses-run shape armed met run is runs =
    let done : IsOpenedBefore shape armed met (Some run) = is in
    let here : HasCheckpointFrom shape (done.number + 1) met.base = done.ends met.base (base-fair met) in
    let layout : Layout = layout_of (run_format shape) shape in
    let was : HasCheckpoint done.found.format done.was done.number done.ckpt armed.base = done.found.newest in
    let same = one-head done.found.format (run_format shape) done.was shape
    (sym was.head ∙ sym runs.head ∙ here.newest.head) in
    let of_shape : newest_checkpoint (layout_of done.found.format shape) armed.base ≡ Some (done.number, done.ckpt) =
    subst (λ (s : Shape). newest_checkpoint (layout_of done.found.format s) armed.base ≡ Some (done.number, done.ckpt))
    same.1 was.newest in
    let found : newest_checkpoint layout armed.base ≡ Some (done.number, done.ckpt) =
    subst (λ (one : Format). newest_checkpoint (layout_of one shape) armed.base ≡ Some (done.number, done.ckpt))
    same.0 of_shape in
    let number = same-number (newest_checkpoint layout armed.base) (newest_checkpoint layout met.base)
    done.number done.ckpt here.number here.ckpt (runs.unmoved (run_format shape)) found here.newest.newest in
    absurd (omega (arith, here.from))

-- where the sizes that were found are those of a run, opening that was stopped left the header and the newest
-- checkpoint as they were
record IsUnmoved (shape : Shape) (armed met : Disk) : Type 0 where
  head : head_of met.base ≡ head_of armed.base
  newest : newest_checkpoint (run_layout shape) met.base ≡ newest_checkpoint (run_layout shape) armed.base

unmoved-run : (shape : Shape) (armed met : Disk) → (stopped : IsOpenedBefore shape armed met None) → stopped.was ≡ shape
    → IsUnmoved shape armed met
unmoved-run shape armed met stopped is =
    let was : Shape = stopped.was in
    let slots : was.slots ≡ SLOTS = ap (λ (s : Shape). s.slots) is ∙ run-slots was shape stopped.found.runs_by in
    let found : HasCheckpoint stopped.found.format was stopped.number stopped.ckpt armed.base = stopped.found.newest in
    let one : stopped.found.format ≡ Three = head-three armed.base stopped.found.format was found.head slots in
    let other : stopped.ends.format ≡ Three =
    head-three met.base stopped.ends.format was stopped.ends.head slots in
    let before : newest_checkpoint (run_layout was) armed.base ≡ Some (stopped.number, stopped.ckpt) =
    subst (λ (f : Format). newest_checkpoint (layout_of f was) armed.base ≡ Some (stopped.number, stopped.ckpt))
    one found.newest in
    let after : newest_checkpoint (run_layout was) met.base ≡ Some (stopped.number, stopped.ckpt) =
    ⊎_elim (λ early. absurd (early other)) (λ same. same) stopped.ends.still in
    record {
      head = stopped.ends.head ∙ ap (λ (f : Format). Good f was) (other ∙ sym one) ∙ sym found.head;
      newest = subst
          (λ (s : Shape). newest_checkpoint (run_layout s) met.base ≡ newest_checkpoint (run_layout s) armed.base)
          is (after ∙ sym before);
    }

pub refuses-stopped : (shape : Shape) (armed met : Disk) → IsOpenedBefore shape armed met None → WasOpened shape armed met → ⊥
refuses-stopped shape armed met is opened =
    let stopped : IsOpenedBefore shape armed met None = is in
    ⊎_elim
    (λ head.
    let same = one-head stopped.ends.format (run_format shape) stopped.was shape
    (sym stopped.ends.head ∙ head.0) in
    let unmoved : IsUnmoved shape armed met = unmoved-run shape armed met stopped same.1 in
    head.1 unmoved.head)
    (λ moved.
    let same = one-head stopped.found.format (run_format shape) stopped.was shape
    (sym stopped.found.newest.head ∙ moved.0) in
    let unmoved : IsUnmoved shape armed met = unmoved-run shape armed met stopped same.1 in
    moved.1 unmoved.newest) opened
