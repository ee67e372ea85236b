-- The opening of a store that was recovered, to its exits.
use Rattle.std.proofs.Common.{◌≡◌, ◌≤◌, ◌<◌, ◌+◌, ◌%◌, ◌^◌, ◌∙◌, ℕ, List, Option, Ok, Err, refl, sym, ap, subst, ⊎_elim, arith}
use Rattle.std.specs.Prelude.{IfErr, IfSome, IsErrOf, OnErr, OnOk, Result}
use Rattle.std.proofs.lemmas.Bool.{cases_lt}
use Rattle.std.proofs.lemmas.Result.{on_ok_weaker}
use Rattle.model_base.proofs.ShapeLimits.{run_within}
use Rattle.model_base.specs.{HasRisen, IsWithinLimits, run_shape}
use Rattle.model_base.specs.declared.shape.Shape.{Shape}
use Rattle.model_base.specs.declared.limits.TheConstants.{START_LSN}
use Rattle.model_device.specs.{settled, Disk}
use Rattle.model_log.specs.{IsAtDataStart, layout_of, round_of, start_after}
use Rattle.model_parts.specs.{first_marks, first_tails, IsOpenable, IsReady, KeepsOpened, numbers_taken}
use Rattle.model_parts.proofs.Keeping.{openable-keeps}
use Rattle.model_page.specs.declared.content.Content.{Content}
use Rattle.model_log.specs.declared.group.Whole.{Whole}
use Rattle.model_log.specs.declared.head.Format.{Format}
use Rattle.model_log.specs.declared.head.Format.TheVariants.{One, Two, Three}
use Rattle.model_log.specs.declared.layout.Layout.{Layout}
use Rattle.model_log.proofs.Layouts.{is_layout_of}
use Rattle.model_store.specs.{IsOrderly, Reading}
use Rattle.model_store.specs.declared.tail.Tail.{Tail}
use Rattle.model_store.proofs.Ending.{StartsBehind, starts-behind}
use Rattle.redo_apply.specs.{ArePagesOf}
use Rattle.redo_disk.specs.{Seen}
use Rattle.redo_logdev.specs.Part.{Part as Log}
use Rattle.redo_open.specs.Clear.{MayStart}
use Rattle.redo_open.specs.Devices.{DevicesStep, IsFrom, IsNotOpened, IsOpenFault, OpensFrom, WhereBothTell}
use Rattle.redo_open.specs.Chain.{LinkStep}
use Rattle.redo_open.specs.Opening.{IsOpenedAs, IsRunOn, IsStarted, OpenResult, OpensRecovered}
use Rattle.redo_store.specs.{IsRunnable}
use Rattle.redo_store.specs.declared.opened.Opened.{Opened}
use Rattle.redo_open.proofs.Both.{both}
use Rattle.redo_open.proofs.Chains.{ready-both}
use Rattle.redo_open.proofs.Entry.{keeps-anyway, unmoved-anyway}
use Rattle.redo_open.proofs.Rests.{settled-rests}
use Rattle.redo_open.proofs.Told.{risen-since}
use Rattle.redo_recover.specs.{AreNotAhead, IsEndOf, reading_of}
use Rattle.redo_recover.specs.declared.fault.RecFault.{RecFault}
use Rattle.redo_recover.specs.declared.fault.RecFault.TheVariants.{LogDev, DataDev, NoMemory}
use Rattle.redo_recover.specs.declared.recovered.Recovered.{Recovered}
use Rattle.redo_store.specs.Part.{Part}

-- WHERE THE RUN STARTS.

pub may-start : (format : Format) (shape : Shape) (ckpt : ℕ) (wholes : List Whole) (end : ℕ) → IsWithinLimits shape → ckpt % 512 ≡ 0 → START_LSN ≤ ckpt → ckpt < 2 ^ 60
    → IsEndOf (layout_of format shape) ckpt wholes end → MayStart (layout_of format shape) ckpt (start_after end)
may-start format shape ckpt wholes end limits aligned started small is =
    let starts : StartsBehind end = starts-behind end is.place in
    let low : 12 ≤ end % 512 = is.place.0 in
    let most : end ≤ ckpt + round_of (layout_of format shape) + 12 = is.up_to in
    record {
      is_layout = is_layout_of format shape limits.many_blocks limits.few_blocks;
      aligned = aligned;
      started = started;
      small = small;
      place = starts.aligned;
      from = omega (arith, starts.behind, is.from);
      up_to = ⊎_elim (λ next. omega (arith, starts.next next)) (λ not_next. omega (arith, starts.here (omega arith))) (cases_lt 12 (end % 512));
    }

-- pages that aren't ahead of the end aren't ahead of the start after it
pub not-ahead-of-start : (layout : Layout) (ckpt : ℕ) (wholes : List Whole) (end : ℕ) (pages : List Content) → IsEndOf layout ckpt wholes end
    → AreNotAhead pages end → AreNotAhead pages (start_after end)
not-ahead-of-start layout ckpt wholes end pages is not_ahead = λ p page at.
    let starts : StartsBehind end = starts-behind end is.place in omega (arith, starts.behind, not_ahead p page at)

-- BEFORE A STEP WAS TAKEN.

from-openable : (opened : Reading) (tail : Option Tail) (log_old data_old : Seen) (log_bytes data_bytes : List ℕ) (l d : Disk) → OpensFrom opened tail log_old data_old log_bytes data_bytes
    → IsFrom log_bytes l → d ≡ settled data_bytes → IsOpenable opened l d
from-openable opened tail log_old data_old log_bytes data_bytes l d from is same =
    let orderly : IsOrderly l.reads data_bytes opened = subst (λ (bytes : List ℕ). IsOrderly bytes data_bytes opened) (sym is.reads) from.orderly in
    subst (IsOpenable opened l) (sym same) (record { log_rests = is.rests; data_rests = settled-rests data_bytes; orderly = orderly })

pub rests-both : (opened : Reading) (tail : Option Tail) (log_old data_old : Seen) (log_bytes data_bytes : List ℕ) → OpensFrom opened tail log_old data_old log_bytes data_bytes
    → WhereBothTell log_old.tells data_old.tells (KeepsOpened opened)
rests-both opened tail log_old data_old log_bytes data_bytes from =
    both log_old.tells data_old.tells (IsFrom log_bytes) (λ disk. disk ≡ settled data_bytes) (KeepsOpened opened)
    (λ l d is same. openable-keeps opened l d (from-openable opened tail log_old data_old log_bytes data_bytes l d from is same)) from.log_from from.data_from

-- memory ran out
pub recovered-none : {L D : Type 0} (log_seen : L → Seen) (data_seen : D → Seen) (opened : Reading) (tail : Option Tail) (log : L) (data_device : D)
    → OpensRecovered log_seen data_seen opened tail (log_seen log) (data_seen data_device) (Err (NoMemory, log, data_device))
recovered-none log_seen data_seen opened tail log data_device = record {
  safely = λ log_bytes data_bytes from log_entry data_entry. record {
    keeps = keeps-anyway opened log_entry data_entry (log_seen log).tells (data_seen data_device).tells
        (rests-both opened tail (log_seen log) (data_seen data_device) log_bytes data_bytes from);
    unmoved = λ other. absurd (other refl);
    ready = tt;
  };
  opened_as = tt;
  runnable = tt;
  fault = tt;
  log_failed = λ is. absurd cc;
  data_failed = λ is. absurd cc;
}

-- THE STEPS of opening, and of taking the store to the format of runs.

-- all of them
pub record OpensTo (opened : Reading) (tail : Option Tail) (log_old data_old : Seen)
    (result : Result (Unit {0}) RecFault) (log_new data_new : Seen) : Type 0 where
  pub keeps : (log_bytes data_bytes : List ℕ) → OpensFrom opened tail log_old data_old log_bytes data_bytes
      → WhereBothTell log_new.tells data_new.tells (KeepsOpened opened)
  pub ok : (log_bytes data_bytes : List ℕ) → OpensFrom opened tail log_old data_old log_bytes data_bytes
      → OnOk result (WhereBothTell log_new.tells data_new.tells (IsReady opened))
  pub unmoved : (log_bytes data_bytes : List ℕ) → OpensFrom opened tail log_old data_old log_bytes data_bytes
      → OnErr result (IfSome log_new.tells (IsNotOpened opened))
  pub fault : IfErr result IsOpenFault
  pub log_failed : IsErrOf result LogDev → HasRisen log_old.faults log_new.faults
  pub data_failed : IsErrOf result DataDev → HasRisen data_old.faults data_new.faults

-- one of the first ended early
pub failed-before : (opened : Reading) (tail : Option Tail) (log_old data_old : Seen) (fault : RecFault)
    (log_new data_new : Seen)
    → DevicesStep opened tail log_old data_old (Err fault) log_new data_new → OpensTo opened tail log_old data_old
    (Err fault) log_new data_new
failed-before opened tail log_old data_old fault log_new data_new step = record {
  keeps = step.keeps;
  ok = λ log_bytes data_bytes from. tt;
  unmoved = step.unmoved;
  fault = step.fault;
  log_failed = step.log_failed;
  data_failed = step.data_failed;
}

-- they went well, and the others come after them
pub then-linked : (opened : Reading) (tail : Option Tail) (log_old data_old log_mid data_mid : Seen) (done : Unit {0})
    (result : Result (Unit {0}) RecFault) (log_new data_new : Seen)
    → DevicesStep opened tail log_old data_old (Ok done) log_mid data_mid → log_old.faults ≤ log_mid.faults
    → data_old.faults ≤ data_mid.faults
    → log_mid.faults ≤ log_new.faults → data_mid.faults ≤ data_new.faults
    → LinkStep opened.format Three opened log_mid data_mid result log_new data_new
    → OpensTo opened tail log_old data_old result log_new data_new
then-linked opened tail log_old data_old log_mid data_mid done result log_new data_new first log_later data_later
    log_last
    data_last step =
    record {
      keeps = λ log_bytes data_bytes from. step.keeps log_bytes data_bytes (first.ready log_bytes data_bytes from);
      ok = λ log_bytes data_bytes from. on_ok_weaker result
          (λ at. ready-both opened log_new data_new log_bytes data_bytes at)
          (step.ok log_bytes data_bytes (first.ready log_bytes data_bytes from));
      unmoved = λ log_bytes data_bytes from. step.unmoved log_bytes data_bytes (first.ready log_bytes data_bytes from);
      fault = step.fault;
      log_failed = λ is. risen-since log_old.faults log_mid.faults log_new.faults log_later log_last
          (step.log_failed is);
      data_failed = λ is. risen-since data_old.faults data_mid.faults data_new.faults data_later data_last
          (step.data_failed is);
    }

-- a step ended early
pub recovered-failed : {L D : Type 0} (log_seen : L → Seen) (data_seen : D → Seen) (opened : Reading) (tail : Option Tail) (log_old data_old : Seen) (fault : RecFault) (log : L) (data_device : D)
    → OpensTo opened tail log_old data_old (Err fault) (log_seen log) (data_seen data_device)
    → OpensRecovered log_seen data_seen opened tail log_old data_old (Err (fault, log, data_device))
recovered-failed log_seen data_seen opened tail log_old data_old fault log data_device step = record {
  safely = λ log_bytes data_bytes from log_entry data_entry. record {
    keeps = keeps-anyway opened log_entry data_entry (log_seen log).tells (data_seen data_device).tells
        (step.keeps log_bytes data_bytes from);
    unmoved = λ other. unmoved-anyway opened log_entry (log_seen log).tells (step.unmoved log_bytes data_bytes from);
    ready = tt;
  };
  opened_as = tt;
  runnable = tt;
  fault = step.fault;
  log_failed = λ is. step.log_failed (ap (λ (f : RecFault). Err f) is);
  data_failed = λ is. step.data_failed (ap (λ (f : RecFault). Err f) is);
}

-- WHEN ALL STEPS WENT WELL.

-- what is known then, whatever the devices tell
pub record IsStartable (recovered : Recovered) (start : ℕ) : Type 0 where
  pub limits : IsWithinLimits recovered.shape
  pub may : MayStart (layout_of recovered.format recovered.shape) recovered.ckpt start
  pub behind : start ≡ start_after recovered.end
  pub its_pages : ArePagesOf recovered.shape recovered.pages
  pub not_ahead : AreNotAhead recovered.pages start

run-opened : {L D : Type 0} (log : L) (data_device : D) (recovered : Recovered) (start : ℕ) (run : Opened L D)
    → IsStartable recovered start
    → IsRunOn log data_device recovered start run → IsOpenedAs (reading_of recovered) run
run-opened log data_device recovered start run facts is = record {
  shape = is.shape;
  start = is.start_is ∙ facts.behind;
  pages = is.pages;
  number = ap (λ (part : Log _). part.marks.number) is.log_part;
}

-- the pages are those of a run too
run-pages : (shape : Shape) (pages : List Content) → ArePagesOf shape pages → ArePagesOf (run_shape shape) pages
run-pages shape pages its = record { count = its.count; sizes = its.sizes }

run-runnable : {L D : Type 0} (log : L) (data_device : D) (recovered : Recovered) (start : ℕ) (run : Opened L D)
    → IsStartable recovered start
    → IsRunOn log data_device recovered start run → IsRunnable run
run-runnable log data_device recovered start run facts is =
    let marks = ap (λ (part : Log _). part.marks) is.log_part in
    record {
      limits = subst IsWithinLimits (sym is.shape) (run_within recovered.shape facts.limits);
      place = subst IsAtDataStart (sym is.start_is) facts.may.place;
      first = omega (arith, is.start_is, facts.may.started, facts.may.from);
      small = omega (arith, is.start_is, facts.may.up_to, facts.may.small, facts.may.is_layout.few_blocks);
      its_pages = subst (λ (s : Shape). ArePagesOf s run.pages) (sym is.shape)
          (subst (ArePagesOf (run_shape recovered.shape)) (sym is.pages)
          (run-pages recovered.shape recovered.pages facts.its_pages));
      not_ahead = subst (AreNotAhead run.pages) (sym is.start_is) (subst (λ (pages : List Content). AreNotAhead pages start) (sym is.pages) facts.not_ahead);
      log_shape = ap (λ (part : Log _). part.shape) is.log_part ∙ sym is.shape;
      log_marks = marks ∙ ap (λ n. first_marks n ((recovered.number + numbers_taken recovered.format) % 2 ^ 64)) (sym is.start_is)
          ∙ ap (first_marks run.start) (sym (ap (λ (part : Log _). part.marks.number) is.log_part));
      log_tails = ap (λ (part : Log _). part.tails) is.log_part ∙ ap first_tails (sym is.start_is);
      log_live = ap (λ (part : Log _). part.failed) is.log_part;
      data_shape = ap (λ (part : Part _). part.shape) is.data_part ∙ sym is.shape;
      data_live = ap (λ (part : Part _). part.failed) is.data_part;
    }

-- the number doesn't go round
number-left : (opened : Reading) → opened.number < 2 ^ 63 → (opened.number + numbers_taken opened.format) % 2 ^ 64 ≡ opened.number + numbers_taken opened.format
number-left opened less = let few : numbers_taken opened.format ≤ 2 = few-taken opened.format in omega arith
  where
    few-taken : (format : Format) → numbers_taken format ≤ 2
    few-taken One = omega arith
    few-taken Two = omega arith
    few-taken Three = omega arith

pub recovered-started : {L D : Type 0} (log_seen : L → Seen) (data_seen : D → Seen) (recovered : Recovered) (start : ℕ)
    (log_old data_old : Seen) (log : L) (data_device : D)
    (result : OpenResult L D) → IsStartable recovered start
    → OpensTo (reading_of recovered) recovered.tail log_old data_old (Ok tt) (log_seen log) (data_seen data_device)
    → IsStarted log data_device recovered start result
    → OpensRecovered log_seen data_seen (reading_of recovered) recovered.tail log_old data_old result
recovered-started log_seen data_seen recovered start log_old data_old log data_device (Ok run) facts step is =
    let opened : Reading = reading_of recovered in
    let log_is : run.log.dev ≡ log = ap (λ (part : Log _). part.dev) is.log_part in
    let data_is : run.store.dev ≡ data_device = ap (λ (part : Part _). part.dev) is.data_part in
    let log_same : log_seen run.log.dev ≡ log_seen log = ap log_seen log_is in
    let data_same : data_seen run.store.dev ≡ data_seen data_device = ap data_seen data_is in
    record {
      safely = λ log_bytes data_bytes from log_entry data_entry. record {
        keeps = keeps-anyway opened log_entry data_entry (log_seen run.log.dev).tells (data_seen run.store.dev).tells
            (subst (λ (s : Seen). WhereBothTell s.tells (data_seen run.store.dev).tells (KeepsOpened opened))
            (sym log_same)
            (subst (λ (s : Seen). WhereBothTell (log_seen log).tells s.tells (KeepsOpened opened)) (sym data_same)
            (step.keeps log_bytes data_bytes from)));
        unmoved = tt;
        ready = record {
          opened = run-opened log data_device recovered start run facts is;
          number = ap (λ (part : Log _). part.marks.number) is.log_part ∙ number-left (reading_of recovered) from.orderly.numbers_left;
          small = omega (arith, is.start_is, facts.may.up_to, facts.may.is_layout.few_blocks, from.orderly.lsns_left);
          ready = subst (λ (s : Seen). WhereBothTell s.tells (data_seen run.store.dev).tells (IsReady opened)) (sym log_same)
              (subst (λ (s : Seen). WhereBothTell (log_seen log).tells s.tells (IsReady opened)) (sym data_same)
              (step.ok log_bytes data_bytes from));
        };
      };
      opened_as = run-opened log data_device recovered start run facts is;
      runnable = run-runnable log data_device recovered start run facts is;
      fault = tt;
      log_failed = tt;
      data_failed = tt;
    }
recovered-started log_seen data_seen recovered start log_old data_old log data_device (Err error) facts step
    (none, log_is, data_is) =
    let opened : Reading = reading_of recovered in
    let log_same : log_seen error.1 ≡ log_seen log = ap log_seen log_is in
    let data_same : data_seen error.2 ≡ data_seen data_device = ap data_seen data_is in
    record {
      safely = λ log_bytes data_bytes from log_entry data_entry. record {
        keeps = keeps-anyway opened log_entry data_entry (log_seen error.1).tells (data_seen error.2).tells
            (subst (λ (s : Seen). WhereBothTell s.tells (data_seen error.2).tells (KeepsOpened opened)) (sym log_same)
            (subst (λ (s : Seen). WhereBothTell (log_seen log).tells s.tells (KeepsOpened opened)) (sym data_same)
            (step.keeps log_bytes data_bytes from)));
        unmoved = λ other. absurd (other none);
        ready = tt;
      };
      opened_as = tt;
      runnable = tt;
      fault = subst IsOpenFault (sym none) tt;
      log_failed = λ is. absurd cc;
      data_failed = λ is. absurd cc;
    }
