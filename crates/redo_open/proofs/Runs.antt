-- Both devices while a store that is ready by format 2 is taken to format 3.
use Rattle.std.proofs.Common.{◌≡◌, ◌+◌, ◌==◌, ◌∙◌, ℕ, inl, inr, List, Option, Ok, Err, refl, sym, ap, subst, cond, arith}
use Rattle.std.specs.Prelude.{IfSome, Result}
use Rattle.model_base.specs.{IsEarly, IsWithinLimits, run_shape}
use Rattle.model_base.specs.declared.shape.Shape.{Shape}
use Rattle.model_device.specs.{sector, settled, Disk}
use Rattle.model_log.specs.{read_head, run_format}
use Rattle.model_log.specs.declared.head.Format.TheVariants.{Two, Three}
use Rattle.model_page.specs.declared.content.Content.{Content}
use Rattle.model_parts.specs.{IsAtRest, IsUnopened, KeepsOpened, numbers_taken, read_as, start_of}
use Rattle.model_parts.proofs.Enlarging.{enlarged-stored, enlarging-keeps}
use Rattle.model_parts.proofs.Heading.{headed-fresh, heading-keeps}
use Rattle.model_parts.proofs.Keeping.{ready-keeps}
use Rattle.model_parts.proofs.Migration.{head-first}
use Rattle.model_store.specs.{Reading}
use Rattle.redo_disk.specs.{Seen}
use Rattle.redo_disk.specs.declared.error.DevError.{DevError}
use Rattle.redo_disk.proofs.Told.{known-as, told-step}
use Rattle.redo_open.specs.Devices.{IsNotOpened, WhereBothTell, IsFreshBy, IsReadyAt}
use Rattle.redo_open.specs.Enlarge.{EnlargeStep, HasEnlarged, HasRunHeads, HeadStep, KeepsOld, PutsRunHeads}
use Rattle.redo_open.specs.Places.{HoldsPlaces}
use Rattle.redo_open.specs.Put.{IsAtRestTo}
use Rattle.redo_open.proofs.Both.{both}
use Rattle.redo_open.proofs.Rests.{settled-rests}

-- A STORE THAT HAS THEM ALREADY.

pub ready-already : (opened : Reading) (log data_device : Seen) (log_bytes data_bytes : List ℕ)
    → opened.shape ≡ run_shape opened.shape → IsReadyAt Two opened log data_device log_bytes data_bytes
    → IsReadyAt Three opened log data_device log_bytes data_bytes
ready-already opened log data_device log_bytes data_bytes same from = record {
  orderly = from.orderly;
  log_ready = subst (λ (s : Shape). IfSome log.tells (IsFreshBy s opened)) same from.log_ready;
  data_ready = subst (λ (s : Shape). IfSome data_device.tells (HoldsPlaces s opened)) same from.data_ready;
}

-- it is read with the opened pages as it stands
pub stored-keeps : (opened : Reading) (log data_device : Seen) (log_bytes data_bytes : List ℕ)
    → IsReadyAt Two opened log data_device log_bytes data_bytes → WhereBothTell log.tells data_device.tells
    (KeepsOpened opened)
stored-keeps opened log data_device log_bytes data_bytes from =
    both log.tells data_device.tells (IsFreshBy opened.shape opened) (HoldsPlaces opened.shape opened)
    (KeepsOpened opened)
    (λ l d fresh holds. ready-keeps opened log_bytes data_bytes opened.shape l d from.orderly (inl refl)
    (record { log = fresh; pages = holds }))
    from.log_ready from.data_ready

-- THE DATA DEVICE.

-- it was stored, and its old slots and places are as they were
record KeepsWhat (opened : Reading) (disk : Disk) : Type 0 where
  was : Disk
  stored : HoldsPlaces opened.shape opened was
  keeps : KeepsOld opened.shape was.base disk

pub enlarging-both : (opened : Reading) (log data_old : Seen) (log_bytes data_bytes : List ℕ) (pages : List Content)
    (result : Result (Unit {0}) DevError) (data_new : Seen)
    → IsReadyAt Two opened log data_old log_bytes data_bytes → EnlargeStep opened.shape pages data_old result data_new
    → WhereBothTell log.tells data_new.tells (KeepsOpened opened)
enlarging-both opened log data_old log_bytes data_bytes pages result data_new from step =
    both log.tells data_new.tells (IsFreshBy opened.shape opened) (KeepsWhat opened) (KeepsOpened opened)
    (λ l d fresh what. enlarging-keeps opened log_bytes data_bytes l what.was d from.orderly
    (record { log = fresh; pages = what.stored }) what.keeps)
    from.log_ready
    (told-step data_old.tells data_new.tells (HoldsPlaces opened.shape opened) (KeepsWhat opened)
    (λ before after. before ≡ settled before.base → KeepsOld opened.shape before.base after)
    (λ a b holds keeps. record { was = a; stored = holds; keeps = keeps (holds.steady refl).nothing_pending })
    from.data_ready step.keeps)

-- it holds the pages by both sizes
record HoldsBoth (opened : Reading) (disk : Disk) : Type 0 where
  old : HoldsPlaces opened.shape opened disk
  run : HoldsPlaces (run_shape opened.shape) opened disk

holds-both : (opened : Reading) (a b : Disk) → IsWithinLimits opened.shape → HoldsPlaces opened.shape opened a
    → HasEnlarged opened.shape opened.pages a.base b
    → HoldsBoth opened b
holds-both opened a b limits holds has = record {
  old = enlarged-stored opened.shape opened.shape (read_as opened) a b limits (inl refl) holds has.nothing_pending
      has.long has.enlarged;
  run = enlarged-stored opened.shape (run_shape opened.shape) (read_as opened) a b limits
      (inr refl) holds has.nothing_pending has.long has.enlarged;
}

enlarged-both : (opened : Reading) (log data_old : Seen) (log_bytes data_bytes : List ℕ) (done : Unit {0})
    (data_new : Seen) → IsWithinLimits opened.shape
    → IsReadyAt Two opened log data_old log_bytes data_bytes → EnlargeStep opened.shape opened.pages data_old
    (Ok done) data_new
    → IfSome data_new.tells (HoldsBoth opened)
enlarged-both opened log data_old log_bytes data_bytes done data_new limits from step =
    told-step data_old.tells data_new.tells (HoldsPlaces opened.shape opened) (HoldsBoth opened)
    (λ before after. before ≡ settled before.base → HasEnlarged opened.shape opened.pages before.base after)
    (λ a b holds has. holds-both opened a b limits holds (has (holds.steady refl).nothing_pending)) from.data_ready
    step.ok

-- THE LOG DEVICE.

fresh-rests : (opened : Reading) (disk : Disk) → IsWithinLimits opened.shape → IsFreshBy opened.shape opened disk
    → IsAtRestTo 1536 disk
fresh-rests opened disk limits fresh = record {
  rests = subst IsAtRest (sym fresh.nothing_pending) (settled-rests disk.reads);
  long = omega (arith, fresh.long, limits.many_blocks);
}

-- it was ready, and the headers of a run are being put
record PutsWhat (opened : Reading) (disk : Disk) : Type 0 where
  old_log : List ℕ
  fresh : IsFreshBy opened.shape opened (settled old_log)
  puts : PutsRunHeads opened.shape old_log disk

puts-what : (opened : Reading) (log_old : Seen) (result : Result (Unit {0}) DevError) (log_new : Seen)
    → IsWithinLimits opened.shape → IfSome log_old.tells (IsFreshBy opened.shape opened)
    → HeadStep opened.shape log_old result log_new → IfSome log_new.tells (PutsWhat opened)
puts-what opened log_old result log_new limits known step =
    told-step log_old.tells log_new.tells (IsFreshBy opened.shape opened) (PutsWhat opened)
    (λ before after. IsAtRestTo 1536 before
    → PutsRunHeads opened.shape before.reads after)
    (λ a b fresh puts. record {
      old_log = a.reads;
      fresh = subst (IsFreshBy opened.shape opened) fresh.nothing_pending fresh;
      puts = puts (fresh-rests opened a limits fresh);
    }) known step.keeps

pub heading-both : (opened : Reading) (log_old data_old : Seen) (log_bytes data_bytes : List ℕ) (done : Unit {0})
    (data_new : Seen) (result : Result (Unit {0}) DevError) (log_new : Seen)
    → IsWithinLimits opened.shape → IsReadyAt Two opened log_old data_old log_bytes data_bytes
    → EnlargeStep opened.shape opened.pages data_old (Ok done) data_new
    → HeadStep opened.shape log_old result log_new → WhereBothTell log_new.tells data_new.tells (KeepsOpened opened)
heading-both opened log_old data_old log_bytes data_bytes done data_new result log_new limits from enlarged step =
    both log_new.tells data_new.tells (PutsWhat opened) (HoldsBoth opened) (KeepsOpened opened)
    (λ l d what holds. heading-keeps opened log_bytes data_bytes what.old_log l d from.orderly what.fresh what.puts
    holds.old holds.run)
    (puts-what opened log_old result log_new limits from.log_ready step)
    (enlarged-both opened log_old data_old log_bytes data_bytes done data_new limits from enlarged)

headed-log : (opened : Reading) (a b : Disk) → IsWithinLimits opened.shape → IsFreshBy opened.shape opened a
    → HasRunHeads opened.shape a.reads b → IsFreshBy (run_shape opened.shape) opened b
headed-log opened a b limits fresh has =
    subst (IsFreshBy (run_shape opened.shape) opened) (sym has.nothing_pending)
    (headed-fresh opened.shape (start_of opened) (opened.number + numbers_taken opened.format) a.reads b.base limits
    (subst (IsFreshBy opened.shape opened) fresh.nothing_pending fresh) has.headed)

pub headed-both : (opened : Reading) (log_old data_old : Seen) (log_bytes data_bytes : List ℕ) (done last : Unit {0})
    (data_new log_new : Seen) → IsWithinLimits opened.shape
    → IsReadyAt Two opened log_old data_old log_bytes data_bytes → EnlargeStep opened.shape opened.pages data_old
    (Ok done) data_new
    → HeadStep opened.shape log_old (Ok last) log_new → IsReadyAt Three opened log_new data_new log_bytes data_bytes
headed-both opened log_old data_old log_bytes data_bytes done last data_new log_new limits from enlarged step = record {
  orderly = from.orderly;
  log_ready = told-step log_old.tells log_new.tells (IsFreshBy opened.shape opened)
      (IsFreshBy (run_shape opened.shape) opened)
      (λ before after. IsAtRestTo 1536 before → HasRunHeads opened.shape before.reads after)
      (λ a b fresh has. headed-log opened a b limits fresh (has (fresh-rests opened a limits fresh))) from.log_ready
      step.ok;
  data_ready = known-as data_new.tells (HoldsBoth opened) (HoldsPlaces (run_shape opened.shape) opened)
      (λ disk holds. holds.run)
      (enlarged-both opened log_old data_old log_bytes data_bytes done data_new limits from enlarged);
}

-- IT ISN'T OPENED YET, as its first header block tells, which is of format 2.

early-two : (shape : Shape) → IsEarly shape → run_format shape ≡ Two
early-two shape early = ap (λ n. cond (n == 128) Three Two) early.slots

early-unopened : (opened : Reading) (fresh : Disk) (bytes : List ℕ) → IsEarly opened.shape
    → IsFreshBy opened.shape opened fresh
    → sector 0 bytes ≡ sector 0 fresh.reads
    → IsUnopened opened.shape opened.number opened.ckpt bytes
early-unopened opened fresh bytes early is same = record {
  format = run_format opened.shape;
  head = head-first bytes (run_format opened.shape) opened.shape (ap read_head same ∙ is.heads 0 (inl refl));
  still = inl (λ three. (let other : Two ≡ Three = sym (early-two opened.shape early) ∙ three in absurd cc));
}

pub fresh-unopened : (opened : Reading) (log : Option Disk) → IsEarly opened.shape
    → IfSome log (IsFreshBy opened.shape opened)
    → IfSome log (IsNotOpened opened)
fresh-unopened opened log early known =
    known-as log (IsFreshBy opened.shape opened) (IsNotOpened opened)
    (λ disk fresh. early-unopened opened disk disk.base early fresh
    (ap (λ (d : Disk). sector 0 d.base) fresh.nothing_pending)) known

pub heading-unopened : (opened : Reading) (log_old : Seen) (error : DevError) (log_new : Seen)
    → IsWithinLimits opened.shape → IsEarly opened.shape
    → IfSome log_old.tells (IsFreshBy opened.shape opened) → HeadStep opened.shape log_old (Err error) log_new
    → IfSome log_new.tells (IsNotOpened opened)
heading-unopened opened log_old error log_new limits early known step =
    told-step log_old.tells log_new.tells (IsFreshBy opened.shape opened) (IsNotOpened opened)
    (λ before after. IsAtRestTo 1536 before → sector 0 after.base ≡ sector 0 before.reads)
    (λ a b fresh same. early-unopened opened a b.base early fresh (same (fresh-rests opened a limits fresh))) known
    step.unmoved
