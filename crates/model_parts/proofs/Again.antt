-- After a crash in opening the devices are at rest, and the store on them is in order.
use Rattle.std.proofs.Common.{ℕ, List, length, sym, subst, ⊎_elim, arith}
use Rattle.std.proofs.lemmas.List.Elements.{All-nil}
use Rattle.model_device.specs.{Crashes, IsSectorWrite, settled, Disk}
use Rattle.model_device.proofs.Images.{settled_images}
use Rattle.model_store.specs.{IsFair, IsFairLog, Reading}
use Rattle.model_parts.specs.Opened.{HasRoom, OpensAgain, IsAtRest, ReadsOpened, KeepsOpened}

pub settled-rests : (bytes : List ℕ) → IsAtRest (settled bytes)
settled-rests bytes = let one = settled_images bytes in record { one_image = one.1; reads = one.0; sectors = All-nil (IsSectorWrite (length bytes)) }

left-rests : (old new : Disk) → Crashes old new → IsAtRest new
left-rests old new crash = subst IsAtRest (sym crash.left) (settled-rests crash.image)

pub opened-again : (opened : Reading) (log_disk data_disk log_left data_left : Disk) → KeepsOpened opened log_disk data_disk → HasRoom opened
    → Crashes log_disk log_left → Crashes data_disk data_left → IsFairLog log_disk log_left.reads → IsFair opened.shape data_disk data_left.reads
    → OpensAgain opened log_left data_left
opened-again opened log_disk data_disk log_left data_left keeps room log_crash data_crash fair_log fair =
    let read : ReadsOpened opened log_left.reads data_left.reads = keeps log_left.reads data_left.reads fair_log fair in
    record {
      reading = read.reading;
      openable = record {
        log_rests = left-rests log_disk log_left log_crash;
        data_rests = left-rests data_disk data_left data_crash;
        orderly = record {
          reads = read.is_read;
          copies = read.old_copies;
          numbers_left = ⊎_elim (λ same. omega (arith, same.number, room.numbers_left)) (λ next. omega (arith, next.up_to, room.numbers_left)) read.log;
          lsns_left = ⊎_elim (λ same. omega (arith, same.ckpt, room.lsns_left)) (λ next. omega (arith, next.ckpt, room.start_left)) read.log;
        };
      };
      shape = read.shape;
      pages = read.pages;
    }
