-- A store that is opened, from what its devices told at first to where its two header blocks are alike.
use Rattle.std.proofs.Common.{◌≡◌, ℕ, List, length, Option, Some, None, Ok, Err, refl, sym, ap, subst, ◌∙◌, arith}
use Rattle.std.specs.Prelude.{IfSome}
use Rattle.model_device.specs.{settled, synced, Disk}
use Rattle.model_log.specs.{newest_checkpoint}
use Rattle.model_log.proofs.Several.{one_group}
use Rattle.model_parts.specs.{found_layout, IsRewriting, IsUnopened, KeepsHead, KeepsOpened}
use Rattle.model_parts.proofs.Alike.{kept-found, kept-orderly}
use Rattle.model_parts.proofs.Keeping.{kept-head_keeps}
use Rattle.model_parts.proofs.Reread.{IsLogRead, log-read, same-newest}
use Rattle.model_store.specs.{AreFoundIn, IsFair, IsOrderly, IsReading, Reading}
use Rattle.model_store.specs.declared.tail.Tail.{Tail}
use Rattle.model_store.proofs.OneReading.{same_reading}
use Rattle.redo_disk.specs.{OnTold, part, Seen}
use Rattle.redo_disk.specs.declared.error.DevError.{DevError}
use Rattle.redo_disk.proofs.Told.{known-as}
use Rattle.redo_open.specs.Devices.{IsFrom, IsNotOpened, OpensFrom, WhereBothTell}
use Rattle.redo_open.specs.Put.{AlikeStep, HasAlike, HaveHeads, KeepsHeads}
use Rattle.redo_open.specs.Mend.{IsSettledData}
use Rattle.redo_open.proofs.Both.{base-fair, both}
use Rattle.redo_open.proofs.Entry.{still-found}
use Rattle.redo_open.proofs.Opens.{unchanged-keeps}
use Rattle.redo_open.proofs.Rests.{settled-rests}
use Rattle.redo_open.proofs.Stores.{synced-from, tells-synced}
use Rattle.redo_recover.specs.{OnContents}
use Rattle.redo_recover.specs.Devices.{OnContent}

-- ONCE BOTH DEVICES ARE SYNCED, before the header blocks are made alike.

heads-held : (read : Reading) (heads log_bytes data_bytes : List ℕ) → IsReading log_bytes data_bytes read
    → heads ≡ part log_bytes 0 1536 → HaveHeads read.format read.shape heads (settled log_bytes)
heads-held read heads log_bytes data_bytes reads front =
    let log : IsLogRead log_bytes read = log-read log_bytes data_bytes read reads in
    record {
      rests = record { rests = settled-rests log_bytes; long = omega (arith, log.long) };
      says = reads.scan.devices.head.head;
      front = front;
    }

-- both were only read, which gave this reading and these header blocks, and then synced
pub record AreSynced (read : Reading) (heads : List ℕ) (log log_read log_now data_told data_read data_now : Option Disk) : Type 0 where
  pub reads : OnContents log data_told (λ log_bytes data_bytes. IsReading log_bytes data_bytes read)
  pub front : OnContent log (λ content. heads ≡ part content 0 1536)
  pub log_same : log_read ≡ log
  pub log_synced : OnTold log_read log_now (λ before after. after ≡ synced before)
  pub data_same : data_read ≡ data_told
  pub data_synced : OnTold data_read data_now (λ before after. after ≡ synced before)

-- ONCE THEY ARE ALIKE: what is promised of the reading is promised of the opened store.

alike-from : (opened : Reading) (tail : Option Tail) (heads log_bytes data_bytes : List ℕ) (old new data_mid : Seen)
    (done : Unit {0}) → IsOrderly log_bytes data_bytes opened
    → AreFoundIn (found_layout opened) log_bytes opened.ckpt opened.views tail
    → old.tells ≡ Some (settled log_bytes) → heads ≡ part log_bytes 0 1536
    → IfSome data_mid.tells (λ disk. disk ≡ settled data_bytes) → AlikeStep opened.format opened.shape heads old (Ok done) new
    → (bytes : List ℕ) × OpensFrom opened tail new data_mid bytes data_bytes
alike-from opened tail heads log_bytes data_bytes old new data_mid done orderly found at front data_known step =
    let Alike : Disk → Disk → Type 0 = λ before after. HaveHeads opened.format opened.shape heads before → HasAlike before.reads after in
    let told : OnTold (Some (settled log_bytes)) new.tells Alike =
    subst (λ (o : Option Disk). OnTold o new.tells Alike) at step.ok in
    let has : HasAlike log_bytes told.0 = told.2 (heads-held opened heads log_bytes data_bytes orderly.reads front) in (
      told.0.reads,
      record {
        orderly = kept-orderly opened log_bytes data_bytes told.0.reads orderly has.kept;
        found = kept-found opened log_bytes told.0.reads tail found has.kept;
        alike = has.alike;
        log_from = subst (λ (o : Option Disk). IfSome o (IsFrom told.0.reads)) (sym told.1)
            (record { rests = has.rests; reads = refl });
        data_from = data_known;
      },
    )

pub opened-alike : (opened read : Reading) (tail : Option Tail) (heads : List ℕ)
    (log data_told log_read data_read : Option Disk) (old new data_mid : Seen) (done : Unit {0})
    (Q : Reading → Disk → Disk → Type 0)
    → OnContent log (λ log_bytes. AreFoundIn (found_layout read) log_bytes read.ckpt read.views tail)
    → AreSynced read heads log log_read old.tells data_told data_read data_mid.tells
    → AlikeStep read.format read.shape heads old (Ok done) new
    → ((log_bytes data_bytes : List ℕ) → OpensFrom read tail new data_mid log_bytes data_bytes
    → (l d : Disk) → Q read l d)
    → WhereBothTell log data_told (λ l d. IsOrderly l.reads d.reads opened → Q opened l d)
opened-alike opened read tail heads None data_told log_read data_read old new data_mid done Q found is step
    leads = tt
opened-alike opened read tail heads (Some l) None log_read data_read old new data_mid done Q found is step
    leads = tt
opened-alike opened read tail heads (Some l) (Some d) log_read data_read old new data_mid done Q found is step
    leads = λ orderly. (
    let same : opened ≡ read = same_reading one_group l.reads d.reads opened read orderly.reads is.reads in
    let there : IsOrderly l.reads d.reads read =
    subst (λ (r : Reading). IsOrderly l.reads d.reads r) same orderly in
    let from = alike-from read tail heads l.reads d.reads old new data_mid done there found
    (tells-synced log_read old.tells l is.log_same is.log_synced) is.front
    (synced-from data_read data_mid.tells d is.data_same is.data_synced) step in
    subst (λ (r : Reading). Q r l d) (sym same) (leads from.0 d.reads from.1 l d))

-- WHERE THEY COULDN'T BE MADE ALIKE.

-- each fair image of the data device is one that is being rewritten
abbrev Rewrites : Reading → List ℕ → Disk → Type 0
Rewrites opened data_bytes disk =
    (image : List ℕ) → IsFair opened.shape disk image → IsRewriting opened data_bytes image

synced-rewrites : (opened : Reading) (log_bytes data_bytes : List ℕ) (data_mid : Option Disk)
    → IsOrderly log_bytes data_bytes opened → IfSome data_mid (λ disk. disk ≡ settled data_bytes)
    → IfSome data_mid (Rewrites opened data_bytes)
synced-rewrites opened log_bytes data_bytes None orderly known = tt
synced-rewrites opened log_bytes data_bytes (Some b) orderly known =
    let base : b.base ≡ data_bytes = ap (λ (disk : Disk). disk.base) known in
    let settled_data : IsSettledData opened.shape b = record {
      nothing_pending = known ∙ ap settled (sym base);
      long = omega (arith, orderly.reads.scan.devices.data_long, ap length base);
    } in
    unchanged-keeps opened.shape opened.pages log_bytes data_bytes opened (Some b)
    (record { shape_is = refl; pages_are = refl; orderly = orderly }) settled_data known

failed-heads : (read : Reading) (heads log_bytes data_bytes : List ℕ) (old new : Seen) (error : DevError)
    → IsReading log_bytes data_bytes read → heads ≡ part log_bytes 0 1536 → old.tells ≡ Some (settled log_bytes)
    → AlikeStep read.format read.shape heads old (Err error) new → IfSome new.tells (KeepsHeads log_bytes)
failed-heads read heads log_bytes data_bytes old new error reads front at step =
    let Keeps : Disk → Disk → Type 0 = λ before after. HaveHeads read.format read.shape heads before → KeepsHeads before.reads after in
    let told : OnTold (Some (settled log_bytes)) new.tells Keeps =
    subst (λ (o : Option Disk). OnTold o new.tells Keeps) at step.keeps in
    subst (λ (o : Option Disk). IfSome o (KeepsHeads log_bytes)) (sym told.1)
    (told.2 (heads-held read heads log_bytes data_bytes reads front))

-- the header says the same, and the checkpoints are as they were
head-unopened : (opened : Reading) (log_bytes data_bytes image : List ℕ) → IsOrderly log_bytes data_bytes opened
    → KeepsHead log_bytes image → IsUnopened opened.shape opened.number opened.ckpt image
head-unopened opened log_bytes data_bytes image orderly keeps =
    let newest : newest_checkpoint (found_layout opened) image ≡ Some (opened.number, opened.ckpt) =
    same-newest (found_layout opened) log_bytes image
    (keeps.others 1 (λ same. omega arith) (λ same. omega arith))
    (keeps.others 3 (λ same. omega arith) (λ same. omega arith)) ∙ orderly.reads.scan.checkpoint in
    record {
      format = opened.format;
      head = keeps.head ∙ orderly.reads.scan.devices.head.head;
      still = still-found opened.format opened.shape opened.number opened.ckpt image newest;
    }

pub failed-keeps : (opened read : Reading) (heads : List ℕ) (log data_told log_read data_read : Option Disk)
    (old new data_mid : Seen) (error : DevError)
    → AreSynced read heads log log_read old.tells data_told data_read data_mid.tells
    → AlikeStep read.format read.shape heads old (Err error) new
    → WhereBothTell log data_told (λ l d. IsOrderly l.reads d.reads opened
    → WhereBothTell new.tells data_mid.tells (KeepsOpened opened))
failed-keeps opened read heads None data_told log_read data_read old new data_mid error is step = tt
failed-keeps opened read heads (Some l) None log_read data_read old new data_mid error is step = tt
failed-keeps opened read heads (Some l) (Some d) log_read data_read old new data_mid error is step = λ orderly.
    both new.tells data_mid.tells (KeepsHeads l.reads) (Rewrites opened d.reads) (KeepsOpened opened)
    (λ a b keeps rewrites. kept-head_keeps opened l.reads d.reads a b orderly.reads keeps rewrites)
    (failed-heads read heads l.reads d.reads old new error is.reads is.front
    (tells-synced log_read old.tells l is.log_same is.log_synced) step)
    (synced-rewrites opened l.reads d.reads data_mid.tells orderly
    (synced-from data_read data_mid.tells d is.data_same is.data_synced))

pub failed-unmoved : (opened read : Reading) (heads : List ℕ) (log data_told log_read data_read : Option Disk)
    (old new data_mid : Seen) (error : DevError)
    → AreSynced read heads log log_read old.tells data_told data_read data_mid.tells
    → AlikeStep read.format read.shape heads old (Err error) new
    → WhereBothTell log data_told (λ l d. IsOrderly l.reads d.reads opened → IfSome new.tells (IsNotOpened opened))
failed-unmoved opened read heads None data_told log_read data_read old new data_mid error is step = tt
failed-unmoved opened read heads (Some l) None log_read data_read old new data_mid error is step = tt
failed-unmoved opened read heads (Some l) (Some d) log_read data_read old new data_mid error is step = λ orderly.
    known-as new.tells (KeepsHeads l.reads) (IsNotOpened opened)
    (λ disk keeps. head-unopened opened l.reads d.reads disk.base orderly (keeps disk.base (base-fair disk)))
    (failed-heads read heads l.reads d.reads old new error is.reads is.front
    (tells-synced log_read old.tells l is.log_same is.log_synced) step)
