-- What the texts of a batch in the buffer make of the calls.
use Rattle.std.proofs.Common.{◌≡◌, ◌≤◌, ◌<◌, ◌++◌, IfSome, arith, ℕ, Bool, false, List, length, Option, None, is_some, sym, ap, subst, ◌∙◌, get_or}
use Rattle.model_base.specs.{IsWithinLimits}
use Rattle.model_base.specs.declared.shape.Shape.{Shape}
use Rattle.model_page.specs.declared.content.Content.{Content}
use Rattle.model_device.specs.{Disk}
use Rattle.model_device.specs.declared.write.Write.{Write}
use Rattle.model_parts.specs.{after_both, batch_of, batch_text, FailsBoth, Fresh, IsBatch, IsUpTo, IsWritable, place_writes, slots_write}
use Rattle.model_parts.specs.Stored.{Stored}
use Rattle.model_parts.proofs.Joined.{batch-from}
use Rattle.model_page.specs.{data_device_length}
use Rattle.redo_disk.proofs.Told.{known-both}
use Rattle.redo_disk.specs.{Call, HasSize, MakesCalls, put_requests, Serve, write_at}
use Rattle.redo_disk.specs.declared.error.DevError.{DevError}
use Rattle.redo_store.specs.Places.{text_writes}
use Rattle.redo_store.specs.Part.{all_put, batch_requests}
use Rattle.redo_store.proofs.TextWrites.{text_writes-batch}

-- the pairs and the user bytes make a batch
pub fresh-batch : (shape : Shape) (pairs : List (ℕ × ℕ)) (users : List ℕ) → IsWritable shape pairs users
    → ((j : ℕ) → get_or users j 0 < 256)
    → IsBatch shape (batch_of shape pairs users)
fresh-batch shape pairs users writable bytes = batch-from shape pairs users writable bytes

-- the texts in the buffer are those of the batch
pub record AreTexts (shape : Shape) (pairs : List (ℕ × ℕ)) (users texts : List ℕ) : Type 0 where
  pub slots : (let w : Write = write_at 0 texts in w) ≡ slots_write shape (batch_of shape pairs users)
  pub places : text_writes shape pairs texts ≡ place_writes shape (batch_of shape pairs users)

pub texts-from : (shape : Shape) (pairs : List (ℕ × ℕ)) (users texts : List ℕ) → IsWithinLimits shape → IsWritable shape pairs users → ((j : ℕ) → get_or users j 0 < 256)
    → texts ≡ batch_text shape (batch_of shape pairs users) → AreTexts shape pairs users texts
texts-from shape pairs users texts limits writable bytes same =
    record {
      slots = ap (write_at 0) same;
      places = ap (text_writes shape pairs) same ∙ text_writes-batch shape pairs users limits.page_size (fresh-batch shape pairs users writable bytes).each;
    }

pub both-is : (shape : Shape) (pairs : List (ℕ × ℕ)) (users texts : List ℕ) (old new : Disk) → AreTexts shape pairs users texts → new ≡ after_both (write_at 0 texts) (text_writes shape pairs texts) old
    → new ≡ after_both (slots_write shape (batch_of shape pairs users)) (place_writes shape (batch_of shape pairs users)) old
both-is shape pairs users texts old new are done =
    done ∙ ap (λ (w : Write). after_both w (text_writes shape pairs texts) old) are.slots ∙ ap (λ (ws : List Write). after_both (slots_write shape (batch_of shape pairs users)) ws old) are.places

pub fails-is : (shape : Shape) (pairs : List (ℕ × ℕ)) (users texts : List ℕ) (old new : Disk) → AreTexts shape pairs users texts → FailsBoth (write_at 0 texts) (text_writes shape pairs texts) old new
    → FailsBoth (slots_write shape (batch_of shape pairs users)) (place_writes shape (batch_of shape pairs users)) old new
fails-is shape pairs users texts old new are fails =
    subst (λ (ws : List Write). FailsBoth (slots_write shape (batch_of shape pairs users)) ws old new) are.places (subst (λ (w : Write). FailsBoth w (text_writes shape pairs texts) old new) are.slots fails)

pub live-stored : (shape : Shape) (top was : ℕ → Content) (batch : List Fresh) (failed : Option DevError) (disk : Disk) → failed ≡ None
    → Stored shape (IsUpTo top) was batch (is_some failed) disk → Stored shape (IsUpTo top) was batch false disk
live-stored shape top was batch failed disk live stored = subst (λ (b : Bool). Stored shape (IsUpTo top) was batch b disk) (ap (λ (f : Option DevError). is_some f) live) stored

pub back-stored : (shape : Shape) (top was : ℕ → Content) (batch : List Fresh) (failed : Option DevError) (disk : Disk) → failed ≡ None
    → Stored shape (IsUpTo top) was batch false disk → Stored shape (IsUpTo top) was batch (is_some failed) disk
back-stored shape top was batch failed disk live stored = subst (λ (b : Bool). Stored shape (IsUpTo top) was batch b disk) (sym (ap (λ (f : Option DevError). is_some f) live)) stored

-- the calls that are made of the texts are those of the batch
pub both-asked : {D : Type 0} (gives : D → Call → D → Type 0) (old new : D) (shape : Shape) (pairs : List (ℕ × ℕ)) (users texts : List ℕ) (error : Option DevError) → AreTexts shape pairs users texts
    → MakesCalls gives old new (Serve (put_requests (write_at 0 texts) ++ all_put (text_writes shape pairs texts)) error)
    → MakesCalls gives old new (Serve (batch_requests shape (batch_of shape pairs users)) error)
both-asked gives old new shape pairs users texts error are made =
    subst (λ (ws : List Write). MakesCalls gives old new (Serve (put_requests (slots_write shape (batch_of shape pairs users)) ++ all_put ws) error)) are.places
    (subst (λ (w : Write). MakesCalls gives old new (Serve (put_requests w ++ all_put (text_writes shape pairs texts)) error)) are.slots made)

-- what is known of a device that is as long as a store asks
pub long-known : (told : Option Disk) (shape : Shape) (size : ℕ) (P : Disk → Type 0) → data_device_length shape ≤ size → IfSome told (HasSize size) → IfSome told P
    → IfSome told (λ (disk : Disk). (data_device_length shape ≤ length disk.base) × P disk)
long-known told shape size P enough sized known =
    known-both told (HasSize size) P (λ (disk : Disk). (data_device_length shape ≤ length disk.base) × P disk) (λ disk s is. (omega (arith, s.base, enough), is)) sized known
