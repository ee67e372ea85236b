-- One read of a device, and what it says of the two header blocks.
use Rattle.std.proofs.Common.{ℕ, ◌≡◌, ◌≤◌, ◌+◌, ◌-◌, ◌*◌, ◌&&◌, ◌↔◌, Bool, true, false, IsTrue, List, [], ◌∷◌, length, take, drop, replicate, Option, Some, None, IfSome, Result, Ok, Err, refl, sym, ap, subst, ◌∙◌, arith}
use Rattle.std.specs.Prelude.{nat_eq}
use Rattle.std.specs.Cmp.Lexicographic.{other_text, pointwise, same_text}
use Rattle.std.proofs.lemmas.Bool.{false≢true}
use Rattle.std.proofs.lemmas.List.{drop-take, length-drop, take_all, take-take}
use Rattle.model_base.specs.declared.limits.TheConstants.{BLOCK_SIZE}
use Rattle.model_device.specs.{Disk}
use Rattle.model_log.specs.{header_block}
use Rattle.model_store.specs.{IsUnused}
use Rattle.redo_disk.specs.{Answer, Call, error_of, MakesCall, MakesCalls, part, Reads, ReadsEndWith}
use Rattle.redo_disk.specs.declared.error.DevError.{DevError}
use Rattle.redo_lab.specs.Devices.{IsFirstRead}

one-read : (at : ℕ) (before after : List ℕ) (answer : Answer) → ReadsEndWith (error_of answer) (Reads at before answer after ∷ [])
one-read at before after (Ok done) = record { reads = (tt, tt); ends = refl }
one-read at before after (Err error) = record { reads = (tt, tt); ends = refl }

pub read-block : {D : Type 0} {gives : D → Call → D → Type 0} {old new : D} {at : ℕ} {before after : List ℕ} {answer : Answer} (result : Result Bool DevError)
    → MakesCall gives old (Reads at before answer after) new → error_of answer ≡ error_of result
    → MakesCalls gives old new (IsFirstRead (error_of result))
read-block {new = new} {at = at} {before = before} {after = after} {answer = answer} result call same = record {
  calls = Reads at before answer after ∷ [];
  made = (new, call, refl);
  are = record {
    reads = subst (λ (error : Option DevError). ReadsEndWith error (Reads at before answer after ∷ [])) same (one-read at before after answer);
    one = refl;
  };
}

-- what a test of two texts tells
text-told : (is : Bool) (text asked : List ℕ) → is ≡ pointwise nat_eq text asked → IsTrue is ↔ text ≡ asked
text-told true text asked told = (λ yes. same_text text asked told, λ same. refl)
text-told false text asked told = (λ yes. absurd (false≢true yes), λ same. absurd (other_text text asked told same))

pub is-text : (is : Bool) (text asked wanted : List ℕ) → asked ≡ wanted → is ≡ pointwise nat_eq text asked → IsTrue is ↔ text ≡ wanted
is-text is text asked wanted same told = subst (λ (t : List ℕ). IsTrue is ↔ text ≡ t) same (text-told is text asked told)

-- THE HEADER BLOCKS, which are the first and the third of three.

last-of-three : (blocks : List ℕ) → length blocks ≡ BLOCK_SIZE * 3 → header_block 2 blocks ≡ drop (BLOCK_SIZE * 2) blocks
last-of-three blocks whole = take_all BLOCK_SIZE (drop (BLOCK_SIZE * 2) blocks) (omega (arith, length-drop (BLOCK_SIZE * 2) blocks))

pub are-blank : (first second : Bool) (blocks : List ℕ) → length blocks ≡ BLOCK_SIZE * 3 → IsTrue first ↔ take BLOCK_SIZE blocks ≡ replicate BLOCK_SIZE 0
    → IsTrue second ↔ drop (BLOCK_SIZE * 2) blocks ≡ replicate BLOCK_SIZE 0 → IsTrue (first && second) ↔ IsUnused blocks
are-blank true second blocks whole first_is second_is = (
  λ yes. record { first = first_is.0 refl; second = last-of-three blocks whole ∙ second_is.0 yes },
  λ unused. second_is.1 (sym (last-of-three blocks whole) ∙ unused.second),
)
are-blank false second blocks whole first_is second_is = (λ yes. absurd (false≢true yes), λ unused. absurd (false≢true (first_is.1 unused.first)))

block-front : (k : ℕ) (bytes : List ℕ) → BLOCK_SIZE * k + BLOCK_SIZE ≤ BLOCK_SIZE * 3 → header_block k (part bytes 0 (BLOCK_SIZE * 3)) ≡ header_block k bytes
block-front k bytes within =
    let rest : BLOCK_SIZE * 3 ≡ BLOCK_SIZE * k + (BLOCK_SIZE * 3 - BLOCK_SIZE * k) = omega arith in
    ap (λ n. take BLOCK_SIZE (drop (BLOCK_SIZE * k) (take n bytes))) rest
    ∙ ap (take BLOCK_SIZE) (drop-take (BLOCK_SIZE * k) (BLOCK_SIZE * 3 - BLOCK_SIZE * k) bytes)
    ∙ take-take BLOCK_SIZE (BLOCK_SIZE * 3 - BLOCK_SIZE * k) (drop (BLOCK_SIZE * k) bytes) (omega arith)

-- what they say of the device, where that tells
pub is-unused : (told : Option Disk) (is : Bool) (blocks : List ℕ) → IfSome told (λ disk. blocks ≡ part disk.reads 0 (BLOCK_SIZE * 3))
    → IsTrue is ↔ IsUnused blocks → IfSome told (λ disk. IsTrue is ↔ IsUnused disk.reads)
is-unused None is blocks read blank = tt
is-unused (Some disk) is blocks read blank =
    let first : header_block 0 blocks ≡ header_block 0 disk.reads = ap (header_block 0) read ∙ block-front 0 disk.reads (omega arith) in
    let second : header_block 2 blocks ≡ header_block 2 disk.reads = ap (header_block 2) read ∙ block-front 2 disk.reads (omega arith) in (
      λ yes. record { first = sym first ∙ (blank.0 yes).first; second = sym second ∙ (blank.0 yes).second },
      λ unused. blank.1 (record { first = first ∙ unused.first; second = second ∙ unused.second }),
    )
