-- A data device gets the slots and places of a run, step by step.
use Rattle.std.proofs.Common.{◌≡◌, ◌≤◌, ◌<◌, ◌+◌, ◌*◌, ◌%◌, ℕ, inl, inr, List, [], ◌∷◌, length, replicate, refl, sym, ap, subst, ◌∙◌, ⊎_elim, arith}
use Rattle.std.specs.List.{slice_index_or as get_or}
use Rattle.std.specs.Prelude.{IfSome, Result, Some, Ok, Err}
use Rattle.std.proofs.lemmas.Option.{slice_get-get_or}
use Rattle.std.proofs.Math.Nat.{mul-le-mul_right}
use Rattle.std.proofs.lemmas.Bool.{cases_lt}
use Rattle.model_base.proofs.ShapeLimits.{run_within, whole_sectors}
use Rattle.model_base.specs.{IsWithinLimits, run_shape}
use Rattle.model_base.specs.declared.shape.Shape.{Shape}
use Rattle.model_device.specs.{Covers, FailsWrite, IsCovered, sector, settled, synced, written, Disk}
use Rattle.model_device.specs.declared.write.Write.{Write}
use Rattle.model_device.proofs.Overwritten.{length-overwritten}
use Rattle.model_page.specs.{blank_page, data_device_length, IsInPlace, page_check, place_bytes, place_lsn_by, stretch_at, user_part}
use Rattle.model_page.specs.declared.content.Content.{Content}
use Rattle.model_parts.specs.{KeepsStretches, place_at}
use Rattle.model_parts.proofs.Kept.{same-place}
use Rattle.model_parts.proofs.Rows.{row-sector, row_ends}
use Rattle.model_parts.proofs.Stretches.{piece, pieces-apart, pieces-has, stretch-piece}
use Rattle.model_parts.proofs.Writes.{HasSizes, sizes-from, stretch-apart, stretch-ends, stretch-put}
use Rattle.redo_disk.specs.{HasCause, HasSize, OnTold, SyncStep, write_at, Seen}
use Rattle.redo_disk.specs.declared.error.DevError.{DevError}
use Rattle.redo_disk.proofs.Told.{OnTold-then, OnTold-weaker, told-as, told-same}
use Rattle.redo_open.specs.Enlarge.{EnlargeStep, HasEnlarged, IsPlaceText, KeepsOld, WritesPlace}
use Rattle.redo_open.specs.Erase.{Erases, HasErased, Reaches}
use Rattle.redo_open.specs.Mend.{IsSettledData}
use Rattle.redo_open.proofs.Erases.{covered-fails, covered-push}
use Rattle.redo_open.proofs.Pieces.{same-piece, zeros-piece}
use Rattle.redo_open.proofs.Rests.{reads-settled, settled-image}
use Rattle.redo_open.proofs.Rows.{length-zeros}
use Rattle.redo_open.proofs.Told.{cause-since}
use Rattle.redo_open.proofs.Writings.{PageRead}

-- where the old slots and places end
abbrev pub old_end : Shape → ℕ
old_end shape = (shape.slots + shape.pages) * shape.page_size

-- the pages that go into the places
abbrev pub page_of : Shape → List Content → ℕ → Content
page_of shape pages p = get_or pages p (blank_page shape)

-- WHAT STOOD THERE is as it was, and writes cover what is behind it, and nothing else.

pub record Grows (shape : Shape) (old new : Disk) : Type 0 where
  pub base : new.base ≡ old.base
  pub covered : (k : ℕ) → IsCovered new.writes k → old_end shape ≤ 512 * k

pub grows-keeps : (shape : Shape) (old new : Disk) → IsWithinLimits shape → Grows shape old new
    → KeepsOld shape old.base new
grows-keeps shape old new limits is image possible =
    let same : length image ≡ length old.base = possible.same_length ∙ ap length is.base in
    let size : ℕ = shape.page_size in
    record {
      same_length = same;
      each = λ n below. stretch-piece shape n image
          ∙ same-piece size (n * size) image old.base same (row-sector n size (whole_sectors shape limits).sectors)
          (λ k from up_to inside. ⊎_elim (λ base. base ∙ ap (sector k) is.base)
          (λ covered. absurd
          (omega (arith, is.covered k covered, row_ends n (shape.slots + shape.pages) size below, from, up_to)))
          (possible.each k (omega (arith, ap length is.base))))
          ∙ sym (stretch-piece shape n old.base);
    }

-- nothing was pending
none-covered : (disk : Disk) (k : ℕ) → disk ≡ settled disk.base → IsCovered disk.writes k → ⊥
none-covered disk k nothing is = subst (λ (ws : List Write). IsCovered ws k) (ap (λ (d : Disk). d.writes) nothing) is

pub erases-grows : (shape : Shape) (end : ℕ) (old new : Disk) → old ≡ settled old.base
    → Erases (old_end shape) end old new → Grows shape old new
erases-grows shape end old new nothing is = record {
  base = is.base;
  covered = λ k now. ⊎_elim (λ was. absurd (none-covered old k nothing was)) (λ inside. inside.low) (is.covered k now);
}

-- HOW FAR IT HAS COME: the new slots are zeros, and so many pages are in their places.

pub record IsGrown (shape : Shape) (pages : List Content) (count : ℕ) (old new : Disk) : Type 0 where
  pub grows : Grows shape old new
  pub same_length : length new.reads ≡ length old.base
  pub front : (n : ℕ) → n < shape.slots + shape.pages → stretch_at shape n new.reads ≡ stretch_at shape n old.base
  pub slots : (slot : ℕ) → shape.slots + shape.pages ≤ slot → slot < (run_shape shape).slots
      → stretch_at shape slot new.reads ≡ replicate shape.page_size 0
  pub places : (p : ℕ) → p < count → IsInPlace (run_shape shape) new.reads p (page_of shape pages p)

-- a sector within a stretch ends within it
sector-ends : (o size k : ℕ) → o % 512 ≡ 0 → size % 512 ≡ 0 → 512 * k < o + size → 512 * k + 512 ≤ o + size
sector-ends o size k at whole below = omega (arith, at, whole, below)

pub erased-grown : (shape : Shape) (pages : List Content) (old new : Disk) → IsWithinLimits shape
    → shape.slots + shape.pages ≤ (run_shape shape).slots
    → IsSettledData (run_shape shape) old → HasErased (old_end shape) ((run_shape shape).slots * shape.page_size) old
    new → IsGrown shape pages 0 old new
erased-grown shape pages old new limits few was is =
    let size : ℕ = shape.page_size in
    let whole : size % 512 ≡ 0 = (whole_sectors shape limits).sectors in
    let reads : old.reads ≡ old.base = reads-settled old was.nothing_pending in
    let same : length new.reads ≡ length old.base = is.erases.same_length ∙ ap length reads in
    record {
      grows = erases-grows shape ((run_shape shape).slots * size) old new was.nothing_pending is.erases;
      same_length = same;
      front = λ n below. stretch-piece shape n new.reads
          ∙ same-piece size (n * size) new.reads old.base same (row-sector n size whole)
          (λ k from up_to inside.
          is.others k
          (λ here. absurd (omega (arith, here.low, row_ends n (shape.slots + shape.pages) size below, from, up_to)))
          ∙ ap (sector k) reads)
          ∙ sym (stretch-piece shape n old.base);
      slots = λ slot low high. (
          let ends : slot * size + size ≤ (run_shape shape).slots * size = row_ends slot (run_shape shape).slots size
          high in
          let starts : old_end shape ≤ slot * size = mul-le-mul_right size low in
          let more : (run_shape shape).slots * size ≤ ((run_shape shape).slots + shape.pages) * size =
          mul-le-mul_right size (omega arith) in
          let room : (run_shape shape).slots * size ≤ length new.reads = omega (arith, same, was.long, more) in
          let zeros : List ℕ = replicate (length new.reads) 0 in
          stretch-piece shape slot new.reads
          ∙ same-piece size (slot * size) new.reads zeros (sym (length-zeros (length new.reads)))
          (row-sector slot size whole)
          (λ k from up_to inside. (
          let fits : 512 * k + 512 ≤ slot * size + size = sector-ends (slot * size) size k (row-sector slot size whole)
          whole up_to in
          is.zeros k (record { low = omega (arith, starts, from); high = omega (arith, ends, fits) })
          ∙ sym (zeros-piece 512 (512 * k) (length new.reads) (omega (arith, fits, ends, room)))))
          ∙ zeros-piece size (slot * size) (length new.reads) (omega (arith, ends, room)));
      places = λ p below. absurd (omega (arith, below));
    }

-- A PAGE IS WRITTEN.

run-sizes : (shape : Shape) (long : ℕ) → IsWithinLimits shape → data_device_length (run_shape shape) ≤ long
    → HasSizes (run_shape shape) long
run-sizes shape long limits room = sizes-from (run_shape shape) long (run_within shape limits) room

-- its write covers what is behind the old places
place-covers : (shape : Shape) (p : ℕ) (text : List ℕ) (k : ℕ) → shape.slots + shape.pages ≤ (run_shape shape).slots
    → Covers (write_at (place_at (run_shape shape) p) text) k → old_end shape ≤ 512 * k
place-covers shape p text k few covers =
    let behind : old_end shape ≤ ((run_shape shape).slots + p) * shape.page_size = mul-le-mul_right shape.page_size
    (omega (arith, few)) in
    omega (arith, behind, covers.from)

pub grows-failed : (shape : Shape) (p : ℕ) (text : List ℕ) (old mid new : Disk)
    → shape.slots + shape.pages ≤ (run_shape shape).slots → Grows shape old mid
    → FailsWrite (write_at (place_at (run_shape shape) p) text) mid new → Grows shape old new
grows-failed shape p text old mid new few is fails = record {
  base = fails.base ∙ is.base;
  covered = λ k now. ⊎_elim (λ before. is.covered k before) (λ here. place-covers shape p text k few here)
      (covered-fails (write_at (place_at (run_shape shape) p) text) mid new k fails now);
}

in-place : (shape : Shape) (image : List ℕ) (p : ℕ) (content : Content) (text : List ℕ)
    → IsPlaceText shape p content text → place_bytes shape p image ≡ text
    → IsInPlace shape image p content
in-place shape image p content text is here = record {
  passes = ap (λ bytes. place_lsn_by shape p (page_check bytes)) here ∙ is.passes;
  user = is.user ∙ ap user_part (sym here);
}

pub grown-more : (shape : Shape) (pages : List Content) (p : ℕ) (content : Content) (text : List ℕ) (old mid : Disk)
    → IsWithinLimits shape
    → shape.slots + shape.pages ≤ (run_shape shape).slots → IsSettledData (run_shape shape) old → p < shape.pages
    → content ≡ page_of shape pages p
    → IsPlaceText (run_shape shape) p content text → IsGrown shape pages p old mid
    → IsGrown shape pages (p + 1) old (written mid (write_at (place_at (run_shape shape) p) text))
grown-more shape pages p content text old mid limits few was below content_is text_is is =
    let run : Shape = run_shape shape in
    let size : ℕ = shape.page_size in
    let n : ℕ = run.slots + p in
    let write : Write = write_at (place_at run p) text in
    let after : List ℕ = (written mid write).reads in
    let long : ℕ = length mid.reads in
    let sizes : HasSizes run long = run-sizes shape long limits (omega (arith, was.long, is.same_length)) in
    let inside : n < run.slots + run.pages = omega (arith, below) in
    let ends : n * size + size ≤ long = stretch-ends run n long sizes inside in
    let other : (m : ℕ) → (n ≡ m → ⊥) → piece size (m * size) after ≡ piece size (m * size) mid.reads = λ m apart.
    pieces-apart size (m * size) mid.reads (write ∷ []) long refl
    (stretch-apart run long m n text sizes inside text_is.long apart, tt) in
    let same : (m : ℕ) → (n ≡ m → ⊥) → stretch_at shape m after ≡ stretch_at shape m mid.reads = λ m apart.
    stretch-piece shape m after ∙ other m apart ∙ sym (stretch-piece shape m mid.reads) in
    let here : place_bytes run p after ≡ text =
    stretch-piece run n after
    ∙ pieces-has size (n * size) mid.reads text (write ∷ []) long refl
    (inr (stretch-put run long n text sizes inside text_is.long), tt)
    (inl (inl (stretch-put run long n text sizes inside text_is.long))) in
    record {
      grows = record {
        base = is.grows.base;
        covered = λ k now. ⊎_elim (λ before. is.grows.covered k before) (λ there. place-covers shape p text k few there)
            (covered-push mid.writes write k now);
      };
      same_length = length-overwritten (place_at run p) text mid.reads (omega (arith, text_is.long, ends))
          ∙ is.same_length;
      front = λ m low. same m (λ equal. absurd (omega (arith, equal, low, few))) ∙ is.front m low;
      slots = λ slot low high. same slot (λ equal. absurd (omega (arith, equal, high))) ∙ is.slots slot low high;
      places = λ q up_to. ⊎_elim
          (λ before. same-place run mid.reads after q (page_of shape pages q)
          (stretch-piece run (run.slots + q) after
          ∙ other (run.slots + q) (λ equal. absurd (omega (arith, equal, before)))
          ∙ sym (stretch-piece run (run.slots + q) mid.reads)) (is.places q before))
          (λ not_before. (
          let equal : p ≡ q = omega (arith, not_before, up_to) in
          subst (λ (r : ℕ). IsInPlace run after r (page_of shape pages r)) equal
          (subst (IsInPlace run after p) content_is (in-place run after p content text text_is here))))
          (cases_lt q p);
    }

-- ALL OF THEM, for good.

pub grown-enlarged : (shape : Shape) (pages : List Content) (count : ℕ) (old mid : Disk)
    → IsSettledData (run_shape shape) old → count ≡ shape.pages
    → IsGrown shape pages count old mid → HasEnlarged shape pages old.base (synced mid)
grown-enlarged shape pages count old mid was all is = record {
  nothing_pending = refl;
  long = omega (arith, was.long, is.same_length);
  enlarged = record {
    keeps = record { same_length = is.same_length; each = is.front };
    slots = is.slots;
    places = λ p below. is.places p (omega (arith, below, all));
  };
}

-- THE STEPS, on a device that is as long as it says.

abbrev pub Grown : Shape → List Content → ℕ → Disk → Disk → Type 0
Grown shape pages count before after = IsSettledData (run_shape shape) before → IsGrown shape pages count before after

abbrev KeepsSo : Shape → Disk → Disk → Type 0
KeepsSo shape before after = before ≡ settled before.base → KeepsOld shape before.base after

settled-room : (shape : Shape) (size : ℕ) (disk : Disk) → data_device_length (run_shape shape) ≤ size
    → HasSize size disk → disk ≡ settled disk.base
    → IsSettledData (run_shape shape) disk
settled-room shape size disk room sized nothing =
    record { nothing_pending = nothing; long = omega (arith, room, sized.base) }

keeps-so : (shape : Shape) (old new : Seen) → IsWithinLimits shape → IfSome old.tells (HasSize old.size)
    → data_device_length (run_shape shape) ≤ old.size
    → OnTold old.tells new.tells (λ before after. IsSettledData (run_shape shape) before → Grows shape before after)
    → OnTold old.tells new.tells (KeepsSo shape)
keeps-so shape old new limits sized room told =
    OnTold-weaker old.tells new.tells (HasSize old.size) (λ before after. IsSettledData (run_shape shape) before
    → Grows shape before after) (KeepsSo shape)
    (λ a b known grows nothing. grows-keeps shape a b limits (grows (settled-room shape old.size a room known nothing)))
    sized told

reaches-room : (shape : Shape) (end : ℕ) (disk : Disk) → end ≤ data_device_length (run_shape shape)
    → IsSettledData (run_shape shape) disk → Reaches end disk
reaches-room shape end disk within is = record {
  base = omega (arith, within, is.long);
  reads = omega (arith, within, is.long, ap length (reads-settled disk is.nothing_pending));
}

-- the end of the slots
pub slots-within : (shape : Shape) → (run_shape shape).slots * shape.page_size ≤ data_device_length (run_shape shape)
slots-within shape = mul-le-mul_right shape.page_size (omega arith)

pub erase-fails : (shape : Shape) (pages : List Content) (from end : ℕ) (old : Seen) (error : DevError) (new : Seen)
    → IsWithinLimits shape → from ≡ old_end shape
    → end ≡ (run_shape shape).slots * shape.page_size → IfSome old.tells (HasSize old.size)
    → data_device_length (run_shape shape) ≤ old.size
    → OnTold old.tells new.tells (λ before after. Reaches end before → Erases from end before after)
    → new.size ≡ old.size
    → HasCause {T = Unit {0}} old.faults new.faults (Err error) → EnlargeStep shape pages old (Err error) new
erase-fails shape pages from end old error new limits from_is end_is sized room told size cause = record {
  keeps = keeps-so shape old new limits sized room
      (told-as old.tells new.tells (λ before after. Reaches end before → Erases from end before after)
      (λ before after. IsSettledData (run_shape shape) before → Grows shape before after)
      (λ a b erases was. erases-grows shape end a b was.nothing_pending
      (subst (λ n. Erases n end a b) from_is
      (erases (reaches-room shape end a (omega (arith, end_is, slots-within shape)) was)))) told);
  ok = tt;
  size = size;
  cause = cause;
}

pub erase-grown : (shape : Shape) (pages : List Content) (from end : ℕ) (old new : Seen) → IsWithinLimits shape
    → shape.slots + shape.pages ≤ (run_shape shape).slots
    → from ≡ old_end shape → end ≡ (run_shape shape).slots * shape.page_size
    → OnTold old.tells new.tells (λ before after. Reaches end before → HasErased from end before after)
    → OnTold old.tells new.tells (Grown shape pages 0)
erase-grown shape pages from end old new limits few from_is end_is =
    told-as old.tells new.tells (λ before after. Reaches end before → HasErased from end before after)
    (Grown shape pages 0)
    (λ a b erased was. erased-grown shape pages a b limits few was
    (subst (λ n. HasErased n ((run_shape shape).slots * shape.page_size) a b) from_is
    (subst (λ n. HasErased from n a b) end_is
    (erased (reaches-room shape end a (omega (arith, end_is, slots-within shape)) was)))))

pub place-grown : (shape : Shape) (pages : List Content) (p : ℕ) (content : Content) (old mid : Seen) (done : Unit {0})
    (new : Seen) → IsWithinLimits shape
    → shape.slots + shape.pages ≤ (run_shape shape).slots → p < shape.pages → content ≡ page_of shape pages p
    → OnTold old.tells mid.tells (Grown shape pages p)
    → WritesPlace (run_shape shape) p content mid (Ok done) new → OnTold old.tells new.tells (Grown shape pages (p + 1))
place-grown shape pages p content old mid done new limits few below content_is told place =
    let write : Write = write_at (place_at (run_shape shape) p) place.text in
    OnTold-then old.tells mid.tells new.tells (Grown shape pages p)
    (λ (before after : Disk). after ≡ written before write) (Grown shape pages (p + 1))
    (λ a b d so_far is was. subst (IsGrown shape pages (p + 1) a) (sym is)
    (grown-more shape pages p content place.text a b limits few was below content_is place.is_text (so_far was))) told
    place.step.ok

pub place-fails : (shape : Shape) (pages : List Content) (p : ℕ) (content : Content) (old mid : Seen) (error : DevError)
    (new : Seen) → IsWithinLimits shape
    → shape.slots + shape.pages ≤ (run_shape shape).slots → IfSome old.tells (HasSize old.size)
    → data_device_length (run_shape shape) ≤ old.size
    → OnTold old.tells mid.tells (Grown shape pages p) → mid.size ≡ old.size → old.faults ≤ mid.faults
    → WritesPlace (run_shape shape) p content mid (Err error) new → EnlargeStep shape pages old (Err error) new
place-fails shape pages p content old mid error new limits few sized room told size later place =
    let write : Write = write_at (place_at (run_shape shape) p) place.text in
    record {
      keeps = keeps-so shape old new limits sized room
          (OnTold-then old.tells mid.tells new.tells (Grown shape pages p) (FailsWrite write)
          (λ before after. IsSettledData (run_shape shape) before → Grows shape before after)
          (λ a b d so_far fails was. grows-failed shape p place.text a b d few (so_far was).grows fails) told
          place.step.err);
      ok = tt;
      size = place.step.size ∙ size;
      cause = cause-since old.faults mid.faults new.faults (Err error) later place.step.cause;
    }

enlarged-keeps : (shape : Shape) (pages : List Content) (old disk : Disk) → HasEnlarged shape pages old.base disk
    → KeepsOld shape old.base disk
enlarged-keeps shape pages old disk has image is =
    subst (KeepsStretches shape old.base) (sym (settled-image disk image has.nothing_pending is)) has.enlarged.keeps

pub sync-ends : (shape : Shape) (pages : List Content) (count : ℕ) (old mid : Seen)
    (result : Result (Unit {0}) DevError) (new : Seen) → IsWithinLimits shape
    → count ≡ shape.pages → IfSome old.tells (HasSize old.size) → data_device_length (run_shape shape) ≤ old.size
    → OnTold old.tells mid.tells (Grown shape pages count)
    → mid.size ≡ old.size → old.faults ≤ mid.faults → SyncStep mid result new → EnlargeStep shape pages old result new
sync-ends shape pages count old mid (Ok done) new limits all sized room told size later step =
    let Enlarged : Disk → Disk → Type 0 = λ before after. before ≡ settled before.base
    → HasEnlarged shape pages before.base after in
    let enlarged : OnTold old.tells new.tells Enlarged =
    OnTold-weaker old.tells new.tells (HasSize old.size) (λ before after. IsSettledData (run_shape shape) before
    → HasEnlarged shape pages before.base after) Enlarged
    (λ a b known has nothing. has (settled-room shape old.size a room known nothing)) sized
    (OnTold-then old.tells mid.tells new.tells (Grown shape pages count)
    (λ (before after : Disk). after ≡ synced before)
    (λ before after. IsSettledData (run_shape shape) before → HasEnlarged shape pages before.base after)
    (λ a b d so_far is was. subst (HasEnlarged shape pages a.base) (sym is)
    (grown-enlarged shape pages count a b was all (so_far was))) told step.ok) in
    record {
      keeps = told-as old.tells new.tells Enlarged (KeepsSo shape)
          (λ a b has nothing. enlarged-keeps shape pages a b (has nothing)) enlarged;
      ok = enlarged;
      size = step.size ∙ size;
      cause = cause-since old.faults mid.faults new.faults (Ok done) later step.cause;
    }
sync-ends shape pages count old mid (Err error) new limits all sized room told size later step = record {
  keeps = keeps-so shape old new limits sized room
      (OnTold-then old.tells mid.tells new.tells (Grown shape pages count) (λ (before after : Disk). after ≡ before)
      (λ before after. IsSettledData (run_shape shape) before → Grows shape before after)
      (λ a b d so_far same was. subst (Grows shape a) (sym same) (so_far was).grows) told
      (told-same mid.tells new.tells (λ (before after : Disk). after ≡ before) (λ disk. refl) step.err));
  ok = tt;
  size = step.size ∙ size;
  cause = cause-since old.faults mid.faults new.faults (Err error) later step.cause;
}

-- the page as it was read is what goes there
pub page-content : (shape : Shape) (pages : List Content) (p lsn : ℕ) (user : List ℕ) → PageRead shape pages p lsn user
    → p < length pages
    → (record { lsn = lsn; user = user }) ≡ page_of shape pages p
page-content shape pages p lsn user read below =
    let same : Some read.content ≡ Some (page_of shape pages p) = sym read.at ∙ slice_get-get_or pages p
    (blank_page shape) below in
    let one : read.content ≡ page_of shape pages p = cc in
    ap (λ n. (let c : Content = record { lsn = n; user = user } in c)) read.same_lsn
    ∙ ap (λ u. (let c : Content = record { lsn = read.content.lsn; user = u } in c)) read.same_user ∙ one
