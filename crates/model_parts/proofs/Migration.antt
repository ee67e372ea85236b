-- A store of format 1 is taken to format 2: at each moment its log is read as empty from one lsn on, by the format that its
-- header gives.
use Rattle.std.proofs.Common.{◌≡◌, ◌≢◌, ◌≤◌, ◌<◌, ◌+◌, ◌*◌, ◌⊎◌, ℕ, inl, inr, Bool, true, false, cond, List, length, Option, Some, None, refl, sym, ap, subst, ◌∙◌, ⊎_elim, arith}
use Rattle.model_base.specs.declared.shape.Shape.{Shape}
use Rattle.model_base.specs.declared.limits.TheConstants.{MIN_LOG_BLOCKS}
use Rattle.model_base.specs.{IsWithinLimits}
use Rattle.model_device.specs.{sector, settled}
use Rattle.model_log.specs.declared.head.Format.{Format}
use Rattle.model_log.specs.declared.head.Format.TheVariants.{One, Two, Three}
use Rattle.model_log.specs.declared.head.Head.{Head}
use Rattle.model_log.specs.declared.head.Head.TheVariants.{Good, Unformatted}
use Rattle.model_log.specs.declared.layout.Layout.{Layout}
use Rattle.model_log.specs.{checkpoint_text, fits_checksum, head_of, head_text, IsLayout, IsTailPlace, layout_of, log_block, log_device_length, newest_checkpoint, place_in, place_of, read_checkpoint, read_head, ring_start, round_of, run_layout, sector_of, run_format}
use Rattle.model_log.proofs.CheckpointRound.{checkpoint-reads_back}
use Rattle.model_log.proofs.HeadRound.{head-reads_back}
use Rattle.model_log.proofs.Layouts.{has-blocks, is_layout_of}
use Rattle.model_log.proofs.Places.{place-within, sector-place}
use Rattle.model_log.proofs.Formats.{of_run, run_format-sizes}
use Rattle.model_store.specs.{AreFoundIn, IsOrderly, read_full, read_tail, taken, Reading}
use Rattle.model_store.specs.declared.tail.Tail.{Tail}
use Rattle.model_store.proofs.Taking.{taken-none_one, taken-none_two, taken-same_one}
use Rattle.model_parts.specs.Changes.{IsErased, IsErasing, IsPut, IsPutting, IsUnsealed}
use Rattle.model_parts.specs.Cleared.{IsCleared}
use Rattle.model_parts.specs.Held.{IsHeadPlace, other_place, IsFresh}
use Rattle.model_parts.specs.Migrating.{IsLogSector, IsMigrated, IsMigrating, IsNearlyMigrated}
use Rattle.model_parts.specs.Opened.{found_layout, numbers_taken, ReadsOpened, start_block, start_of}
use Rattle.model_parts.specs.Rewritten.{IsRewritten}
use Rattle.model_parts.proofs.Clearing.{block-sector, goes, ring-from, stays}
use Rattle.model_parts.proofs.Fresh.{cleared-found, marked-heads, marked-next, OthersStay, places-apart}
use Rattle.model_parts.proofs.Newest.{at-one, checkpoint-place, IsAt, IsOldOrAt, newest-at, next-other, other-format, other-next, up-to_newest}
use Rattle.model_parts.proofs.Reread.{has-next, HasNext, IsFoundAgain, IsLogRead, IsNextFound, log-read, next-reads}
use Rattle.model_parts.proofs.Unread.{unsealed-checkpoint, unsealed-full, unsealed-head, unsealed-tail, unsealed-unread}

-- THE LOG BLOCKS, in each format, are those after the header blocks.

ring-count : (format : Format) (shape : Shape) → MIN_LOG_BLOCKS ≤ shape.log_blocks → (layout_of format shape).first + (layout_of format shape).blocks ≡ 4 + shape.log_blocks
ring-count One shape many = omega arith
ring-count Two shape many = omega arith
ring-count Three shape many = omega arith

pub log-sector : (format : Format) (shape : Shape) (b : ℕ) → IsWithinLimits shape → IsLogSector shape (sector_of (layout_of format shape) b)
log-sector format shape b limits =
    let layout : Layout = layout_of format shape in
    let is_layout : IsLayout layout = is_layout_of format shape limits.many_blocks limits.few_blocks in
    let count : layout.first + layout.blocks ≡ 4 + shape.log_blocks = ring-count format shape limits.many_blocks in
    let within : place_in layout b + 512 ≤ ring_start layout + round_of layout = place-within layout b (has-blocks layout is_layout) in
    let place : 512 * sector_of layout b ≡ place_in layout b = sector-place layout b in
    let from : layout.first ≤ sector_of layout b = ring-from layout b in
    record { from = omega (arith, is_layout.after_header); below = omega arith }

header-not_log : (shape : Shape) (k : ℕ) → k < 4 → IsLogSector shape k → ⊥
header-not_log shape k below is = omega (arith, is.from)

-- nothing is read of the log blocks
abbrev AreGone : Shape → List ℕ → Type 0
AreGone shape image = (k : ℕ) → IsLogSector shape k → IsUnsealed (sector k image)

-- and so it is while a header block is written
put-gone : (shape : Shape) (k : ℕ) (old new : List ℕ) → k < 4 → OthersStay k old new → AreGone shape old → AreGone shape new
put-gone shape k old new below others gone j is = ap fits_checksum (others j (λ same. omega (arith, is.from))) ∙ gone j is

-- WHAT OPENING BY FORMAT 1 LEFT: a checkpoint at the lsn, no newer one beside it, and no block there.
pub record IsMarkedLog (opened : Reading) (image : List ℕ) : Type 0 where
  pub limits : IsWithinLimits opened.shape
  pub is_layout : IsLayout (found_layout opened)
  pub next : HasNext opened
  pub long : log_device_length opened.shape ≤ length image
  pub own : sector (place_of (opened.number + 1)) image ≡ checkpoint_text (opened.number + 1) (start_block opened) (found_layout opened)
  pub older : (pair : ℕ × ℕ) → read_checkpoint (place_of opened.number) (found_layout opened) (sector (place_of opened.number) image) ≡ Some pair → pair.0 ≤ opened.number
  pub none : taken (found_layout opened) image (start_block opened) ≡ None

pub marked-log : (opened : Reading) (log_bytes data_bytes old_log marked : List ℕ) (tail : Option Tail) → IsOrderly log_bytes data_bytes opened
    → AreFoundIn (found_layout opened) log_bytes opened.ckpt opened.views tail
    → IsCleared (found_layout opened) opened.ckpt (start_of opened) tail log_bytes old_log
    → IsPut (place_of (opened.number + 1)) (checkpoint_text (opened.number + 1) (start_block opened) (found_layout opened)) old_log marked
    → IsMarkedLog opened marked
marked-log opened log_bytes data_bytes old_log marked tail orderly found cleared put =
    let layout : Layout = found_layout opened in
    let n : ℕ = opened.number in
    let log : IsLogRead log_bytes opened = log-read log_bytes data_bytes opened orderly.reads in
    let next : IsNextFound opened opened.format (n + 1) marked = marked-next opened log_bytes data_bytes old_log marked tail orderly found cleared put in
    let before : IsFoundAgain opened old_log = cleared-found opened log_bytes data_bytes old_log tail orderly.reads found cleared in
    let same : sector (place_of n) marked ≡ sector (place_of n) old_log = put.others (place_of n) (λ own. places-apart n (sym (next-other n) ∙ sym own)) in
    record {
      limits = log.limits;
      is_layout = log.log.is_layout;
      next = has-next log_bytes data_bytes opened orderly;
      long = next.long;
      own = put.at;
      older = λ pair is. up-to_newest (λ j. read_checkpoint j layout (sector j old_log)) n n opened.ckpt pair before.newest (sym (ap (read_checkpoint (place_of n) layout) same) ∙ is);
      none = next.none;
    }

-- the checkpoint of format 2 that comes next
abbrev next_text : Reading → List ℕ
next_text opened = checkpoint_text (opened.number + 2) (start_block opened) (run_layout opened.shape)

-- UNTIL BLOCK 0 IS WRITTEN its header is that of format 1.

-- the place of the next checkpoint holds an older one, or nothing that is read, or the next one
abbrev IsNextPlace : Reading → List ℕ → Type 0
IsNextPlace opened bytes =
    ((pair : ℕ × ℕ) → read_checkpoint (place_of opened.number) (found_layout opened) bytes ≡ Some pair → pair.0 ≤ opened.number)
    ⊎ IsUnsealed bytes
    ⊎ (bytes ≡ next_text opened)

record IsBeforeHead (opened : Reading) (image : List ℕ) : Type 0 where
  long : log_device_length opened.shape ≤ length image
  head : read_head (sector 0 image) ≡ Good opened.format opened.shape
  own : sector (place_of (opened.number + 1)) image ≡ checkpoint_text (opened.number + 1) (start_block opened) (found_layout opened)
  next : IsNextPlace opened (sector (place_of opened.number) image)
  none : taken (found_layout opened) image (start_block opened) ≡ None

-- a header that is good has a checksum that fits
good-other : (format : Format) (shape : Shape) → Good format shape ≡ Unformatted → ⊥
good-other format shape is = cc

first-head : (t : Bool) (first second good : Head) → (t ≡ false → first ≡ good → ⊥) → first ≡ good → cond t first second ≡ good
first-head true first second good sealed is = is
first-head false first second good sealed is = absurd (sealed refl is)

pub head-first : (image : List ℕ) (format : Format) (shape : Shape) → read_head (sector 0 image) ≡ Good format shape → head_of image ≡ Good format shape
head-first image format shape is =
    first-head (fits_checksum (sector 0 image)) (read_head (sector 0 image)) (read_head (sector 2 image)) (Good format shape)
    (λ broken good. good-other format shape (sym good ∙ unsealed-head (sector 0 image) broken)) is

none-some : (found : Option (ℕ × ℕ)) (pair : ℕ × ℕ) → found ≡ None → found ≡ Some pair → ⊥
none-some found pair none some = cc

one-pair : (found : Option (ℕ × ℕ)) (a b : ℕ × ℕ) → found ≡ Some a → found ≡ Some b → a ≡ b
one-pair found a b first second = cc

two-taken : (format : Format) → format ≡ One → numbers_taken format ≡ 2
two-taken format is = subst (λ (f : Format). numbers_taken f ≡ 2) (sym is) refl

-- so the log is read by format 1 as empty, from one of the two checkpoints on
record IsNextSome (opened : Reading) (image : List ℕ) : Type 0 where
  format : Format
  number : ℕ
  found : IsNextFound opened format number image

before-head : (opened : Reading) (marked image : List ℕ) → IsMarkedLog opened marked → opened.format ≡ One → IsBeforeHead opened image → IsNextSome opened image
before-head opened marked image log format is =
    let layout : Layout = found_layout opened in
    let n : ℕ = opened.number in
    let lsn : ℕ = start_block opened in
    let next : HasNext opened = log.next in
    let At : ℕ → Option (ℕ × ℕ) = λ k. read_checkpoint k layout (sector k image) in
    let own : At (place_of (n + 1)) ≡ Some (n + 1, lsn) =
    ap (read_checkpoint (place_of (n + 1)) layout) is.own ∙ checkpoint-reads_back (n + 1) lsn layout log.is_layout (omega (arith, next.number)) next.started next.small next.aligned in
    let k : ℕ = place_of n in
    let beside : (pair : ℕ × ℕ) → At (other_place (n + 1)) ≡ Some pair → IsOldOrAt (n + 1) (n + 2) lsn pair = λ pair there.
    let found : At k ≡ Some pair = sym (ap At (other-next n)) ∙ there in
    ⊎_elim (λ older. inl (let most : pair.0 ≤ n = older pair found in omega arith))
    (λ rest. ⊎_elim (λ broken. absurd (none-some (At k) pair (unsealed-checkpoint k layout (sector k image) broken) found))
    (λ text.
    let same : At k ≡ read_checkpoint k layout (next_text opened) = ap (read_checkpoint k layout) text in
    ⊎_elim (λ none. absurd (none-some (At k) pair (same ∙ none) found))
    (λ some. (let pair_is : pair ≡ (n + 2, lsn) = one-pair (At k) pair (n + 2, lsn) found (same ∙ some) in
    inr (ap (λ (x : ℕ × ℕ). x.1) pair_is, omega (arith, ap (λ (x : ℕ × ℕ). x.0) pair_is))))
    (other-format k (n + 2) lsn (run_layout opened.shape) layout (is_layout_of Two opened.shape log.limits.many_blocks log.limits.few_blocks) next.number next.started next.small next.aligned))
    rest) is.next in
    let at : IsAt (newest_checkpoint layout image) (n + 1) (n + 2) lsn = newest-at At (n + 1) (n + 1) (n + 2) lsn (omega arith) own beside in
    record {
      format = opened.format;
      number = at.number;
      found = record {
        long = is.long;
        head = head-first image opened.format opened.shape is.head;
        later = omega (arith, at.from);
        up_to = (let two : numbers_taken opened.format ≡ 2 = two-taken opened.format format in omega (arith, at.up_to));
        newest = at.is;
        none = is.none;
      };
    }

-- FROM THEN ON block 2 has the header of the run's format, and the log blocks are gone.

record IsPastHead (opened : Reading) (image : List ℕ) : Type 0 where
  long : log_device_length opened.shape ≤ length image
  head : head_of image ≡ Good (run_format opened.shape) opened.shape
  own : sector (place_of (opened.number + 1)) image ≡ checkpoint_text (opened.number + 1) (start_block opened) (found_layout opened)
  next : sector (place_of opened.number) image ≡ next_text opened
  gone : AreGone opened.shape image

place-two : (n : ℕ) → place_of (n + 2) ≡ place_of n
place-two n = ap place_of (let next : n + 2 ≡ (n + 1) + 1 = omega arith in next) ∙ next-other (n + 1) ∙ other-next n

past-newest : (opened : Reading) (marked image : List ℕ) → IsMarkedLog opened marked → IsPastHead opened image
    → newest_checkpoint (run_layout opened.shape) image ≡ Some (opened.number + 2, start_block opened)
past-newest opened marked image log is =
    let layout : Layout = run_layout opened.shape in
    let is_layout : IsLayout layout = is_layout_of Two opened.shape log.limits.many_blocks log.limits.few_blocks in
    let n : ℕ = opened.number in
    let lsn : ℕ = start_block opened in
    let next : HasNext opened = log.next in
    let At : ℕ → Option (ℕ × ℕ) = λ k. read_checkpoint k layout (sector k image) in
    let k : ℕ = place_of n in
    let own : At k ≡ Some (n + 2, lsn) =
    ap (read_checkpoint k layout) is.next ∙ ap (λ j. read_checkpoint j layout (next_text opened)) (sym (place-two n))
    ∙ checkpoint-reads_back (n + 2) lsn layout is_layout next.number next.started next.small next.aligned in
    let beside : (pair : ℕ × ℕ) → At (other_place n) ≡ Some pair → IsOldOrAt (n + 2) (n + 2) lsn pair = λ pair there.
    let j : ℕ = place_of (n + 1) in
    let found : At j ≡ Some pair = ap At (next-other n) ∙ there in
    let same : At j ≡ read_checkpoint j layout (checkpoint_text (n + 1) lsn (found_layout opened)) = ap (read_checkpoint j layout) is.own in
    ⊎_elim (λ none. absurd (none-some (At j) pair (same ∙ none) found))
    (λ some. (let pair_is : pair ≡ (n + 1, lsn) = one-pair (At j) pair (n + 1, lsn) found (same ∙ some) in inl (omega (arith, ap (λ (x : ℕ × ℕ). x.0) pair_is))))
    (other-format j (n + 1) lsn (found_layout opened) layout log.is_layout (omega (arith, next.number)) next.started next.small next.aligned) in
    at-one (newest_checkpoint layout image) (n + 2) lsn (newest-at At n (n + 2) (n + 2) lsn (omega arith) own beside)

gone-tail : (shape : Shape) (k b : ℕ) (image : List ℕ) → IsWithinLimits shape → AreGone shape image → IsTailPlace k → read_tail b (sector k image) ≡ None
gone-tail shape k b image limits gone place =
    unsealed-tail b (sector k image)
    (gone k (record { from = ⊎_elim (λ e. omega arith) (λ o. omega arith) place; below = ⊎_elim (λ e. omega (arith, limits.many_blocks)) (λ o. omega (arith, limits.many_blocks)) place }))

gone-full : (shape : Shape) (b : ℕ) (image : List ℕ) → IsWithinLimits shape → AreGone shape image → read_full b (sector (sector_of (run_layout shape) b) image) ≡ None
gone-full shape b image limits gone = unsealed-full b (sector (sector_of (run_layout shape) b) image) (gone (sector_of (run_layout shape) b) (log-sector Two shape b limits))

past-head : (opened : Reading) (marked image : List ℕ) → IsMarkedLog opened marked → opened.format ≡ One → IsPastHead opened image → IsNextSome opened image
past-head opened marked image log format is =
    let layout : Layout = run_layout opened.shape in
    let lsn : ℕ = start_block opened in
    record {
      format = run_format opened.shape;
      number = opened.number + 2;
      found = record {
        long = is.long;
        head = is.head;
        later = omega arith;
        up_to = (let two : numbers_taken opened.format ≡ 2 = two-taken opened.format format in omega arith);
        newest = of_run (λ (l : Layout). newest_checkpoint l image ≡ Some (opened.number + 2, lsn)) opened.shape (past-newest opened marked image log is);
        none = of_run (λ (l : Layout). taken l image lsn ≡ None) opened.shape (taken-none_two layout image lsn refl (ap (read_full lsn) (block-sector layout lsn image) ∙ gone-full opened.shape lsn image log.limits is.gone)
            (gone-tail opened.shape 4 lsn image log.limits is.gone (inl refl)) (gone-tail opened.shape 5 lsn image log.limits is.gone (inr refl)));
      };
    }

-- EACH MOMENT OF IT.

is-one : (format : Format) (shape : Shape) → format ≡ One → (layout_of format shape).format ≡ One
is-one format shape is = subst (λ (f : Format). (layout_of f shape).format ≡ One) (sym is) refl

-- where the log blocks are gone none is taken
gone-none : (opened : Reading) (image : List ℕ) → IsWithinLimits opened.shape → opened.format ≡ One → AreGone opened.shape image → taken (found_layout opened) image (start_block opened) ≡ None
gone-none opened image limits format gone =
    let layout : Layout = found_layout opened in
    let lsn : ℕ = start_block opened in
    taken-none_one layout image lsn (is-one opened.format opened.shape format)
    (unsealed-unread lsn (log_block layout lsn image) (subst IsUnsealed (sym (block-sector layout lsn image)) (gone (sector_of layout lsn) (log-sector opened.format opened.shape lsn limits))))

-- while the log blocks are erased
erasing-before : (opened : Reading) (marked image : List ℕ) → IsMarkedLog opened marked → opened.format ≡ One → read_head (sector 0 marked) ≡ Good opened.format opened.shape
    → IsErasing (IsLogSector opened.shape) marked image → IsBeforeHead opened image
erasing-before opened marked image log format head erasing =
    let layout : Layout = found_layout opened in
    let lsn : ℕ = start_block opened in
    let k : ℕ = sector_of layout lsn in
    let same : (j : ℕ) → j < 4 → sector j image ≡ sector j marked = λ j below. stays (IsLogSector opened.shape) marked image j erasing (header-not_log opened.shape j below) in
    record {
      long = omega (arith, erasing.same_length, log.long);
      head = ap read_head (same 0 (omega arith)) ∙ head;
      own = same (place_of (opened.number + 1)) (checkpoint-place (opened.number + 1)).1 ∙ log.own;
      next = inl (λ pair is. log.older pair (sym (ap (read_checkpoint (place_of opened.number) layout) (same (place_of opened.number) (checkpoint-place opened.number).1)) ∙ is));
      none = ⊎_elim
          (λ stays. taken-same_one layout marked image lsn (is-one opened.format opened.shape format) (block-sector layout lsn image ∙ stays ∙ sym (block-sector layout lsn marked)) ∙ log.none)
          (λ gone. taken-none_one layout image lsn (is-one opened.format opened.shape format)
          (unsealed-unread lsn (log_block layout lsn image) (subst IsUnsealed (sym (block-sector layout lsn image)) gone)))
          (goes (IsLogSector opened.shape) marked image k erasing);
    }

-- once they are, header blocks are written one after the other
record IsStripped (opened : Reading) (image : List ℕ) : Type 0 where
  long : log_device_length opened.shape ≤ length image
  own : sector (place_of (opened.number + 1)) image ≡ checkpoint_text (opened.number + 1) (start_block opened) (found_layout opened)
  gone : AreGone opened.shape image

stripped : (opened : Reading) (marked erased : List ℕ) → IsMarkedLog opened marked → IsErased (IsLogSector opened.shape) marked erased → IsStripped opened erased
stripped opened marked erased log is = record {
  long = omega (arith, is.same_length, log.long);
  own = is.others (place_of (opened.number + 1)) (header-not_log opened.shape (place_of (opened.number + 1)) (checkpoint-place (opened.number + 1)).1) ∙ log.own;
  gone = is.gone;
}

put-stripped : (opened : Reading) (k : ℕ) (old new : List ℕ) → k < 4 → k ≢ place_of (opened.number + 1) → length new ≡ length old → OthersStay k old new → IsStripped opened old → IsStripped opened new
put-stripped opened k old new below other long others is = record {
  long = omega (arith, is.long);
  own = others (place_of (opened.number + 1)) (λ same. other (sym same)) ∙ is.own;
  gone = put-gone opened.shape k old new below others is.gone;
}

next-apart : (n : ℕ) → place_of (n + 2) ≢ place_of (n + 1)
next-apart n same = places-apart n (sym (next-other n) ∙ sym same ∙ place-two n)

head-apart : (n k : ℕ) → IsHeadPlace k → k ≢ place_of n
head-apart n k place same = (let at = checkpoint-place n in ⊎_elim (λ zero. omega (arith, at.0)) (λ two. at.2 (sym same ∙ two)) place)

stripped-before : (opened : Reading) (marked image : List ℕ) → IsMarkedLog opened marked → opened.format ≡ One → IsStripped opened image
    → read_head (sector 0 image) ≡ Good opened.format opened.shape → IsNextPlace opened (sector (place_of opened.number) image) → IsBeforeHead opened image
stripped-before opened marked image log format is head next = record {
  long = is.long;
  head = head;
  own = is.own;
  next = next;
  none = gone-none opened image log.limits format is.gone;
}

-- the checkpoint of format 2 stands
record IsStrippedNext (opened : Reading) (image : List ℕ) : Type 0 where
  stripped : IsStripped opened image
  next : sector (place_of opened.number) image ≡ next_text opened

put-next : (opened : Reading) (old new : List ℕ) → IsStripped opened old → IsPut (place_of (opened.number + 2)) (next_text opened) old new → IsStrippedNext opened new
put-next opened old new is put = record {
  stripped = put-stripped opened (place_of (opened.number + 2)) old new (checkpoint-place (opened.number + 2)).1 (next-apart opened.number) put.same_length put.others is;
  next = ap (λ (j : ℕ). sector j new) (sym (place-two opened.number)) ∙ put.at;
}

put-head : (opened : Reading) (k : ℕ) (old new : List ℕ) → IsHeadPlace k → IsStrippedNext opened old → length new ≡ length old → OthersStay k old new → IsStrippedNext opened new
put-head opened k old new place is long others = record {
  stripped = put-stripped opened k old new (⊎_elim (λ zero. omega arith) (λ two. omega arith) place) (head-apart (opened.number + 1) k place) long others is.stripped;
  next = others (place_of opened.number) (λ same. head-apart opened.number k place (sym same)) ∙ is.next;
}

-- the image has block 0 as the erased one has it, until that is written
migrating-next : (opened : Reading) (marked image : List ℕ) → IsMarkedLog opened marked → opened.format ≡ One → read_head (sector 0 marked) ≡ Good opened.format opened.shape
    → IsMigrating opened.shape (opened.number + 2) (start_block opened) marked image → IsNextSome opened image
migrating-next opened marked image log format head migrating =
    let n : ℕ = opened.number in
    let text : List ℕ = next_text opened in
    let zero : (erased : List ℕ) → IsErased (IsLogSector opened.shape) marked erased → read_head (sector 0 erased) ≡ Good opened.format opened.shape = λ erased is.
    ap read_head (is.others 0 (header-not_log opened.shape 0 (omega arith))) ∙ head in
    let before : IsBeforeHead opened image → IsNextSome opened image = before-head opened marked image log format in
    ⊎_elim (λ erasing. before (erasing-before opened marked image log format head erasing))
    (λ rest. ⊎_elim
    (λ second.
    let erased : List ℕ = second.0 in
    let is : IsStripped opened erased = stripped opened marked erased log second.1 in
    let put : IsPutting (place_of (n + 2)) text erased image = second.2 in
    let at = checkpoint-place (n + 2) in
    let there : place_of (n + 2) ≡ place_of n = place-two n in
    let now : IsStripped opened image = put-stripped opened (place_of (n + 2)) erased image at.1 (next-apart n) put.same_length put.others is in
    let own_head : read_head (sector 0 image) ≡ Good opened.format opened.shape = ap read_head (put.others 0 (λ same. omega (arith, at.0))) ∙ zero erased second.1 in
    let same_older : (sector (place_of (n + 2)) image ≡ sector (place_of (n + 2)) erased) → IsNextPlace opened (sector (place_of n) image) = λ same. inl (λ pair is.
    log.older pair (sym (ap (read_checkpoint (place_of n) (found_layout opened))
    (ap (λ (j : ℕ). sector j image) (sym there) ∙ same ∙ ap (λ (j : ℕ). sector j erased) there
    ∙ second.1.others (place_of n) (header-not_log opened.shape (place_of n) (checkpoint-place n).1))) ∙ is)) in
    before (stripped-before opened marked image log format now own_head
    (⊎_elim same_older (λ more. ⊎_elim (λ broken. inr (inl (subst (λ (j : ℕ). IsUnsealed (sector j image)) there broken)))
    (λ full. inr (inr (subst (λ (j : ℕ). sector j image ≡ text) there full))) more) put.at)))
    (λ later. ⊎_elim
    (λ third.
    let put : IsPutting 2 (head_text (run_format opened.shape) opened.shape) third.1 image = third.4 in
    let is : IsStrippedNext opened third.1 = put-next opened third.0 third.1 (stripped opened marked third.0 log third.2) third.3 in
    let now : IsStrippedNext opened image = put-head opened 2 third.1 image (inr refl) is put.same_length put.others in
    let at = checkpoint-place (n + 2) in
    let own_head : read_head (sector 0 image) ≡ Good opened.format opened.shape =
    ap read_head (put.others 0 (λ same. omega arith) ∙ third.3.others 0 (λ same. omega (arith, at.0))) ∙ zero third.0 third.2 in
    before (stripped-before opened marked image log format now.stripped own_head (inr (inr now.next))))
    (λ fourth.
    let nearly : IsNearlyMigrated opened.shape (n + 2) (start_block opened) marked fourth.0 = fourth.1 in
    let put : IsPutting 0 (head_text (run_format opened.shape) opened.shape) fourth.0 image = fourth.2 in
    let is : IsStrippedNext opened nearly.marked = put-next opened nearly.erased nearly.marked (stripped opened marked nearly.erased log nearly.is_erased) nearly.is_marked in
    let headed : IsStrippedNext opened fourth.0 = put-head opened 2 nearly.marked fourth.0 (inr refl) is nearly.headed.same_length nearly.headed.others in
    let now : IsStrippedNext opened image = put-head opened 0 fourth.0 image (inl refl) headed put.same_length put.others in
    let at = checkpoint-place (n + 2) in
    let good : read_head (head_text (run_format opened.shape) opened.shape) ≡ Good (run_format opened.shape) opened.shape = head-reads_back (run_format opened.shape) opened.shape log.limits (run_format-sizes opened.shape log.limits) in
    let second : read_head (sector 2 image) ≡ Good (run_format opened.shape) opened.shape = ap read_head (put.others 2 (λ same. omega arith) ∙ nearly.headed.at) ∙ good in
    let past : head_of image ≡ Good (run_format opened.shape) opened.shape → IsNextSome opened image = λ head_is. past-head opened marked image log format (record {
      long = now.stripped.long;
      head = head_is;
      own = now.stripped.own;
      next = now.next;
      gone = now.stripped.gone;
    }) in
    ⊎_elim
    (λ same.
    let own_head : read_head (sector 0 image) ≡ Good opened.format opened.shape =
    ap read_head (same ∙ nearly.headed.others 0 (λ two. omega arith) ∙ nearly.is_marked.others 0 (λ place. omega (arith, at.0))) ∙ zero nearly.erased nearly.is_erased in
    before (stripped-before opened marked image log format now.stripped own_head (inr (inr now.next))))
    (λ more. ⊎_elim
    (λ broken. past (ap (λ t. cond t (read_head (sector 0 image)) (read_head (sector 2 image))) broken ∙ second))
    (λ full. past (head-first image (run_format opened.shape) opened.shape (ap read_head full ∙ good))) more) put.at) later) rest) migrating

-- AS LAWS.

pub migrating-reads : (opened : Reading) (log_bytes data_bytes old_log marked new_log new_data : List ℕ) (tail : Option Tail) → IsOrderly log_bytes data_bytes opened
    → AreFoundIn (found_layout opened) log_bytes opened.ckpt opened.views tail → sector 2 log_bytes ≡ sector 0 log_bytes → opened.format ≡ One
    → IsCleared (found_layout opened) opened.ckpt (start_of opened) tail log_bytes old_log
    → IsPut (place_of (opened.number + 1)) (checkpoint_text (opened.number + 1) (start_block opened) (found_layout opened)) old_log marked
    → IsMigrating opened.shape (opened.number + 2) (start_block opened) marked new_log → IsRewritten opened new_data → ReadsOpened opened new_log new_data
migrating-reads opened log_bytes data_bytes old_log marked new_log new_data tail orderly found alike format cleared put migrating rewritten =
    let log : IsMarkedLog opened marked = marked-log opened log_bytes data_bytes old_log marked tail orderly found cleared put in
    let head : read_head (sector 0 marked) ≡ Good opened.format opened.shape = marked-heads opened log_bytes data_bytes old_log marked tail orderly.reads found alike cleared put.others 0 (inl refl) in
    let next : IsNextSome opened new_log = migrating-next opened marked new_log log format head migrating in
    next-reads opened next.format next.number log_bytes data_bytes new_log new_data orderly.reads next.found rewritten

pub migrated-fresh : (opened : Reading) (log_bytes data_bytes old_log marked new_log : List ℕ) (tail : Option Tail) → IsOrderly log_bytes data_bytes opened
    → AreFoundIn (found_layout opened) log_bytes opened.ckpt opened.views tail
    → IsCleared (found_layout opened) opened.ckpt (start_of opened) tail log_bytes old_log
    → IsPut (place_of (opened.number + 1)) (checkpoint_text (opened.number + 1) (start_block opened) (found_layout opened)) old_log marked
    → IsMigrated opened.shape (opened.number + 2) (start_block opened) marked new_log
    → IsFresh opened.shape (start_of opened) (opened.number + 2) (settled new_log)
migrated-fresh opened log_bytes data_bytes old_log marked new_log tail orderly found cleared put migrated =
    let log : IsMarkedLog opened marked = marked-log opened log_bytes data_bytes old_log marked tail orderly found cleared put in
    let nearly : IsNearlyMigrated opened.shape (opened.number + 2) (start_block opened) marked migrated.headed = migrated.nearly in
    let is : IsStrippedNext opened nearly.marked = put-next opened nearly.erased nearly.marked (stripped opened marked nearly.erased log nearly.is_erased) nearly.is_marked in
    let headed : IsStrippedNext opened migrated.headed = put-head opened 2 nearly.marked migrated.headed (inr refl) is nearly.headed.same_length nearly.headed.others in
    let now : IsStrippedNext opened new_log = put-head opened 0 migrated.headed new_log (inl refl) headed migrated.first.same_length migrated.first.others in
    let good : read_head (head_text (run_format opened.shape) opened.shape) ≡ Good (run_format opened.shape) opened.shape = head-reads_back (run_format opened.shape) opened.shape log.limits (run_format-sizes opened.shape log.limits) in
    let zero : read_head (sector 0 new_log) ≡ Good (run_format opened.shape) opened.shape = ap read_head migrated.first.at ∙ good in
    let second : read_head (sector 2 new_log) ≡ Good (run_format opened.shape) opened.shape = ap read_head (migrated.first.others 2 (λ same. omega arith) ∙ nearly.headed.at) ∙ good in
    record {
      long = now.stripped.long;
      heads = λ j place. ⊎_elim (λ e. ap (λ (i : ℕ). read_head (sector i new_log)) e ∙ zero) (λ o. ap (λ (i : ℕ). read_head (sector i new_log)) o ∙ second) place;
      nothing_pending = refl;
      newest = past-newest opened marked new_log log (record {
        long = now.stripped.long;
        head = head-first new_log (run_format opened.shape) opened.shape zero;
        own = now.stripped.own;
        next = now.next;
        gone = now.stripped.gone;
      });
      unread = λ b in_round. gone-full opened.shape b new_log log.limits now.stripped.gone;
      no_tail = λ k place b aligned from. gone-tail opened.shape k b new_log log.limits now.stripped.gone place;
    }
