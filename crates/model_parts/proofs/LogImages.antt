-- What a fair image of a log device holds.
use Rattle.std.proofs.Common.{◌≡◌, ◌≤◌, ◌<◌, ◌+◌, ◌-◌, ◌*◌, ◌/◌, ◌%◌, ◌==◌, ◌⊎◌, ℕ, inl, inr, Bool, true, false, cond, List, length, take, drop, Option, Some, None, refl, sym, ap, subst, ◌∙◌, ⊎_elim, arith}
use Rattle.std.specs.Prelude.{nat_lt}
use Rattle.std.proofs.lemmas.Bool.{cases_lt, cases_Bool}
use Rattle.std.proofs.lemmas.Bool.Decides.{nat_tests}
use Rattle.model_base.specs.declared.limits.TheConstants.{LSN_LIMIT, START_LSN}
use Rattle.model_base.specs.declared.shape.Shape.{Shape}
use Rattle.model_device.specs.{sector, Disk}
use Rattle.model_log.specs.declared.group.Whole.{Whole}
use Rattle.model_log.specs.declared.head.Format.TheVariants.{Two}
use Rattle.model_log.specs.declared.head.Head.{Head}
use Rattle.model_log.specs.declared.head.Head.TheVariants.{Good}
use Rattle.model_log.specs.declared.layout.Layout.{Layout}
use Rattle.model_log.specs.declared.layout.TheConstants.{HEADER_BLOCKS}
use Rattle.model_log.specs.{fits_checksum, IsAtDataStart, IsBoundary, IsInRound, IsRunOf, log_block, log_device_length, newer, newest_checkpoint, place_of, read_checkpoint, read_head, round_of, run_layout, sector_of, spans_of, run_format}
use Rattle.model_log.proofs.Places.{HasBlocks, place-round, place-within, sector-place}
use Rattle.model_log.proofs.Runs.{boundary-reached, data-start}
use Rattle.model_store.specs.{HasHead, if_full, IsFairLog, read_tail, taken, taken_among}
use Rattle.model_parts.specs.declared.marks.LogMarks.{LogMarks}
use Rattle.model_parts.specs.declared.marks.TailMarks.{TailMarks}
use Rattle.model_parts.specs.Held.{AreInOrder, HoldsTail, IsBeside, IsBlockPlace, IsNotFull, IsPartBlock, IsTail, LogHoldsWith, MayStand, other_place}
use Rattle.model_parts.proofs.LogRows.{IsTaken}
use Rattle.model_parts.proofs.Tails.{IsRunWithBytes, KeepsTail, round-unread, takes}
use Rattle.model_parts.proofs.Torn.{stands-sector}

-- the sector of a block
pub sector-log_block : (layout : Layout) (b : ℕ) (image : List ℕ) → sector (sector_of layout b) image ≡ log_block layout b image
unfolding log_block
sector-log_block layout b image = ap (λ n. take 512 (drop n image)) (sector-place layout b)

-- THE NEWEST CHECKPOINT.

-- the newer of the two checkpoints, where one is the last good one
record IsNewest (marks : LogMarks) (found : Option (ℕ × ℕ)) : Type 0 where
  number : ℕ
  ckpt : ℕ
  is : found ≡ Some (number, ckpt)
  aligned : ckpt % 512 ≡ 0
  from : marks.ckpt ≤ ckpt
  up_to : ckpt ≤ marks.asked

newest-own : (marks : LogMarks) (found : Option (ℕ × ℕ)) → found ≡ Some (marks.number, marks.ckpt) → marks.ckpt % 512 ≡ 0 → marks.ckpt ≤ marks.asked → IsNewest marks found
newest-own marks found is aligned stable = record { number = marks.number; ckpt = marks.ckpt; is = is; aligned = aligned; from = omega arith; up_to = stable }

pub when_less : (a b : ℕ) (first second : Option (ℕ × ℕ)) → a < b → cond (nat_lt a b) second first ≡ second
when_less a b first second less = let test : nat_lt a b ≡ true = grind (arith, nat_tests) in ap (λ t. cond t second first) test

pub when_not_less : (a b : ℕ) (first second : Option (ℕ × ℕ)) → b ≤ a → cond (nat_lt a b) second first ≡ first
when_not_less a b first second less = let test : nat_lt a b ≡ false = grind (arith, nat_tests) in ap (λ t. cond t second first) test

-- the newest of two, where the last good one stands first
newest-front : (marks : LogMarks) (other : Option (ℕ × ℕ)) → marks.ckpt % 512 ≡ 0 → marks.ckpt ≤ marks.asked → IsBeside marks other → IsNewest marks (newer (Some (marks.number, marks.ckpt)) other)
newest-front marks None aligned stable beside = newest-own marks (newer (Some (marks.number, marks.ckpt)) None) refl aligned stable
newest-front marks (Some other) aligned stable beside =
    ⊎_elim (λ older. newest-own marks (newer (Some (marks.number, marks.ckpt)) (Some other)) (when_not_less marks.number other.0 (Some (marks.number, marks.ckpt)) (Some other) (omega arith)) aligned stable)
    (λ next. record {
      number = other.0;
      ckpt = other.1;
      is = when_less marks.number other.0 (Some (marks.number, marks.ckpt)) (Some other) (omega (arith, next.next));
      aligned = next.aligned;
      from = next.from;
      up_to = next.up_to;
    }) beside

-- the newest of two, where the last good one stands second
newest-back : (marks : LogMarks) (other : Option (ℕ × ℕ)) → marks.ckpt % 512 ≡ 0 → marks.ckpt ≤ marks.asked → IsBeside marks other → IsNewest marks (newer other (Some (marks.number, marks.ckpt)))
newest-back marks None aligned stable beside = newest-own marks (newer None (Some (marks.number, marks.ckpt))) refl aligned stable
newest-back marks (Some other) aligned stable beside =
    ⊎_elim (λ older. newest-own marks (newer (Some other) (Some (marks.number, marks.ckpt))) (when_less other.0 marks.number (Some other) (Some (marks.number, marks.ckpt)) older) aligned stable)
    (λ next. record {
      number = other.0;
      ckpt = other.1;
      is = when_not_less other.0 marks.number (Some other) (Some (marks.number, marks.ckpt)) (omega (arith, next.next));
      aligned = next.aligned;
      from = next.from;
      up_to = next.up_to;
    }) beside

pub place-cases : (number : ℕ) → ((place_of number ≡ 1) × (other_place number ≡ 3)) ⊎ ((place_of number ≡ 3) × (other_place number ≡ 1))
place-cases number =
    ⊎_elim (λ even. inl (ap (λ t. cond t 1 3) even, ap (λ t. 4 - cond t 1 3) even))
    (λ odd. inr (ap (λ t. cond t 1 3) odd, ap (λ t. 4 - cond t 1 3) odd)) (cases_Bool (number % 2 == 0))

pub header-below : (number : ℕ) → (place_of number < HEADER_BLOCKS) × (other_place number < HEADER_BLOCKS) × (1 ≤ place_of number) × (1 ≤ other_place number)
header-below number = ⊎_elim (λ e. (omega (arith, e.0), omega (arith, e.1), omega (arith, e.0), omega (arith, e.1))) (λ o. (omega (arith, o.0), omega (arith, o.1), omega (arith, o.0), omega (arith, o.1))) (place-cases number)

newest-of : (layout : Layout) (marks : LogMarks) (image : List ℕ) → marks.ckpt % 512 ≡ 0 → marks.ckpt ≤ marks.asked
    → read_checkpoint (place_of marks.number) layout (sector (place_of marks.number) image) ≡ Some (marks.number, marks.ckpt)
    → IsBeside marks (read_checkpoint (other_place marks.number) layout (sector (other_place marks.number) image))
    → IsNewest marks (newest_checkpoint layout image)
newest-of layout marks image aligned stable own beside =
    let At : ℕ → Option (ℕ × ℕ) = λ k. read_checkpoint k layout (sector k image) in
    ⊎_elim (λ even.
    let first : At 1 ≡ Some (marks.number, marks.ckpt) = sym (ap At even.0) ∙ own in
    let second : IsBeside marks (At 3) = subst (λ (k : ℕ). IsBeside marks (At k)) even.1 beside in
    subst (λ (found : Option (ℕ × ℕ)). IsNewest marks (newer found (At 3))) (sym first) (newest-front marks (At 3) aligned stable second))
    (λ odd.
    let second : At 3 ≡ Some (marks.number, marks.ckpt) = sym (ap At odd.0) ∙ own in
    let first : IsBeside marks (At 1) = subst (λ (k : ℕ). IsBeside marks (At k)) odd.1 beside in
    subst (λ (found : Option (ℕ × ℕ)). IsNewest marks (newer (At 1) found)) (sym second) (newest-back marks (At 1) aligned stable first)) (place-cases marks.number)

-- what stands beside the newest good checkpoint is told by that one and the last one asked for
pub beside-kept : (old new : LogMarks) → new.number ≡ old.number → new.ckpt ≡ old.ckpt → old.asked ≤ new.asked
    → (other : Option (ℕ × ℕ)) → IsBeside old other → IsBeside new other
beside-kept old new same_number same_ckpt later None is = tt
beside-kept old new same_number same_ckpt later (Some other) is =
    ⊎_elim (λ older. inl (omega arith))
    (λ next. inr (record {
      next = omega (arith, next.next);
      from = omega (arith, next.from);
      up_to = omega (arith, next.up_to);
      aligned = next.aligned;
    })) is

-- WHERE THE BLOCKS STAND.

pub ring-within : (shape : Shape) (b : ℕ) → HasBlocks (run_layout shape) → 512 * sector_of (run_layout shape) b + 512 ≤ log_device_length shape
ring-within shape b blocks =
    let within = place-within (run_layout shape) b blocks in
    let place = sector-place (run_layout shape) b in
    omega (arith, blocks.some)

ring-round : (layout : Layout) (b : ℕ) → HasBlocks layout → b % 512 ≡ 0 → START_LSN ≤ b → sector_of layout (b + round_of layout) ≡ sector_of layout b
ring-round layout b blocks aligned started = ap (λ n. n / 512) (place-round layout b blocks aligned started)

-- a block below a checkpoint, which is at most a boundary, is full below that
below-ckpt : (s : ℕ) (wholes : List Whole) (mark ckpt b : ℕ) → IsAtDataStart s → IsRunOf s wholes → IsBoundary s (spans_of wholes) mark → ckpt % 512 ≡ 0 → b % 512 ≡ 0 → b < ckpt → ckpt ≤ mark
    → b + 524 ≤ mark
below-ckpt s wholes mark ckpt b start run boundary ckpt_aligned aligned below reaches =
    let after = boundary-reached s wholes mark (data-start s start) run boundary in
    omega (arith, after.place)

-- the place of a full block, for the block one round of the log on
round-place : (layout : Layout) (s : ℕ) (wholes : List Whole) (low high b : ℕ) (bytes : List ℕ) → HasBlocks layout → b + 524 ≤ low → low ≤ b + round_of layout + 12
    → IsBlockPlace s wholes low high b bytes → IsNotFull low (b + round_of layout) bytes
round-place layout s wholes low high b bytes blocks below within is =
    ⊎_elim (λ full. record { none_below = omega arith; unread = ap if_full (round-unread layout s wholes high b bytes blocks full.block) })
    (λ none. absurd (omega (arith, none.none_below))) is

-- the places of a later checkpoint's round, which the lower mark has reached
pub places-on : (layout : Layout) (s : ℕ) (wholes : List Whole) (marks : LogMarks) (low high ckpt : ℕ) (at : ℕ → List ℕ) → HasBlocks layout → AreInOrder layout s wholes marks
    → marks.stable ≤ low → low ≤ marks.ckpt + round_of layout → ckpt % 512 ≡ 0 → marks.ckpt ≤ ckpt → ckpt ≤ marks.stable
    → ((b : ℕ) → IsInRound layout marks.ckpt b → IsBlockPlace s wholes low high b (at (sector_of layout b)))
    → (b : ℕ) → IsInRound layout ckpt b → IsBlockPlace s wholes low high b (at (sector_of layout b))
places-on layout s wholes marks low high ckpt at blocks order reached room ckpt_aligned later below here b in_round =
    let n : ℕ = round_of layout in
    ⊎_elim (λ near. here b (record { aligned = in_round.aligned; from = omega (arith, in_round.from); below = near }))
    (λ far.
    let old : ℕ = b - n in
    let is : old + n ≡ b = omega arith in
    let aligned : old % 512 ≡ 0 = omega (arith, in_round.aligned) in
    let old_in : IsInRound layout marks.ckpt old = record { aligned = aligned; from = omega arith; below = omega (arith, in_round.below) } in
    let same : sector_of layout (old + n) ≡ sector_of layout old = ring-round layout old blocks aligned (omega (arith, order.ckpt_started)) in
    let full : old + 524 ≤ marks.stable = below-ckpt s wholes marks.stable ckpt old order.starts order.run order.stable ckpt_aligned aligned (omega (arith, in_round.below)) below in
    let none : IsNotFull low (old + n) (at (sector_of layout old)) =
    round-place layout s wholes low high old (at (sector_of layout old)) blocks (omega arith) (omega arith) (here old old_in) in
    let turned : IsNotFull low (old + n) (at (sector_of layout (old + n))) = subst (λ (k : ℕ). IsNotFull low (old + n) (at k)) (sym same) none in
    subst (λ (c : ℕ). IsBlockPlace s wholes low high c (at (sector_of layout c))) is (inr turned)) (cases_lt b (marks.ckpt + n))

-- WHAT AN IMAGE HOLDS.

either-head : (t : Bool) (first second head : Head) → first ≡ head → second ≡ head → cond t first second ≡ head
either-head true first second head one two = one
either-head false first second head one two = two

below-yes : (b limit : ℕ) → b < limit → nat_lt b limit ≡ true
below-yes b limit less = grind (arith, nat_tests)

below-no : (b limit : ℕ) → limit ≤ b → nat_lt b limit ≡ false
below-no b limit less = grind (arith, nat_tests)

-- a newest checkpoint from the last good one on, and what the scan takes from there on
pub record ImageHolds (shape : Shape) (s : ℕ) (wholes : List Whole) (marks : LogMarks) (kept : ℕ) (image : List ℕ) : Type 0 where
  pub number : ℕ
  pub ckpt : ℕ
  pub head : HasHead image (run_format shape) shape
  pub newest : newest_checkpoint (run_layout shape) image ≡ Some (number, ckpt)
  pub aligned : ckpt % 512 ≡ 0
  pub from : marks.ckpt ≤ ckpt
  pub up_to : ckpt ≤ marks.asked
  pub takes : (b : ℕ) → b % 512 ≡ 0 → ckpt ≤ b → b < ckpt + round_of (run_layout shape) → IsTaken s wholes kept marks.given b (taken (run_layout shape) image b)

tail-at : (s : ℕ) (wholes : List Whole) (high from b : ℕ) (bytes : List ℕ) → IsTail s wholes high from bytes → b % 512 ≡ 0 → from ≤ b
    → (read_tail b bytes ≡ None) ⊎ IsPartBlock s wholes high b bytes
tail-at s wholes high from b bytes is aligned later = is b aligned later

pub image-holds : (shape : Shape) (s : ℕ) (wholes : List Whole) (marks : LogMarks) (tails : TailMarks) (disk : Disk) (image : List ℕ) → HasBlocks (run_layout shape)
    → IsRunWithBytes s wholes → marks.given ≤ LSN_LIMIT → LogHoldsWith shape s wholes marks tails disk → IsFairLog disk image → ImageHolds shape s wholes marks tails.kept image
image-holds shape s wholes marks tails disk image blocks run small holds fair =
    let long : log_device_length shape ≤ length disk.base = holds.long in
    let order : AreInOrder (run_layout shape) s wholes marks = holds.order in
    let kept_given : tails.kept ≤ marks.given = omega (arith, holds.kept.up_to, order.written_given) in
    let stand : (k : ℕ) → 512 * k + 512 ≤ log_device_length shape → MayStand disk k (sector k image) = λ k within. stands-sector disk image k holds.sectors fair (omega arith) in
    let limits = header-below marks.number in
    let newest : IsNewest marks (newest_checkpoint (run_layout shape) image) =
    newest-of (run_layout shape) marks image order.ckpt_aligned order.ckpt_asked
    (holds.checkpoint (sector (place_of marks.number) image) (stand (place_of marks.number) (omega (arith, limits.0, blocks.some))))
    (holds.beside (sector (other_place marks.number) image) (stand (other_place marks.number) (omega (arith, limits.1, blocks.some)))) in
    let four : IsTail s wholes marks.given marks.ckpt (sector 4 image) = holds.tail_blocks 4 (inl refl) (sector 4 image) (stand 4 (omega (arith, blocks.some))) in
    let five : IsTail s wholes marks.given marks.ckpt (sector 5 image) = holds.tail_blocks 5 (inr refl) (sector 5 image) (stand 5 (omega (arith, blocks.some))) in
    let tail_below : 512 * tails.tail + 512 ≤ log_device_length shape = ⊎_elim (λ e. omega (arith, blocks.some)) (λ o. omega (arith, blocks.some)) holds.kept.place in
    let own : HoldsTail s wholes tails.kept (sector tails.tail image) = holds.kept_tail (sector tails.tail image) (stand tails.tail tail_below) in
    let keeps : KeepsTail s wholes tails.kept (sector 4 image) (sector 5 image) = record {
      there = ⊎_elim (λ e. inl (subst (λ (k : ℕ). HoldsTail s wholes tails.kept (sector k image)) e own))
          (λ o. inr (subst (λ (k : ℕ). HoldsTail s wholes tails.kept (sector k image)) o own)) holds.kept.place;
    } in
    let places : (b : ℕ) → IsInRound (run_layout shape) newest.ckpt b → IsBlockPlace s wholes tails.kept marks.given b (sector (sector_of (run_layout shape) b) image) =
    places-on (run_layout shape) s wholes marks tails.kept marks.given newest.ckpt (λ k. sector k image) blocks order holds.kept.from (omega (arith, holds.kept.up_to, order.written_given, order.room))
    newest.aligned newest.from (omega (arith, newest.up_to, order.asked_stable))
    (λ b in_round. holds.blocks b in_round (sector (sector_of (run_layout shape) b) image) (stand (sector_of (run_layout shape) b) (ring-within shape b blocks))) in
    record {
      number = newest.number;
      ckpt = newest.ckpt;
      head = record {
        long = omega (arith, fair.possible.same_length);
        head = either-head (fits_checksum (sector 0 image)) (read_head (sector 0 image)) (read_head (sector 2 image)) (Good (run_format shape) shape)
            (holds.heads 0 (inl refl) (sector 0 image) (stand 0 (omega (arith, blocks.some)))) (holds.heads 2 (inr refl) (sector 2 image) (stand 2 (omega (arith, blocks.some))));
      };
      newest = newest.is;
      aligned = newest.aligned;
      from = newest.from;
      up_to = newest.up_to;
      takes = λ b aligned from below. ⊎_elim
          (λ near.
          let test : nat_lt b LSN_LIMIT ≡ true = below-yes b LSN_LIMIT near in
          let place : IsBlockPlace s wholes tails.kept marks.given b (log_block (run_layout shape) b image) =
          subst (λ (bytes : List ℕ). IsBlockPlace s wholes tails.kept marks.given b bytes) (sector-log_block (run_layout shape) b image) (places b (record { aligned = aligned; from = from; below = below })) in
          subst (λ t. IsTaken s wholes tails.kept marks.given b (cond t (taken_among Two b (log_block (run_layout shape) b image) (sector 4 image) (sector 5 image)) None)) (sym test)
          (takes s wholes tails.kept marks.given b (log_block (run_layout shape) b image) (sector 4 image) (sector 5 image) run holds.kept.boundary order.given kept_given aligned place
          (tail-at s wholes marks.given marks.ckpt b (sector 4 image) four aligned (omega (arith, newest.from)))
          (tail-at s wholes marks.given marks.ckpt b (sector 5 image) five aligned (omega (arith, newest.from))) keeps))
          (λ far.
          let test : nat_lt b LSN_LIMIT ≡ false = below-no b LSN_LIMIT far in
          inr (record {
            none_below = omega arith;
            none = ap (λ t. cond t (taken_among Two b (log_block (run_layout shape) b image) (sector 4 image) (sector 5 image)) None) test;
          })) (cases_lt b LSN_LIMIT);
    }
