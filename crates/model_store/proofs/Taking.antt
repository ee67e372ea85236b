-- What the scan of a log device takes at an lsn, in the words of the blocks that stand there.
use Rattle.std.proofs.Common.{◌≡◌, ◌≤◌, ◌<◌, ◌+◌, ◌-◌, ◌==◌, ℕ, min, List, length, take, drop, Bool, true, false, cond, ltb, lt-ltb, Option, Some, None, refl, sym, ap, subst, ◌∙◌, ⊎_elim, length-take, length-drop, arith}
use Rattle.std.proofs.lemmas.Bool.{cases_Bool}
use Rattle.std.proofs.lemmas.Bool.Decides.{nat_tests}
use Rattle.model_base.specs.declared.shape.Shape.{Shape}
use Rattle.model_base.specs.declared.limits.TheConstants.{LSN_LIMIT, MIN_LOG_BLOCKS}
use Rattle.model_base.specs.{IsWithinLimits}
use Rattle.model_log.specs.{data_of, header_block, is_full, IsLayout, layout_of, log_block, log_device_length, place_in, read_block, ring_start, round_of, turn_of}
use Rattle.model_log.specs.declared.block.BlockView.{BlockView}
use Rattle.model_log.specs.declared.head.Format.{Format}
use Rattle.model_log.specs.declared.head.Format.TheVariants.{One, Two, Three}
use Rattle.model_log.specs.declared.layout.Layout.{Layout}
use Rattle.model_log.specs.declared.layout.TheConstants.{BLOCK_DATA}
use Rattle.model_log.proofs.Layouts.{has-blocks, is_layout_of}
use Rattle.model_log.proofs.Places.{place-within}
use Rattle.model_store.specs.Scan.{Taken, taken_from, Source, if_full, if_tail, in_place_or, longer, read_full, read_tail, taken, taken_among}
use Rattle.model_store.proofs.Ending.{first-place}
use Rattle.model_store.proofs.Sources.{IsSoundSource}

-- WHAT IS READ AS A FULL BLOCK OR AS A TAIL is a block that fits.

some-is : {X : Type 0} (x y : X) → Some x ≡ Some y → x ≡ y
some-is x y is = cc

full-inner : (t : Bool) (found view : BlockView) → cond t (Some found) None ≡ Some view → (t ≡ true) × (Some found ≡ Some view)
full-inner true found view is = (refl, is)
full-inner false found view is = absurd cc

tail-inner : (f t : Bool) (found view : BlockView) → cond f None (cond t (Some found) None) ≡ Some view → (f ≡ false) × (t ≡ true) × (Some found ≡ Some view)
tail-inner true t found view is = absurd cc
tail-inner false true found view is = (refl, refl, is)
tail-inner false false found view is = absurd cc

-- a block that is read in its place fits and is full
pub from-full : (read : Option BlockView) (view : BlockView) → if_full read ≡ Some view → (read ≡ Some view) × (is_full view ≡ true)
from-full None view is = absurd cc
from-full (Some found) view is =
    let parts = full-inner (is_full found) found view is in
    let same : found ≡ view = some-is found view parts.1 in
    (parts.1, sym (ap is_full same) ∙ parts.0)

-- one that is read as a tail fits, isn't full, and is of the lsn's turn
pub from-tail : (lsn : ℕ) (read : Option BlockView) (view : BlockView) → if_tail lsn read ≡ Some view
    → (read ≡ Some view) × (is_full view ≡ false) × ((view.ckpt == turn_of lsn) ≡ true)
from-tail lsn None view is = absurd cc
from-tail lsn (Some found) view is =
    let parts = tail-inner (is_full found) (found.ckpt == turn_of lsn) found view is in
    let same : found ≡ view = some-is found view parts.2 in
    (parts.2, sym (ap is_full same) ∙ parts.0, sym (ap (λ (v : BlockView). v.ckpt == turn_of lsn) same) ∙ parts.1)

-- bytes that aren't a block of the lsn are neither
pub unread-full : (lsn : ℕ) (bytes : List ℕ) → read_block lsn bytes ≡ None → read_full lsn bytes ≡ None
unread-full lsn bytes none = ap if_full none

pub unread-tail : (lsn : ℕ) (bytes : List ℕ) → read_block lsn bytes ≡ None → read_tail lsn bytes ≡ None
unread-tail lsn bytes none = ap (if_tail lsn) none

-- WHERE THE BLOCKS ARE THE SAME, the same is taken.

abbrev pub taken_of : Format → ℕ → List ℕ → List ℕ → List ℕ → Option Taken
taken_of format lsn place four five = cond (ltb lsn LSN_LIMIT) (taken_among format lsn place four five) None

pub taken-same : (layout : Layout) (old new : List ℕ) (lsn : ℕ) → log_block layout lsn new ≡ log_block layout lsn old
    → header_block 4 new ≡ header_block 4 old → header_block 5 new ≡ header_block 5 old → taken layout new lsn ≡ taken layout old lsn
taken-same layout old new lsn place four five =
    ap (λ (bytes : List ℕ). taken_of layout.format lsn bytes (header_block 4 new) (header_block 5 new)) place
    ∙ ap (λ (bytes : List ℕ). taken_of layout.format lsn (log_block layout lsn old) bytes (header_block 5 new)) four
    ∙ ap (λ (bytes : List ℕ). taken_of layout.format lsn (log_block layout lsn old) (header_block 4 old) bytes) five

-- in format 1 it is the block in its place alone
pub taken-same_one : (layout : Layout) (old new : List ℕ) (lsn : ℕ) → layout.format ≡ One → log_block layout lsn new ≡ log_block layout lsn old
    → taken layout new lsn ≡ taken layout old lsn
taken-same_one layout old new lsn format same =
    ap (λ (f : Format). taken_of f lsn (log_block layout lsn new) (header_block 4 new) (header_block 5 new)) format
    ∙ ap (λ (bytes : List ℕ). taken_of One lsn bytes (header_block 4 old) (header_block 5 old)) same
    ∙ sym (ap (λ (f : Format). taken_of f lsn (log_block layout lsn old) (header_block 4 old) (header_block 5 old)) format)

-- below the limit it is what is taken among the blocks there
pub taken-below : (layout : Layout) (image : List ℕ) (lsn : ℕ) → lsn < LSN_LIMIT
    → taken layout image lsn ≡ taken_among layout.format lsn (log_block layout lsn image) (header_block 4 image) (header_block 5 image)
taken-below layout image lsn small =
    let among : Option Taken = taken_among layout.format lsn (log_block layout lsn image) (header_block 4 image) (header_block 5 image) in
    ap (λ test. cond test among None) (lt-ltb lsn LSN_LIMIT small)

-- WHERE NONE OF THE BLOCKS IS READ, none is taken.

either-none : (test : Bool) (found : Option Taken) → found ≡ None → cond test found None ≡ None
either-none true found none = none
either-none false found none = refl

-- in format 2 where no full block stands in the place, and no tail of the lsn
pub among-none : (lsn : ℕ) (place four five : List ℕ) → read_full lsn place ≡ None → read_tail lsn four ≡ None → read_tail lsn five ≡ None
    → taken_among Two lsn place four five ≡ None
among-none lsn place four five no_place no_four no_five =
    ap (λ o. in_place_or place o (longer four five (read_tail lsn four) (read_tail lsn five))) no_place
    ∙ ap (λ o. longer four five o (read_tail lsn five)) no_four
    ∙ ap (λ o. longer four five None o) no_five

pub taken-none_two : (layout : Layout) (image : List ℕ) (lsn : ℕ) → layout.format ≡ Two → read_full lsn (log_block layout lsn image) ≡ None
    → read_tail lsn (header_block 4 image) ≡ None → read_tail lsn (header_block 5 image) ≡ None → taken layout image lsn ≡ None
taken-none_two layout image lsn format no_place no_four no_five =
    let place : List ℕ = log_block layout lsn image in
    let four : List ℕ = header_block 4 image in
    let five : List ℕ = header_block 5 image in
    either-none (ltb lsn LSN_LIMIT) (taken_among layout.format lsn place four five)
    (ap (λ (f : Format). taken_among f lsn place four five) format ∙ among-none lsn place four five no_place no_four no_five)

-- in format 1 where none fits in the place
pub taken-none_one : (layout : Layout) (image : List ℕ) (lsn : ℕ) → layout.format ≡ One → read_block lsn (log_block layout lsn image) ≡ None
    → taken layout image lsn ≡ None
taken-none_one layout image lsn format none =
    let place : List ℕ = log_block layout lsn image in
    let four : List ℕ = header_block 4 image in
    let five : List ℕ = header_block 5 image in
    either-none (ltb lsn LSN_LIMIT) (taken_among layout.format lsn place four five)
    (ap (λ (f : Format). taken_among f lsn place four five) format ∙ ap (taken_from place) none)

unread-among : (format : Format) (lsn : ℕ) (place four five : List ℕ) → read_block lsn place ≡ None → read_block lsn four ≡ None → read_block lsn five ≡ None
    → taken_among format lsn place four five ≡ None
unread-among One lsn place four five no_place no_four no_five = ap (taken_from place) no_place
unread-among Two lsn place four five no_place no_four no_five =
    among-none lsn place four five (unread-full lsn place no_place) (unread-tail lsn four no_four) (unread-tail lsn five no_five)
unread-among Three lsn place four five no_place no_four no_five =
    among-none lsn place four five (unread-full lsn place no_place) (unread-tail lsn four no_four) (unread-tail lsn five no_five)

-- in either where none of the three blocks fits
pub taken-none : (layout : Layout) (image : List ℕ) (lsn : ℕ) → read_block lsn (log_block layout lsn image) ≡ None
    → read_block lsn (header_block 4 image) ≡ None → read_block lsn (header_block 5 image) ≡ None → taken layout image lsn ≡ None
taken-none layout image lsn no_place no_four no_five =
    let place : List ℕ = log_block layout lsn image in
    let four : List ℕ = header_block 4 image in
    let five : List ℕ = header_block 5 image in
    either-none (ltb lsn LSN_LIMIT) (taken_among layout.format lsn place four five) (unread-among layout.format lsn place four five no_place no_four no_five)

-- WHAT IS TAKEN WAS READ off one of the blocks.

-- a block that was read off 512 bytes
pub record IsReadOff (lsn : ℕ) (block : Taken) : Type 0 where
  pub bytes : List ℕ
  pub long : length bytes ≡ 512
  pub read : read_block lsn bytes ≡ Some block.view
  pub data_is : block.bytes ≡ data_of block.view bytes

read-off : (lsn : ℕ) (bytes : List ℕ) (found : Option BlockView) (block : Taken) → length bytes ≡ 512
    → ((view : BlockView) → found ≡ Some view → read_block lsn bytes ≡ Some view) → taken_from bytes found ≡ Some block → IsReadOff lsn block
read-off lsn bytes None block long from is = absurd cc
read-off lsn bytes (Some view) block long from is =
    let same : record { view = view; bytes = data_of view bytes } ≡ block = some-is (record { view = view; bytes = data_of view bytes }) block is in
    subst (λ (x : Taken). IsReadOff lsn x) same (record { bytes = bytes; long = long; read = from view refl; data_is = refl })

longer-off : (lsn : ℕ) (one two : List ℕ) (first second : Option BlockView) (block : Taken) → length one ≡ 512 → length two ≡ 512
    → ((view : BlockView) → first ≡ Some view → read_block lsn one ≡ Some view) → ((view : BlockView) → second ≡ Some view → read_block lsn two ≡ Some view)
    → longer one two first second ≡ Some block → IsReadOff lsn block
longer-off lsn one two None second block long_one long_two from_one from_two is = read-off lsn two second block long_two from_two is
longer-off lsn one two (Some first) None block long_one long_two from_one from_two is = read-off lsn one (Some first) block long_one from_one is
longer-off lsn one two (Some first) (Some second) block long_one long_two from_one from_two is =
    ⊎_elim (λ yes. read-off lsn two (Some second) block long_two from_two (sym (ap (λ t. cond t (taken_from two (Some second)) (taken_from one (Some first))) yes) ∙ is))
    (λ no. read-off lsn one (Some first) block long_one from_one (sym (ap (λ t. cond t (taken_from two (Some second)) (taken_from one (Some first))) no) ∙ is))
    (cases_Bool (ltb first.length second.length))

place-off : (lsn : ℕ) (place one two : List ℕ) (found : Option BlockView) (block : Taken) → length place ≡ 512 → length one ≡ 512 → length two ≡ 512
    → ((view : BlockView) → found ≡ Some view → read_block lsn place ≡ Some view)
    → in_place_or place found (longer one two (read_tail lsn one) (read_tail lsn two)) ≡ Some block → IsReadOff lsn block
place-off lsn place one two None block long long_one long_two from is =
    longer-off lsn one two (read_tail lsn one) (read_tail lsn two) block long_one long_two
    (λ view at. (from-tail lsn (read_block lsn one) view at).0) (λ view at. (from-tail lsn (read_block lsn two) view at).0) is
place-off lsn place one two (Some view) block long long_one long_two from is = read-off lsn place (Some view) block long from is

among-off : (format : Format) (lsn : ℕ) (place four five : List ℕ) (block : Taken) → length place ≡ 512 → length four ≡ 512 → length five ≡ 512
    → taken_among format lsn place four five ≡ Some block → IsReadOff lsn block
among-off One lsn place four five block long long_four long_five is = read-off lsn place (read_block lsn place) block long (λ view at. at) is
among-off Two lsn place four five block long long_four long_five is =
    place-off lsn place four five (read_full lsn place) block long long_four long_five (λ view at. (from-full (read_block lsn place) view at).0) is
among-off Three lsn place four five block long long_four long_five is =
    place-off lsn place four five (read_full lsn place) block long long_four long_five (λ view at. (from-full (read_block lsn place) view at).0) is

limit-off : (t : Bool) (x : Option Taken) (block : Taken) → cond t x None ≡ Some block → x ≡ Some block
limit-off true x block is = is
limit-off false x block is = absurd cc

-- A SOURCE THAT READS WHOLE BLOCKS IS SOUND.

short-data : (n : ℕ) (bytes : List ℕ) → length (take (min n 508 - 12) (drop 12 bytes)) ≤ BLOCK_DATA
short-data n bytes = omega (arith, length-take (min n 508 - 12) (drop 12 bytes))

full-data : (n : ℕ) (bytes : List ℕ) → length bytes ≡ 512 → n ≡ 512 → length (take (min n 508 - 12) (drop 12 bytes)) ≡ BLOCK_DATA
full-data n bytes long all = omega (arith, length-take (min n 508 - 12) (drop 12 bytes), length-drop 12 bytes)

length-full : (view : BlockView) → is_full view ≡ true → view.length ≡ 512
length-full view full = grind (arith, nat_tests)

pub reading-sound : (source : Source) → ((lsn : ℕ) (block : Taken) → source lsn ≡ Some block → IsReadOff lsn block) → IsSoundSource source
reading-sound source reads = record {
  first = λ lsn block is some. (let off = reads lsn block is in first-place lsn off.bytes block.view off.read some);
  short = λ lsn block is. (let off = reads lsn block is in omega (arith, ap length off.data_is, short-data block.view.length off.bytes));
  full = λ lsn block is full. (let off = reads lsn block is in ap length off.data_is ∙ full-data block.view.length off.bytes off.long (length-full block.view full));
}

-- THAT OF A LOG DEVICE DOES.

length-sector : (at : ℕ) (image : List ℕ) → at + 512 ≤ length image → length (take 512 (drop at image)) ≡ 512
length-sector at image within = omega (arith, length-take 512 (drop at image), length-drop at image)

length-block : (layout : Layout) (image : List ℕ) (lsn : ℕ) → IsLayout layout → ring_start layout + round_of layout ≤ length image → length (log_block layout lsn image) ≡ 512
unfolding log_block
length-block layout image lsn is_layout long =
    let within : place_in layout lsn + 512 ≤ ring_start layout + round_of layout = place-within layout lsn (has-blocks layout is_layout) in
    length-sector (place_in layout lsn) image (omega arith)

pub log-sound : (layout : Layout) (image : List ℕ) → IsLayout layout → ring_start layout + round_of layout ≤ length image → IsSoundSource (taken layout image)
log-sound layout image is_layout long =
    let room : 3072 ≤ length image = omega (arith, is_layout.after_header, is_layout.many_blocks) in
    reading-sound (taken layout image) (λ lsn block is. among-off layout.format lsn (log_block layout lsn image) (header_block 4 image) (header_block 5 image) block
    (length-block layout image lsn is_layout long) (length-sector 2048 image (omega arith)) (length-sector 2560 image (omega arith))
    (limit-off (ltb lsn LSN_LIMIT) (taken_among layout.format lsn (log_block layout lsn image) (header_block 4 image) (header_block 5 image)) block is))

-- the ring of a store ends where its log device does
ring-ends : (format : Format) (shape : Shape) → MIN_LOG_BLOCKS ≤ shape.log_blocks → ring_start (layout_of format shape) + round_of (layout_of format shape) ≡ log_device_length shape
ring-ends One shape many = omega arith
ring-ends Two shape many = omega arith
ring-ends Three shape many = omega arith

pub store-sound : (format : Format) (shape : Shape) (image : List ℕ) → IsWithinLimits shape → log_device_length shape ≤ length image
    → IsSoundSource (taken (layout_of format shape) image)
store-sound format shape image within long =
    let ends = ring-ends format shape within.many_blocks in
    log-sound (layout_of format shape) image (is_layout_of format shape within.many_blocks within.few_blocks) (omega arith)
