-- What is known of a block that is taken, by where it stands.
use Rattle.std.proofs.Common.{◌≡◌, ◌≤◌, ◌&&◌, ℕ, Bool, true, false, cond, ltb, List, Option, Some, None, refl, ap, subst, ◌∙◌, arith, ◌≢◌}
use Rattle.std.specs.Prelude.{IfSome}
use Rattle.std.proofs.lemmas.Bool.Decides.{nat_tests}
use Rattle.model_base.specs.declared.limits.TheConstants.{BLOCK_SIZE, LSN_LIMIT}
use Rattle.model_log.specs.{block_view, fits_checksum, fits_number, is_block_at, is_first, is_length, read_block}
use Rattle.model_log.specs.declared.block.BlockView.{BlockView}
use Rattle.model_log.specs.declared.head.Format.{Format}
use Rattle.model_log.specs.declared.head.Format.TheVariants.{One, Two, Three}
use Rattle.model_log.specs.declared.layout.TheConstants.{BLOCK_HEADER}
use Rattle.model_log.proofs.Formats.{two-not_one}
use Rattle.model_store.specs.{longer, in_place_or, read_full, read_tail, Taken, taken_among, taken_from}
use Rattle.model_store.proofs.Ending.{first-place}
use Rattle.model_store.proofs.Taking.{from-full, from-tail}
use Rattle.redo_recover.specs.Blocks.{HasFirst}
use Rattle.redo_recover.specs.Taking.{block_at, chosen, five_of, found_among, found_at, four_of, in_place}
use Rattle.redo_recover.specs.declared.taking.Stand.{Stand}
use Rattle.redo_recover.specs.declared.taking.Stand.TheVariants.{Place, Four, Five}

-- WHAT IS TAKEN is what the model takes.

chosen-when : (test : Bool) (place tails : List ℕ) (first second : BlockView)
    → block_at place tails (cond test (Some (Five, second)) (Some (Four, first)))
    ≡ cond test (taken_from (five_of tails) (Some second)) (taken_from (four_of tails) (Some first))
chosen-when true place tails first second = refl
chosen-when false place tails first second = refl

chosen-takes : (place tails : List ℕ) (first second : Option BlockView)
    → block_at place tails (chosen first second) ≡ longer (four_of tails) (five_of tails) first second
chosen-takes place tails None None = refl
chosen-takes place tails None (Some second) = refl
chosen-takes place tails (Some first) None = refl
chosen-takes place tails (Some first) (Some second) = chosen-when (ltb first.length second.length) place tails first second

in_place-takes : (place tails : List ℕ) (read : Option BlockView) (tail : Option (Stand × BlockView))
    → block_at place tails (in_place read tail) ≡ in_place_or place read (block_at place tails tail)
in_place-takes place tails None tail = refl
in_place-takes place tails (Some view) tail = refl

alone-takes : (place tails : List ℕ) (read : Option BlockView) → block_at place tails (in_place read None) ≡ taken_from place read
alone-takes place tails None = refl
alone-takes place tails (Some view) = refl

among-takes : (format : Format) (lsn : ℕ) (place tails : List ℕ)
    → block_at place tails (found_among format lsn place (four_of tails) (five_of tails)) ≡ taken_among format lsn place (four_of tails) (five_of tails)
among-takes One lsn place tails = alone-takes place tails (read_block lsn place)
among-takes Two lsn place tails =
    in_place-takes place tails (read_full lsn place) (chosen (read_tail lsn (four_of tails)) (read_tail lsn (five_of tails)))
    ∙ ap (in_place_or place (read_full lsn place)) (chosen-takes place tails (read_tail lsn (four_of tails)) (read_tail lsn (five_of tails)))
among-takes Three lsn place tails =
    in_place-takes place tails (read_full lsn place) (chosen (read_tail lsn (four_of tails)) (read_tail lsn (five_of tails)))
    ∙ ap (in_place_or place (read_full lsn place)) (chosen-takes place tails (read_tail lsn (four_of tails)) (read_tail lsn (five_of tails)))

when-takes : (test : Bool) (place tails : List ℕ) (found : Option (Stand × BlockView)) (among : Option Taken)
    → block_at place tails found ≡ among → block_at place tails (cond test found None) ≡ cond test among None
when-takes true place tails found among is = is
when-takes false place tails found among is = refl

pub at-takes : (format : Format) (lsn : ℕ) (place tails : List ℕ)
    → block_at place tails (found_at format lsn place (four_of tails) (five_of tails))
    ≡ cond (ltb lsn LSN_LIMIT) (taken_among format lsn place (four_of tails) (five_of tails)) None
at-takes format lsn place tails =
    when-takes (ltb lsn LSN_LIMIT) place tails (found_among format lsn place (four_of tails) (five_of tails)) (taken_among format lsn place (four_of tails) (five_of tails))
    (among-takes format lsn place tails)

pub three-not_one : Three ≢ One
three-not_one is = absurd cc

-- WHERE IT STANDS. In formats 2 and 3 a block in its place is full, and one in a tail is taken only where none is read in the place.
abbrev pub IsAt : Format → ℕ → List ℕ → List ℕ → List ℕ → BlockView → Stand → Type 0
IsAt format lsn place four five view Place =
    (read_block lsn place ≡ Some view) × (format ≢ One → read_full lsn place ≡ Some view)
IsAt format lsn place four five view Four =
    (format ≢ One) × (read_full lsn place ≡ None) × (read_tail lsn four ≡ Some view)
IsAt format lsn place four five view Five =
    (format ≢ One) × (read_full lsn place ≡ None) × (read_tail lsn five ≡ Some view)

-- what is found is so
abbrev AreAt : Format → ℕ → List ℕ → List ℕ → List ℕ → Option (Stand × BlockView) → Type 0
AreAt format lsn place four five found = IfSome found (λ one. IsAt format lsn place four five one.1 one.0)

chosen-among : (format : Format) (test : Bool) (lsn : ℕ) (place four five : List ℕ) (first second : BlockView) → format ≢ One → read_full lsn place ≡ None
    → read_tail lsn four ≡ Some first → read_tail lsn five ≡ Some second → AreAt format lsn place four five (cond test (Some (Five, second)) (Some (Four, first)))
chosen-among format true lsn place four five first second other none one two = (other, none, two)
chosen-among format false lsn place four five first second other none one two = (other, none, one)

chosen-at : (format : Format) (lsn : ℕ) (place four five : List ℕ) (first second : Option BlockView) → format ≢ One → read_full lsn place ≡ None
    → read_tail lsn four ≡ first → read_tail lsn five ≡ second → AreAt format lsn place four five (chosen first second)
chosen-at format lsn place four five None None other none one two = tt
chosen-at format lsn place four five None (Some second) other none one two = (other, none, two)
chosen-at format lsn place four five (Some first) None other none one two = (other, none, one)
chosen-at format lsn place four five (Some first) (Some second) other none one two =
    chosen-among format (ltb first.length second.length) lsn place four five first second other none one two

full-at : (format : Format) (lsn : ℕ) (place four five : List ℕ) (full : Option BlockView) → format ≢ One → read_full lsn place ≡ full
    → AreAt format lsn place four five (in_place full (chosen (read_tail lsn four) (read_tail lsn five)))
full-at format lsn place four five None other is = chosen-at format lsn place four five (read_tail lsn four) (read_tail lsn five) other is refl refl
full-at format lsn place four five (Some view) other is = ((from-full (read_block lsn place) view is).0, λ not_one. is)

alone-at : (lsn : ℕ) (place four five : List ℕ) (read : Option BlockView) → read_block lsn place ≡ read → AreAt One lsn place four five (in_place read None)
alone-at lsn place four five None is = tt
alone-at lsn place four five (Some view) is = (is, λ other. absurd (other refl))

among-at : (format : Format) (lsn : ℕ) (place four five : List ℕ) → AreAt format lsn place four five (found_among format lsn place four five)
among-at One lsn place four five = alone-at lsn place four five (read_block lsn place) refl
among-at Two lsn place four five = full-at Two lsn place four five (read_full lsn place) two-not_one refl
among-at Three lsn place four five = full-at Three lsn place four five (read_full lsn place) three-not_one refl

when-some : (test : Bool) (found : Option (Stand × BlockView)) (one : Stand × BlockView) → cond test found None ≡ Some one → found ≡ Some one
when-some true found one is = is
when-some false found one is = absurd cc

pub stands-at : (format : Format) (lsn : ℕ) (place four five : List ℕ) (stand : Stand) (view : BlockView)
    → found_at format lsn place four five ≡ Some (stand, view) → IsAt format lsn place four five view stand
stands-at format lsn place four five stand view is =
    let found : found_among format lsn place four five ≡ Some (stand, view) =
    when-some (ltb lsn LSN_LIMIT) (found_among format lsn place four five) (stand, view) is in
    subst (λ (o : Option (Stand × BlockView)). AreAt format lsn place four five o) found (among-at format lsn place four five)

-- WHAT IT SAYS OF ITSELF is sound.

-- its length and its first offset are those of a block
pub record IsView (view : BlockView) : Type 0 where
  pub low : BLOCK_HEADER ≤ view.length
  pub high : view.length ≤ BLOCK_SIZE
  pub first : HasFirst view

passed-length : (number length_fits first sum : Bool) → (number && length_fits && first && sum) ≡ true → length_fits ≡ true
passed-length true true first sum is = refl
passed-length true false first sum is = absurd cc
passed-length false length_fits first sum is = absurd cc

block-when : (test : Bool) (view found : BlockView) → cond test (Some view) None ≡ Some found → (test ≡ true) × (view ≡ found)
block-when true view found is = (refl, cc)
block-when false view found is = absurd cc

length-bounds : (n : ℕ) → is_length n ≡ true → (12 ≤ n) × (n ≤ 512)
length-bounds n is =
    let low : 12 ≤ n = grind (arith, nat_tests) in
    let high : n ≤ 512 = grind (arith, nat_tests) in
    (low, high)

read-length : (lsn : ℕ) (bytes : List ℕ) (view : BlockView) → read_block lsn bytes ≡ Some view → (12 ≤ view.length) × (view.length ≤ 512)
unfolding read_block is_block_at
read-length lsn bytes view is =
    let found = block-when (is_block_at lsn bytes) (block_view bytes) view is in
    let test : is_length (block_view bytes).length ≡ true =
    passed-length (fits_number lsn bytes) (is_length (block_view bytes).length) (is_first (block_view bytes).length (block_view bytes).first) (fits_checksum bytes) found.0 in
    let same : (block_view bytes).length ≡ view.length = ap (λ (one : BlockView). one.length) found.1 in
    let own = length-bounds (block_view bytes).length test in
    (omega (arith, own.0), omega (arith, own.1))

read-view : (lsn : ℕ) (bytes : List ℕ) (view : BlockView) → read_block lsn bytes ≡ Some view → IsView view
read-view lsn bytes view is =
    let own = read-length lsn bytes view is in
    record { low = own.0; high = own.1; first = λ some. (let place = first-place lsn bytes view is some in (place.0, omega (arith, place.1))) }

at-view : (format : Format) (lsn : ℕ) (place four five : List ℕ) (view : BlockView) (stand : Stand) → IsAt format lsn place four five view stand → IsView view
at-view format lsn place four five view Place is = read-view lsn place view is.0
at-view format lsn place four five view Four is = read-view lsn four view (from-tail lsn (read_block lsn four) view is.2).0
at-view format lsn place four five view Five is = read-view lsn five view (from-tail lsn (read_block lsn five) view is.2).0

views-in : (format : Format) (lsn : ℕ) (place four five : List ℕ) (found : Option (Stand × BlockView)) → AreAt format lsn place four five found
    → IfSome found (λ one. IsView one.1)
views-in format lsn place four five None is = tt
views-in format lsn place four five (Some one) is = at-view format lsn place four five one.1 one.0 is

among-views : (format : Format) (lsn : ℕ) (place four five : List ℕ) → IfSome (found_among format lsn place four five) (λ one. IsView one.1)
among-views format lsn place four five = views-in format lsn place four five (found_among format lsn place four five) (among-at format lsn place four five)

view-more : (found : Option (Stand × BlockView)) (P : BlockView → Type 0) → ((view : BlockView) → IsView view → P view)
    → IfSome found (λ one. IsView one.1) → IfSome found (λ one. P one.1)
view-more None P more is = tt
view-more (Some one) P more is = more one.1 is

pub among-lengths : (format : Format) (lsn : ℕ) (place four five : List ℕ)
    → IfSome (found_among format lsn place four five) (λ one. (BLOCK_HEADER ≤ one.1.length) × (one.1.length ≤ BLOCK_SIZE))
among-lengths format lsn place four five =
    view-more (found_among format lsn place four five) (λ view. (BLOCK_HEADER ≤ view.length) × (view.length ≤ BLOCK_SIZE))
    (λ view is. (is.low, is.high)) (among-views format lsn place four five)

pub among-firsts : (format : Format) (lsn : ℕ) (place four five : List ℕ) → IfSome (found_among format lsn place four five) (λ one. HasFirst one.1)
among-firsts format lsn place four five =
    view-more (found_among format lsn place four five) HasFirst (λ view is. is.first) (among-views format lsn place four five)
