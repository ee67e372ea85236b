-- What the blocks of a source give: rows of them, their data joined, and where a scan of them ends.
use Rattle.std.proofs.Common.{◌≡◌, ◌≢◌, ◌≤◌, ◌<◌, ◌+◌, ◌*◌, ◌%◌, ◌==◌, ℕ, suc, Bool, true, cond, List, [], ◌∷◌, ◌++◌, length, Option, Some, None, refl, sym, ap, ◌∙◌, inr, ⊎_elim, append_assoc, length-append, arith}
use Rattle.std.specs.List.{slice_get}
use Rattle.std.specs.Option.{option_map}
use Rattle.std.proofs.lemmas.Bool.{cases_Bool}
use Rattle.model_base.specs.declared.shape.Shape.{Shape}
use Rattle.model_log.specs.declared.group.Whole.{Whole}
use Rattle.model_log.specs.{is_full, lsn_at}
use Rattle.model_log.specs.declared.block.BlockView.{BlockView}
use Rattle.model_log.specs.declared.layout.TheConstants.{BLOCK_DATA}
use Rattle.model_store.specs.Scan.{AreGroupsOf, IsScan, bytes_of, groups_start, joined, Source, Taken, view_at}
use Rattle.model_store.proofs.Ending.{IsGroupsStart, EndsWithin, AreFirstsIn, starts-among, ends-behind, ends-among}

-- the data of the block that is taken at the lsn
abbrev pub data_at : Source → ℕ → List ℕ
data_at source lsn = bytes_of (source lsn)

-- A sound source reads blocks: the first offset of a block is past its header and before its checksum, and its data is at most
-- that of a full block, which has all of it.
pub record IsSoundSource (source : Source) : Type 0 where
  pub first : (lsn : ℕ) (block : Taken) → source lsn ≡ Some block → block.view.first ≢ 0 → (12 ≤ block.view.first) × (block.view.first ≤ 507)
  pub short : (lsn : ℕ) (block : Taken) → source lsn ≡ Some block → length block.bytes ≤ BLOCK_DATA
  pub full : (lsn : ℕ) (block : Taken) → source lsn ≡ Some block → is_full block.view ≡ true → length block.bytes ≡ BLOCK_DATA

-- each of the views is what the scan takes
abbrev pub AreTaken : Source → ℕ → List BlockView → Type 0
AreTaken source ckpt views = (i : ℕ) (view : BlockView) → slice_get views i ≡ Some view → view_at source (lsn_at ckpt i) ≡ Some view

-- WHERE TWO SOURCES GIVE THE SAME, or one gives nothing.

pub same-view : (old new : Source) (lsn : ℕ) → new lsn ≡ old lsn → view_at new lsn ≡ view_at old lsn
same-view old new lsn same = ap (option_map (λ (block : Taken). block.view)) same

pub view-none : (source : Source) (lsn : ℕ) → source lsn ≡ None → view_at source lsn ≡ None
view-none source lsn none = ap (option_map (λ (block : Taken). block.view)) none

pub same-joined : (old new : Source) (lsn : ℕ) (views : List BlockView) → ((i : ℕ) → i < length views → new (lsn_at lsn i) ≡ old (lsn_at lsn i)) → joined new lsn views ≡ joined old lsn views
same-joined old new lsn [] same = refl
same-joined old new lsn (view ∷ views) same =
    let here : lsn_at lsn 0 ≡ lsn = omega arith in
    let first : new lsn ≡ old lsn = sym (ap new here) ∙ same 0 (omega arith) ∙ ap old here in
    let others : joined new (lsn + 512) views ≡ joined old (lsn + 512) views =
    same-joined old new (lsn + 512) views (λ i below. (
    let next : lsn_at (lsn + 512) i ≡ lsn_at lsn (suc i) = omega arith in
    ap new next ∙ same (suc i) (omega arith) ∙ sym (ap old next))) in
    ap (λ (bytes : List ℕ). bytes ++ joined new (lsn + 512) views) (ap bytes_of first)
    ∙ ap (λ (bytes : List ℕ). data_at old lsn ++ bytes) others

-- TWO ROWS, ONE AFTER THE OTHER.

pub joined-append : (source : Source) (lsn : ℕ) (front back : List BlockView)
    → joined source lsn (front ++ back) ≡ joined source lsn front ++ joined source (lsn_at lsn (length front)) back
joined-append source lsn [] back =
    let here : lsn ≡ lsn_at lsn 0 = omega arith in
    ap (λ n. joined source n back) here
joined-append source lsn (view ∷ front) back =
    let next : lsn_at (lsn + 512) (length front) ≡ lsn_at lsn (suc (length front)) = omega arith in
    ap (λ (bytes : List ℕ). data_at source lsn ++ bytes) (joined-append source (lsn + 512) front back)
    ∙ sym (append_assoc (data_at source lsn) (joined source (lsn + 512) front) (joined source (lsn_at (lsn + 512) (length front)) back))
    ∙ ap (λ n. (data_at source lsn ++ joined source (lsn + 512) front) ++ joined source n back) next

-- where groups start in the front, they start there in both
pub starts-front : (lsn start : ℕ) (front back : List BlockView) → groups_start lsn front ≡ Some start → groups_start lsn (front ++ back) ≡ Some start
starts-front lsn start [] back is = absurd cc
starts-front lsn start (view ∷ front) back is =
    let here : Bool → Option ℕ = λ t. cond t (groups_start (lsn + 512) front) (Some (lsn + view.first)) in
    let both : Bool → Option ℕ = λ t. cond t (groups_start (lsn + 512) (front ++ back)) (Some (lsn + view.first)) in
    ⊎_elim (λ none. ap both none ∙ starts-front (lsn + 512) start front back (sym (ap here none) ∙ is))
    (λ some. ap both some ∙ sym (ap here some) ∙ is) (cases_Bool (view.first == 0))

-- and else where they start in the back
pub starts-back : (lsn : ℕ) (front back : List BlockView) → groups_start lsn front ≡ None
    → groups_start lsn (front ++ back) ≡ groups_start (lsn_at lsn (length front)) back
starts-back lsn [] back is = let here : lsn ≡ lsn_at lsn 0 = omega arith in ap (λ n. groups_start n back) here
starts-back lsn (view ∷ front) back is =
    let here : Bool → Option ℕ = λ t. cond t (groups_start (lsn + 512) front) (Some (lsn + view.first)) in
    let both : Bool → Option ℕ = λ t. cond t (groups_start (lsn + 512) (front ++ back)) (Some (lsn + view.first)) in
    let next : lsn_at (lsn + 512) (length front) ≡ lsn_at lsn (suc (length front)) = omega arith in
    ⊎_elim (λ none. ap both none ∙ starts-back (lsn + 512) front back (sym (ap here none) ∙ is) ∙ ap (λ n. groups_start n back) next)
    (λ some. let wrong : Some (lsn + view.first) ≡ None = sym (ap here some) ∙ is in absurd cc) (cases_Bool (view.first == 0))

-- WHAT A SOUND SOURCE GIVES.

-- the block of which a view is
pub record Found (source : Source) (lsn : ℕ) (view : BlockView) : Type 0 where
  pub block : Taken
  pub is : source lsn ≡ Some block
  pub view_is : block.view ≡ view

found-in : (found : Option Taken) (view : BlockView) → option_map (λ (block : Taken). block.view) found ≡ Some view → (block : Taken) × (found ≡ Some block) × (block.view ≡ view)
found-in None view is = absurd cc
found-in (Some block) view is = (block, refl, cc)

pub found-at : (source : Source) (lsn : ℕ) (view : BlockView) → view_at source lsn ≡ Some view → Found source lsn view
found-at source lsn view is = let found = found-in (source lsn) view is in record { block = found.0; is = found.1; view_is = found.2 }

firsts-taken : (source : Source) (ckpt : ℕ) (views : List BlockView) → IsSoundSource source → AreTaken source ckpt views → AreFirstsIn views
firsts-taken source ckpt views sound each i view at some =
    let found : Found source (lsn_at ckpt i) view = found-at source (lsn_at ckpt i) view (each i view at) in
    let first : found.block.view.first ≡ view.first = ap (λ (v : BlockView). v.first) found.view_is in
    let own = sound.first (lsn_at ckpt i) found.block found.is (λ zero. some (sym first ∙ zero)) in
    (omega (arith, own.0), omega (arith, own.1))

pub groups-start : (source : Source) (ckpt start : ℕ) (views : List BlockView) → IsSoundSource source → ckpt % 512 ≡ 0
    → AreTaken source ckpt views → groups_start ckpt views ≡ Some start → IsGroupsStart ckpt start views
groups-start source ckpt start views sound aligned each is = starts-among ckpt start views aligned (firsts-taken source ckpt views sound each) is

short-data : (source : Source) (lsn : ℕ) (found : Option Taken) → IsSoundSource source → source lsn ≡ found → length (bytes_of found) ≤ BLOCK_DATA
short-data source lsn None sound is = omega arith
short-data source lsn (Some block) sound is = sound.short lsn block is

joined-short : (source : Source) (lsn : ℕ) (views : List BlockView) → IsSoundSource source → length (joined source lsn views) ≤ BLOCK_DATA * length views
joined-short source lsn [] sound = omega arith
joined-short source lsn (view ∷ views) sound =
    let first : length (data_at source lsn) ≤ BLOCK_DATA = short-data source lsn (source lsn) sound refl in
    let others : length (joined source (lsn + 512) views) ≤ BLOCK_DATA * length views = joined-short source (lsn + 512) views sound in
    omega (arith, length-append (data_at source lsn) (joined source (lsn + 512) views))

full-data : (source : Source) (lsn : ℕ) (view : BlockView) → IsSoundSource source → view_at source lsn ≡ Some view → is_full view ≡ true → length (data_at source lsn) ≡ BLOCK_DATA
full-data source lsn view sound at full =
    let found : Found source lsn view = found-at source lsn view at in
    ap (λ (o : Option Taken). length (bytes_of o)) found.is ∙ sound.full lsn found.block found.is (ap is_full found.view_is ∙ full)

pub joined-full : (source : Source) (lsn : ℕ) (views : List BlockView) → IsSoundSource source
    → ((i : ℕ) (view : BlockView) → slice_get views i ≡ Some view → view_at source (lsn_at lsn i) ≡ Some view)
    → ((i : ℕ) (view : BlockView) → slice_get views i ≡ Some view → is_full view ≡ true)
    → length (joined source lsn views) ≡ BLOCK_DATA * length views
joined-full source lsn [] sound each full = omega arith
joined-full source lsn (view ∷ views) sound each full =
    let here : lsn_at lsn 0 ≡ lsn = omega arith in
    let at : view_at source lsn ≡ Some view = sym (ap (view_at source) here) ∙ each 0 view refl in
    let first : length (data_at source lsn) ≡ BLOCK_DATA = full-data source lsn view sound at (full 0 view refl) in
    let others : length (joined source (lsn + 512) views) ≡ BLOCK_DATA * length views =
    joined-full source (lsn + 512) views sound
    (λ i other found. (let next : lsn_at (lsn + 512) i ≡ lsn_at lsn (suc i) = omega arith in ap (view_at source) next ∙ each (suc i) other found))
    (λ i other found. full (suc i) other found) in
    omega (arith, length-append (data_at source lsn) (joined source (lsn + 512) views))

-- the log ends at most at the first data byte of the block after those that were read
pub ends-within : (shape : Shape) (source : Source) (ckpt : ℕ) (views : List BlockView) (start : Option ℕ) (wholes : List Whole) (end : ℕ) → IsSoundSource source → ckpt % 512 ≡ 0
    → AreTaken source ckpt views → groups_start ckpt views ≡ start → AreGroupsOf shape source ckpt views start wholes end → EndsWithin ckpt end views
ends-within shape source ckpt views None wholes end sound aligned each is (none, at) = ends-behind ckpt end views aligned at
ends-within shape source ckpt views (Some start) wholes end sound aligned each is (rest, groups, front, at) =
    ends-among ckpt start end views (joined source ckpt views) wholes rest aligned (groups-start source ckpt start views sound aligned each is)
    (joined-short source ckpt views sound) groups.bytes_are groups.run at

-- A SOURCE THAT GIVES NOTHING at the checkpoint is scanned as an empty log.

pub empty-scan : (shape : Shape) (most : ℕ) (source : Source) (ckpt : ℕ) → source ckpt ≡ None → IsScan shape most source ckpt [] [] (ckpt + 12)
empty-scan shape most source ckpt none =
    let first : lsn_at ckpt 0 ≡ ckpt = omega arith in
    record {
      blocks = record {
        few = omega arith;
        each = λ i view at. absurd cc;
        full = λ i view below at. absurd cc;
        last = inr (inr (ap (view_at source) first ∙ view-none source ckpt none));
      };
      groups = (refl, omega arith);
    }
