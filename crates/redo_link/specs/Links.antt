-- The links of a link buffer by the places where they start, and the path that they connect from its tail on.
use Rattle.std.specs.Prelude.{◌≡◌, ◌≢◌, ℕ, ◌+◌, ◌%◌, ◌<◌, ◌≤◌, ◌&&◌, nat_le, nat_lt, if◌then◌else◌, List, [], ◌∷◌, length, slice_index, ◌⊎◌}

-- a link buffer: its tail, and for each slot the end of the link that stands in it, or 0
pub record Links : Type 0 where
  pub tail : ℕ
  pub slots : List ℕ

abbrev pub capacity_of : Links → ℕ
capacity_of links = length links.slots

-- Where the link ends that starts at a place, or 0 where none does. A link starts in the window of one capacity from the
-- tail on, and stands in the slot of its start.
abbrev pub link_at : Links → ℕ → ℕ
link_at links place =
    if (nat_le links.tail place && nat_lt place (links.tail + capacity_of links)) then slice_index links.slots (place % capacity_of links) else 0

-- Links lead forwards, and none overlaps another: one that starts later starts at or past the other's end.
pub record IsSound (links : Links) : Type 0 where
  pub some : 0 < capacity_of links
  pub forward : (place : ℕ) → link_at links place ≢ 0 → place < link_at links place
  pub apart : (place later : ℕ) → place < later → link_at links place ≢ 0 → link_at links later ≢ 0 → link_at links place ≤ later

-- no link overlaps the stretch between these places: each starts at or past its end, or ends at or before its start
abbrev pub IsFree : Links → ℕ → ℕ → Type 0
IsFree links from to = (place : ℕ) → link_at links place ≢ 0 → (to ≤ place) ⊎ (link_at links place ≤ from)

-- a link more, from one place to another
pub record IsAdded (old : Links) (from to : ℕ) (new : Links) : Type 0 where
  pub tail : new.tail ≡ old.tail
  pub capacity : capacity_of new ≡ capacity_of old
  pub link : link_at new from ≡ to
  pub others : (place : ℕ) → place ≢ from → link_at new place ≡ link_at old place

-- links that start at these places one after another, each where the one before ends, lead from one place to another
abbrev pub IsPath : Links → ℕ → List ℕ → ℕ → Type 0
IsPath links from [] to = from ≡ to
IsPath links from (start ∷ later) to = (from ≡ start) × (link_at links start ≢ 0) × IsPath links (link_at links start) later to

-- links lead from one place to another
abbrev pub Leads : Links → ℕ → ℕ → Type 0
Leads links from to = (starts : List ℕ) × IsPath links from starts to

-- the links that start below a place are cleared, and those from there on stand
pub record AreLinksCleared (old : Links) (place : ℕ) (new : Links) : Type 0 where
  pub below : (start : ℕ) → start < place → link_at new start ≡ 0
  pub others : (start : ℕ) → place ≤ start → link_at new start ≡ link_at old start

-- the tail goes along one link, which is cleared
pub record IsFollowed (old new : Links) : Type 0 where
  pub some : link_at old old.tail ≢ 0
  pub tail : new.tail ≡ link_at old old.tail
  pub forward : old.tail < new.tail
  pub capacity : capacity_of new ≡ capacity_of old
  pub cleared : AreLinksCleared old new.tail new

-- the tail goes along the links to the first place at which none starts, and those followed are cleared
pub record Advances (old new : Links) : Type 0 where
  pub along : Leads old old.tail new.tail
  pub stops : link_at old new.tail ≡ 0
  pub capacity : capacity_of new ≡ capacity_of old
  pub cleared : AreLinksCleared old new.tail new
