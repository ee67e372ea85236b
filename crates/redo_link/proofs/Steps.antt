-- A link that is added, and a link that is followed.
use Rattle.std.proofs.Common.{◌≡◌, ◌≢◌, ◌≤◌, ◌<◌, ◌+◌, ◌%◌, ℕ, List, [], ◌∷◌, ◌++◌, length, get_or, set, replicate, ◌⊎◌, ⊎_elim, refl, sym, ap, subst, ◌∙◌, arith}
use Rattle.std.proofs.lemmas.Bool.{cases_lt, cases_eq}
use Rattle.std.proofs.lemmas.Nat.{mod_below}
use Rattle.std.proofs.lemmas.List.{get_or-set_same, get_or-set_other, get_or-replicate, length-set, length-replicate}
use Rattle.redo_link.specs.Links.{Links, IsSound, IsFree, IsAdded, AreLinksCleared, IsFollowed, IsPath, Leads, capacity_of, link_at}
use Rattle.redo_link.proofs.Windows.{Shares, shares, slots-apart, at-inside, at-below, at-behind}

-- a buffer with no link
none-at : (n tail place : ℕ) → 0 < n → link_at (record { tail = tail; slots = replicate n 0 }) place ≡ 0
none-at n tail place some =
    let links : Links = record { tail = tail; slots = replicate n 0 } in
    let long : length links.slots ≡ n = length-replicate n 0 in
    ⊎_elim (λ low. at-below links place low)
    (λ from. ⊎_elim (λ high. at-inside links n place long from high ∙ get_or-replicate n (place % n) 0 0 (mod_below place n some))
    (λ far. at-behind links n place long far) (cases_lt place (tail + n))) (cases_lt place tail)

pub sound-none : (n tail : ℕ) → 0 < n → IsSound (record { tail = tail; slots = replicate n 0 })
sound-none n tail some = record {
  some = subst (λ (k : ℕ). 0 < k) (sym (length-replicate n 0)) some;
  forward = λ place is. absurd (is (none-at n tail place some));
  apart = λ place later before is other. absurd (is (none-at n tail place some));
}

-- the buffer with a link more
added : (old : Links) (from to : ℕ) → 0 < capacity_of old → old.tail ≤ from → from < old.tail + capacity_of old
    → IsAdded old from to (record { tail = old.tail; slots = set old.slots (from % length old.slots) to })
added old from to some low high =
    let n : ℕ = length old.slots in
    let new : Links = record { tail = old.tail; slots = set old.slots (from % n) to } in
    let long : length new.slots ≡ n = length-set old.slots (from % n) to in
    record {
      tail = refl;
      capacity = long;
      link = at-inside new n from long low high ∙ get_or-set_same old.slots (from % n) to 0 (mod_below from n some);
      others = λ place other. (
          ⊎_elim (λ below. at-below new place below ∙ sym (at-below old place below))
          (λ above. ⊎_elim (λ inside. at-inside new n place long above inside
          ∙ get_or-set_other old.slots (from % n) (place % n) to 0 (slots-apart n old.tail place from above inside low high other)
          ∙ sym (at-inside old n place refl above inside))
          (λ far. at-behind new n place long far ∙ sym (at-behind old n place refl far)) (cases_lt place (old.tail + n))) (cases_lt place old.tail));
    }

pub added-at : (old : Links) (slot from to : ℕ) → slot ≡ from % length old.slots → 0 < capacity_of old → old.tail ≤ from → from < old.tail + capacity_of old
    → IsAdded old from to (record { tail = old.tail; slots = set old.slots slot to })
added-at old slot from to is some low high =
    subst (λ (k : ℕ). IsAdded old from to (record { tail = old.tail; slots = set old.slots k to })) (sym is) (added old from to some low high)

forward-added : (at next : ℕ → ℕ) (from to : ℕ) → next from ≡ to → ((place : ℕ) → place ≢ from → next place ≡ at place) → from < to
    → ((place : ℕ) → at place ≢ 0 → place < at place) → (place : ℕ) → next place ≢ 0 → place < next place
forward-added at next from to link others longer forward place some =
    ⊎_elim (λ same. subst (λ (p : ℕ). p < next p) (sym same) (subst (λ (end : ℕ). from < end) (sym link) longer))
    (λ other. let is : next place ≡ at place = others place other in
    subst (λ (end : ℕ). place < end) (sym is) (forward place (λ zero. some (is ∙ zero)))) (cases_eq place from)

apart-added : (at next : ℕ → ℕ) (from to : ℕ) → next from ≡ to → ((place : ℕ) → place ≢ from → next place ≡ at place) → from < to
    → ((place : ℕ) → at place ≢ 0 → (to ≤ place) ⊎ (at place ≤ from))
    → ((place : ℕ) → at place ≢ 0 → place < at place) → ((place later : ℕ) → place < later → at place ≢ 0 → at later ≢ 0 → at place ≤ later)
    → (place later : ℕ) → place < later → next place ≢ 0 → next later ≢ 0 → next place ≤ later
apart-added at next from to link others longer free forward apart place later before some some_later =
    ⊎_elim (λ same.
    let other : later ≢ from = λ equal. absurd (omega (arith, same, equal, before)) in
    let is : next later ≡ at later = others later other in
    let stands : at later ≢ 0 = λ zero. some_later (is ∙ zero) in
    let end : next place ≡ to = ap next same ∙ link in
    ⊎_elim (λ behind. omega (arith, end, behind))
    (λ ends. absurd (omega (arith, ends, forward later stands, same, before))) (free later stands))
    (λ other.
    let is : next place ≡ at place = others place other in
    let stands : at place ≢ 0 = λ zero. some (is ∙ zero) in
    ⊎_elim (λ same. ⊎_elim (λ behind. absurd (omega (arith, behind, same, before, longer))) (λ ends. omega (arith, is, ends, same)) (free place stands))
    (λ other_later.
    let is_later : next later ≡ at later = others later other_later in
    subst (λ (end : ℕ). end ≤ later) (sym is) (apart place later before stands (λ zero. some_later (is_later ∙ zero)))) (cases_eq later from))
    (cases_eq place from)

pub sound-added : (old new : Links) (from to : ℕ) → IsSound old → IsFree old from to → from < to → IsAdded old from to new → IsSound new
sound-added old new from to sound free longer is = record {
  some = subst (λ (n : ℕ). 0 < n) (sym is.capacity) sound.some;
  forward = forward-added (link_at old) (link_at new) from to is.link is.others longer sound.forward;
  apart = apart-added (link_at old) (link_at new) from to is.link is.others longer free sound.forward sound.apart;
}

-- past the old window no link starts
behind-cleared : (old : Links) (n end start : ℕ) → length old.slots ≡ n → IsSound old → link_at old old.tail ≡ end → end ≢ 0 → end ≤ start → old.tail + n ≤ start
    → link_at (record { tail = end; slots = set old.slots (old.tail % n) 0 }) start ≡ 0
behind-cleared old n end start whole sound first stands from far =
    let t : ℕ = old.tail in
    let new : Links = record { tail = end; slots = set old.slots (t % n) 0 } in
    let long : length new.slots ≡ n = length-set old.slots (t % n) 0 ∙ whole in
    let some : 0 < n = subst (λ (k : ℕ). 0 < k) whole sound.some in
    let twin : Shares n t start = shares n t start some far in
    let below : t % n < length old.slots = omega (arith, mod_below t n some, whole) in
    let in_slot : get_or old.slots (twin.place % n) 0 ≡ link_at old twin.place = sym (at-inside old n twin.place whole twin.low twin.high) in
    ⊎_elim (λ inside. at-inside new n start long from inside
    ∙ ⊎_elim (λ same. get_or-set_same' old.slots (t % n) (start % n) (twin.slot ∙ ap (λ p. p % n) same) below)
    (λ other.
    get_or-set_other old.slots (t % n) (start % n) 0 0 (subst (λ (k : ℕ). k ≢ t % n) (sym twin.slot)
    (slots-apart n t twin.place t twin.low twin.high (omega arith) (omega (arith, some)) other))
    ∙ ap (λ k. get_or old.slots k 0) twin.slot ∙ in_slot
    ∙ ⊎_elim (λ zero. zero) (λ is. absurd (
    let later : t < twin.place = above t twin.place twin.low other in
    let ends : end ≤ twin.place = subst (λ (k : ℕ). k ≤ twin.place) first (sound.apart t twin.place later (λ zero. stands (sym first ∙ zero)) is) in
    omega (arith, ends, twin.behind, inside))) (cases_eq (link_at old twin.place) 0))
    (cases_eq twin.place t))
    (λ outside. at-behind new n start long outside) (cases_lt start (end + n))
  where
    get_or-set_same' : (xs : List ℕ) (i j : ℕ) → j ≡ i → i < length xs → get_or (set xs i 0) j 0 ≡ 0
    get_or-set_same' xs i j same below = ap (λ k. get_or (set xs i 0) k 0) same ∙ get_or-set_same xs i 0 0 below

    above : (low high : ℕ) → low ≤ high → high ≢ low → low < high
    above low high least other = ⊎_elim (λ less. less) (λ most. absurd (other (omega (arith, least, most)))) (cases_lt low high)

followed : (old : Links) (end : ℕ) → IsSound old → get_or old.slots (old.tail % length old.slots) 0 ≡ end → end ≢ 0
    → IsFollowed old (record { tail = end; slots = set old.slots (old.tail % length old.slots) 0 })
followed old end sound at_slot stands =
    let n : ℕ = length old.slots in
    let t : ℕ = old.tail in
    let new : Links = record { tail = end; slots = set old.slots (t % n) 0 } in
    let long : length new.slots ≡ n = length-set old.slots (t % n) 0 in
    let some : 0 < n = sound.some in
    let first : link_at old t ≡ end = at-inside old n t refl (omega arith) (omega (arith, some)) ∙ at_slot in
    let first_stands : link_at old t ≢ 0 = λ zero. stands (sym first ∙ zero) in
    let forward : t < end = subst (λ (k : ℕ). t < k) first (sound.forward t first_stands) in
    record {
      some = first_stands;
      tail = sym first;
      forward = forward;
      capacity = long;
      cleared = record {
        below = λ start low. at-below new start low;
        others = λ start from. (
            ⊎_elim (λ inside. at-inside new n start long from (omega (arith, inside, forward))
            ∙ get_or-set_other old.slots (t % n) (start % n) 0 0
            (slots-apart n t start t (omega (arith, from, forward)) inside (omega arith) (omega (arith, some)) (λ same. absurd (omega (arith, same, from, forward))))
            ∙ sym (at-inside old n start refl (omega (arith, from, forward)) inside))
            (λ far. behind-cleared old n end start refl sound first stands from far ∙ sym (at-behind old n start refl far)) (cases_lt start (t + n)));
      };
    }

-- the buffer whose link at the tail is followed
pub followed-at : (old : Links) (slot end : ℕ) → slot ≡ old.tail % length old.slots → IsSound old → get_or old.slots slot 0 ≡ end → end ≢ 0
    → IsFollowed old (record { tail = end; slots = set old.slots slot 0 })
followed-at old slot end is sound at_slot stands =
    subst (λ (k : ℕ). IsFollowed old (record { tail = end; slots = set old.slots k 0 })) (sym is)
    (followed old end sound (subst (λ (k : ℕ). get_or old.slots k 0 ≡ end) is at_slot) stands)

sound-cleared : (at next : ℕ → ℕ) (from : ℕ) → ((place : ℕ) → place < from → next place ≡ 0) → ((place : ℕ) → from ≤ place → next place ≡ at place) → (place : ℕ) → next place ≢ 0 → next place ≡ at place
sound-cleared at next from below others place some = ⊎_elim (λ low. absurd (some (below place low))) (λ high. others place high) (cases_lt place from)

pub sound-followed : (old new : Links) → IsSound old → IsFollowed old new → IsSound new
sound-followed old new sound is =
    let same : (place : ℕ) → link_at new place ≢ 0 → link_at new place ≡ link_at old place = sound-cleared (link_at old) (link_at new) new.tail is.cleared.below is.cleared.others in
    record {
      some = subst (λ (n : ℕ). 0 < n) (sym is.capacity) sound.some;
      forward = λ place some. subst (λ (end : ℕ). place < end) (sym (same place some)) (sound.forward place (λ zero. some (same place some ∙ zero)));
      apart = λ place later before some other. subst (λ (end : ℕ). end ≤ later) (sym (same place some))
          (sound.apart place later before (λ zero. some (same place some ∙ zero)) (λ zero. other (same later other ∙ zero)));
    }

-- how far the tail has come
pub record IsOnPath (old now : Links) : Type 0 where
  pub along : Leads old old.tail now.tail
  pub capacity : capacity_of now ≡ capacity_of old
  pub cleared : AreLinksCleared old now.tail now

path-more : (links : Links) (from place to : ℕ) (starts : List ℕ) → IsPath links from starts place → link_at links place ≢ 0 → link_at links place ≡ to → IsPath links from (starts ++ place ∷ []) to
path-more links from place to [] path some ends = (path, some, ends)
path-more links from place to (start ∷ later) path some ends = (path.0, path.1, path-more links (link_at links start) place to later path.2 some ends)

pub path-step : (old now new : Links) → IsOnPath old now → IsFollowed now new → IsOnPath old new
path-step old now new path is =
    let here : link_at now now.tail ≡ link_at old now.tail = path.cleared.others now.tail (omega arith) in
    record {
      along = (
        path.along.0 ++ now.tail ∷ [],
        path-more old old.tail now.tail new.tail path.along.0 path.along.1 (λ zero. is.some (here ∙ zero)) (sym (is.tail ∙ here)),
      );
      capacity = is.capacity ∙ path.capacity;
      cleared = record {
        below = is.cleared.below;
        others = λ start from. is.cleared.others start from ∙ path.cleared.others start (omega (arith, from, is.forward));
      };
    }
