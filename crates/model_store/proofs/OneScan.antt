-- What is scanned from a checkpoint on is determined: the blocks, the groups and the end.
use Rattle.std.proofs.Common.{◌≡◌, ℕ, ◌+◌, ◌<◌, ◌≤◌, inl, inr, List, [], ◌∷◌, ◌++◌, length, Option, Some, None, true, arith, refl, sym, ap, ap₂, subst, ◌∙◌, append_assoc, length-append}
use Rattle.std.specs.List.{AllByRecursion}
use Rattle.std.proofs.lemmas.List.{append-nil, nil_from_length}
use Rattle.model_base.specs.declared.shape.Shape.{Shape}
use Rattle.model_log.specs.declared.rec.Rec.{Rec}
use Rattle.model_log.specs.declared.group.Whole.{Whole}
use Rattle.model_log.specs.{group_length, group_text, groups_of, is_full, IsFront, IsGroup, IsRunOf, IsUnfinished, last_span_end, lsn_of, sn_of, spans_of, stream_of}
use Rattle.model_log.specs.declared.block.BlockView.{BlockView}
use Rattle.model_log.proofs.Runs.{run-first}
use Rattle.model_store.specs.Scan.{AreBlocks, IsStorable, AreGroups, AreGroupsOf, IsScan, HasNoStorable, Source, groups_start, data_from}
use Rattle.model_store.proofs.Places.{has_place, same_places}

-- where blocks end, no longer row of blocks goes on
no_longer : (most : ℕ) (source : Source) (ckpt : ℕ) (xs ys : List BlockView)
    → AreBlocks most source ckpt xs → AreBlocks most source ckpt ys → length xs < length ys → ⊥
no_longer most source ckpt xs ys p q h =
    let next = has_place ys (length xs) h in
    elim p.last [
      | inl all ↦ (let few : length ys ≤ most = q.few in omega arith)
      | inr (inl (view, i, at, is, part)) ↦
          (let within : i < length ys = omega arith in
          let there = has_place ys i within in
          let first = p.each i view is in
          let second = q.each i there.0 there.1 in
          let full : is_full there.0 ≡ true = q.full i there.0 (omega arith) there.1 in
          cc)
      | inr (inr none) ↦ (let there = q.each (length xs) next.0 next.1 in cc)
    ]

-- the blocks that are read are determined
pub same_blocks : (most : ℕ) (source : Source) (ckpt : ℕ) (xs ys : List BlockView)
    → AreBlocks most source ckpt xs → AreBlocks most source ckpt ys → xs ≡ ys
same_blocks most source ckpt xs ys p q =
    let up : length xs < length ys → ⊥ = no_longer most source ckpt xs ys p q in
    let down : length ys < length xs → ⊥ = no_longer most source ckpt ys xs q p in
    same_places xs ys (omega (arith, up, down)) (λ i x y a b. let first = p.each i x a in let second = q.each i y b in cc)

-- no group's text is the front of another's
abbrev pub OneGroup : Type 0
OneGroup = (g h : List Rec) (x y : List ℕ) → IsGroup g → IsGroup h → group_text g ++ x ≡ group_text h ++ y → (g ≡ h) × (x ≡ y)

-- less than a whole group doesn't begin with a whole one
pub unfinished-not_whole : OneGroup → (rest : List ℕ) → IsUnfinished rest → (g : List Rec) (more : List ℕ)
    → IsGroup g → rest ≡ group_text g ++ more → ⊥
unfinished-not_whole one rest (tail, group, some, text) g more is e =
    let both : group_text group ++ [] ≡ group_text g ++ (more ++ tail) =
    append-nil (group_text group) ∙ sym text.spelled ∙ ap (λ bytes. bytes ++ tail) e ∙ append_assoc (group_text g) more tail in
    let none = one group g [] (more ++ tail) text.is_group is both in
    some (nil_from_length tail (omega (arith, ap length none.1, length-append more tail)))

-- a group with its places is what they are
same_whole : (w v : Whole) → w.group ≡ v.group → w.start ≡ v.start → w.end ≡ v.end → w ≡ v
same_whole w v g s e = λ i. record { group = g i; start = s i; end = e i }

-- less than a whole group has no group that fits at its front
pub front-no_storable : OneGroup → (shape : Shape) (rest : List ℕ) → IsFront rest → HasNoStorable shape rest
front-no_storable one shape rest front group more is e = unfinished-not_whole one rest front.1 group more is.has_text e

-- groups that fit and follow one another from a place on, as far as they go, are determined, and so is the rest
pub same_wholes : OneGroup → (shape : Shape) (start : ℕ) (ws vs : List Whole) (rest tail : List ℕ)
    → stream_of (groups_of ws) ++ rest ≡ stream_of (groups_of vs) ++ tail → IsRunOf start ws → IsRunOf start vs
    → AllByRecursion (IsStorable shape) (groups_of ws) → AllByRecursion (IsStorable shape) (groups_of vs)
    → HasNoStorable shape rest → HasNoStorable shape tail → (ws ≡ vs) × (rest ≡ tail)
unfolding stream_of
same_wholes one shape start [] [] rest tail e t u a b p q = (refl, e)
same_wholes one shape start [] (v ∷ vs) rest tail e t u a b p q =
    absurd (p v.group (stream_of (groups_of vs) ++ tail) b.0
    (e ∙ append_assoc (group_text v.group) (stream_of (groups_of vs)) tail))
same_wholes one shape start (w ∷ ws) [] rest tail e t u a b p q =
    absurd (q w.group (stream_of (groups_of ws) ++ rest) a.0
    (sym e ∙ append_assoc (group_text w.group) (stream_of (groups_of ws)) rest))
same_wholes one shape start (w ∷ ws) (v ∷ vs) rest tail e t u a b p q =
    let joined = sym (append_assoc (group_text w.group) (stream_of (groups_of ws)) rest) ∙ e
    ∙ append_assoc (group_text v.group) (stream_of (groups_of vs)) tail in
    let front = one w.group v.group (stream_of (groups_of ws) ++ rest) (stream_of (groups_of vs) ++ tail) a.0.has_text b.0.has_text joined in
    let from : w.start ≡ v.start = (run-first t).0 ∙ sym (run-first u).0 in
    let end : w.end ≡ v.end = (run-first t).1 ∙ ap lsn_of (ap₂ ◌+◌ (ap sn_of from) (ap group_length front.0)) ∙ sym (run-first u).1 in
    let others = same_wholes one shape w.end ws vs rest tail front.1 (run-first t).2 (subst (λ (from : ℕ). IsRunOf from vs) (sym end) (run-first u).2) a.1 b.1 p q in
    (ap₂ ◌∷◌ (same_whole w v front.0 from end) others.0, others.1)

-- the same of two readings of the same bytes
pub same_groups : OneGroup → (shape : Shape) (bytes : List ℕ) (start : ℕ) (ws vs : List Whole) (rest tail : List ℕ)
    → AreGroups shape bytes start ws rest → AreGroups shape bytes start vs tail
    → HasNoStorable shape rest → HasNoStorable shape tail → (ws ≡ vs) × (rest ≡ tail)
same_groups one shape bytes start ws vs rest tail a b p q =
    same_wholes one shape start ws vs rest tail (sym a.bytes_are ∙ b.bytes_are) a.run b.run a.each b.each p q

-- the groups of blocks that were read are determined, and so is where the log ends
pub same_groups_of : OneGroup → (shape : Shape) (source : Source) (ckpt : ℕ) (views : List BlockView) (start : Option ℕ) (ws vs : List Whole) (m n : ℕ)
    → AreGroupsOf shape source ckpt views start ws m → AreGroupsOf shape source ckpt views start vs n → (ws ≡ vs) × (m ≡ n)
same_groups_of one shape source ckpt views None ws vs m n a b = (a.0 ∙ sym b.0, a.1 ∙ sym b.1)
same_groups_of one shape source ckpt views (Some start) ws vs m n (rest, a, front, m_is) (tail, b, back, n_is) =
    let same = same_groups one shape (data_from source ckpt views start) start ws vs rest tail a b
    (front-no_storable one shape rest front) (front-no_storable one shape tail back) in
    (same.0, m_is ∙ ap (λ (groups : List Whole). last_span_end start (spans_of groups)) same.0 ∙ sym n_is)

-- the scan of a source is determined
pub same_scan : OneGroup → (shape : Shape) (most : ℕ) (source : Source) (ckpt : ℕ) (views blocks : List BlockView) (ws vs : List Whole) (m n : ℕ)
    → IsScan shape most source ckpt views ws m → IsScan shape most source ckpt blocks vs n → (views ≡ blocks) × (ws ≡ vs) × (m ≡ n)
same_scan one shape most source ckpt views blocks ws vs m n a b =
    let same = same_blocks most source ckpt views blocks a.blocks b.blocks in
    let groups = subst (λ xs. AreGroupsOf shape source ckpt xs (groups_start ckpt xs) vs n) (sym same) b.groups in
    let found = same_groups_of one shape source ckpt views (groups_start ckpt views) ws vs m n a.groups groups in
    (same, found.0, found.1)
