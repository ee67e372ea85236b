-- The whole groups in front of some bytes, one after another.
use Rattle.std.proofs.Common.{cond, List, [], ◌∷◌, ◌++◌, ℕ, ◌+◌, ◌<◌, ◌≤◌, ◌≡◌, ◌∙◌, ap, append_assoc, append-nil, arith}
use Rattle.std.proofs.Common.{drop, length, length-append, refl, subst, sym, take}
use Rattle.std.specs.List.{AllByRecursion}
use Rattle.std.proofs.lemmas.List.{drop-drop, length-drop, length-take, take-append-drop}
use Rattle.model_base.specs.declared.got.Got.{Got}
use Rattle.model_base.specs.declared.got.Got.TheVariants as got
use Rattle.model_base.specs.declared.limits.TheConstants.{MAX_GROUP}
use Rattle.model_core.specs.{AreInFront, Given, is_none, IsText, joined_texts, lsn, pending, placed_at, ReaderState}
use Rattle.model_core.specs.declared.steps.ReaderStep.{ReaderStep}
use Rattle.model_core.specs.declared.steps.ReaderStep.TheVariants as reader_step
use Rattle.model_core.proofs.Collected.{group_has_text}
use Rattle.model_log.specs.{BeginsWithGroup, IsFront, group_text}
use Rattle.model_log.specs.declared.rec.Rec.{Rec}
use Rattle.model_log.proofs.Several.{one_group, back_nil}
use Rattle.redo_follow.specs.Handing.{Followed, HandsOn, StandsFor, with_group}
use Rattle.redo_record.specs.{GivesSpan}

-- no whole group stands in front
abbrev pub NoMore : List ℕ → Type 0
NoMore rest = (n : ℕ) → n ≤ length rest → n ≤ MAX_GROUP → IsText (take n rest) → ⊥

none_in_bad : (rest : List ℕ) → ((group : List Rec) (len : ℕ) → BeginsWithGroup rest group len → ⊥) → NoMore rest
none_in_bad rest none n within few is = none is.0 n (within, few, is.1)

joined_push : (ts : List (List ℕ)) (t : List ℕ) → joined_texts (ts ++ t ∷ []) ≡ joined_texts ts ++ t
joined_push [] t = append-nil t
joined_push (u ∷ us) t =
    ap (λ (x : List ℕ). u ++ x) (joined_push us t) ∙ sym (append_assoc u (joined_texts us) t)

-- the text of a group that is not too long
abbrev IsGroup : List ℕ → Type 0
IsGroup t = IsText t × (length t ≤ MAX_GROUP)

each_push : (ts : List (List ℕ)) (t : List ℕ) → AllByRecursion IsGroup ts → IsGroup t
    → AllByRecursion IsGroup (ts ++ t ∷ [])
each_push [] t each is = (is, tt)
each_push (u ∷ us) t each is = (each.0, each_push us t each.1 is)

-- a group at two sns
abbrev given : ℕ → ℕ → List ℕ → Given
given from to text = record { start = lsn from; end = lsn to; text = text }

placed_push : (x : ℕ) (ts : List (List ℕ)) (t : List ℕ)
    → let from : ℕ = x + length (joined_texts ts) in
    ◌≡◌ {A = List Given} (placed_at x (ts ++ t ∷ [])) (placed_at x ts ++ given from (from + length t) t ∷ [])
placed_push x [] t = let e : x + 0 ≡ x = omega arith in rw e refl
placed_push x (u ∷ us) t =
    let e : x + length (u ++ joined_texts us) ≡ x + length u + length (joined_texts us) =
    omega (arith, length-append u (joined_texts us)) in
    rw e (ap (λ (gs : List Given). given x (x + length u) u ∷ gs) (placed_push (x + length u) us t))

-- so far, the first bytes are handed on
pub record HandsUpto {R : Type 0} (stands : R → List Given → Type 0) (at : ℕ) (bytes : List ℕ) (before after : R)
    (taken : ℕ) : Type 0 where
  pub texts : List (List ℕ)
  pub are : bytes ≡ joined_texts texts ++ drop taken bytes
  pub each : AllByRecursion IsGroup texts
  pub long : taken ≡ length (joined_texts texts)
  pub handed : StandsFor stands before (placed_at at texts) after

one_more : {R : Type 0} (stands : R → List Given → Type 0) (at : ℕ) (bytes : List ℕ) (before after then : R)
    (taken len : ℕ) (group : List Rec) → HandsUpto stands at bytes before after taken
    → BeginsWithGroup (drop taken bytes) group len
    → ((got : List Given) → stands after got
    → stands then (with_group got (lsn (at + taken)) (lsn (at + (taken + len))) (take len (drop taken bytes))))
    → HandsUpto stands at bytes before then (taken + len)
one_more stands at bytes before after then taken len group h begins step =
    let rest : List ℕ = drop taken bytes in
    let text : List ℕ = take len rest in
    let later : List ℕ = drop (taken + len) bytes in
    let joined : List ℕ = joined_texts h.texts in
    let long : length text ≡ len = omega (arith, length-take len rest, begins.0) in
    let parts : bytes ≡ joined_texts (h.texts ++ text ∷ []) ++ later =
    h.are
    ∙ ap (λ (x : List ℕ). joined ++ x) (sym (take-append-drop len rest))
    ∙ ap (λ (x : List ℕ). joined ++ (text ++ x)) (drop-drop len taken bytes)
    ∙ sym (append_assoc joined text later) ∙ ap (λ (x : List ℕ). x ++ later) (sym (joined_push h.texts text)) in
    let from : ℕ = at + length joined in
    record {
      texts = h.texts ++ text ∷ [];
      are = parts;
      each = each_push h.texts text h.each ((group, begins.2), omega (arith, long, begins.1));
      long = omega (arith, h.long, long, ap length (joined_push h.texts text), length-append joined text);
      handed = λ got stood.
          let all = step (got ++ placed_at at h.texts) (h.handed got stood) in
          let starts : at + taken ≡ from = omega (arith, h.long) in
          let ends : at + (taken + len) ≡ from + length text = omega (arith, h.long, long) in
          let same : ◌≡◌ {A = List Given} (given (at + taken) (at + (taken + len)) text ∷ [])
          (given from (from + length text) text ∷ []) =
          ap (λ (x : ℕ). given x (at + (taken + len)) text ∷ []) starts ∙ ap (λ (y : ℕ). given from y text ∷ []) ends in
          subst (stands then)
          (append_assoc got (placed_at at h.texts) (given (at + taken) (at + (taken + len)) text ∷ [])
          ∙ ap (λ (gs : List Given). got ++ (placed_at at h.texts ++ gs)) same
          ∙ ap (λ (gs : List Given). got ++ gs) (sym (placed_push at h.texts text))) all;
    }

pub no_more_text : {R : Type 0} (stands : R → List Given → Type 0) (at : ℕ) (bytes : List ℕ) (before after : R)
    (taken : ℕ) → HandsUpto stands at bytes before after taken → NoMore (drop taken bytes)
    → HandsOn stands at bytes before after taken
no_more_text stands at bytes before after taken h none = (
  h.texts,
  record { rest = drop taken bytes; are = h.are; each = h.each; no_more = none },
  h.long,
  h.handed,
)

-- a front of a longer group has no group in front
none_in_front : (rest : List ℕ) → IsFront rest → NoMore rest
none_in_front rest front n within few is =
    let more = front.1.0 in
    let text : List ℕ = take n rest in
    let left : List ℕ = drop n rest in
    let whole : group_text is.0 ++ (left ++ more) ≡ group_text front.1.1 ++ [] =
    ap (λ (t : List ℕ). t ++ (left ++ more)) (sym is.1.spelled) ∙ sym (append_assoc text left more)
    ∙ ap (λ (t : List ℕ). t ++ more) (take-append-drop n rest)
    ∙ front.1.3.spelled ∙ sym (append-nil (group_text front.1.1)) in
    let one = one_group is.0 front.1.1 (left ++ more) [] is.1.is_group front.1.3.is_group whole in
    front.1.2 (back_nil left more one.1)

-- a group has bytes
group_long : (bytes : List ℕ) (group : List Rec) (len : ℕ) → BeginsWithGroup bytes group len → 0 < len
group_long bytes group len h =
    omega (arith, group_has_text group h.2.is_group, ap length h.2.spelled, length-take len bytes)

-- what a group handed on gives
pub one_step : {R : Type 0} (stands : R → List Given → Type 0) (at : ℕ) (bytes : List ℕ) (before after then : R)
    (taken len start end : ℕ) (part text : List ℕ)
    → HandsUpto stands at bytes before after taken → taken ≤ length bytes → part ≡ drop taken bytes
    → (group : List Rec) × BeginsWithGroup part group len
    → start ≡ lsn (at + taken) → end ≡ lsn (at + (taken + len)) → text ≡ take len (drop taken bytes)
    → ((got : List Given) → stands after got → stands then (with_group got start end text))
    → HandsUpto stands at bytes before then (taken + len) × (taken + len ≤ length bytes) × (0 < len)
one_step stands at bytes before after then taken len start end part text h within is begins starts ends texts step =
    let rest : List ℕ = drop taken bytes in
    let from : ℕ = lsn (at + taken) in
    let to : ℕ = lsn (at + (taken + len)) in
    let here : BeginsWithGroup rest begins.0 len =
    subst (λ (x : List ℕ). BeginsWithGroup x begins.0 len) is begins.1 in
    let same : (got : List Given)
    → ◌≡◌ {A = List Given} (with_group got start end text) (with_group got from to (take len rest)) =
    λ got. ap (λ (x : ℕ). with_group got x end text) starts ∙ ap (λ (x : ℕ). with_group got from x text) ends
    ∙ ap (λ (x : List ℕ). with_group got from to x) texts in (
      one_more stands at bytes before after then taken len begins.0 h here
          (λ got stood. subst (stands then) (same got) (step got stood)),
      omega (arith, within, here.0, length-drop taken bytes),
      group_long rest begins.0 len here,
    )

-- the bytes have no whole group in front, where their span is no number
pub ends_so : (rest part : List ℕ) → part ≡ rest → (r : Got ℕ) → GivesSpan part r → ((x y : ℕ) → r ≡ got.Value x y → ⊥)
    → NoMore rest
ends_so rest part is (got.Value x y) h none = absurd (none x y refl)
ends_so rest part is got.Short h none = none_in_front rest (subst IsFront is h)
ends_so rest part is got.Bad h none = none_in_bad rest
    (subst (λ (b : List ℕ). (group : List Rec) (len : ℕ) → BeginsWithGroup b group len → ⊥) is h.0)

-- texts of groups have bytes
some_bytes : (texts : List (List ℕ)) → AllByRecursion IsGroup texts → (s : ReaderStep)
    → (length (joined_texts texts) ≡ 0 → s ≡ reader_step.LoadFlushed)
    → (0 < length (joined_texts texts) → s ≡ reader_step.StorePlace)
    → s ≡ cond (is_none texts) reader_step.LoadFlushed reader_step.StorePlace
some_bytes [] each s none some = none refl
some_bytes (t ∷ ts) each s none some =
    let is = each.0.0.1 in
    let bytes = group_has_text each.0.0.0 is.is_group in
    some (omega (arith, bytes, ap length is.spelled, length-append t (joined_texts ts)))

-- it has followed
pub followed_so : {R : Type 0} (stands : R → List Given → Type 0) (r : ReaderState) (before after : R)
    (pend kept : List ℕ) (taken place : ℕ) (s : ReaderStep)
    → pend ≡ pending r → HandsOn stands r.at pend before after taken
    → place ≡ lsn (r.at + taken) → kept ≡ drop taken pend
    → (taken ≡ 0 → s ≡ reader_step.LoadFlushed) → (0 < taken → s ≡ reader_step.StorePlace)
    → Followed stands (record { state = r; receiver = before }) (record {
      state = record r { place = place; at = r.at + taken; kept = kept; texts = []; step = s };
      receiver = after;
    })
followed_so stands r before after pend kept taken place s is h places rests none some =
    let texts = h.0 in
    let all : ℕ = length (joined_texts texts) in
    let long : taken ≡ all = h.2 in
    let step : s ≡ cond (is_none texts) reader_step.LoadFlushed reader_step.StorePlace =
    some_bytes texts h.1.each s (λ e. none (long ∙ e)) (λ e. some (omega (arith, e, long))) in
    let keeps : kept ≡ drop all (pending r) = rests ∙ ap (λ (n : ℕ). drop n pend) long ∙ ap (drop all) is in
    let at_now : r.at + taken ≡ r.at + all = omega (arith, long) in
    let stands_at : place ≡ lsn (r.at + all) = places ∙ ap lsn at_now in (
      texts,
      subst (λ (x : List ℕ). AreInFront x texts) is h.1,
      rw (step, keeps, at_now, stands_at) refl,
      h.3,
    )
