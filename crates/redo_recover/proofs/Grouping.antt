-- Groups that are read one after another.
use Rattle.std.proofs.Common.{◌≡◌, ◌≢◌, ℕ, ◌+◌, ◌-◌, ◌<◌, ◌≤◌, List, [], ◌∷◌, ◌++◌, length, take, drop, arith, refl, sym, ap, subst, ◌∙◌, append_assoc, length-append, length-drop}
use Rattle.std.specs.List.{AllByRecursion, flat_map}
use Rattle.std.proofs.lemmas.List.{take-append-drop, take_at, append-nil, length-take-le, take_rest}
use Rattle.model_base.specs.declared.shape.Shape.{Shape}
use Rattle.model_base.specs.declared.got.Got.TheVariants.{Value, Bad}
use Rattle.model_log.specs.declared.rec.Rec.{Rec}
use Rattle.model_log.specs.declared.group.Whole.{Whole}
use Rattle.model_log.specs.{BeginsWithGroup, end_mark, GivesGroup, group_length, group_text, GroupFits, groups_of, last_span_end, lsn_of, record_text, single_text, sn_of, spans_of, stream_of}
use Rattle.model_log.proofs.Runs.{run-none, run-push}
use Rattle.model_store.specs.{AreGroups, IsStorable}
use Rattle.redo_recover.specs.Groups.{GivesStorable}
use Rattle.redo_recover.specs.Runs.{AreGroupsSoFar}
use Rattle.model_store.proofs.OneScan.{OneGroup, unfinished-not_whole}

-- a group's text, and what is left after it
pub begins-split : (bytes : List ℕ) (text : List ℕ) (len : ℕ) → take len bytes ≡ text → bytes ≡ text ++ drop len bytes
begins-split bytes text len e = sym (take-append-drop len bytes) ∙ ap (λ front. front ++ drop len bytes) e

-- no group that fits begins where one begins that doesn't, nor is that less than a whole one
pub unfit-gives_bad : OneGroup → (shape : Shape) (bytes : List ℕ) (group : List Rec) (len : ℕ) → BeginsWithGroup bytes group len
    → (GroupFits shape group → ⊥) → GivesStorable shape bytes Bad
unfit-gives_bad one shape bytes group len begins unfit =
    let split = begins-split bytes (group_text group) len begins.2.spelled in (
      λ other more good e. (
          let same = one group other (drop len bytes) more begins.2.is_group good.has_text (sym split ∙ e) in
          unfit (subst (λ g. GroupFits shape g) (sym same.0) good.fits)),
      λ front. unfinished-not_whole one bytes front.1 group (drop len bytes) begins.2.is_group split,
    )

-- nor where none begins at all
pub bad-gives_bad : (shape : Shape) (bytes : List ℕ) → GivesGroup bytes Bad → GivesStorable shape bytes Bad
bad-gives_bad shape bytes bad = (
  λ group more good e. (
      let len : group_length group ≤ length bytes = omega (arith, ap length e, length-append (group_text group) more) in
      let front = ap (take (group_length group)) e ∙ take_at (group_text group) more (group_length group) refl in
      bad.0 group (group_length group) (len, good.short, record { is_group = good.has_text; spelled = front })),
  bad.1,
)

groups_of-push : (ws : List Whole) (w : Whole) → groups_of (ws ++ w ∷ []) ≡ groups_of ws ++ w.group ∷ []
groups_of-push [] w = refl
groups_of-push (v ∷ ws) w = ap (λ gs. v.group ∷ gs) (groups_of-push ws w)

stream_of-push : (gs : List (List Rec)) (g : List Rec) → stream_of (gs ++ g ∷ []) ≡ stream_of gs ++ group_text g
unfolding stream_of
stream_of-push [] g = append-nil (group_text g)
stream_of-push (h ∷ gs) g = ap (λ t. group_text h ++ t) (stream_of-push gs g) ∙ sym (append_assoc (group_text h) (stream_of gs) (group_text g))

end_of-push : (s : ℕ) (ws : List Whole) (w : Whole) → last_span_end s (spans_of (ws ++ w ∷ [])) ≡ w.end
end_of-push s [] w = refl
end_of-push s (v ∷ ws) w = end_of-push v.end ws w

all-push : (P : List Rec → Type 0) (gs : List (List Rec)) (g : List Rec) → AllByRecursion P gs → P g → AllByRecursion P (gs ++ g ∷ [])
all-push P [] g a p = (p, tt)
all-push P (h ∷ gs) g a p = (a.0, all-push P gs g a.1 p)

-- one group more
AreGroups-push : (shape : Shape) (bytes : List ℕ) (start : ℕ) (ws : List Whole) (w : Whole) (rest more : List ℕ)
    → AreGroups shape bytes start ws rest → rest ≡ group_text w.group ++ more → IsStorable shape w.group → w.start ≡ last_span_end start (spans_of ws)
    → w.end ≡ lsn_of (sn_of w.start + group_length w.group) → AreGroups shape bytes start (ws ++ w ∷ []) more
AreGroups-push shape bytes start ws w rest more a split good from to =
    record {
      bytes_are = a.bytes_are ∙ ap (λ t. stream_of (groups_of ws) ++ t) split
          ∙ sym (append_assoc (stream_of (groups_of ws)) (group_text w.group) more)
          ∙ ap (λ t. t ++ more) (sym (stream_of-push (groups_of ws) w.group) ∙ ap stream_of (sym (groups_of-push ws w)));
      run = run-push start ws w a.run from to;
      each = subst (λ gs. AllByRecursion (IsStorable shape) gs) (sym (groups_of-push ws w)) (all-push (IsStorable shape) (groups_of ws) w.group a.each good);
    }

pub AreGroupsSoFar-none : (shape : Shape) (bytes : List ℕ) (start : ℕ) → AreGroupsSoFar shape bytes start [] start bytes
unfolding stream_of
AreGroupsSoFar-none shape bytes start =
    record { groups = record { bytes_are = refl; run = run-none start; each = tt }; at = refl; room = omega arith }

one_more : ((n : ℕ) → sn_of (lsn_of n) ≡ n) → (shape : Shape) (bytes : List ℕ) (start : ℕ) (wholes : List Whole) (end : ℕ) (rest : List ℕ) (group : List Rec) (len : ℕ)
    → AreGroupsSoFar shape bytes start wholes end rest → IsStorable shape group → len ≤ length rest → take len rest ≡ group_text group
    → AreGroupsSoFar shape bytes start (wholes ++ record { group = group; start = end; end = lsn_of (sn_of end + len) } ∷ [])
    (lsn_of (sn_of end + len)) (drop len rest)
one_more back shape bytes start wholes end rest group len a good fits text =
    let w : Whole = record { group = group; start = end; end = lsn_of (sn_of end + len) } in
    let len_is : len ≡ group_length group = sym (length-take-le len rest fits) ∙ ap length text in
    record {
      groups = AreGroups-push shape bytes start wholes w rest (drop len rest) a.groups (begins-split rest (group_text group) len text) good a.at
          (ap (λ n. lsn_of (sn_of end + n)) len_is);
      at = sym (end_of-push start wholes w);
      room = omega (arith, back (sn_of end + len), length-drop len rest, a.room);
    }

pub AreGroupsSoFar-push : ((n : ℕ) → sn_of (lsn_of n) ≡ n) → (shape : Shape) (bytes : List ℕ) (start : ℕ) (wholes : List Whole) (end : ℕ) (rest : List ℕ) (group : List Rec) (len : ℕ)
    → AreGroupsSoFar shape bytes start wholes end rest → GivesStorable shape rest (Value group len) → (all : List Whole) (next : ℕ) (more : List ℕ)
    → all ≡ wholes ++ record { group = group; start = end; end = next } ∷ [] → next ≡ lsn_of (sn_of end + len) → more ≡ drop len rest
    → AreGroupsSoFar shape bytes start all next more
AreGroupsSoFar-push back shape bytes start wholes end rest group len a (good, fits, text) all next more all_is next_is more_is =
    let pushed = one_more back shape bytes start wholes end rest group len a good fits text in
    let all_are : all ≡ wholes ++ record { group = group; start = end; end = lsn_of (sn_of end + len) } ∷ [] =
    all_is ∙ ap (λ n. wholes ++ record { group = group; start = end; end = n } ∷ []) next_is in
    subst (λ ws. AreGroupsSoFar shape bytes start ws next more) (sym all_are)
    (subst (λ n. AreGroupsSoFar shape bytes start (wholes ++ record { group = group; start = end; end = lsn_of (sn_of end + len) } ∷ []) n more) (sym next_is)
    (subst (λ t. AreGroupsSoFar shape bytes start (wholes ++ record { group = group; start = end; end = lsn_of (sn_of end + len) } ∷ []) (lsn_of (sn_of end + len)) t) (sym more_is) pushed))

-- a group's text has a byte
pub group_text-some : (group : List Rec) → group ≢ [] → 1 ≤ length (group_text group)
unfolding group_text single_text
group_text-some [] some = absurd (some refl)
group_text-some (rec ∷ []) some = omega arith
group_text-some (rec ∷ second ∷ others) some =
    omega (arith, length-append (flat_map record_text (rec ∷ second ∷ others)) (end_mark ∷ []))

pub taken-some : (shape : Shape) (group : List Rec) (rest : List ℕ) (len : ℕ) → GivesStorable shape rest (Value group len) → 1 ≤ len
taken-some shape group rest len (good, fits, text) =
    omega (arith, group_text-some group good.has_text.some, sym (length-take-le len rest fits) ∙ ap length text)

pub rest-shorter : (rest : List ℕ) (len : ℕ) → 1 ≤ len → len ≤ length rest → length (take (length rest - len) (drop len rest)) < length rest
rest-shorter rest len some fits = omega (arith, ap length (take_rest rest len), length-drop len rest)
