-- Groups that are read one after another, of which some are applied, while bytes come in.
use Rattle.std.proofs.Common.{◌≡◌, ◌≤◌, ◌<◌, ◌+◌, ℕ, true, false, cond, List, [], ◌∷◌, ◌++◌, length, take, drop, refl, sym, ap, subst, ◌∙◌, ⊎_elim, append_assoc, length-append, arith}
use Rattle.std.specs.Prelude.{nat_le}
use Rattle.std.proofs.lemmas.List.{append-nil, take_at, take-append-le}
use Rattle.std.proofs.lemmas.Bool.{cases_lt}
use Rattle.std.proofs.lemmas.Bool.Decides.{nat_tests}
use Rattle.model_base.specs.declared.shape.Shape.{Shape}
use Rattle.model_base.specs.declared.got.Got.TheVariants.{Value, Bad}
use Rattle.model_log.specs.declared.rec.Rec.{Rec}
use Rattle.model_log.specs.declared.group.Whole.{Whole}
use Rattle.model_log.specs.{group_length, group_text, groups_of, IsFront, last_span_end, lsn_of, sn_of, spans_of, stream_of}
use Rattle.model_page.specs.declared.content.Content.{Content}
use Rattle.model_parts.proofs.Splits.{front-nil, front-part}
use Rattle.model_store.specs.{applied, folded, HasNoStorable}
use Rattle.model_archive.specs.{BreaksAt, ending_by}
use Rattle.model_archive.proofs.Ending.{ending-append}
use Rattle.redo_archive.specs.Grouped.{Aim, AreRead, HasLsnRoom, IsApplied, AreEnding}
use Rattle.redo_archive.specs.declared.groups.Groups.{Groups}
use Rattle.redo_archive.specs.declared.restored.Restored.{Restored}
use Rattle.redo_recover.specs.Groups.{GivesStorable}
use Rattle.redo_recover.specs.Runs.{AreGroupsSoFar}
use Rattle.redo_recover.proofs.Grouping.{AreGroupsSoFar-none, AreGroupsSoFar-push, begins-split}

-- ONE GROUP MORE.

folded-push : (pages : List Content) (ws : List Whole) (w : Whole)
    → folded pages (ws ++ w ∷ []) ≡ applied w.group w.end (folded pages ws)
folded-push pages [] w = refl
folded-push pages (v ∷ ws) w = folded-push (applied v.group v.end pages) ws w

end_of-push : (s : ℕ) (ws : List Whole) (w : Whole) → last_span_end s (spans_of (ws ++ w ∷ [])) ≡ w.end
end_of-push s [] w = refl
end_of-push s (v ∷ ws) w = end_of-push v.end ws w

ends-by : (lsn : ℕ) (ws : List Whole) (w : Whole) → w.end ≤ lsn
    → ending_by lsn (ws ++ w ∷ []) ≡ ending_by lsn ws ++ w ∷ []
ends-by lsn ws w by =
    let under : nat_le w.end lsn ≡ true = grind (arith, nat_tests) in
    ending-append lsn ws (w ∷ []) ∙ ap (λ t. ending_by lsn ws ++ cond t (w ∷ []) []) under

ends-past : (lsn : ℕ) (ws : List Whole) (w : Whole) → lsn < w.end → ending_by lsn (ws ++ w ∷ []) ≡ ending_by lsn ws
ends-past lsn ws w past =
    let off : nat_le w.end lsn ≡ false = grind (arith, nat_tests) in
    ending-append lsn ws (w ∷ []) ∙ ap (λ t. ending_by lsn ws ++ cond t (w ∷ []) []) off
    ∙ append-nil (ending_by lsn ws)

-- what taking in a group that ends at `next` does
pub record TakesIn (lsn : ℕ) (group : List Rec) (next : ℕ) (old new : Restored) : Type 0 where
  pub by : next ≤ lsn → (new.n ≡ old.n + 1) × (new.end ≡ next) × (new.pages ≡ applied group next old.pages)
  pub past : lsn < next → (new.n ≡ old.n) × (new.end ≡ old.end) × (new.pages ≡ old.pages)

pub applied-step : ((n : ℕ) → sn_of (lsn_of n) ≡ n) → (aim : Aim) (bytes : List ℕ) (at : ℕ) (rest : List ℕ)
    (old new : Restored) (shape : Shape) (lsn : ℕ) (group : List Rec) (len next : ℕ) (more : List ℕ)
    → GivesStorable shape rest (Value group len) → next ≡ lsn_of (sn_of at + len) → more ≡ drop len rest
    → TakesIn lsn group next old new → aim.shape ≡ shape → aim.lsn ≡ lsn
    → IsApplied aim bytes at rest old → IsApplied aim bytes next more new
applied-step back aim bytes at rest old new shape lsn group len next more got next_is more_is takes same_shape
    same_lsn is =
    let w : Whole = record { group = group; start = at; end = next } in
    let ws : List Whole = is.wholes in
    let own : GivesStorable aim.shape rest (Value group len) =
    subst (λ (s : Shape). GivesStorable s rest (Value group len)) (sym same_shape) got in
    let so_far : AreGroupsSoFar aim.shape bytes aim.start (ws ++ w ∷ []) next more =
    AreGroupsSoFar-push back aim.shape bytes aim.start ws at rest group len is.so_far own (ws ++ w ∷ []) next more
    refl next_is more_is in
    ⊎_elim
    (λ past.
    let done = takes.past (omega (arith, past, same_lsn)) in
    let chosen : ending_by aim.lsn (ws ++ w ∷ []) ≡ ending_by aim.lsn ws = ends-past aim.lsn ws w past in
    record {
      wholes = ws ++ w ∷ [];
      so_far = so_far;
      n_is = done.0 ∙ is.n_is ∙ ap length (sym chosen);
      end_is = done.1 ∙ is.end_is ∙ ap (λ (xs : List Whole). last_span_end aim.start (spans_of xs)) (sym chosen);
      pages_are = done.2 ∙ is.pages_are ∙ ap (folded aim.pages) (sym chosen);
    })
    (λ by.
    let done = takes.by (omega (arith, by, same_lsn)) in
    let chosen : ending_by aim.lsn (ws ++ w ∷ []) ≡ ending_by aim.lsn ws ++ w ∷ [] = ends-by aim.lsn ws w by in
    record {
      wholes = ws ++ w ∷ [];
      so_far = so_far;
      n_is = omega (arith, done.0, is.n_is, ap length chosen, length-append (ending_by aim.lsn ws) (w ∷ []));
      end_is = done.1 ∙ sym (end_of-push aim.start (ending_by aim.lsn ws) w)
          ∙ ap (λ (xs : List Whole). last_span_end aim.start (spans_of xs)) (sym chosen);
      pages_are = done.2 ∙ ap (applied group next) is.pages_are
          ∙ sym (folded-push aim.pages (ending_by aim.lsn ws) w) ∙ ap (folded aim.pages) (sym chosen);
    }) (cases_lt aim.lsn next)

-- NO GROUP YET.

pub read-none : (aim : Aim) (start : ℕ) (pages : List Content) (groups : Groups) → aim.start ≡ start
    → aim.pages ≡ pages → groups.at ≡ start → groups.rest.items ≡ [] → groups.broken ≡ false
    → groups.restored.n ≡ 0 → groups.restored.end ≡ start → groups.restored.pages ≡ pages → AreRead aim [] groups
read-none aim start pages groups start_is pages_are at rest broken n end restored = record {
  live = λ on.
      let at_is : aim.start ≡ groups.at = start_is ∙ sym at in
      let none : AreGroupsSoFar aim.shape [] aim.start [] groups.at [] =
      subst (λ (k : ℕ). AreGroupsSoFar aim.shape [] aim.start [] k []) at_is
      (AreGroupsSoFar-none aim.shape [] aim.start) in (
        record {
          wholes = [];
          so_far = subst (λ (xs : List ℕ). AreGroupsSoFar aim.shape [] aim.start [] groups.at xs) (sym rest) none;
          n_is = n;
          end_is = end ∙ sym start_is;
          pages_are = restored ∙ sym pages_are;
        },
        subst IsFront (sym rest) front-nil,
      );
  broken = λ off. absurd (true-false (sym off ∙ broken));
}
  where
    true-false : (let yes = true in yes ≡ false) → ⊥
    true-false is = cc

-- MORE BYTES.

pub applied-more : (aim : Aim) (bytes : List ℕ) (at : ℕ) (rest : List ℕ) (restored : Restored) (more joined : List ℕ)
    → joined ≡ rest ++ more → IsApplied aim bytes at rest restored → IsApplied aim (bytes ++ more) at joined restored
applied-more aim bytes at rest restored more joined is a =
    let stream : List ℕ = stream_of (groups_of a.wholes) in
    record {
      wholes = a.wholes;
      so_far = record {
        groups = record {
          bytes_are = ap (λ (xs : List ℕ). xs ++ more) a.so_far.groups.bytes_are ∙ append_assoc stream rest more
              ∙ ap (λ (xs : List ℕ). stream ++ xs) (sym is);
          run = a.so_far.groups.run;
          each = a.so_far.groups.each;
        };
        at = a.so_far.at;
        room = omega (arith, a.so_far.room, ap length is, length-append rest more, length-append bytes more);
      };
      n_is = a.n_is;
      end_is = a.end_is;
      pages_are = a.pages_are;
    }

-- more bytes make no front of what isn't one
front-less : (bytes more : List ℕ) → IsFront (bytes ++ more) → IsFront bytes
front-less bytes more (short, (tail, group, some, text)) = (
  omega (arith, short, length-append bytes more),
  (
    more ++ tail,
    group,
    (λ none. some (tail-none more tail none)),
    record { is_group = text.is_group; spelled = sym (append_assoc bytes more tail) ∙ text.spelled },
  ),
)
  where
    tail-none : (xs ys : List ℕ) → xs ++ ys ≡ [] → ys ≡ []
    tail-none [] ys is = is
    tail-none (x ∷ xs) ys is = absurd cc

-- nor a group that fits
no-storable-more : (shape : Shape) (bytes more : List ℕ) → HasNoStorable shape bytes → (IsFront bytes → ⊥)
    → HasNoStorable shape (bytes ++ more)
no-storable-more shape bytes more none no_front group others good is =
    let text : List ℕ = group_text group in
    ⊎_elim
    (λ short.
    let front : take (length bytes) text ≡ bytes =
    sym (take-append-le (length bytes) text others (omega (arith, short)))
    ∙ ap (take (length bytes)) (sym is) ∙ take_at bytes more (length bytes) refl in
    no_front (subst IsFront front (front-part shape group (length bytes) good short)))
    (λ long.
    let begins : take (group_length group) bytes ≡ text =
    sym (take-append-le (group_length group) bytes more long)
    ∙ ap (take (group_length group)) is ∙ take_at text others (group_length group) refl in
    none group (drop (group_length group) bytes) good (begins-split bytes text (group_length group) begins))
    (cases_lt (length bytes) (group_length group))

breaks-more : (shape : Shape) (bytes : List ℕ) (start lsn : ℕ) (more : List ℕ) → BreaksAt shape bytes start lsn
    → BreaksAt shape (bytes ++ more) start lsn
breaks-more shape bytes start lsn more is =
    let stream : List ℕ = stream_of (groups_of is.wholes) in
    record {
      wholes = is.wholes;
      rest = is.rest ++ more;
      groups = record {
        bytes_are = ap (λ (xs : List ℕ). xs ++ more) is.groups.bytes_are ∙ append_assoc stream is.rest more;
        run = is.groups.run;
        each = is.groups.each;
      };
      no_storable = no-storable-more shape is.rest more is.no_storable is.no_front;
      no_front = λ front. is.no_front (front-less is.rest more front);
      at = is.at;
    }

-- groups that break go on breaking
pub read-broken : (aim : Aim) (bytes more : List ℕ) (groups : Groups) → groups.broken ≡ true → AreRead aim bytes groups
    → AreRead aim (bytes ++ more) groups
read-broken aim bytes more groups off read = record {
  live = λ on. absurd cc;
  broken = λ is. breaks-more aim.shape bytes aim.start groups.at more (read.broken off);
}

-- WHERE THEY END.

pub read-live : (aim : Aim) (bytes : List ℕ) (at : ℕ) (rest : List ℕ) (restored : Restored) (groups : Groups)
    → AreEnding restored at rest false groups → IsFront rest → IsApplied aim bytes at rest restored
    → AreRead aim bytes groups
read-live aim bytes at rest restored groups is front a = record {
  live = λ on. (
    subst (λ (r : Restored). IsApplied aim bytes groups.at groups.rest.items r) (sym is.restored_is)
        (subst (λ (k : ℕ). IsApplied aim bytes k groups.rest.items restored) (sym is.at_is)
        (subst (λ (xs : List ℕ). IsApplied aim bytes at xs restored) (sym is.rest_is) a)),
    subst IsFront (sym is.rest_is) front,
  );
  broken = λ off. (let on = is.broken_is in absurd cc);
}

pub read-breaks : (aim : Aim) (bytes : List ℕ) (at : ℕ) (rest : List ℕ) (restored : Restored) (groups : Groups)
    (shape : Shape)
    → AreEnding restored at rest true groups → GivesStorable shape rest Bad → aim.shape ≡ shape
    → IsApplied aim bytes at rest restored → AreRead aim bytes groups
read-breaks aim bytes at rest restored groups shape is bad same a = record {
  live = λ on. (let off = is.broken_is in absurd cc);
  broken = λ off. record {
    wholes = a.wholes;
    rest = rest;
    groups = a.so_far.groups;
    no_storable = subst (λ (s : Shape). HasNoStorable s rest) (sym same) bad.0;
    no_front = bad.1;
    at = is.at_is ∙ a.so_far.at;
  };
}

pub room-at : (at n : ℕ) (rest : List ℕ) (restored : Restored) (broken : _) (groups : Groups) (count : ℕ)
    → AreEnding restored at rest broken groups → restored.n ≡ n → HasLsnRoom at n rest count
    → HasLsnRoom groups.at groups.restored.n groups.rest.items count
room-at at n rest restored broken groups count is n_is room = record {
  lsns = omega (arith, room.lsns, ap sn_of is.at_is, ap length is.rest_is);
  numbers = omega (arith, room.numbers, ap (λ (r : Restored). r.n) is.restored_is, n_is, ap length is.rest_is);
}
