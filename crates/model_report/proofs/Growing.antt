-- A history grows by an entry.
use Rattle.std.proofs.Common.{◌≡◌, ℕ, zero, suc, ◌<◌, ◌≤◌, ◌==◌, ◌⊎◌, inl, inr, Bool, true, false, cond, List, [], ◌∷◌, ◌++◌, length, Some, slice_get, arith, refl, sym, ap, ◌∙◌, subst, ⊎_elim}
use Rattle.std.specs.Prelude.{nat_le}
use Rattle.std.proofs.lemmas.Bool.{leb-true, leb-false, eqb-true}
use Rattle.std.proofs.lemmas.List.{append-nil, length_push}
use Rattle.std.proofs.lemmas.List.Elements.{filter-append}
use Rattle.model_log.specs.{IsTiled, last_span_end}
use Rattle.model_script.specs.declared.script.ScriptLine.{ScriptLine}
use Rattle.model_report.specs.Answered.{HasNoLost, IsAnswered}
use Rattle.model_report.specs.Legal.{state_by, IsLegal, IsLegalEntry, FitsMarks, FitsMode, entries_of_user, entry_spans}
use Rattle.model_report.specs.declared.entry.Entry.{Entry}
use Rattle.model_report.specs.declared.entry.Marks.{Marks}
use Rattle.model_report.specs.declared.entry.State.TheVariants.{Lost, Flushed, Written, Copied}

-- an element of a list with one more is an old one or the new one
pub push-place : {X : Type 0} (xs : List X) (y : X) (i : ℕ) (x : X) → slice_get (xs ++ y ∷ []) i ≡ Some x
    → (slice_get xs i ≡ Some x) ⊎ ((i ≡ length xs) × (x ≡ y))
push-place [] y zero x e = inr (refl, cc)
push-place [] y (suc i) x e = inl e
push-place (z ∷ xs) y zero x e = inl e
push-place (z ∷ xs) y (suc i) x e =
    elim (push-place xs y i x e) [ inl old ↦ inl old | inr (last, is) ↦ inr (ap suc last, is) ]

tiled-more : (s : ℕ) (entries : List Entry) (entry : Entry) → IsTiled s (entry_spans entries) → entry.start ≡ last_span_end s (entry_spans entries)
    → IsTiled s (entry_spans (entries ++ entry ∷ []))
tiled-more s [] entry tiled start = (start, tt)
tiled-more s (first ∷ entries) entry tiled start = (tiled.0, tiled-more first.end entries entry tiled.1 start)

-- the user's entries, with one more of this user or of another
pub more-own : (user : ℕ) (entries : List Entry) (entry : Entry) → (entry.user == user) ≡ true
    → entries_of_user user (entries ++ entry ∷ []) ≡ entries_of_user user entries ++ entry ∷ []
more-own user entries entry own =
    filter-append (λ (one : Entry). one.user == user) entries (entry ∷ [])
    ∙ ap (λ b. entries_of_user user entries ++ cond b (entry ∷ []) []) own

pub more-other : (user : ℕ) (entries : List Entry) (entry : Entry) → (entry.user == user) ≡ false
    → entries_of_user user (entries ++ entry ∷ []) ≡ entries_of_user user entries
more-other user entries entry other =
    filter-append (λ (one : Entry). one.user == user) entries (entry ∷ [])
    ∙ ap (λ b. entries_of_user user entries ++ cond b (entry ∷ []) []) other ∙ append-nil (entries_of_user user entries)

-- what a user's entries say in a legal history
record IsUsers (own : List Entry) : Type 0 where
  in_order : (i : ℕ) (entry : Entry) → slice_get own i ≡ Some entry → entry.k ≡ i
  lost_last : (i : ℕ) (entry : Entry) → slice_get own i ≡ Some entry → entry.state ≡ Lost → suc i ≡ length own

users-more : (own : List Entry) (entry : Entry) → IsUsers own → entry.k ≡ length own → HasNoLost own → IsUsers (own ++ entry ∷ [])
users-more own entry users k none = record {
  in_order = λ i one at. ⊎_elim (λ old. users.in_order i one old)
      (λ last. ap (λ (e : Entry). e.k) last.1 ∙ k ∙ sym last.0) (push-place own entry i one at);
  lost_last = λ i one at lost. ⊎_elim (λ old. absurd (none i one old lost))
      (λ last. omega (arith, last.0, length_push own entry)) (push-place own entry i one at);
}

users-by : (user : ℕ) (entries : List Entry) (entry : Entry) (b : Bool) → (entry.user == user) ≡ b → IsUsers (entries_of_user user entries)
    → entry.k ≡ length (entries_of_user entry.user entries) → HasNoLost (entries_of_user entry.user entries)
    → IsUsers (entries_of_user user (entries ++ entry ∷ []))
users-by user entries entry true own users k none =
    let same : entry.user ≡ user = eqb-true entry.user user own in
    let k_is : entry.k ≡ length (entries_of_user user entries) = k ∙ ap (λ n. length (entries_of_user n entries)) same in
    let no_lost : HasNoLost (entries_of_user user entries) = subst (λ n. HasNoLost (entries_of_user n entries)) same none in
    subst IsUsers (sym (more-own user entries entry own)) (users-more (entries_of_user user entries) entry users k_is no_lost)
users-by user entries entry false other users k none = subst IsUsers (sym (more-other user entries entry other)) users

-- a legal history with the next entry of a user none of whose commits is lost
pub legal-more : (script : List ScriptLine) (space s : ℕ) (marks : Marks) (entries : List Entry) (entry : Entry)
    → IsLegal script space s marks entries → entry.start ≡ last_span_end s (entry_spans entries) → IsLegalEntry script space marks entry
    → entry.k ≡ length (entries_of_user entry.user entries) → HasNoLost (entries_of_user entry.user entries)
    → IsLegal script space s marks (entries ++ entry ∷ [])
legal-more script space s marks entries entry legal start here k none =
    let users : (user : ℕ) → IsUsers (entries_of_user user (entries ++ entry ∷ [])) =
    λ user. users-by user entries entry (entry.user == user) refl (record { in_order = legal.in_order user; lost_last = legal.lost_last user }) k none in
    record {
      tiled = tiled-more s entries entry legal.tiled start;
      each = λ i one at. ⊎_elim (λ old. legal.each i one old)
          (λ last. subst (IsLegalEntry script space marks) (sym last.1) here) (push-place entries entry i one at);
      in_order = λ user. (users user).in_order;
      lost_last = λ user. (users user).lost_last;
    }

-- a state by the marks is what they say
state-says : (marks : Marks) (end : ℕ) (a b : Bool) → nat_le end marks.flushed ≡ a → nat_le end marks.write ≡ b
    → FitsMarks marks end (cond a Flushed (cond b Written Copied))
state-says marks end true b low or = leb-true end marks.flushed low
state-says marks end false true high low = (leb-false end marks.flushed high, leb-true end marks.write low)
state-says marks end false false high above = (leb-false end marks.flushed high, leb-false end marks.write above)

-- and one that the mode allows, where the commit was answered
mode-allows : (marks : Marks) (mode end : ℕ) (a b : Bool) → nat_le end marks.flushed ≡ a → nat_le end marks.write ≡ b → IsAnswered marks mode end
    → FitsMode mode (cond a Flushed (cond b Written Copied))
mode-allows marks mode end true b low or answered = tt
mode-allows marks mode end false true high low answered = λ waits.
    let flushed : end ≤ marks.flushed = answered.flushed waits in
    let above : marks.flushed < end = leb-false end marks.flushed high in
    absurd (omega arith)
mode-allows marks mode end false false high above answered = (
  (λ waits. let flushed : end ≤ marks.flushed = answered.flushed waits in
      let behind : marks.flushed < end = leb-false end marks.flushed high in absurd (omega arith)),
  (λ waits. let written : end ≤ marks.write = answered.written waits in
      let behind : marks.write < end = leb-false end marks.write above in absurd (omega arith)),
)

pub state_by-says : (marks : Marks) (end : ℕ) → FitsMarks marks end (state_by marks end)
state_by-says marks end = state-says marks end (nat_le end marks.flushed) (nat_le end marks.write) refl refl

pub state_by-allows : (marks : Marks) (mode end : ℕ) → IsAnswered marks mode end → FitsMode mode (state_by marks end)
state_by-allows marks mode end answered = mode-allows marks mode end (nat_le end marks.flushed) (nat_le end marks.write) refl refl answered
