-- A script with one line more, and the run's lines then.
use Rattle.std.proofs.Common.{Bool, List, None, Option, Some, [], ap, append-nil, arith, cond, eq-eqb, length, length-append, ne_eqb, slice_get, subst, suc, sym, zero, ℕ, ⊎_elim, ◌++◌, ◌+◌, ◌<◌, ◌==◌, ◌∙◌, ◌∷◌, ◌≡◌, ◌≢◌, ◌⊎◌, inl, inr, refl}
use Rattle.std.proofs.Math.ListN.{get_or-append}
use Rattle.std.proofs.Math.Seq.{get_or-append_seam}
use Rattle.std.proofs.lemmas.List.Elements.{filter-append}
use Rattle.std.proofs.lemmas.Option.{same_Some, slice_get_within}
use Rattle.std.specs.List.{AllByRecursion}
use native.Mathlib.Decide.{ℕ_discrete}
use Rattle.model_base.specs.declared.shape.Shape.{Shape}
use Rattle.model_core.proofs.Groups.{changed_else, changed_here}
use Rattle.model_core.specs.{Line, line_at, line_of, Setup}
use Rattle.model_logcore.proofs.TakesLine.{grown}
use Rattle.model_report.specs.{lines_of_user}
use Rattle.model_running.specs.{IsOfScript}
use Rattle.model_running.specs.Script.{IsLineOf}
use Rattle.model_script.specs.{group_of}
use Rattle.model_script.specs.declared.script.ScriptLine.{ScriptLine}

abbrev no_line : Line
no_line = record { mode = 0; bytes = []; changes = [] }

-- what holds of each element and of one more
pub all_snoc : {A : Type 0} (P : A → Type 0) (xs : List A) (x : A) → AllByRecursion P xs → P x
    → AllByRecursion P (xs ++ x ∷ [])
all_snoc P [] x all one = (one, tt)
all_snoc P (y ∷ ys) x all one = (all.0, all_snoc P ys x all.1 one)

-- the lines of a user, where the line more is its own, and where it is another's
snoc_here : (user : ℕ) (script : List ScriptLine) (one : ScriptLine) → one.user ≡ user
    → lines_of_user user (script ++ one ∷ []) ≡ lines_of_user user script ++ one ∷ []
snoc_here user script one own = filter-append (λ (l : ScriptLine). l.user == user) script (one ∷ [])
    ∙ ap (λ (b : Bool). lines_of_user user script ++ cond b (one ∷ []) []) (eq-eqb one.user user own)

snoc_else : (user : ℕ) (script : List ScriptLine) (one : ScriptLine) → one.user ≢ user
    → lines_of_user user (script ++ one ∷ []) ≡ lines_of_user user script
snoc_else user script one other = filter-append (λ (l : ScriptLine). l.user == user) script (one ∷ [])
    ∙ ap (λ (b : Bool). lines_of_user user script ++ cond b (one ∷ []) []) (ne_eqb one.user user other)
    ∙ append-nil (lines_of_user user script)

-- what stands in a list and one more
at_more : (xs : List ScriptLine) (x : ScriptLine) (k : ℕ) (y : ScriptLine) → slice_get (xs ++ x ∷ []) k ≡ Some y
    → (slice_get xs k ≡ Some y) ⊎ ((k ≡ length xs) × ◌≡◌ {A = ScriptLine} x y)
at_more [] x zero y at = inr (refl, same_Some x y at)
at_more [] x (suc k) y at = absurd (cc)
at_more (z ∷ zs) x zero y at = inl at
at_more (z ∷ zs) x (suc k) y at = ⊎_elim inl (λ t. inr (ap suc t.0, t.1)) (at_more zs x k y at)

module _ (c : Setup) (script : List ScriptLine) (shape : Shape) (S : IsOfScript c script shape) (one : ScriptLine)
    (line : Line) (is : IsLineOf c shape one line) (ls : List Line) (ls_is : ls ≡ c.script one.user) where
  abbrev later : Setup
  later = grown c one.user (ls ++ line ∷ [])

  abbrev more : List ScriptLine
  more = script ++ one ∷ []

  own_count : length ls ≡ length (lines_of_user one.user script)
  own_count = ap length ls_is ∙ S.count one.user

  count : (user : ℕ) → length (later.script user) ≡ length (lines_of_user user more)
  count user = elim (ℕ_discrete user one.user) [
    | yes own ↦ (let here = ap length (changed_here c.script one.user (ls ++ line ∷ []) user own) in
        let lines = ap length (snoc_here user script one (sym own)) in
        let many = ap (λ (u : ℕ). length (lines_of_user u script)) own in
        let n = own_count in
        let a = length-append ls (line ∷ []) in
        let b = length-append (lines_of_user user script) (one ∷ []) in omega arith)
    | no other ↦ (ap length (changed_else c.script one.user (ls ++ line ∷ []) user other) ∙ S.count user
        ∙ sym (ap length (snoc_else user script one (λ e. other (sym e)))))
  ]

  -- its own lines are those from before, and the line
  own_each : (k : ℕ) (o : ScriptLine) → slice_get (lines_of_user one.user more) k ≡ Some o
      → IsLineOf c shape o (line_at (ls ++ line ∷ []) k)
  own_each k o at = ⊎_elim
      (λ old. (let low = slice_get_within (lines_of_user one.user script) k o old in let n = own_count in
      get_or-append ls (line ∷ []) no_line k (omega arith)) ∙ ap (λ (l : List Line). line_at l k) ls_is
      ∙ S.each one.user k o old)
      (λ last. ap (line_at (ls ++ line ∷ [])) (last.0 ∙ sym own_count) ∙ get_or-append_seam ls line [] no_line ∙ is
      ∙ ap (λ (z : ScriptLine). let l : Line = line_of c.log_only shape z.mode (group_of shape.space z) in l) last.1)
      (at_more (lines_of_user one.user script) one k o
      (sym (ap (λ (l : List ScriptLine). slice_get l k) (snoc_here one.user script one refl)) ∙ at))

  each : (user k : ℕ) (o : ScriptLine) → slice_get (lines_of_user user more) k ≡ Some o
      → IsLineOf c shape o (line_at (later.script user) k)
  each user k o at = elim (ℕ_discrete user one.user) [
    | yes own ↦ (ap (λ (l : List Line). line_at l k) (changed_here c.script one.user (ls ++ line ∷ []) user own)
        ∙ own_each k o (ap (λ (u : ℕ). slice_get (lines_of_user u more) k) (sym own) ∙ at))
    | no other ↦ (ap (λ (l : List Line). line_at l k) (changed_else c.script one.user (ls ++ line ∷ []) user other)
        ∙ S.each user k o
        (ap (λ (l : List ScriptLine). slice_get l k) (sym (snoc_else user script one (λ e. other (sym e)))) ∙ at))
  ]

  pub of_grown : IsOfScript later more shape
  of_grown = record { count = count; readers = S.readers; few_readers = S.few_readers; each = each }
