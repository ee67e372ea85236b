-- A user that has done nothing, field by field.
use Rattle.std.proofs.Common.{Bool, List, [], ap, arith, cond, eqb, eqb-true, false, inl, inr, length, refl, subst, sym, true, ℕ, ⊎_elim, ◌<◌, ◌∙◌, ◌≡◌, ◌≢◌, ◌≤◌, ◌⊎◌}
use Rattle.std.proofs.lemmas.Bool.{eqb-false}
use Rattle.std.specs.Prelude.{slice_index}
use Rattle.model_base.specs.declared.limits.TheConstants.{MAX_GROUP}
use Rattle.model_core.specs.{Setup, Line, line_at, LoadedMarks, none_loaded, UserState}
use Rattle.model_core.specs.declared.steps.UserStep.{UserStep}
use Rattle.model_logcore.specs.Start.{StartUser}
use Rattle.model_core.specs.declared.steps.UserStep.TheVariants as user_step

-- it is at its first line
pub record IsAtFirst (u : UserState) : Type 0 where
  pub some_lines : 0 < length u.lines
  pub step : u.step ≡ user_step.LoadCheckpoint

-- it has no line, and so has done all
pub record HasNoLine (u : UserState) : Type 0 where
  pub no_lines : length u.lines ≡ 0
  pub step : u.step ≡ user_step.Done
  pub unchecked : u.checks ≡ false

pub record IsNewUser (c : Setup) (u : UserState) : Type 0 where
  pub blocks : u.blocks ≡ c.blocks
  pub lines : ◌≡◌ {A = List Line} u.lines (c.script u.user)
  pub sound : (j : ℕ) → j < length u.lines
      → (0 < length (line_at u.lines j).bytes) × (length (line_at u.lines j).bytes ≤ MAX_GROUP) × ((line_at u.lines j).mode < 3)
  pub are_bytes : (j i : ℕ) → i < length (line_at u.lines j).bytes → slice_index (line_at u.lines j).bytes i < 256
  pub starts : u.starts ≡ []
  pub k : u.k ≡ 0
  pub loaded : ◌≡◌ {A = LoadedMarks} u.loaded none_loaded
  pub step : IsAtFirst u ⊎ HasNoLine u

module _ (c : Setup) (u : UserState) (S : StartUser c u) where
  lines_are : ◌≡◌ {A = List Line} u.lines (c.script u.user)
  lines_are = ap (λ (z : UserState). z.lines) S.is

  -- whether it has lines
  by : (b : Bool) → eqb (length (c.script u.user)) 0 ≡ b → IsAtFirst u ⊎ HasNoLine u
  by false is = inl (record {
    some_lines = (let some : length (c.script u.user) ≢ 0 = eqb-false (length (c.script u.user)) 0 is in
        let e = ap length lines_are in omega arith);
    step = ap (λ (z : UserState). z.step) S.is
        ∙ ap (λ b. let s : UserStep = cond b user_step.Done user_step.LoadCheckpoint in s) is;
  })
  by true is = inr (record {
    no_lines = ap length lines_are ∙ eqb-true (length (c.script u.user)) 0 is;
    step = ap (λ (z : UserState). z.step) S.is
        ∙ ap (λ b. let s : UserStep = cond b user_step.Done user_step.LoadCheckpoint in s) is;
    unchecked = ap (λ (z : UserState). z.checks) S.is ∙ ap (λ b. cond b false true) is;
  })

  pub new_user_is : IsNewUser c u
  new_user_is = record {
    blocks = ap (λ (z : UserState). z.blocks) S.is;
    lines = lines_are;
    sound = subst (λ (ls : List Line). (j : ℕ) → j < length ls
        → (0 < length (line_at ls j).bytes) × (length (line_at ls j).bytes ≤ MAX_GROUP) × ((line_at ls j).mode < 3))
        (sym lines_are) S.sound;
    are_bytes = subst (λ (ls : List Line). (j i : ℕ) → i < length (line_at ls j).bytes
        → slice_index (line_at ls j).bytes i < 256) (sym lines_are) S.are_bytes;
    starts = ap (λ (z : UserState). z.starts) S.is;
    k = ap (λ (z : UserState). z.k) S.is;
    loaded = ap (λ (z : UserState). z.loaded) S.is;
    step = by (eqb (length (c.script u.user)) 0) refl;
  }

  -- what holds of both steps at which a user may begin
  pub new_step : (P : UserStep → Type 0) → P user_step.LoadCheckpoint → P user_step.Done → P u.step
  new_step P first done = ⊎_elim (λ z. subst P (sym z.step) first) (λ z. subst P (sym z.step) done) new_user_is.step
