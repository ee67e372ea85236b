-- A user takes a line.
use Rattle.std.proofs.Common.{List, None, Option, [], ap, arith, length, subst, sym, ◌+◌, ◌-◌, ◌∙◌, ◌∷◌, ◌≡◌}
use Rattle.std.proofs.Common.{◌≤◌, ℕ}
use Rattle.std.specs.List.{AllByRecursion}
use Rattle.atomic_table.specs.Seated.{TableId}
use Rattle.model_base.specs.{IsWithinLimits}
use Rattle.model_base.specs.declared.shape.Shape.{Shape}
use Rattle.model_core.specs.declared.steps.UserStep.TheVariants as user_step
use Rattle.model_log.specs.{group_length}
use Rattle.model_log.specs.declared.rec.Rec.{Rec}
use Rattle.model_logcore.specs.{lengths}
use Rattle.model_script.specs.{group_of, IsScriptLine, LineFits, ScriptFits}
use Rattle.model_script.specs.Fit.{first_misfit, line_misfit}
use Rattle.model_script.specs.declared.script.ScriptLine.{ScriptLine}
use Rattle.redo_live.proofs.Fits.{one_fits}
use Rattle.redo_live.specs.Committing.{HasTaken, program_line}
use Rattle.redo_live.specs.Giving.{HasLine, MayGive}
use Rattle.redo_live.specs.Holding.{about_of, IsLineOf, IsUserOf, shape_of, state_of}
use Rattle.redo_live.specs.declared.store.Store.{Store}
use Rattle.redo_live.specs.declared.user.User.{User}
use Rattle.redo_ownrule.specs.Sharing.{table_of}
use Rattle.redo_rule.specs.declared.law.About.{About}
use Rattle.redo_rule.specs.declared.law.Heard.{Heard}

-- a script of which no quantity is a misfit fits the store
abbrev pub FittingLaw : Type 0
FittingLaw = (shape : Shape) (start : ℕ) (room_end archive : Option ℕ) (script : List ScriptLine) → IsWithinLimits shape
    → AllByRecursion IsScriptLine script → first_misfit shape start room_end archive script ≡ None
    → ScriptFits shape start room_end script

module _ {L D : Type 0} (law : FittingLaw) (store : Store L D) (user : User L D) (line : ScriptLine)
    (was : IsUserOf store user)
    (is_line : IsLineOf user line) (no_misfit : line_misfit store.shape line ≡ None) (count : ℕ)
    (count_is : count ≡ group_length (group_of store.shape.space line)) (roomy : count ≤ store.quota - user.used) where
  pub its_fit : LineFits (shape_of store) line
  its_fit = subst (λ (s : Shape). LineFits s line) was.is_open.shape_is
      (law store.shape 0 None None (line ∷ []) was.is_open.limits (is_line.in_range, tt)
      (one_fits store.shape line no_misfit)).lines.0

  -- how many bytes it has
  pub bytes_are : length (program_line store line).bytes ≡ count
  bytes_are = ap (λ (s : Shape). group_length (group_of s.space line)) (sym was.is_open.shape_is) ∙ sym count_is

  pub room_is : lengths (state_of user).lines + length (program_line store line).bytes ≤ store.quota
  room_is =
      let b = bytes_are in let u = was.used in let w = was.within in omega arith

  module _ (table : TableId) (about : About L D) (table_is : table ≡ table_of store.shared)
      (about_is : about ≡ about_of store) where
    -- THE LINE MAY BE GIVEN
    pub may_give : (state_of user).step ≡ user_step.Done → (group : List Rec)
        → ◌≡◌ {A = List Rec} group (group_of store.shape.space line)
        → MayGive table about (state_of user) line group user.seat user.player
    may_give done group group_is =
        subst (λ (t : TableId). MayGive t about (state_of user) line group user.seat user.player) (sym table_is)
        (subst (λ (z : About L D). MayGive (table_of store.shared) z (state_of user) line group user.seat user.player)
        (sym about_is) (record {
          plays = was.plays;
          sits = was.sits;
          done = done;
          live = was.is_open.alive.live;
          is_live = was.is_open.alive.is_live;
          number = is_line.number;
          in_range = is_line.in_range;
          fits = its_fit;
          room = (let r = room_is in let q = was.is_open.quota_is in omega arith);
          group_is = group_is ∙ ap (λ (s : Shape). group_of s.space line) was.is_open.shape_is;
        }))

    -- IT HAS TAKEN THE LINE
    pub has_taken : (new : User L D) → (state_of user).step ≡ user_step.Done
        → HasLine table about (state_of user) line user.seat new.seat new.player → new.used ≡ user.used + count
        → HasTaken store user line new
    has_taken new done has used =
        let at = subst (λ (t : TableId). HasLine t (about_of store) (state_of user) line user.seat new.seat new.player)
        table_is
        (subst (λ (z : About L D). HasLine table z (state_of user) line user.seat new.seat new.player) about_is has) in
        record {
          plays = at.plays;
          sits = at.sits;
          layout = at.layout;
          number = at.number;
          reads = ap (λ (h : Heard). h.reads) at.heard;
          used = (let b = bytes_are in let u = was.used in omega arith);
          within = (let w = was.within in omega arith);
          fits = its_fit;
          done = done;
        }
