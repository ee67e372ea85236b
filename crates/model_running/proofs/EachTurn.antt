-- Each turn of any actor, whatever its device calls answer, leaves a running store.
use Rattle.std.proofs.Common.{List, ap, arith, cond, eqb, refl, set, subst, sym, ℕ, ◌%◌, ◌+◌, ◌<◌, ◌∙◌, ◌≡◌}
use Rattle.std.specs.Prelude.{slice_index}
use Rattle.std.proofs.lemmas.List.{set-set}
use lib.ListN.{get_elem?}
use mathlib.Core.Option.{some}
use Rattle.model_core.proofs.Lists.{set_at}
use Rattle.model_running.proofs.Filling.{fills_keep, is_filled, next_filled}
use Rattle.model_core.specs.{Actor, answer_of, appended, Core, DataServed, Entry, filled, layout_of, lent, list_word, log_left, LogServed, Listed, lists_left, next, OwnServed, took, without, words_left, DataSide, LogSide, Setup}
use Rattle.model_core.specs.Program.{Turn}
use Rattle.model_core.specs.declared.ops.Answer.{Answer}
use Rattle.model_core.specs.declared.ops.Op.{Op}
use Rattle.model_core.specs.declared.ops.Step.{Step}
use Rattle.model_logcore.specs.LogLaws.{LogLaws}
use Rattle.model_pagecore.specs.DataLaws.{DataLaws}
use Rattle.model_running.proofs.FlatWords.{flat_read}
use Rattle.model_running.proofs.Turns.{keeps_turn, RunsOver}
use Rattle.model_running.specs.Watermarks.{BothHalves, IsRunning, RunningStore}
use Rattle.model_core.specs.declared.ops.Op.TheVariants as op
use Rattle.model_core.specs.declared.words.Layout.{Layout}
use Rattle.model_core.specs.declared.words.Word.TheVariants as word

-- the flush lists after an Op depend on the turn words of the lists alone
lists_same : (ls : ℕ → List Listed) (first second : ℕ → ℕ) → ((i : ℕ) → i < 4 → first i ≡ second i) → (o : Op) → ◌≡◌ {A = ℕ → List Listed} (lists_left ls first o) (lists_left ls second o)
lists_same ls first second same (op.TakeAdd p x) = ap {B = ℕ → List Listed} (λ (z : ℕ) (i : ℕ). cond (eqb i (p % 4)) (cond (eqb z 0) (appended (ls i) p x) (ls i)) (ls i)) (same (p % 4) (omega arith))
lists_same ls first second same (op.TakeRemove p) = ap {B = ℕ → List Listed} (λ (z : ℕ) (i : ℕ). cond (eqb i (p % 4)) (cond (eqb z 0) (without p (ls i)) (ls i)) (ls i)) (same (p % 4) (omega arith))
lists_same ls first second same _ = refl

-- WHAT A TURN LEAVES: a running store, over the log that its Op leaves.
module _ (D : LogSide) (L : LogLaws D) (E : DataSide) (EL : DataLaws E) (c : Setup) (old new : Core D E)
    (seat : ℕ) (answer : Answer) (step : Step) (before : IsRunning D E c old)
    (t : Turn D E old seat answer step new) where
  -- the actor with what the turn puts into it
  abbrev pub who_filled : Actor
  who_filled = filled t.who t.filling

  abbrev pub actors_filled : List Actor
  actors_filled = set old.actors seat who_filled

  -- the log then
  abbrev pub log_then : List Entry
  log_then = log_left before.log_ghost.log before.shared.sn who_filled

  pub both_filled : BothHalves D E c before.shared before.log_ghost before.page_ghost old.lists old.log_part
      old.data_part actors_filled
  both_filled = fills_keep D E c before.shared before.log_ghost before.page_ghost old.lists old.log_part
      old.data_part old.actors seat before.both t.who t.who_is t.filling

  pub filled_at : get_elem? actors_filled seat ≡ some who_filled
  filled_at = set_at old.actors seat t.who who_filled t.who_is

  same_op : ◌≡◌ {A = Op} (next who_filled) (next t.who)
  same_op = next_filled t.who t.filling

  pub served_filled : LogServed D old.log_part (lent who_filled) (next who_filled) t.code new.log_part
  served_filled = subst (λ (o : Op). LogServed D old.log_part (lent who_filled) o t.code new.log_part) (sym same_op)
      t.log_served

  pub actors_then : (said : Answer) → ◌≡◌ {A = Answer} said answer
      → ◌≡◌ {A = List Actor} (set actors_filled seat (took who_filled said)) new.actors
  actors_then said is = ap (λ (r : Answer). set actors_filled seat (took who_filled r)) is
      ∙ set-set old.actors seat who_filled (took who_filled answer) ∙ sym t.actors

  pub turn_leaves : RunsOver D E c new.layout new.words new.lists new.log_part new.data_part new.actors log_then
  turn_leaves =
      let ready : RunningStore D E c old.layout old.words old.lists old.log_part old.data_part actors_filled = record {
        shared = before.shared;
        log_ghost = before.log_ghost;
        page_ghost = before.page_ghost;
        layout_is = before.layout_is;
        flat_is = before.flat_is;
        both = both_filled;
      } in
      let p = new.log_part in
      let d = new.data_part in
      let stored : DataServed E old.data_part (lent who_filled) (next who_filled) t.code d =
      subst (λ (o : Op). DataServed E old.data_part (lent who_filled) o t.code d) (sym same_op) t.data_served in
      let after = keeps_turn D L E EL c old.layout old.words old.lists old.log_part old.data_part actors_filled seat
      who_filled ready filled_at (is_filled t.who t.filling t.fills) t.code p d served_filled stored
      (subst (λ (o : Op). OwnServed o t.code) (sym same_op) t.own_served) in
      let mine : ℕ → ℕ = λ i. slice_index before.shared.lists i in
      let words_same : (i : ℕ) → i < 4 → mine i ≡ list_word old.words i =
      λ i l. sym (ap (λ (ws : List ℕ). slice_index ws (8 + i)) before.flat_is
      ∙ flat_read (layout_of c) before.shared before.both.logged.sized (word.List i) l) in
      let lists : ◌≡◌ {A = ℕ → List Listed} (lists_left old.lists mine (next who_filled)) new.lists =
      lists_same old.lists mine (list_word old.words) words_same (next who_filled)
      ∙ ap {B = ℕ → List Listed} (λ (o : Op). lists_left old.lists (list_word old.words) o) same_op ∙ sym t.lists in
      let said : ◌≡◌ {A = Answer}
      (answer_of old.layout old.lists (D.failed old.log_part) t.code (D.stable p) old.words (next who_filled)) answer =
      ap {B = Answer} (λ (o : Op). answer_of old.layout old.lists (D.failed old.log_part) t.code (D.stable p) old.words o) same_op
      ∙ sym t.answered in
      let words : List ℕ = words_left old.layout old.words (next who_filled) in
      subst (λ (l : Layout). RunsOver D E c l new.words new.lists p d new.actors log_then) (sym t.layout)
      (subst (λ (ws : List ℕ). RunsOver D E c old.layout ws new.lists p d new.actors log_then)
      (ap (words_left old.layout old.words) same_op ∙ sym t.words)
      (subst (λ (ls : ℕ → List Listed). RunsOver D E c old.layout words ls p d new.actors log_then) lists
      (subst (λ (rs : List Actor). RunsOver D E c old.layout words (lists_left old.lists mine (next who_filled)) p d rs
      log_then) (actors_then _ said) after)))

pub turn_keeps : (D : LogSide) → LogLaws D → (E : DataSide) → DataLaws E → (c : Setup) (old new : Core D E)
    (seat : ℕ) (answer : Answer) (step : Step) → IsRunning D E c old → Turn D E old seat answer step new
    → IsRunning D E c new
turn_keeps D L E EL c old new seat answer step before t =
    (turn_leaves D L E EL c old new seat answer step before t).store
