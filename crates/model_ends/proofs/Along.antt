-- What holds along a run beside its invariant: whatever each turn keeps holds in each state that any turns reach.
use Rattle.std.proofs.Common.{List, ap, set, subst, suc, sym, zero, ℕ, ◌+◌, ◌∙◌, ◌≡◌}
use Rattle.std.proofs.lemmas.List.{set-set}
use Rattle.std.specs.Prelude.{slice_index}
use lib.ListN.{get_elem?}
use mathlib.Core.Option.{some}
use Rattle.model_core.proofs.Lists.{set_at}
use Rattle.model_core.specs.{Actor, answer_of, Core, DataServed, filled, Filling, flat, layout_of, lent, list_word, Listed, lists_left, log_left, LogServed, next, OwnServed, shared_answer, shared_left, SharedWords, took, words_left, DataSide, LogSide, Setup}
use Rattle.model_core.specs.Program.{Turn}
use Rattle.model_core.specs.declared.ops.Answer.{Answer}
use Rattle.model_core.specs.declared.ops.Op.{Op}
use Rattle.model_core.specs.declared.ops.Step.{Step}
use Rattle.model_logcore.specs.{LogGhost}
use Rattle.model_logcore.specs.LogLaws.{LogLaws}
use Rattle.model_pagecore.specs.{PageGhost}
use Rattle.model_pagecore.specs.DataLaws.{DataLaws}
use Rattle.model_running.proofs.BothKeep.{BothLeft, keeps_both}
use Rattle.model_running.proofs.Filling.{fills_keep, is_filled, next_filled}
use Rattle.model_running.proofs.FlatWords.{flat_answer, flat_left, flat_read}
use Rattle.model_running.proofs.Turns.{next_words}
use Rattle.model_running.specs.Watermarks.{BothHalves}
use Rattle.model_ends.proofs.States.{lists_same}
use Rattle.model_ends.specs.Alone.{CanReach}
use Rattle.model_core.specs.declared.words.Layout.{Layout}
use Rattle.model_core.specs.declared.words.Word.TheVariants as word

module _ (D : LogSide) (E : DataSide) (c : Setup) (P : SharedWords → (ℕ → List Listed) → D.Part → E.Part → List Actor → Type 0) where
  -- a running store, of which it holds
  pub record Along (s : Core D E) : Type 0 where
    pub words : SharedWords
    pub log_ghost : LogGhost
    pub page_ghost : PageGhost
    pub layout_is : s.layout ≡ layout_of c
    pub flat_is : s.words ≡ flat words
    pub both : BothHalves D E c words log_ghost page_ghost s.lists s.log_part s.data_part s.actors
    pub holds : P words s.lists s.log_part s.data_part s.actors

  -- it holds after each turn, and after what a turn puts into an actor before its Op
  pub record EachTurnKeeps : Type 0 where
    pub filled : (m : SharedWords) (ls : ℕ → List Listed) (p : D.Part) (d : E.Part) (actors : List Actor) (seat : ℕ) (a : Actor) → get_elem? actors seat ≡ some a → (f : Filling) → P m ls p d actors → P m ls p d (set actors seat (filled a f))
    pub turned : (m : SharedWords) (g : LogGhost) (h : PageGhost) (ls : ℕ → List Listed) (p : D.Part) (d : E.Part) (actors : List Actor) → BothHalves D E c m g h ls p d actors → P m ls p d actors
        → (seat : ℕ) (a : Actor) → get_elem? actors seat ≡ some a → (code : ℕ) (q : D.Part) (e : E.Part) → LogServed D p (lent a) (next a) code q → DataServed E d (lent a) (next a) code e
        → P (shared_left m (next a)) (lists_left ls (λ i. slice_index m.lists i) (next a)) q e (set actors seat (took a (shared_answer ls (D.failed p) code (D.stable q) m (next a))))

  module _ (L : LogLaws D) (EL : DataLaws E) (keeps : EachTurnKeeps) where
    module _ (old new : Core D E) (seat : ℕ) (answer : Answer) (step : Step) (S : Along old) (t : Turn D E old seat answer step new) where
      abbrev pub m : SharedWords
      m = S.words

      abbrev pub who : Actor
      who = filled t.who t.filling

      abbrev pub they : List Actor
      they = set old.actors seat who

      pub at : get_elem? they seat ≡ some who
      at = set_at old.actors seat t.who who t.who_is

      pub both_filled : BothHalves D E c m S.log_ghost S.page_ghost old.lists old.log_part old.data_part they
      both_filled = fills_keep D E c m S.log_ghost S.page_ghost old.lists old.log_part old.data_part old.actors seat S.both t.who t.who_is t.filling

      same_op : ◌≡◌ {A = Op} (next who) (next t.who)
      same_op = next_filled t.who t.filling

      served : LogServed D old.log_part (lent who) (next who) t.code new.log_part
      served = subst (λ (o : Op). LogServed D old.log_part (lent who) o t.code new.log_part) (sym same_op) t.log_served

      stored : DataServed E old.data_part (lent who) (next who) t.code new.data_part
      stored = subst (λ (o : Op). DataServed E old.data_part (lent who) o t.code new.data_part) (sym same_op) t.data_served

      abbrev pub said : Answer
      said = shared_answer old.lists (D.failed old.log_part) t.code (D.stable new.log_part) m (next who)

      abbrev pub after : SharedWords
      after = shared_left m (next who)

      abbrev answers : List ℕ → Op → Answer
      answers ws o = answer_of old.layout old.lists (D.failed old.log_part) t.code (D.stable new.log_part) ws o

      said_is : ◌≡◌ {A = Answer} said answer
      said_is =
          let w = next_words D E c m S.log_ghost S.page_ghost old.lists old.log_part old.data_part they seat both_filled who at in
          sym (ap (λ (z : List ℕ). answers z (next who)) S.flat_is
          ∙ ap (λ (l : Layout). answer_of l old.lists (D.failed old.log_part) t.code (D.stable new.log_part) (flat m) (next who)) S.layout_is
          ∙ flat_answer (layout_of c) m S.both.logged.sized old.lists (D.failed old.log_part) t.code (D.stable new.log_part) (next who) w) ∙ ap {B = Answer} (λ (o : Op). answers old.words o) same_op ∙ sym t.answered

      pub actors_then : ◌≡◌ {A = List Actor} (set they seat (took who said)) new.actors
      actors_then = ap (λ (r : Answer). set they seat (took who r)) said_is ∙ set-set old.actors seat who (took who answer) ∙ sym t.actors

      pub words_then : new.words ≡ flat after
      words_then =
          let w = next_words D E c m S.log_ghost S.page_ghost old.lists old.log_part old.data_part they seat both_filled who at in
          t.words ∙ ap (words_left old.layout old.words) (sym same_op) ∙ ap (λ (z : List ℕ). words_left old.layout z (next who)) S.flat_is
          ∙ ap (λ (l : Layout). words_left l (flat m) (next who)) S.layout_is ∙ flat_left (layout_of c) m S.both.logged.sized (next who) w

      pub lists_then : ◌≡◌ {A = ℕ → List Listed} (lists_left old.lists (λ i. slice_index m.lists i) (next who)) new.lists
      lists_then = lists_same old.lists (λ i. slice_index m.lists i) (list_word old.words)
          (λ i l. sym (ap (λ (ws : List ℕ). slice_index ws (8 + i)) S.flat_is ∙ flat_read (layout_of c) m S.both.logged.sized (word.List i) l)) (next who)
          ∙ ap {B = ℕ → List Listed} (λ (o : Op). lists_left old.lists (list_word old.words) o) same_op ∙ sym t.lists

      pub both_left : BothLeft D E c after (lists_left old.lists (λ i. slice_index m.lists i) (next who)) new.log_part new.data_part (set they seat (took who said)) (log_left S.log_ghost.log m.sn who)
      both_left = keeps_both D L E EL c m S.log_ghost S.page_ghost old.lists old.log_part old.data_part they seat both_filled t.code new.log_part new.data_part who at (is_filled t.who t.filling t.fills) served stored
          (subst (λ (o : Op). OwnServed o t.code) (sym same_op) t.own_served)

      pub holds_then : P after (lists_left old.lists (λ i. slice_index m.lists i) (next who)) new.log_part new.data_part (set they seat (took who said))
      holds_then = keeps.turned m S.log_ghost S.page_ghost old.lists old.log_part old.data_part they both_filled (keeps.filled m old.lists old.log_part old.data_part old.actors seat t.who t.who_is t.filling S.holds) seat who at t.code new.log_part new.data_part served stored

      abbrev pub turn_along : Along new
      turn_along = record {
        words = after;
        log_ghost = both_left.log_ghost;
        page_ghost = both_left.page_ghost;
        layout_is = t.layout ∙ S.layout_is;
        flat_is = words_then;
        both = subst (λ (rs : List Actor). BothHalves D E c after both_left.log_ghost both_left.page_ghost new.lists new.log_part new.data_part rs) actors_then
            (subst (λ (ls : ℕ → List Listed). BothHalves D E c after both_left.log_ghost both_left.page_ghost ls new.log_part new.data_part (set they seat (took who said))) lists_then both_left.both);
        holds = subst (λ (rs : List Actor). P after new.lists new.log_part new.data_part rs) actors_then
            (subst (λ (ls : ℕ → List Listed). P after ls new.log_part new.data_part (set they seat (took who said))) lists_then holds_then);
      }

    -- EVERY STATE THAT ANY TURNS REACH
    pub reach_along : (k : ℕ) (first s : Core D E) → Along first → CanReach D E k first s → Along s
    reach_along zero first s S is = subst Along (sym is) S
    reach_along (suc k) first s S r = turn_along r.before s r.seat r.answer r.step (reach_along k first r.before S r.earlier) r.turn
