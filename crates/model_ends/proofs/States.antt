-- A running store with the log alone, over its words by name; and what a turn leaves of it.
use Rattle.std.proofs.Common.{List, ap, arith, cond, eqb, refl, set, subst, sym, true, ℕ, ◌%◌, ◌+◌, ◌<◌, ◌∙◌, ◌≡◌}
use Rattle.std.specs.Prelude.{slice_index}
use Rattle.model_core.specs.{Actor, answer_of, appended, Core, DataServed, filled, Filling, flat, layout_of, lent, list_word, Listed, lists_left, LogServed, next, shared_answer, shared_left, SharedWords, took, without, words_left, DataSide, LogSide, Setup}
use Rattle.model_core.specs.Program.{Turn}
use Rattle.model_core.specs.declared.ops.Answer.{Answer}
use Rattle.model_core.specs.declared.ops.Op.{Op}
use Rattle.model_core.specs.declared.ops.Step.{Step}
use Rattle.model_logcore.specs.{LogGhost}
use Rattle.model_logcore.specs.LogLaws.{LogLaws}
use Rattle.model_pagecore.specs.{PageGhost}
use Rattle.model_pagecore.specs.DataLaws.{DataLaws}
use Rattle.model_running.proofs.BothKeep.{keeps_both}
use Rattle.model_running.proofs.FailedStays.{turn_keeps_failed}
use Rattle.model_running.proofs.FlatWords.{flat_answer, flat_left, flat_read}
use Rattle.model_running.proofs.ReadStays.{IsFilled}
use Rattle.model_running.proofs.Turns.{next_words}
use Rattle.model_running.specs.Watermarks.{BothHalves, IsRunning}
use Rattle.model_ends.proofs.Further.{Further, Told}
use Rattle.model_ends.proofs.FurtherKeeps.{further_kept}
use Rattle.model_core.specs.States as actor
use Rattle.model_core.specs.declared.ops.Op.TheVariants as op
use Rattle.model_core.specs.declared.words.Layout.{Layout}
use Rattle.model_core.specs.declared.words.Word.TheVariants as word

-- the flush lists after an Op depend on the turn words of the lists alone
pub lists_same : (ls : ℕ → List Listed) (first second : ℕ → ℕ) → ((i : ℕ) → i < 4 → first i ≡ second i) → (o : Op) → ◌≡◌ {A = ℕ → List Listed} (lists_left ls first o) (lists_left ls second o)
lists_same ls first second same (op.TakeAdd p x) = ap {B = ℕ → List Listed} (λ (z : ℕ) (i : ℕ). cond (eqb i (p % 4)) (cond (eqb z 0) (appended (ls i) p x) (ls i)) (ls i)) (same (p % 4) (omega arith))
lists_same ls first second same (op.TakeRemove p) = ap {B = ℕ → List Listed} (λ (z : ℕ) (i : ℕ). cond (eqb i (p % 4)) (cond (eqb z 0) (without p (ls i)) (ls i)) (ls i)) (same (p % 4) (omega arith))
lists_same ls first second same _ = refl

-- a turn puts nothing into an actor of the log alone
filled_same : (c : Setup) (failed : ℕ) (a : Actor) (f : Filling) → Told c failed a → ◌≡◌ {A = Actor} (filled a f) a
filled_same c failed (actor.User u) f told = refl
filled_same c failed (actor.Writer u) f told = refl
filled_same c failed (actor.Flusher u) f told = refl
filled_same c failed (actor.Closer u) f told = absurd told
filled_same c failed (actor.Cleaner u) f told = absurd told
filled_same c failed (actor.Checkpointer u) f told = absurd told
filled_same c failed (actor.Reader u) f told = absurd told

all_filled : (c : Setup) (failed : ℕ) (a : Actor) → Told c failed a → IsFilled a
all_filled c failed (actor.User u) told = tt
all_filled c failed (actor.Writer u) told = tt
all_filled c failed (actor.Flusher u) told = tt
all_filled c failed (actor.Closer u) told = absurd told
all_filled c failed (actor.Cleaner u) told = absurd told
all_filled c failed (actor.Checkpointer u) told = absurd told
all_filled c failed (actor.Reader u) told = absurd told

module _ (D : LogSide) (E : DataSide) (c : Setup) where
  -- the store's state, with these words
  pub record State (m : SharedWords) (s : Core D E) : Type 0 where
    pub log_ghost : LogGhost
    pub page_ghost : PageGhost
    pub layout_is : s.layout ≡ layout_of c
    pub flat_is : s.words ≡ flat m
    pub both : BothHalves D E c m log_ghost page_ghost s.lists s.log_part s.data_part s.actors
    pub further : Further D c m s.log_part s.actors

  running : (m : SharedWords) (s : Core D E) → State m s → IsRunning D E c s
  running m s S = record { shared = m; log_ghost = S.log_ghost; page_ghost = S.page_ghost; layout_is = S.layout_is; flat_is = S.flat_is; both = S.both }

  module _ (L : LogLaws D) (EL : DataLaws E) (alone : c.log_only ≡ true) (m : SharedWords) (old new : Core D E) (seat : ℕ) (answer : Answer) (step : Step) (S : State m old) (t : Turn D E old seat answer step new) where
    abbrev told : Told c m.failed t.who
    told = S.further.each seat t.who t.who_is

    served : LogServed D old.log_part (lent t.who) (next t.who) t.code new.log_part
    served = subst (λ (x : Actor). LogServed D old.log_part (lent x) (next t.who) t.code new.log_part) (filled_same c m.failed t.who t.filling told) t.log_served

    stored : DataServed E old.data_part (lent t.who) (next t.who) t.code new.data_part
    stored = subst (λ (x : Actor). DataServed E old.data_part (lent x) (next t.who) t.code new.data_part) (filled_same c m.failed t.who t.filling told) t.data_served

    -- what its Op is answered, and its words then
    abbrev pub said : Answer
    said = shared_answer old.lists (D.failed old.log_part) t.code (D.stable new.log_part) m (next t.who)

    abbrev pub after : SharedWords
    after = shared_left m (next t.who)

    said_is : ◌≡◌ {A = Answer} said answer
    said_is =
        let w = next_words D E c m S.log_ghost S.page_ghost old.lists old.log_part old.data_part old.actors seat S.both t.who t.who_is in
        sym (ap (λ (z : List ℕ). answer_of old.layout old.lists (D.failed old.log_part) t.code (D.stable new.log_part) z (next t.who)) S.flat_is
        ∙ ap (λ (l : Layout). answer_of l old.lists (D.failed old.log_part) t.code (D.stable new.log_part) (flat m) (next t.who)) S.layout_is
        ∙ flat_answer (layout_of c) m S.both.logged.sized old.lists (D.failed old.log_part) t.code (D.stable new.log_part) (next t.who) w) ∙ sym t.answered

    pub actors_then : ◌≡◌ {A = List Actor} (set old.actors seat (took t.who said)) new.actors
    actors_then = ap (λ (x : Answer). set old.actors seat (took t.who x)) said_is ∙ ap (λ (x : Actor). set old.actors seat (took x answer)) (sym (filled_same c m.failed t.who t.filling told)) ∙ sym t.actors

    words_then : new.words ≡ flat after
    words_then =
        let w = next_words D E c m S.log_ghost S.page_ghost old.lists old.log_part old.data_part old.actors seat S.both t.who t.who_is in
        t.words ∙ ap (λ (z : List ℕ). words_left old.layout z (next t.who)) S.flat_is
        ∙ ap (λ (l : Layout). words_left l (flat m) (next t.who)) S.layout_is ∙ flat_left (layout_of c) m S.both.logged.sized (next t.who) w

    lists_then : ◌≡◌ {A = ℕ → List Listed} (lists_left old.lists (λ i. slice_index m.lists i) (next t.who)) new.lists
    lists_then = lists_same old.lists (λ i. slice_index m.lists i) (list_word old.words)
        (λ i l. sym (ap (λ (ws : List ℕ). slice_index ws (8 + i)) S.flat_is ∙ flat_read (layout_of c) m S.both.logged.sized (word.List i) l)) (next t.who) ∙ sym t.lists

    pub never_back : 0 < m.failed → 0 < after.failed
    never_back failed =
        let is : slice_index old.words 6 ≡ m.failed = ap (λ (ws : List ℕ). slice_index ws 6) S.flat_is in
        let then : slice_index new.words 6 ≡ after.failed = ap (λ (ws : List ℕ). slice_index ws 6) words_then in
        let z = turn_keeps_failed D E c old new seat answer step (running m old S) t (omega arith) in
        omega arith

    pub state_then : State after new
    state_then =
        let r = keeps_both D L E EL c m S.log_ghost S.page_ghost old.lists old.log_part old.data_part old.actors seat S.both t.code new.log_part new.data_part t.who t.who_is (all_filled c m.failed t.who told) served stored t.own_served in
        record {
          log_ghost = r.log_ghost;
          page_ghost = r.page_ghost;
          layout_is = t.layout ∙ S.layout_is;
          flat_is = words_then;
          both = subst (λ (rs : List Actor). BothHalves D E c after r.log_ghost r.page_ghost new.lists new.log_part new.data_part rs) actors_then
              (subst (λ (ls : ℕ → List Listed). BothHalves D E c after r.log_ghost r.page_ghost ls new.log_part new.data_part (set old.actors seat (took t.who said))) lists_then r.both);
          further = subst (λ (rs : List Actor). Further D c after new.log_part rs) actors_then
              (further_kept D L E c m S.log_ghost S.page_ghost old.lists old.log_part old.data_part old.actors S.both alone S.further seat t.code new.log_part t.who t.who_is served never_back);
        }
