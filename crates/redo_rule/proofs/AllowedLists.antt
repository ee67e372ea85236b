-- The steps that take a flush list keep the rule.
use Rattle.std.proofs.Common.{Bool, List, None, Option, Some, [], ap, arith, cond, eq-eqb, eqb, get_or-set_other, get_or-set_same, length-set, ne_eqb, refl, set, subst, suc, sym, zero, ℕ, ◌%◌, ◌++◌, ◌+◌, ◌<◌, ◌∙◌, ◌∷◌, ◌≡◌, ◌≢◌}
use Rattle.std.specs.Prelude.{slice_index, slice_set}
use lib.ListN.{get_elem?}
use mathlib.Core.Option as maybe
use native.Mathlib.Decide.{ℕ_discrete}
use prog.Atomic.{either}
use Rattle.atomic_table.specs.Table.{Allows, Me, State}
use Rattle.model_core.specs.{filled, lent, list_word, next, oldest_end, took, hand, IsFreeToCheck}
use Rattle.model_core.specs.States as model
use Rattle.model_core.specs.declared.ops.Answer.{Answer}
use Rattle.model_core.specs.declared.ops.Answer.TheVariants as answer
use Rattle.model_core.specs.declared.ops.Op.{Op}
use Rattle.model_core.specs.declared.ops.Op.TheVariants as op
use Rattle.model_running.proofs.ListsReady.{list_ready}
use Rattle.model_running.specs.Ready.{ListReady}
use Rattle.redo_disk.specs.{Call, Seen}
use Rattle.redo_flushlist.specs.{Listing, without_page}
use Rattle.redo_logdev.specs.Part as log
use Rattle.redo_flushlist.specs.declared.dirty.Dirty.{Dirty}
use Rattle.redo_drive.proofs.Listings.{add_left, remove_left}
use Rattle.redo_drive.proofs.Played as played
use Rattle.redo_drive.specs.{added, AreLists, listing_at, Listings, lists_of, no_list, removed, with_list, run_data_side, run_log_side}
use Rattle.redo_drive.specs.declared.parts.Parts.{Parts}
use Rattle.redo_rule.proofs.Allowed as allowed
use Rattle.redo_rule.proofs.Filled.{handles_filled}
use Rattle.redo_rule.proofs.Retook.{one_head}
use Rattle.model_core.proofs.Hands.{Handles}
use Rattle.redo_rule.specs.Plays.{list_behind, list_said, ListFits, no_filling, seized_list, Stepped, TakesList}
use Rattle.redo_rule.specs.OwnSide.{Beside, desk_with}
use Rattle.redo_rule.specs.Ruled.{Ruled, slot_content}
use Rattle.redo_rule.specs.declared.law.About.{About}
use Rattle.redo_rule.specs.declared.law.Errand.{Errand}
use Rattle.redo_rule.specs.declared.law.Numbered.{Numbered}
use Rattle.redo_rule.specs.declared.law.Slot.{Slot}
use Rattle.redo_rule.specs.declared.law.Slot.TheVariants as slot
use Rattle.redo_rule.specs.declared.law.View.{View}

-- lists of which one is replaced by another of as many pages
pub with_are : (listings : Listings) (i : ℕ) (entries : List Dirty) → AreLists listings → i < 4 → AreLists (with_list listings i entries)
with_are listings i entries are below = record {
  count = length-set listings.lists i (record { pages = (listing_at listings.lists i).pages; entries = entries }) ∙ are.count;
  its_pages = λ j l. elim (ℕ_discrete j i) [
    | yes here ↦ ap (λ (k : ℕ). (listing_at (set listings.lists i (record { pages = (listing_at listings.lists i).pages; entries = entries })) k).pages) here
        ∙ ap (λ (z : Listing). z.pages) (get_or-set_same listings.lists i (record { pages = (listing_at listings.lists i).pages; entries = entries }) no_list (let n = are.count in omega arith)) ∙ are.its_pages i below
    | no far ↦ ap (λ (z : Listing). z.pages) (get_or-set_other listings.lists i j (record { pages = (listing_at listings.lists i).pages; entries = entries }) no_list far) ∙ are.its_pages j l
  ];
}

module _ {L D : Type 0} where
  pub with_others : (old new : Parts L D) (beside : Beside) (i : ℕ) (entries : List Dirty) → new.log ≡ old.log → ◌≡◌ {A =
      Listings} new.lists (with_list old.lists i entries) → (j : ℕ) → j ≢ suc i → ◌≡◌ {A = Slot L D} (slot_content old
      beside j) (slot_content new beside j)
  with_others old new beside i entries log_same lists zero far =
      ap (λ (z : log.Part L). slot.Log (desk_with z beside)) (sym log_same)
  with_others old new beside i entries log_same lists (suc j) far = ap slot.Pages (sym (ap (λ (z : Listings).
      listing_at z.lists j) lists ∙ get_or-set_other old.lists.lists i j (record {
        pages = (listing_at old.lists.lists
            i).pages;
        entries = entries;
      }) no_list (λ z. far (ap suc z))))

module _ {L D : Type 0} (log_seen : L → Seen) (log_gives : L → Call → L → Type 0) (data_seen : D → Seen) (data_gives : D → Call → D → Type 0) (about : About L D) (slots id : ℕ) (me : Me (Slot L D) (View L D)) (x : Numbered) (one : me.0.seats ≡ x ∷ [])
    (plain_one : ◌≡◌ {A = Option Errand} x.errand None) where
  abbrev Law : State (Slot L D) (View L D) → Type 0
  Law = Ruled log_seen log_gives data_seen data_gives about

  abbrev a : model.Actor
  a = x.actor

  abbrev plain : model.Actor
  plain = filled a no_filling

  -- what it tells, of whatever slot the Op takes
  abbrev Told : Op → ℕ → ℕ → Me (Slot L D) (View L D) → Type 0
  Told o i n m' = (n ≡ 0 → (l : Listing) × ListFits o l × Stepped log_seen data_seen x no_filling (answer.Taken
      (list_said o l)) (Some (slot.Pages (list_behind o l))) me.0.data_part ((suc i, slot.Pages l) ∷ me.1) me m') × (n
      ≢ 0 → Stepped log_seen data_seen x no_filling answer.Held me.0.held me.0.data_part me.1 me m')

  tells : (o : Op) (i : ℕ) → next a ≡ o → ((k : ℕ) → TakesList o k → k ≡ suc i) → (n : ℕ) (m' : Me (Slot L D) (View L D)) → Told o i n m' → seized_list log_seen data_seen me n m'
  tells o i is one_slot n m' told y k seats takes =
      let same : ◌≡◌ {A = Numbered} x y = one_head me.0.seats x y one seats in
      let takes_x : TakesList o k = subst (λ (p : Op). TakesList p k) (ap (λ (z : Numbered). next z.actor) (sym same)
      ∙ is) takes in
      subst (λ (z : Numbered). (n ≡ 0 → (l : Listing) × ListFits (next z.actor) l × Stepped log_seen data_seen z
      no_filling (answer.Taken (list_said (next z.actor) l)) (Some (slot.Pages (list_behind (next z.actor) l)))
      me.0.data_part ((k, slot.Pages l) ∷ me.1) me m') × (n ≢ 0 → Stepped log_seen data_seen z no_filling
      answer.Held me.0.held me.0.data_part me.1 me m')) same
      (subst (λ (p : Op). (n ≡ 0 → (l : Listing) × ListFits p l × Stepped log_seen data_seen x no_filling
      (answer.Taken (list_said p l)) (Some (slot.Pages (list_behind p l))) me.0.data_part ((k, slot.Pages l) ∷
      me.1) me m') × (n ≢ 0 → Stepped log_seen data_seen x no_filling answer.Held me.0.held me.0.data_part me.1 me
      m')) (sym is)
      (subst (λ (j : ℕ). (n ≡ 0 → (l : Listing) × ListFits o l × Stepped log_seen data_seen x no_filling (answer.Taken
      (list_said o l)) (Some (slot.Pages (list_behind o l))) me.0.data_part ((j, slot.Pages l) ∷ me.1) me m') × (n
      ≢ 0 → Stepped log_seen data_seen x no_filling answer.Held me.0.held me.0.data_part me.1 me m')) (sym
      (one_slot k takes_x)) told))

  weaker : (i : ℕ) (f : ℕ → ℕ) (Then Other : ℕ → Me (Slot L D) (View L D) → Type 0) → ((n : ℕ) (m' : Me (Slot L D) (View L D)) → Then n m' → Other n m') → Allows Law slots id me i f Then → Allows Law slots id me i f Other
  weaker i f Then Other goes allows s R wide at small = let r = allows s R wide at small in (r.0, r.1, r.2, r.3, goes (slice_index s.words i) _ r.4)

  ready : (s : State (Slot L D) (View L D)) (R : Law s) → get_elem? R.actors x.number ≡ maybe.some a → ListReady
      R.run.setup.pages (lists_of R.parts.lists) (next a)
  ready s R there = let W = R.runs.running in list_ready (run_log_side log_seen data_seen R.run) (run_data_side
      log_seen data_seen R.run) R.run.setup W.shared W.log_ghost W.page_ghost (lists_of R.parts.lists) R.parts.log
      R.parts.store R.actors x.number W.both a there

  -- TakeAdd
  pub allows_take_add : (p y : ℕ) → next a ≡ op.TakeAdd p y → IsFreeToCheck a → Allows Law slots id me (8 + p % 4) (λ n. either (eqb n 0) 1 n) (seized_list log_seen data_seen me)
  allows_take_add p y is free =
      let goes : Handles (op.TakeAdd p y) (hand a) (λ (z : Answer). hand (took plain z)) = subst (λ (o : Op). Handles
      o (hand a) (λ (z : Answer). hand (took plain z))) is (handles_filled a no_filling free) in
      weaker (8 + p % 4) (λ n. either (eqb n 0) 1 n) (Told (op.TakeAdd p y) (p % 4)) (seized_list log_seen data_seen me) (tells (op.TakeAdd p y) (p % 4) is (λ k e. e))
      (allowed.takes_list log_seen log_gives data_seen data_gives about slots id me x one plain_one (op.TakeAdd p y) (p % 4) is
      tt refl (omega arith) goes
      (λ s R new busy layout words log_same store_same lists_same. let word : 7 + suc (p % 4) ≡ 8 + p % 4 = omega arith in
      let busy_p : slice_index R.parts.words.words (8 + p % 4) ≢ 0 = λ z. busy (ap (slice_index s.words) word ∙ sym (ap (λ (w : List ℕ). slice_index w (8 + p % 4)) R.words_are) ∙ z) in
      let f = ne_eqb (slice_index R.parts.words.words (8 + p % 4)) 0 busy_p in
      played.took_add log_seen data_seen R.run (lent plain) R.parts new answer.Held (record {
        log = log_same;
        data_part = store_same;
      }) layout (op.TakeAdd p y) p y refl
      (words ∙ sym (ap (λ (b : Bool). cond b (slice_set R.parts.words.words (8 + p % 4) 1) R.parts.words.words) f))
      (add_left R.parts.lists new.lists (list_word R.parts.words.words) p y R.lists_are (lists_same ∙ sym (ap (λ (b : Bool). cond b (added R.parts.lists p y) R.parts.lists) f))) (sym (ap (λ (b : Bool). cond b (answer.Taken None) answer.Held) f)))
      (λ s R ws words free_word there.
      let f = eq-eqb (slice_index R.parts.words.words (8 + p % 4)) 0 free_word in
      let entries : List Dirty = (listing_at R.parts.lists.lists (p % 4)).entries ++ (record { page = p; oldest = y }) ∷ [] in
      let new : Parts L D = record { words = record { layout = R.parts.words.layout; words = ws }; log = R.parts.log; store = R.parts.store; lists = added R.parts.lists p y } in
      let may : ListReady R.run.setup.pages (lists_of R.parts.lists) (op.TakeAdd p y) = subst (ListReady R.run.setup.pages (lists_of R.parts.lists)) is (ready s R there) in
      record {
        new = new;
        words = refl;
        count = refl;
        list_count = refl;
        log_same = refl;
        store_same = refl;
        are = with_are R.parts.lists (p % 4) entries R.lists_are (omega arith);
        others = with_others R.parts new R.beside (p % 4) entries refl refl;
        own = get_or-set_same R.parts.lists.lists (p % 4) (record { pages = (listing_at R.parts.lists.lists (p % 4)).pages; entries = entries }) no_list (let n = R.lists_are.count in omega arith);
        fits = ((let a1 = may.0 in let a2 = R.lists_are.its_pages (p % 4) (omega arith) in let a3 = R.runs.list_pages in omega arith), may.1, may.2, R.runs.running.both.paged.paged.lists.real (p % 4));
        plays = played.took_add log_seen data_seen R.run (lent plain) R.parts new (answer.Taken None) (record {
          log =
              refl;
          data_part = refl;
        }) refl (op.TakeAdd p y) p y refl words
            (add_left R.parts.lists new.lists (list_word R.parts.words.words) p y R.lists_are (sym (ap (λ (b : Bool). cond b (added R.parts.lists p y) R.parts.lists) f))) (sym (ap (λ (b : Bool). cond b (answer.Taken None) answer.Held) f));
      }))

  -- TakeRemove
  pub allows_take_remove : (p : ℕ) → next a ≡ op.TakeRemove p → IsFreeToCheck a → Allows Law slots id me (8 + p % 4) (λ n. either (eqb n 0) 1 n) (seized_list log_seen data_seen me)
  allows_take_remove p is free =
      let goes : Handles (op.TakeRemove p) (hand a) (λ (z : Answer). hand (took plain z)) = subst (λ (o : Op). Handles
      o (hand a) (λ (z : Answer). hand (took plain z))) is (handles_filled a no_filling free) in
      weaker (8 + p % 4) (λ n. either (eqb n 0) 1 n) (Told (op.TakeRemove p) (p % 4)) (seized_list log_seen data_seen me) (tells (op.TakeRemove p) (p % 4) is (λ k e. e))
      (allowed.takes_list log_seen log_gives data_seen data_gives about slots id me x one plain_one (op.TakeRemove p) (p % 4) is
      tt refl (omega arith) goes
      (λ s R new busy layout words log_same store_same lists_same. let word : 7 + suc (p % 4) ≡ 8 + p % 4 = omega arith in
      let busy_p : slice_index R.parts.words.words (8 + p % 4) ≢ 0 = λ z. busy (ap (slice_index s.words) word ∙ sym (ap (λ (w : List ℕ). slice_index w (8 + p % 4)) R.words_are) ∙ z) in
      let f = ne_eqb (slice_index R.parts.words.words (8 + p % 4)) 0 busy_p in
      played.took_remove log_seen data_seen R.run (lent plain) R.parts new answer.Held (record {
        log = log_same;
        data_part = store_same;
      }) layout (op.TakeRemove p) p refl
      (words ∙ sym (ap (λ (b : Bool). cond b (slice_set R.parts.words.words (8 + p % 4) 1) R.parts.words.words) f))
      (remove_left R.parts.lists new.lists (list_word R.parts.words.words) p R.lists_are (lists_same ∙ sym (ap (λ (b : Bool). cond b (removed R.parts.lists p) R.parts.lists) f))) (sym (ap (λ (b : Bool). cond b (answer.Taken None) answer.Held) f)))
      (λ s R ws words free_word there.
      let f = eq-eqb (slice_index R.parts.words.words (8 + p % 4)) 0 free_word in
      let entries : List Dirty = without_page p (listing_at R.parts.lists.lists (p % 4)).entries in
      let new : Parts L D = record { words = record { layout = R.parts.words.layout; words = ws }; log = R.parts.log; store = R.parts.store; lists = removed R.parts.lists p } in
      let may : ListReady R.run.setup.pages (lists_of R.parts.lists) (op.TakeRemove p) = subst (ListReady R.run.setup.pages (lists_of R.parts.lists)) is (ready s R there) in
      record {
        new = new;
        words = refl;
        count = refl;
        list_count = refl;
        log_same = refl;
        store_same = refl;
        are = with_are R.parts.lists (p % 4) entries R.lists_are (omega arith);
        others = with_others R.parts new R.beside (p % 4) entries refl refl;
        own = get_or-set_same R.parts.lists.lists (p % 4) (record { pages = (listing_at R.parts.lists.lists (p % 4)).pages; entries = entries }) no_list (let n = R.lists_are.count in omega arith);
        fits = may;
        plays = played.took_remove log_seen data_seen R.run (lent plain) R.parts new (answer.Taken None) (record {
          log
              = refl;
          data_part = refl;
        }) refl (op.TakeRemove p) p refl words
            (remove_left R.parts.lists new.lists (list_word R.parts.words.words) p R.lists_are (sym (ap (λ (b : Bool). cond b (removed R.parts.lists p) R.parts.lists) f))) (sym (ap (λ (b : Bool). cond b (answer.Taken None) answer.Held) f));
      }))

  -- TakeOldest
  pub allows_take_oldest : (i : ℕ) → next a ≡ op.TakeOldest i → i < 4 → IsFreeToCheck a → Allows Law slots id me (8 + i) (λ n. either (eqb n 0) 1 n) (seized_list log_seen data_seen me)
  allows_take_oldest i is below free =
      let goes : Handles (op.TakeOldest i) (hand a) (λ (z : Answer). hand (took plain z)) = subst (λ (o : Op). Handles
      o (hand a) (λ (z : Answer). hand (took plain z))) is (handles_filled a no_filling free) in
      weaker (8 + i) (λ n. either (eqb n 0) 1 n) (Told (op.TakeOldest i) i) (seized_list log_seen data_seen me) (tells (op.TakeOldest i) i is (λ k e. e))
      (allowed.takes_list log_seen log_gives data_seen data_gives about slots id me x one plain_one (op.TakeOldest i) i is tt
      refl below goes
      (λ s R new busy layout words log_same store_same lists_same. let word : 7 + suc i ≡ 8 + i = omega arith in
      let busy_p : slice_index R.parts.words.words (8 + i) ≢ 0 = λ z. busy (ap (slice_index s.words) word ∙ sym (ap (λ (w : List ℕ). slice_index w (8 + i)) R.words_are) ∙ z) in
      let f = ne_eqb (slice_index R.parts.words.words (8 + i)) 0 busy_p in
      record {
        code = 0;
        log_served = log_same;
        own_served = tt;
        data_served = played.untouched (run_data_side log_seen data_seen R.run) R.parts.store new.store (lent plain)
            (op.TakeOldest i) 0 tt store_same;
        layout = layout;
        words = words ∙ sym (ap (λ (b : Bool). cond b (slice_set R.parts.words.words (8 + i) 1) R.parts.words.words) f);
        lists = ap lists_of lists_same;
        answered = sym (ap (λ (b : Bool). cond b (answer.Taken (oldest_end (lists_of R.parts.lists i))) answer.Held) f);
      })
      (λ s R ws words free_word there.
      let f = eq-eqb (slice_index R.parts.words.words (8 + i)) 0 free_word in
      let new : Parts L D = record { words = record { layout = R.parts.words.layout; words = ws }; log = R.parts.log; store = R.parts.store; lists = R.parts.lists } in
      record {
        new = new;
        words = refl;
        count = refl;
        list_count = refl;
        log_same = refl;
        store_same = refl;
        are = R.lists_are;
        others = λ j far. allowed.same_content R.parts new R.beside refl refl j;
        own = refl;
        fits = tt;
        plays = record {
          code = 0;
          log_served = refl;
          own_served = tt;
          data_served = played.untouched (run_data_side log_seen data_seen R.run) R.parts.store R.parts.store (lent
              plain) (op.TakeOldest i) 0 tt refl;
          layout = refl;
          words = words;
          lists = refl;
          answered = sym (ap (λ (b : Bool). cond b (answer.Taken (oldest_end (lists_of R.parts.lists i))) answer.Held) f);
        };
      }))
