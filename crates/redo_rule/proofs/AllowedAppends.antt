-- The step that ends an append to the archive keeps the rule: it changes no word, no part and no list.
use Rattle.std.proofs.Common.{List, None, Option, Some, [], ap, inl, inr, refl, subst, sym, ℕ, ◌+◌, ◌∙◌, ◌∷◌, ◌≡◌}
use Rattle.std.proofs.lemmas.List.{set-get_or}
use Rattle.std.specs.Prelude.{slice_index, slice_set}
use mathlib.Core.Option as maybe
use Rattle.atomic_table.specs.Table.{Allows, keeps, Me}
use Rattle.model_core.proofs.Hands.{Handles}
use Rattle.model_core.specs.{filled, lent, next, took, hand}
use Rattle.model_core.specs.States as model
use Rattle.model_core.specs.declared.ops.Answer.{Answer}
use Rattle.model_core.specs.declared.ops.Op.{Op}
use Rattle.model_core.specs.declared.ops.Op.TheVariants as op
use Rattle.redo_archiver.specs.{append_answer, append_code}
use Rattle.redo_disk.specs.{Call, Seen}
use Rattle.redo_disk.specs.declared.error.DevError.{DevError}
use Rattle.redo_disk.specs.declared.error.DevError.TheVariants.{Failed, NoMemory}
use Rattle.redo_drive.proofs.Played.{untouched}
use Rattle.redo_drive.specs.{HasSamePages, IsPlayed, run_data_side, RunOf}
use Rattle.redo_drive.specs.declared.parts.Parts.{Parts}
use Rattle.redo_rule.proofs.Allowed.{same_content}
use Rattle.redo_rule.proofs.Filled.{fills_block, handles_filled, IsNoGive}
use Rattle.redo_rule.proofs.Kept as kept
use Rattle.redo_rule.proofs.Retook.{one_head}
use Rattle.redo_rule.specs.Plays.{appended, no_filling, Stepped, view_behind}
use Rattle.redo_rule.specs.Ruled.{Knows, Ruled, slot_content}
use Rattle.redo_rule.specs.declared.law.About.{About}
use Rattle.redo_rule.specs.declared.law.Errand.{Errand}
use Rattle.redo_rule.specs.declared.law.Numbered.{Numbered}
use Rattle.redo_rule.specs.declared.law.Slot.{Slot}
use Rattle.redo_rule.specs.declared.law.View.{View}

-- whoever appends holds nothing, before and after
pub append_hand : (before : Option ℕ) (behind : Answer → Option ℕ) (x : ℕ) → Handles (op.Append x) before behind
    → (met : Option DevError) → behind (append_answer met) ≡ before
append_hand before behind x h None = h.1 0 ∙ sym h.0
append_hand before behind x h (Some fault) = h.2 (append_code (Some fault)) ∙ sym h.0

module _ {L D : Type 0} (log_seen : L → Seen) (data_seen : D → Seen) (run : RunOf L D) (l : model.Lent) (old : Parts L D)
    (ws : List ℕ) (words : ws ≡ old.words.words) (x : ℕ) where
  abbrev new : Parts L D
  new = record {
    words = record { layout = old.words.layout; words = ws };
    log = old.log;
    store = old.store;
    lists = old.lists;
  }

  append_played : (met : Option DevError) → IsPlayed log_seen data_seen run (op.Append x) l old (append_answer met) new
  append_played None = record {
    code = 0;
    log_served = refl;
    data_served = untouched (run_data_side log_seen data_seen run) old.store old.store l (op.Append x) 0 tt refl;
    own_served = inl refl;
    layout = refl;
    words = words;
    lists = refl;
    answered = refl;
  }
  append_played (Some Failed) = record {
    code = append_code (Some Failed);
    log_served = refl;
    data_served = untouched (run_data_side log_seen data_seen run) old.store old.store l (op.Append x)
        (append_code (Some Failed)) tt refl;
    own_served = inr (inl refl);
    layout = refl;
    words = words;
    lists = refl;
    answered = refl;
  }
  append_played (Some NoMemory) = record {
    code = append_code (Some NoMemory);
    log_served = refl;
    data_served = untouched (run_data_side log_seen data_seen run) old.store old.store l (op.Append x)
        (append_code (Some NoMemory)) tt refl;
    own_served = inr (inr refl);
    layout = refl;
    words = words;
    lists = refl;
    answered = refl;
  }

module _ {L D : Type 0} (log_seen : L → Seen) (log_gives : L → Call → L → Type 0) (data_seen : D → Seen)
    (data_gives : D → Call → D → Type 0) (about : About L D) (slots id : ℕ) (me : Me (Slot L D) (View L D)) (x : Numbered)
    (one : me.0.seats ≡ x ∷ []) (plain_one : ◌≡◌ {A = Option Errand} x.errand None) where
  abbrev a : model.Actor
  a = x.actor

  abbrev plain : model.Actor
  plain = filled a no_filling

  pub allows_appended : (i mark : ℕ) (met : Option DevError) → next a ≡ op.Append mark
      → Allows (Ruled log_seen log_gives data_seen data_gives about) slots id me i (λ n. n)
      (appended log_seen data_seen met me)
  allows_appended i mark met is s R wide at small =
      let free = kept.is_free log_seen log_gives data_seen data_gives about s R id me.0 x one at in
      let fills = fills_block a no_filling free (subst IsNoGive (sym is) tt) in
      let r : Answer = append_answer met in
      let ws : List ℕ = slice_set s.words i (slice_index s.words i) in
      let e : ws ≡ s.words = set-get_or s.words i 0 in
      let new : Parts L D = record {
        words = record { layout = R.parts.words.layout; words = ws };
        log = R.parts.log;
        store = R.parts.store;
        lists = R.parts.lists;
      } in
      let known : Knows about R.parts R.beside R.actors R.heard R.seat_of R.keeper R.out id me.0 =
      kept.known log_seen log_gives data_seen data_gives about s R id me.0 x one at in
      let same : HasSamePages R.parts new = record { words = refl; lists = refl } in
      let done : IsPlayed log_seen data_seen R.run (next a) (lent plain) R.parts r new = subst (λ (p : Op). IsPlayed
      log_seen data_seen R.run p (lent plain) R.parts r new) (sym is)
      (append_played log_seen data_seen R.run (lent plain) R.parts ws (e ∙ sym R.words_are) mark met) in
      let goes : Handles (op.Append mark) (hand a) (λ (z : Answer). hand (took plain z)) = subst (λ (p : Op). Handles p
      (hand a) (λ (z : Answer). hand (took plain z))) is (handles_filled a no_filling free) in
      let stays : hand (took plain r) ≡ hand a = append_hand (hand a) (λ (z : Answer). hand (took plain z)) mark goes
      met in
      let own : (k : ℕ) → hand (took plain r) ≡ Some k → me.0.held ≡ Some (slot_content new R.beside k) = λ k h.
      kept.holds_content log_seen log_gives data_seen data_gives about s R id me.0 x one at k (sym stays ∙ h)
      ∙ ap (λ (z : Slot L D). Some z) (same_content R.parts new R.beside refl refl k) in (
        view_behind me.0 x no_filling r me.0.held me.0.data_part,
        keeps,
        tt,
        kept.kept log_seen log_gives data_seen data_gives about s R id me.0 x one at no_filling fills r new R.beside
            same done plain_one (view_behind me.0 x no_filling r me.0.held me.0.data_part) R.out refl refl refl refl own
            (λ d h. known.data_part d h)
            (λ j c k ne h hold. same_content R.parts new R.beside refl refl k) (λ j u d ne h stored. (R.knows j u
            h).data_part d stored) s.homes R.lists_are R.log_calls R.data_calls refl R.slots
            (λ k l z. R.home k l (sym (ap (λ (y : List ℕ). slice_index y (7 + k)) e) ∙ z) ∙ ap (λ (y : Slot L D).
            maybe.some (maybe.some y)) (same_content R.parts new R.beside refl refl k))
            R.data_home
            (λ k l z. inr (
              (λ q. z (ap (λ (y : List ℕ). slice_index y (7 + k)) e ∙ q)),
              λ q. stays ∙ q,
            )),
        λ y one_y. subst (λ (z : Numbered). Stepped log_seen data_seen z no_filling r me.0.held me.0.data_part me.1 me (
          view_behind me.0 x no_filling r me.0.held me.0.data_part,
          me.1,
        )) (one_head me.0.seats x y one one_y)
            (kept.steps log_seen log_gives data_seen data_gives about s R id me.0 x one at no_filling fills r new
            R.beside same done plain_one me.1 me.0.held me.0.data_part me.1 own (λ d h. (known.data_part d h).1)),
      )
