-- What a reader and the checkpointer have of the readers' places after their own steps.
use Rattle.std.proofs.Common.{Bool, List, [], ap, arith, cond, drop, eqb, eqb-true, false, length, length-append, refl, subst, sym, take, true, ℕ, ⊎_elim, ◌++◌, ◌+◌, ◌-◌, ◌<◌, ◌∙◌, ◌∷◌, ◌≡◌, ◌≢◌, ◌≤◌, append_assoc}
use Rattle.std.proofs.lemmas.Bool.{cases_lt, eqb-false}
use Rattle.std.proofs.lemmas.Bool.Decides.{nat_tests}
use Rattle.std.proofs.lemmas.List.{drop-drop, drop_at, get_or-set_same, take_at, take-append-drop, length-take}
use Rattle.std.specs.Prelude.{min, nat_le, slice_index, slice_set}
use Rattle.model_base.specs.declared.limits.TheConstants.{BLOCK_SIZE}
use Rattle.model_core.proofs.Groups.{tiles_le}
use Rattle.model_core.proofs.Lsns.{floor_grows, lsn_le, lsn_less}
use Rattle.model_core.specs.{archived, archives, AreInFront, block_end, CheckpointerState, Entry, floor, followed, Given, has_all, IsBound, is_none, IsText, joined_texts, lsn, next_piece, pending, placed_at, read_to, reader_took, ReaderState, SharedWords, stream, Tiles, to_append, Setup}
use Rattle.model_core.specs.declared.ops.Answer.TheVariants as answer
use Rattle.model_core.specs.declared.steps.CheckpointerStep.TheVariants as checkpointer_step
use Rattle.model_core.specs.declared.steps.ReaderStep.TheVariants as reader_step
use Rattle.model_log.specs.{sn_of}
use Rattle.model_running.proofs.Following.{all_given, AreTexts, bound_after, bound_from, cut_at, given_both, parsed, pieces, reads_less, stream_from, texts_back, tiles_both, upto_front}
use Rattle.model_running.proofs.Places.{sn_back}
use Rattle.model_running.proofs.ReadKeeps.{reader_goes}
use Rattle.model_running.specs.ReadHalf.{ArchiverAt, ArchiverHas, CandidateAt, CandidateFits, FollowerAt, FollowerHas, groups_upto, HasByKind, HasMore, HasPiece, IsUnderPlaces, ReaderHas}

module _ (c : Setup) (m : SharedWords) (log : List Entry) (sn : ℕ) (tiles : Tiles c.base log sn) (all : AreTexts log) (seat : ℕ) (r : ReaderState) (R : ReaderHas c m log seat r) where
  -- IT LOADS FLUSHED
  more_flushed : (to : ℕ) → m.flushed ≡ lsn to → IsBound c.base log to → archives r ≡ false → has_all r m.flushed ≡ false → FollowerHas c m log r
      → HasMore c m log (record r { mark = m.flushed; step = reader_step.TakeDevice })
  more_flushed to is bound kind none F =
      let other : eqb m.flushed r.place ≡ false = sym (ap (λ b. cond b (nat_le (floor m.flushed) r.place) (eqb m.flushed r.place)) kind) ∙ none in
      let ne = eqb-false m.flushed r.place other in
      let apart : r.at ≢ to = λ e. ne (is ∙ ap lsn (sym e) ∙ sym F.place) in
      let top : F.to ≤ to = ⊎_elim (λ less. absurd (let z = lsn_less to F.to less in let f = F.read.flushed in omega arith)) (λ fine. fine) (cases_lt to F.to) in
      let below = F.below in
      record {
        to = to;
        mark = is;
        flushed = record { bound = bound; flushed = omega arith };
        more = reads_less log c.base sn r.at to r.kept tiles all F.bound bound F.kept F.no_more (omega arith) apart;
      }

  archive_more : archives r ≡ true → has_all r m.flushed ≡ false → ArchiverHas c m log r → r.place + BLOCK_SIZE ≤ floor m.flushed
  archive_more kind none A =
      let other : nat_le (floor m.flushed) r.place ≡ false = sym (ap (λ b. cond b (nat_le (floor m.flushed) r.place) (eqb m.flushed r.place)) kind) ∙ none in
      let more : r.place < floor m.flushed = grind (arith, nat_tests) in
      omega (arith, A.aligned, more)

  pub reads_flushed : (to : ℕ) → m.flushed ≡ lsn to → IsBound c.base log to → ReaderHas c m log seat (reader_took r (answer.Old m.flushed) reader_step.LoadFlushed)
  reads_flushed to is bound = by (has_all r m.flushed) refl
    where
      by : (b : Bool) → has_all r m.flushed ≡ b → ReaderHas c m log seat (cond b (record r { mark = m.flushed; checks = true; step = reader_step.LoadFlushed }) (record r { mark = m.flushed; step = reader_step.TakeDevice }))
      by true e = reader_goes c m log r m.flushed r.block r.texts r.code true reader_step.LoadFlushed seat R (λ _ _. tt) (λ _ _. tt)
      by false e = reader_goes c m log r m.flushed r.block r.texts r.code r.checks reader_step.TakeDevice seat R (λ kind A. (omega arith, archive_more kind e A))
          (λ kind F. let h = more_flushed to is bound kind e F in record { to = h.to; mark = h.mark; flushed = h.flushed; more = h.more })

  -- IT HAS THE BLOCK
  -- The groups that end at or below its new place are those at or below the old one, and then those that it hands on.
  abbrev pub HandsOn : Type 0
  HandsOn = ◌≡◌ {A = List Given} (groups_upto (r.at + length (joined_texts r.texts)) log) (groups_upto r.at log ++ placed_at r.at r.texts)

  pub follows : FollowerHas c m log r → HasMore c m log r → HasPiece c m log r → AreInFront (pending r) r.texts → FollowerHas c m log (followed r) × HandsOn
  follows F h piece front =
      let S : List ℕ = stream log in
      let d : ℕ = r.at - c.base in
      let n : ℕ = length r.kept in
      let k : ℕ = block_end r - read_to r in
      let j : ℕ = length (joined_texts r.texts) in
      let low = bound_from log c.base sn r.at tiles F.bound in
      let cut = cut_at log c.base sn r.at tiles F.bound in
      let from : drop d S ≡ stream cut.back = stream_from c.base r.at sn log cut in
      let here : read_to r - c.base ≡ d + n = omega arith in
      let piece_is : next_piece r ≡ take k (drop n (drop d S)) = piece ∙ ap (λ (i : ℕ). take k (drop i S)) here ∙ ap (take k) (sym (drop-drop n d S)) in
      let both : pending r ≡ take (n + k) (stream cut.back) =
      ap (λ (l : List ℕ). l ++ next_piece r) F.kept ∙ ap (λ (l : List ℕ). take n (drop d S) ++ l) piece_is ∙ pieces n k (drop d S) ∙ ap (take (n + k)) from in
      let whole : joined_texts r.texts ++ (front.rest ++ drop (n + k) (stream cut.back)) ≡ stream cut.back =
      sym (append_assoc (joined_texts r.texts) front.rest (drop (n + k) (stream cut.back))) ∙ ap (λ (l : List ℕ). l ++ drop (n + k) (stream cut.back)) (sym front.are ∙ both) ∙ take-append-drop (n + k) (stream cut.back) in
      let P = parsed r.texts cut.back r.at sn (front.rest ++ drop (n + k) (stream cut.back)) cut.tiles_back (texts_back cut.front cut.back (subst AreTexts cut.are all)) front.each whole in
      let at' : ℕ = r.at + j in
      let log_is : ◌≡◌ {A = List Entry} log ((cut.front ++ P.mid) ++ P.rest) =
      cut.are ∙ ap (λ (l : List Entry). cut.front ++ l) P.are ∙ sym (append_assoc cut.front P.mid P.rest) in
      let tiled : Tiles c.base (cut.front ++ P.mid) at' = tiles_both cut.front P.mid c.base r.at at' cut.tiles_front P.tiles_mid in
      let kept_is : drop j (pending r) ≡ front.rest = ap (drop j) front.are ∙ drop_at (joined_texts r.texts) front.rest j refl in
      let bound' : IsBound c.base log at' = subst (λ (l : List Entry). IsBound c.base l at') (sym log_is) (bound_after (cut.front ++ P.mid) P.rest c.base at' tiled) in
      let rest_from : drop (at' - c.base) S ≡ front.rest ++ drop (n + k) (stream cut.back) =
      stream_from c.base at' sn log (record { front = cut.front ++ P.mid; back = P.rest; are = log_is; tiles_front = tiled; tiles_back = P.tiles_rest; bounds = λ y b low. (cut_bounds (cut.front ++ P.mid) P.rest at' y tiled (subst (λ (l : List Entry). IsBound c.base l y) log_is b) low) }) ∙ sym P.left_is in
      let long : j + length front.rest ≡ length (pending r) = sym (length-append (joined_texts r.texts) front.rest) ∙ ap length (sym front.are) in
      let short : length (pending r) ≤ n + k = let z = length-take (n + k) (stream cut.back) in omega (arith, ap length both) in
      let end : sn_of r.mark ≡ h.to = ap sn_of h.mark ∙ sn_back h.to in
      let more = h.more in (
        record {
          place = refl;
          bound = bound';
          kept = kept_is ∙ sym (take_at front.rest (drop (n + k) (stream cut.back)) (length front.rest) refl)
              ∙ ap (take (length front.rest)) (sym rest_from)
              ∙ ap (λ (i : ℕ). take i (drop (at' - c.base) S)) (ap length (sym kept_is));
          no_more = λ i within few is. front.no_more i (let z = ap length kept_is in omega arith) few
              (subst (λ (l : List ℕ). IsText (take i l)) kept_is is);
          to = h.to;
          read = h.flushed;
          below = (let z = ap length kept_is in omega arith);
          stored = F.stored;
          own = F.own;
          own_bound = F.own_bound;
          step = goes_on (is_none r.texts);
        },
        sym (ap (λ (l : List Entry). groups_upto r.at l ++ placed_at r.at r.texts) cut.are
            ∙ ap (λ (l : List Given). l ++ placed_at r.at r.texts) (upto_front cut.front cut.back c.base r.at sn cut.tiles_front cut.tiles_back)
            ∙ ap (λ (l : List Given). all_given cut.front ++ l) P.placed
            ∙ sym (given_both cut.front P.mid)
            ∙ sym (upto_front (cut.front ++ P.mid) P.rest c.base at' sn tiled P.tiles_rest)
            ∙ ap (groups_upto at') (sym log_is)),
      )
    where
      goes_on : (b : Bool) → FollowerAt c m log (followed r) (cond b reader_step.LoadFlushed reader_step.StorePlace)
      goes_on true = tt
      goes_on false = tt

      cut_bounds : (front back : List Entry) (x y : ℕ) → Tiles c.base front x → IsBound c.base (front ++ back) y → x ≤ y → IsBound x back y
      cut_bounds front back x y t b low = bounds_on front back c.base x y t b low
        where
          bounds_on : (front back : List Entry) (s x y : ℕ) → Tiles s front x → IsBound s (front ++ back) y → x ≤ y → IsBound x back y
          bounds_on [] back s x y t b low = subst (λ (i : ℕ). IsBound i back y) t b
          bounds_on (e ∷ es) back s x y t b low = ⊎_elim (λ first. absurd (let z = tiles_le es (s + length e.bytes) x t.3 in let some = t.1 in omega arith))
              (λ more. bounds_on es back (s + length e.bytes) x y t.3 more low) b

  pub reads_block : r.step ≡ reader_step.GiveDevice → (archives r ≡ false → AreInFront (pending r) r.texts) → ReaderHas c m log seat (cond (archives r) (to_append r) (followed r))
  reads_block is front = by (archives r) refl R.has
    where
      by : (b : Bool) → archives r ≡ b → HasByKind c m log b r → ReaderHas c m log seat (cond b (to_append r) (followed r))
      by true kind A =
          let at : ArchiverAt c m log r reader_step.GiveDevice = subst (ArchiverAt c m log r) is A.step in
          record {
            alone = R.alone;
            first = R.first;
            last = R.last;
            word = R.word;
            up = R.up;
            has = subst (λ (k : Bool). HasByKind c m log k (to_append r)) (sym kind) (record { aligned = A.aligned; below = A.below; own_aligned = A.own_aligned; step = at });
          }
      by false kind F =
          let at : FollowerAt c m log r reader_step.GiveDevice = subst (FollowerAt c m log r) is F.step in
          let up = R.up in let place = F.place in
          let later = lsn_le r.at (r.at + length (joined_texts r.texts)) (omega arith) in
          record {
            alone = R.alone;
            first = R.first;
            last = R.last;
            word = R.word;
            up = omega arith;
            has = subst (λ (k : Bool). HasByKind c m log k (followed r)) (sym kind) (follows F at.0 at.1 (front kind)).0;
          }

-- THE ARCHIVER APPENDS its block, or fails to
pub appends : (c : Setup) (m : SharedWords) (log : List Entry) (seat : ℕ) (r : ReaderState) → ReaderHas c m log seat r → archives r ≡ true
    → r.step ≡ reader_step.Append → (code : ℕ) (b : Bool) → ReaderHas c m log seat (archived r (cond b (answer.Called 0) (answer.Failed code)))
appends c m log seat r R kind is code = by
  where
    A : ArchiverHas c m log r
    A = subst (λ (k : Bool). HasByKind c m log k r) kind R.has

    at : ArchiverAt c m log r reader_step.Append
    at = subst (ArchiverAt c m log r) is A.step

    by : (b : Bool) → ReaderHas c m log seat (archived r (cond b (answer.Called 0) (answer.Failed code)))
    by true = let a0 = at.0 in let a1 = at.1 in let up = R.up in let grows = floor_grows r.mark m.flushed a0 in record {
      alone = R.alone;
      first = R.first;
      last = R.last;
      word = R.word;
      up = omega arith;
      has = subst (λ (k : Bool). HasByKind c m log k (archived r (answer.Called 0))) (sym kind) (record { aligned = omega (arith, A.aligned); below = omega arith; own_aligned = A.own_aligned; step = tt });
    }
    by false = record {
      alone = R.alone;
      first = R.first;
      last = R.last;
      word = R.word;
      up = R.up;
      has = subst (λ (k : Bool). HasByKind c m log k (archived r (answer.Failed code))) (sym kind) (record { aligned = A.aligned; below = A.below; own_aligned = A.own_aligned; step = tt });
    }

-- IT STORES ITS PLACE
pub stores_place : (c : Setup) (m : SharedWords) (log : List Entry) (seat : ℕ) (r : ReaderState) → ReaderHas c m log seat r → r.number < length m.places
    → ReaderHas c (record m { places = slice_set m.places r.number r.place }) log seat (record r { own = r.place; step = reader_step.LoadFlushed })
stores_place c m log seat r R long = record {
  alone = R.alone;
  first = R.first;
  last = R.last;
  word = sym (get_or-set_same m.places r.number r.place 0 long);
  up = omega arith;
  has = by (archives r) R.has;
}
  where
    by : (b : Bool) → HasByKind c m log b r → HasByKind c (record m { places = slice_set m.places r.number r.place }) log b (record r { own = r.place; step = reader_step.LoadFlushed })
    by true A = record { aligned = A.aligned; below = A.below; own_aligned = A.aligned; step = tt }
    by false F = record {
      place = F.place;
      bound = F.bound;
      kept = F.kept;
      no_more = F.no_more;
      to = F.to;
      read = record { bound = F.read.bound; flushed = F.read.flushed };
      below = F.below;
      stored = r.at;
      own = F.place;
      own_bound = F.bound;
      step = tt;
    }

-- THE CHECKPOINTER
module _ (c : Setup) (m : SharedWords) (log : List Entry) (order : c.first_reader ≤ c.last_reader) (t : CheckpointerState) (T : CandidateFits c m log t) where
  pub begins : (n : ℕ) → CandidateFits c m log (record t { ctail = n; to = n; list = 0; reader = t.first; step = cond (eqb t.first t.last) checkpointer_step.ReadList checkpointer_step.LoadPlace })
  begins n = by (eqb t.first t.last) refl
    where
      by : (b : Bool) → eqb t.first t.last ≡ b → CandidateFits c m log (record t { ctail = n; to = n; list = 0; reader = t.first; step = cond b checkpointer_step.ReadList checkpointer_step.LoadPlace })
      by true e = let same = eqb-true t.first t.last e in let f = T.first in let l = T.last in record { first = f; last = l; step = λ i low high. absurd (omega arith) }
      by false e = let ne = eqb-false t.first t.last e in let f = T.first in let l = T.last in record { first = f; last = l; step = (omega arith, omega arith, λ i low high. absurd (omega arith)) }

  pub loads_place : t.step ≡ checkpointer_step.LoadPlace
      → CandidateFits c m log (record t { to = min t.to (slice_index m.places t.reader); reader = t.reader + 1; step = cond (eqb (t.reader + 1) t.last) checkpointer_step.ReadList checkpointer_step.LoadPlace })
  loads_place is = by (eqb (t.reader + 1) t.last) refl (subst (CandidateAt c m log t) is T.step)
    where
      under : IsUnderPlaces c m log t.to t.reader → IsUnderPlaces c m log (min t.to (slice_index m.places t.reader)) (t.reader + 1)
      under h i low high = ⊎_elim (λ less. let z = h i low less in omega arith) (λ not. let same : t.reader ≡ i = omega arith in subst (λ (k : ℕ). min t.to (slice_index m.places t.reader) ≤ slice_index m.places k) same (omega arith)) (cases_lt i t.reader)

      by : (b : Bool) → eqb (t.reader + 1) t.last ≡ b → CandidateAt c m log t checkpointer_step.LoadPlace
          → CandidateFits c m log (record t { to = min t.to (slice_index m.places t.reader); reader = t.reader + 1; step = cond b checkpointer_step.ReadList checkpointer_step.LoadPlace })
      by true e h = let same = eqb-true (t.reader + 1) t.last e in let l = T.last in record { first = T.first; last = T.last; step = λ i low high. under h.2 i low (omega arith) }
      by false e h = let ne = eqb-false (t.reader + 1) t.last e in let l = T.last in let a = h.0 in let b = h.1 in record { first = T.first; last = T.last; step = (omega arith, omega arith, under h.2) }

  -- its candidate falls, or is as it was
  pub lower : (x y n : ℕ) → y ≤ x → IsUnderPlaces c m log x n → IsUnderPlaces c m log y n
  lower x y n low is i from below = let z = is i from below in omega arith
