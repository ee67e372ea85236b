-- Where the running store asks for a call of the log part, the call's own conditions hold.
use Rattle.std.proofs.Common.{List, [], None, ap, arith, drop, false, get_or, inl, inr, length, length-drop, length-take, min, refl, subst, suc, sym, take, ⊎_elim, IsTrue, ℕ, ◌%◌, ◌*◌, ◌+◌, ◌-◌, ◌/◌, ◌<◌, ◌∙◌, ◌∷◌, ◌≡◌, ◌≤◌, ◌⊎◌, ◌^◌}
use Rattle.model_core.proofs.Lsns.{lsn_less, lsn_offset}
use Rattle.model_core.specs.{ceiling, Entry, first_of, floor, IsBound, lsn, Tiles}
use Rattle.model_running.proofs.FirstsFit.{first_fits, first_place}
use Rattle.model_running.proofs.Given.{sn_of_block}
use Rattle.model_running.proofs.Places.{sn_back}
use Rattle.model_log.specs.{block_of, is_first, length_of, sn_of}
use Rattle.model_log.specs.declared.layout.TheConstants.{BLOCK_DATA}
use Rattle.model_logcore.specs.{CanCheckpoint, CanWrite}
use Rattle.model_parts.specs.{MayBeNext}
use Rattle.redo_block.specs.{AreFirsts}
use Rattle.redo_disk.specs.{Seen}
use Rattle.redo_logdev.specs.{MayWrite}
use Rattle.redo_logdev.specs.Part.{Part}
use Rattle.redo_drive.proofs.Outcome.{not_failed}
use Rattle.redo_drive.specs.LogPartSide.{HoldsLog, log_side}

-- the first offsets of the blocks from q on fit the bytes from there on
firsts_fit : (base : ℕ) (log : List Entry) (end n : ℕ) → base % BLOCK_DATA ≡ 0 → Tiles base log end → IsBound base log n → (q : ℕ) (firsts bytes : List ℕ) → (0 < length bytes → BLOCK_DATA * q + length bytes ≡ n) → length bytes ≤ BLOCK_DATA * length firsts → BLOCK_DATA * length firsts < length bytes + BLOCK_DATA
    → ((i : ℕ) → i < length firsts → get_or firsts i 0 ≡ first_of base log (q + i)) → AreFirsts bytes firsts
firsts_fit base log end n even tiles bound q [] [] long enough few are = refl
firsts_fit base log end n even tiles bound q [] (x ∷ xs) long enough few are = absurd (omega arith)
firsts_fit base log end n even tiles bound q (first ∷ firsts) bytes long enough few are =
    let some : 0 < length bytes = omega arith in
    let whole : BLOCK_DATA * q + length bytes ≡ n = long some in
    let is : first ≡ first_of base log q = are 0 (omega arith) ∙ ap (first_of base log) (let z : q + 0 ≡ q = omega arith in z) in
    let place : (first_of base log q ≡ 0) ⊎ ((12 ≤ first_of base log q) × (first_of base log q < 508) × (first_of base log q ≤ length bytes + 12)) =
    near n q (first_of base log q) (length bytes) whole (first_place base log end n q even tiles bound (omega arith)) in
    let here : IsTrue (is_first (length_of (length (take BLOCK_DATA bytes))) first) =
    subst (λ (k : ℕ). IsTrue (is_first (length_of k) first)) (sym (length-take BLOCK_DATA bytes)) (subst (λ (f : ℕ). IsTrue (is_first (length_of (min BLOCK_DATA (length bytes))) f)) (sym is) (first_fits (first_of base log q) (length bytes) some place)) in
    let left : length (drop BLOCK_DATA bytes) ≡ length bytes - BLOCK_DATA = length-drop BLOCK_DATA bytes in (
      (λ none. let z : length bytes ≡ 0 = ap length none in absurd (omega arith)),
      here,
      firsts_fit base log end n even tiles bound (q + 1) firsts (drop BLOCK_DATA bytes) (λ more. omega arith) (omega arith) (omega arith)
          (λ i l. are (suc i) (omega arith) ∙ ap (first_of base log) (let z : q + suc i ≡ q + 1 + i = omega arith in z)),
    )
  where
    near : (n q f k : ℕ) → BLOCK_DATA * q + k ≡ n → (f ≡ 0) ⊎ ((12 ≤ f) × (f < 508) × (BLOCK_DATA * q + f ≤ n + 12))
        → (f ≡ 0) ⊎ ((12 ≤ f) × (f < 508) × (f ≤ k + 12))
    near n q f k whole h = ⊎_elim (λ z. inl z) (λ z. let a = z.2 in inr (z.0, z.1, omega arith)) h

module _ {L : Type 0} (seen : L → Seen) (faults number : ℕ) (Begun : Type 0) where
  -- write_to
  pub may_write : (blocks base : ℕ) (log : List Entry) (w n : ℕ) (bytes firsts : List ℕ) (p : Part L) → HoldsLog seen faults number Begun blocks base log p → CanWrite (log_side seen faults number Begun) blocks base log w n bytes firsts p → MayWrite p (lsn n) bytes firsts
  may_write blocks base log w n bytes firsts p H C =
      let at : p.marks.written ≡ lsn w = C.at in
      let o = lsn_offset n in
      let long = C.lent.long in
      let block : block_of p.marks.written ≡ block_of (lsn w) = ap block_of at in
      let low : sn_of (block_of p.marks.written) ≡ w / BLOCK_DATA * BLOCK_DATA = ap sn_of block ∙ sn_of_block w in
      let high = sn_back n in
      let on = C.on in
      let fits = C.fits in
      let near = C.near in
      let small = C.small in
      let blocks_are = H.blocks_are in
      record {
        live = not_failed p.failed C.sound;
        place = (omega arith, omega arith);
        later = (let l = lsn_less w n on in omega arith);
        near = (let b : block_of (lsn w) ≡ floor (lsn w) = omega arith in omega arith);
        room = (let c : lsn n ≤ ceiling (lsn n) = omega arith in omega arith);
        small = omega arith;
        count = omega arith;
        fit = firsts_fit base log C.end n C.even C.tiles C.high (w / BLOCK_DATA) firsts bytes (λ some. omega arith) C.lent.enough C.lent.few C.lent.firsts_are;
      }

  -- sync
  pub may_sync : (p : Part L) → (log_side seen faults number Begun).failed p ≡ false → p.failed ≡ None
  may_sync p sound = not_failed p.failed sound

  -- checkpoint
  pub may_checkpoint : (blocks base : ℕ) (log : List Entry) (x : ℕ) (p : Part L) → HoldsLog seen faults number Begun blocks base log p → CanCheckpoint (log_side seen faults number Begun) blocks base log x p → p.marks.stable < 2 ^ 60 → MayBeNext p.marks x
  may_checkpoint blocks base log x p H C limit = record {
    aligned = C.even;
    small = (let a = C.below in omega arith);
    from = (let a = H.all_asked (not_failed p.failed C.sound) in let b = C.more in omega arith);
    up_to = C.below;
  }
