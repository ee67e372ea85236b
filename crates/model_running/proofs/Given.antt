-- What the writer hands to the device is of the log's groups: their bytes from the written mark's block on, and the first
-- offset of each block.
use Rattle.std.proofs.Common.{Bool, List, ap, arith, cond, drop, get_or, length, lt-ltb, ltb, subst, sym, take, true, ℕ, ◌%◌, ◌*◌, ◌+◌, ◌-◌, ◌/◌, ◌<◌, ◌∙◌, ◌≡◌, ◌≤◌}
use Rattle.std.proofs.lemmas.Grind.{same_number_lists}
use Rattle.std.proofs.lemmas.List.{get_or-drop, get_or-take, length-drop, length-take-le}
use Rattle.model_core.proofs.Groups.{stream_long}
use Rattle.model_core.proofs.Lsns.{lsn_block}
use Rattle.model_core.specs.{IsBound, IsLent, lent, lsn, stream, Tiles}
use Rattle.model_running.proofs.FirstOffsets.{first_same}
use Rattle.model_running.proofs.Groups.{places, streams}
use Rattle.model_running.proofs.Places.{bound_spans, sn_back}
use Rattle.model_running.specs.Histories.{AreWholesOf, log_spans}
use Rattle.model_log.proofs.BoundaryLengths.{stream_between-is}
use Rattle.model_log.specs.{block_of, first_at, groups_of, IsBoundary, IsGivenTo, sn_of, Span, spans_of, stream_of}
use Rattle.model_log.specs.declared.group.Whole.{Whole}
use Rattle.model_log.specs.declared.layout.TheConstants.{BLOCK_DATA}
use Rattle.model_core.specs.States as core

pub sn_of_block : (w : ℕ) → sn_of (block_of (lsn w)) ≡ w / BLOCK_DATA * BLOCK_DATA
unfolding lsn
sn_of_block w =
    let l : ℕ = w / BLOCK_DATA * 512 + w % BLOCK_DATA + 12 in
    let b : ℕ = l / 512 * 512 in
    let o : b % 512 ≡ 0 = omega arith in
    let q : b / 512 ≡ w / BLOCK_DATA = omega arith in
    let first : ltb (b % 512) 12 ≡ true = lt-ltb (b % 512) 12 (omega arith) in
    ap (λ (z : Bool). b / 512 * BLOCK_DATA + cond z 0 (cond (ltb 508 (b % 512)) BLOCK_DATA (b % 512 - 12))) first ∙ (omega arith)

part_of : (bytes all : List ℕ) (a : ℕ) → a + length bytes ≤ length all → ((j : ℕ) → j < length bytes → get_or bytes j 0 ≡ get_or all (a + j) 0) → bytes ≡ take (length bytes) (drop a all)
part_of bytes all a long each =
    let d = length-drop a all in
    let n : length (take (length bytes) (drop a all)) ≡ length bytes = length-take-le (length bytes) (drop a all) (omega arith) in
    same_number_lists bytes (take (length bytes) (drop a all)) (sym n) (λ j l. each j l ∙ sym (get_or-take (length bytes) (drop a all) j 0 l ∙ get_or-drop a all j 0))

pub given_to : (base : ℕ) (log : List core.Entry) (w n end : ℕ) (bytes firsts : List ℕ) (wholes : List Whole) → base % BLOCK_DATA ≡ 0 → Tiles base log end → base ≤ w → n ≤ end → w < n → IsBound base log n → IsLent base log w n bytes firsts
    → AreWholesOf log wholes → IsGivenTo (lsn base) wholes (block_of (lsn w)) (lsn n) bytes firsts
given_to base log w n end bytes firsts wholes even tiles from below on bound lent are =
    let spans : spans_of wholes ≡ log_spans log = places log wholes are in
    let text : stream_of (groups_of wholes) ≡ stream log = streams log wholes are in
    let a : ℕ = w / BLOCK_DATA * BLOCK_DATA - base in
    let long = lent.long in
    let low = sn_of_block w in
    let high = sn_back n in
    let start = sn_back base in
    let total = stream_long log base end tiles in
    let k : sn_of (lsn n) - sn_of (block_of (lsn w)) ≡ length bytes = omega arith in
    let d : sn_of (block_of (lsn w)) - sn_of (lsn base) ≡ a = omega arith in
    let again : block_of (block_of (lsn w)) ≡ block_of (lsn w) = omega arith in
    let enough = lent.enough in let few = lent.few in
    record {
      boundary = subst (λ (z : List Span). IsBoundary (lsn base) z (lsn n)) (sym spans) (bound_spans log base end n tiles bound);
      bytes_are = part_of bytes (stream log) a (omega arith) (λ j l. lent.bytes_are j l ∙ ap (λ (i : ℕ). get_or (stream log) i 0) (omega arith))
          ∙ sym (stream_between-is (lsn base) (stream_of (groups_of wholes)) (block_of (lsn w)) (lsn n)
          ∙ ap (λ (i : ℕ). take i (drop (sn_of (block_of (lsn w)) - sn_of (lsn base)) (stream_of (groups_of wholes)))) k
          ∙ ap (λ (i : ℕ). take (length bytes) (drop i (stream_of (groups_of wholes)))) d
          ∙ ap (λ (z : List ℕ). take (length bytes) (drop a z)) text);
      count = (let e : sn_of (block_of (block_of (lsn w))) ≡ w / BLOCK_DATA * BLOCK_DATA = ap sn_of again ∙ low in omega arith);
      firsts_are = λ i l. lent.firsts_are i l
          ∙ sym (ap (λ (z : List Span). first_at (lsn base) z (block_of (lsn w) + 512 * i)) spans ∙ first_same base (w / BLOCK_DATA + i) (block_of (lsn w) + 512 * i) log (let z = lsn_block w in omega arith));
    }
