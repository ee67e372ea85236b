-- Where a group ends: a group of which a byte has room in the log buffer has room as far as its end's block is told.
use Rattle.std.proofs.Common.{List, ap, arith, length, subst, ℕ, ◌+◌, ◌/◌, ◌<◌, ◌≡◌, ◌≤◌}
use native.Mathlib.Decide.{dec_le}
use Rattle.model_core.proofs.Groups.{tiles_at}
use Rattle.model_core.proofs.Lanes.{word_grows}
use Rattle.model_core.proofs.Lsns.{block_below, lsn_block, lsn_offset}
use Rattle.model_core.specs.{Entry, floor, group_bytes, group_end, lsn, SharedWords, UserState, LogSide, Setup}
use Rattle.model_core.specs.declared.limits.TheConstants.{LOG_BUFFER}
use Rattle.model_log.specs.declared.layout.TheConstants.{BLOCK_DATA}
use Rattle.model_logcore.specs.LogFacts.{FirstOffsets, LogFacts, LogGhost}
use Rattle.model_logcore.specs.LogFits.{EndIsNear, Hand, HasStoredFirst}

-- a group's end is near if one of its bytes is, and FIRST of the block that it ends in is stored, if it starts in another
pub end_near : (base : ℕ) (slots : List ℕ) (write w : ℕ) (log : List Entry) (first state : ℕ → ℕ) (entered start x end : ℕ) → write ≡ lsn w → FirstOffsets base slots write log first state entered
    → start ≤ x → lsn x < floor write + LOG_BUFFER → (start / BLOCK_DATA < end / BLOCK_DATA → 0 < first (end / BLOCK_DATA)) → lsn end < floor write + LOG_BUFFER
end_near base slots write w log first state entered start x end is F le near stored =
    let b = block_below x w (subst (λ (k : ℕ). lsn x < floor k + LOG_BUFFER) is near) in
    let f : floor write ≡ floor (lsn w) = ap floor is in
    let o = lsn_offset end in let q = lsn_block end in
    elim (dec_le (end / BLOCK_DATA) (start / BLOCK_DATA)) [
      | yes d ↦ omega arith
      | no n ↦ (let k = F.near (end / BLOCK_DATA) (stored (omega arith)) in omega arith)
    ]

-- the group in hand of a user, once a byte of it is copied
pub hand_end_near : (D : LogSide) (c : Setup) (m : SharedWords) (g : LogGhost) (p : D.Part) (seat : ℕ) (u : UserState) → LogFacts D c m g p → Hand D c m g p seat u → u.copied ≡ length (group_bytes u) → HasStoredFirst D c m g p u → 0 < u.copied → EndIsNear D c m g p u
hand_end_near D c m g p seat u G h all stored some =
    let w = tiles_at g.log c.base m.sn h.at _ G.tiled.tiles h.is in
    let w0 = w.0 in let w1 = w.1 in
    let one = h.done u.start (omega arith) (omega arith) in
    let unlinked : g.tail ≤ u.start = elim (dec_le g.tail u.start) [
      | yes d ↦ d
      | no n ↦ (let two = G.written_links.linked u.start (omega arith) (omega arith) in absurd (omega arith))
    ] in
    let O = G.order in let read = O.read_target in let target = O.target_wtail in let tail = O.wtail_tail in
    end_near c.base m.firsts m.write g.write g.log g.first g.state g.entered u.start u.start (group_end u) O.write_is G.first_offsets (omega arith) (G.ring_cells.stands u.start (word_grows g.read u.start (omega arith)) (omega arith) (omega arith)).1 stored
