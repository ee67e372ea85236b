use Rattle.std.proofs.Common.{◌-◌, ◌≡◌, ◌∙◌, ap, arith, min}
use Rattle.model_core.specs.{block_end, read_to}
use Rattle.model_log.specs.{sn_of}
use Rattle.redo_follow.proofs.Pieces.{next_low, piece_is}
use Rattle.redo_follow.proofs.follower.Follower.piece.Goals as goal

pub data_end-requires : goal.data_end-requires
data_end-requires g c =
    let s = c.args.self.now.state in
    let from = c.read_to-from.ensures in
    let mark : c.self.inside.mark ≡ s.mark = ap (λ z. z.state.mark) c.self.view_is in
    let marked : c.sn_of.result ≡ sn_of s.mark = c.sn_of.ensures ∙ ap sn_of mark in
    let is : c.read_to-from.result ≡ read_to s = from.value in
    next_low s c.min-end.result from.some (omega arith) (omega arith) (omega arith)

pub returns-clause-bytes : goal.returns-clause-bytes
returns-clause-bytes g c =
    let s = c.args.self.now.state in
    let from = c.read_to-from.ensures in
    let mark : c.self.inside.mark ≡ s.mark = ap (λ z. z.state.mark) c.self.view_is in
    let at : c.self.inside.at ≡ s.at = ap (λ z. z.state.at) c.self.view_is in
    let marked : c.sn_of.result ≡ sn_of s.mark = c.sn_of.ensures ∙ ap sn_of mark in
    let is : c.read_to-from.result ≡ read_to s = from.value in
    let end : c.min-end.result ≡ block_end s = omega arith in
    piece_is s c.read_to-from.result c.min-end.result c.data_end.result c.min-2.result is end c.data_end.ensures
    (c.min-2.ensures ∙ ap (λ h. min h (c.min-end.result - c.read_to-from.result)) c.saturating_sub-held.ensures)
