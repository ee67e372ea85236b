use Rattle.std.proofs.Common.{[], ◌+◌, ◌++◌, ◌≡◌, ◌∙◌, List, ap, arith, drop, subst, sym, take, ℕ}
use Rattle.model_core.specs.{next_piece, pending, ReaderState}
use Rattle.model_core.specs.Lanes.{lsn}
use Rattle.redo_follow.specs.Handing.{Followed, HandsOn}
use Rattle.redo_follow.specs.Following.{Following}
use Rattle.redo_follow.proofs.WholeGroups.{followed_so}
use Rattle.redo_follow.proofs.follower.Follower.follows.Goals.{then-taken-eq0, else-taken-eq0}
use Rattle.redo_follow.proofs.follower.Follower.follows.Goals as goal

pub returns : goal.returns
unfolding lsn
returns g c =
    let f = c.self.inside in
    let r : ReaderState = record {
      number = f.number;
      own = f.own;
      place = f.place;
      mark = f.mark;
      block = f.block;
      at = f.at;
      kept = f.kept.items;
      texts = [];
      lost = 0;
      code = f.code;
      checks = f.checks;
      step = f.step;
    } in
    let stands = g.R.Receiver.stands_for in
    let bytes : List ℕ = c.push_part.new.bytes.items in
    let rest : List ℕ = c.drop_bytes.new.bytes.items in
    let taken : ℕ = c.hand_on-taken.result in
    let next = c.hand_on-taken.new.receiver in
    let piece = c.piece-place.result in
    let takes : take piece.1 (drop piece.0 r.block) ≡ next_piece r =
    subst (λ z. take piece.1 (drop piece.0 z.state.block) ≡ next_piece z.state) (sym c.self.view_is)
    c.piece-place.ensures.bytes in
    let pend : bytes ≡ pending r = c.push_part.ensures.items ∙ ap (λ (more : List ℕ). r.kept ++ more) takes in
    let hands = subst (λ (b : List ℕ). HandsOn stands f.at b f.receiver next taken) c.deref.ensures.value
    c.hand_on-taken.ensures in
    let after : Following g.row.R.Denot = record {
      state = record r {
        place = c.lsn_of-self-inside.result;
        at = f.at + taken;
        kept = rest;
        texts = [];
        step = c.if-taken-eq0.self;
      };
      receiver = next;
    } in
    subst (λ (z : Following g.row.R.Denot). Followed stands z after) c.self.view_is
    (followed_so stands r f.receiver next bytes rest taken c.lsn_of-self-inside.result c.if-taken-eq0.self
    pend hands c.lsn_of-self-inside.ensures c.drop_bytes.ensures.items
    (λ e. elim c.if-taken-eq0.branch [
      | then-taken-eq0 w ↦ w.self-is
      | else-taken-eq0 w ↦ absurd (omega (arith, e, w.if-taken-eq0))
    ])
    (λ e. elim c.if-taken-eq0.branch [
      | then-taken-eq0 w ↦ absurd (omega (arith, e, w.if-taken-eq0))
      | else-taken-eq0 w ↦ w.self-is
    ]))
