use Rattle.std.proofs.Common.{◌∙◌, ap, sym}
use Rattle.model_core.specs.{next_block}
use Rattle.model_log.specs.{read_block}
use Rattle.redo_follow.proofs.Pieces.{end_of_none, end_of_read}
use Rattle.redo_follow.proofs.follower.Follower.data_end.Goals as goal

pub returns-in-Some : goal.returns-in-Some
returns-in-Some g c =
    let s = c.args.self.now.state in
    c.min.ensures
    ∙ end_of_read (next_block s) s.block c.in-Some.view
    (sym (c.read.ensures.value ∙ ap (λ x. read_block x c.self.inside.block) c.next_block.ensures
    ∙ ap (λ z. read_block (next_block s) z.state.block) c.self.view_is) ∙ c.in-Some.is)

pub returns-in-None : goal.returns-in-None
returns-in-None g c =
    let s = c.args.self.now.state in
    end_of_none (next_block s) s.block
    (sym (c.read.ensures.value ∙ ap (λ x. read_block x c.self.inside.block) c.next_block.ensures
    ∙ ap (λ z. read_block (next_block s) z.state.block) c.self.view_is) ∙ c.in-None.is)
