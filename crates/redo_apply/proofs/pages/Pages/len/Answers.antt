use Rattle.std.proofs.Common.{◌∙◌, ap, sym, length}
use Rattle.redo_apply.proofs.Frames.{length-contents}
use Rattle.redo_apply.proofs.pages.Pages.len.Goals as goal

pub returns : goal.returns
returns c = c.len.ensures ∙ c.self.inside.lsns.ok.0 ∙ sym (length-contents c.self.inside.size c.self.inside.lsns.items c.self.inside.users.items) ∙ ap length c.self.view_is
