-- What is lent is the batch's: its pages and lsns, and the user bytes of each page.
use Rattle.std.proofs.Common.{subst, ◌-◌, ◌∙◌, ◌≡◌}
use Rattle.std.specs.Prelude.{map}
use Rattle.std.specs.List.{flat_map}
use Rattle.model_base.specs.{frame_length}
use Rattle.model_core.specs.{BatchPage, CleanerState}
use Rattle.model_page.specs.{user_part}
use Rattle.redo_pageactors.proofs.BatchPages.{pairs_batch_pages, users_batch_pages}
use Rattle.redo_pageactors.proofs.cleaner.Cleaner.lent.Goals as goal

pub returns : goal.returns
returns c =
    let n = c.self.inside.page_size - frame_length in
    let pairs = c.self.inside.batch.items in let users = c.self.inside.users.items in let rims = c.self.inside.rims.items in
    subst (λ (v : CleanerState). (c.as_slice.result.now ≡ map (λ (b : BatchPage). (b.page, b.lsn)) v.batch) × (c.as_slice-2.result.now ≡ flat_map (λ (b : BatchPage). user_part b.bytes) v.batch)) c.self.view_is
    (c.as_slice.ensures.value ∙ pairs_batch_pages n pairs users rims, c.as_slice-2.ensures.value ∙ users_batch_pages n pairs users rims c.self.invariant.users c.self.invariant.rims)
