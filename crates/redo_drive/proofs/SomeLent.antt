-- Whatever an actor lends, there is a value that is lent so.
use Rattle.std.proofs.Common.{refl}
use Rattle.std.specs.List.{flat_map}
use Rattle.std.specs.Prelude.{map}
use Rattle.model_core.specs.States as model
use Rattle.model_core.specs.{BatchPage}
use Rattle.model_page.specs.{user_part}
use Rattle.redo_words.specs.{Lends}
use Rattle.redo_words.specs.declared.lent.Lent.{Lent}
use Rattle.redo_words.specs.declared.lent.Lent.TheVariants as lending

pub some_lent : (given : model.Lent) → (l : Lent) × Lends l given
some_lent model.Nothing = (lending.Nothing, tt)
some_lent (model.Blocks bytes firsts) =
    (lending.Blocks (record { ref_ptr = (0, 0); now = bytes }) (record { ref_ptr = (0, 0); now = firsts }), (refl, refl))
some_lent (model.Room bytes) = (lending.Nothing, tt)
some_lent (model.Batch batch) = (
  lending.Batch
      (record { ref_ptr = (0, 0); now = map (λ (b : BatchPage). (b.page, b.lsn)) batch })
      (record { ref_ptr = (0, 0); now = flat_map (λ (b : BatchPage). user_part b.bytes) batch }),
  (refl, refl),
)
