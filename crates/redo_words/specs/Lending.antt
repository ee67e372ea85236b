-- What an actor lends, as the definition of a turn sees it.
use Rattle.std.specs.Prelude.{map, ◌≡◌}
use Rattle.std.specs.List.{flat_map}
use Rattle.model_core.specs.States as model
use Rattle.model_core.specs.{BatchPage}
use Rattle.model_page.specs.{user_part}
use Rattle.redo_words.specs.declared.lent.Lent.{Lent}
use Rattle.redo_words.specs.declared.lent.Lent.TheVariants as lent

-- The bytes and first offsets themselves; of a batch the pages with their lsns, and the user bytes of each. A reader
-- lends its room for a block by a call of its own, since it is written.
abbrev pub Lends : Lent → model.Lent → Type 0
Lends lent.Nothing model.Nothing = Unit {0}
Lends lent.Nothing (model.Room kept) = Unit {0}
Lends (lent.Blocks bytes firsts) (model.Blocks kept offsets) = (bytes.now ≡ kept) × (firsts.now ≡ offsets)
Lends (lent.Batch pages frames) (model.Batch batch) =
    (pages.now ≡ map (λ (b : BatchPage). (b.page, b.lsn)) batch) × (frames.now ≡ flat_map (λ (b : BatchPage). user_part b.bytes) batch)
Lends _ _ = ⊥
