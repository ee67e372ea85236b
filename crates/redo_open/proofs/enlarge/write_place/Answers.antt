-- The text of the page, in its place.
use Rattle.std.proofs.Common.{◌+◌, arith}
use Rattle.model_device.specs.{IsWithin}
use Rattle.model_page.specs.{data_device_length}
use Rattle.model_parts.proofs.Writes.{sizes-from, stretch-ends}
use Rattle.redo_disk.specs.{write_at}
use Rattle.redo_open.proofs.Puts.{put_one}
use Rattle.redo_open.proofs.enlarge.write_place.Goals as goal

pub returns-clause-calls : goal.returns-clause-calls
returns-clause-calls g c =
    let shape = c.args.shape.now in
    let ends = stretch-ends shape (shape.slots + c.args.page) (data_device_length shape)
    (sizes-from shape (data_device_length shape) c.requires.limits (omega arith)) (omega (arith, c.requires.page)) in
    let inside : IsWithin (data_device_length shape) (write_at c.place_at.result c.place_text-text.result) =
    omega (arith, c.place_at.ensures, c.place_text-text.ensures.long, ends) in
    put_one inside c.write.ensures.gives
