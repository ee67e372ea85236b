use Rattle.model_device.proofs.Images.{settled_images}
use Rattle.model_device.proofs.laws.settled_has_one_image.Goals as goal

pub returns : goal.returns
returns c = settled_images
