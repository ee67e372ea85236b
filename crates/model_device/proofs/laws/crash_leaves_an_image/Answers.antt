use Rattle.model_device.proofs.CrashParts.{IsImage-crash_image}
use Rattle.model_device.proofs.laws.crash_leaves_an_image.Goals as goal

pub returns : goal.returns
returns c = IsImage-crash_image
