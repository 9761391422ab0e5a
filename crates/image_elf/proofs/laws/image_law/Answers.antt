use Rattle.image_elf.proofs.RoomLemmas.{flat_image_fits}
use Rattle.image_elf.proofs.FlatLemmas.{is_flat_image}
use Rattle.image_elf.proofs.laws.image_law.Goals as goal

pub returns : goal.returns
returns c = λ file words e. (is_flat_image file words e, flat_image_fits file words e)
