use Rattle.certificate_codec.proofs.PartNames as parts
use Rattle.certificate_codec.proofs.laws.bad_part_law.Goals as goal

pub returns : goal.returns
returns c = parts.bad_part_is_named
