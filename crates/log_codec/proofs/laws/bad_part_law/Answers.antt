use Rattle.log_codec.proofs.BadPartLaws as parts
use Rattle.log_codec.proofs.laws.bad_part_law.Goals as goal

pub returns : goal.returns
returns c = parts.bad_part
