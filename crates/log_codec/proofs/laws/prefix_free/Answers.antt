use Rattle.log_codec.proofs.RecordingLaws as whole
use Rattle.log_codec.proofs.laws.prefix_free.Goals as goal

pub returns : goal.returns
returns c = whole.prefix_free
