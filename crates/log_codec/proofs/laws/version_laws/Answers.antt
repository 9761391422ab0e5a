use Rattle.log_codec.proofs.Limits.{limits_nest}
use Rattle.log_codec.proofs.RecordingLaws as whole
use Rattle.log_codec.proofs.laws.version_laws.Goals as goal

pub returns : goal.returns
returns c = record { limits = limits_nest; into = whole.into_the_target }
