use Rattle.log_codec.proofs.RecordingLaws as whole
use Rattle.log_codec.proofs.laws.spelling_laws.Goals as goal

pub returns : goal.returns
returns c = record {
  read = whole.read_is_spelled;
  spelled = whole.spelled_is_read;
  front_read = whole.front_is_spelled;
  front_spelled = whole.front_again;
  again = whole.read_and_spelled;
}
