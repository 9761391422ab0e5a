use Rattle.log_codec.proofs.RecordingLaws.{is_log}
use Rattle.race_log.proofs.Parts.{vectors_listed}
use Rattle.log_codec.proofs.writing.spell_in.Goals as goal

pub put_reduced-requires : goal.put_reduced-requires
put_reduced-requires c = rw c.as_slice-3.ensures (is_log c.args.value.now c.requires)

pub put_regulated-requires : goal.put_regulated-requires
put_regulated-requires c = rw c.as_slice-4.ensures (vectors_listed c.args.value.now c.requires)
