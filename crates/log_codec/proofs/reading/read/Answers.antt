use Rattle.std.proofs.Common.{ap, ◌∙◌, arith}
use Rattle.race_log.specs.Validity.{Valid}
use Rattle.log_codec.specs.Reading.{front_at, whole_at}
use Rattle.log_codec.specs.Spelling.{Spells}
use Rattle.log_codec.proofs.RecordingLaws.{read_is_spelled, spelled_is_read}
use Rattle.log_codec.proofs.Wholes.{reads}
use Rattle.log_codec.proofs.reading.read.Goals as goal

pub returns : goal.returns
unfolding whole_at
returns c =
    let bytes = c.args.bytes.now in
    let all = reads Valid (Spells bytes) bytes _ c.read_all.result (λ i. omega (arith, c.type_inv.bytes i))
    (λ x are read. read_is_spelled bytes x are read)
    (λ r valid s. ap whole_at s.2 ∙ spelled_is_read s.0 r valid s.1)
    (c.read_all.ensures front_at bytes c.front.ensures) in
    record { found = all.found; only = all.only; exact = all.exact }
