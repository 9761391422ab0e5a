use Rattle.std.proofs.Common.{ap, ◌∙◌, arith}
use Rattle.log_codec.proofs.Wholes.{reads}
use Rattle.vector_reduce.specs.Reading.{parts_at, thinned_at}
use Rattle.vector_reduce.specs.Spelling.{Spells}
use Rattle.vector_reduce.specs.Validity.{IsThin}
use Rattle.vector_reduce.proofs.ThinFileLaws.{read_is_spelled, spelled_is_read}
use Rattle.vector_reduce.proofs.reading.read_thin.Goals as goal

pub returns : goal.returns
unfolding thinned_at
returns c =
    let exact = c.read_all.ensures parts_at c.args.bytes.now c.parts.ensures in
    let all = reads IsThin (Spells c.args.bytes.now) c.args.bytes.now _ c.read_all.result
    (λ i. omega (arith, c.type_inv.bytes i)) (λ x are read. read_is_spelled c.args.bytes.now x are read)
    (λ t valid spells. ap thinned_at spells ∙ spelled_is_read t valid) exact in
    record { found = all.found; only = all.only; exact = exact }
