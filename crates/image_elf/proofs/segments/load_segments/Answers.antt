use Rattle.std.proofs.Common.{arith}
use Rattle.std.proofs.lemmas.Result.{err_from_is_err_and}
use Rattle.image_elf.specs.Headers.{header_count}
use Rattle.image_elf.proofs.LawLemmas.{first_here}
use Rattle.image_elf.proofs.segments.load_segments.Goals as goal

pub returns-in_err-load_segment : goal.returns-in_err-load_segment
returns-in_err-load_segment c =
    let p = err_from_is_err_and c.from_residual.result c.from_residual.ensures.1 in
    rw (p.1, p.2) (first_here c.args.file.now c.args.words c.loop-index.index (header_count c.args.file.now)
    c.in_err-load_segment.field-0.0
    (omega arith) c.loop-index.invariant.fine c.in_err-load_segment.ensures)
