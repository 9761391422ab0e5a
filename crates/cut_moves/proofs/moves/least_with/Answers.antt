use Rattle.std.proofs.Common.{ap, arith}
use Rattle.race_log.specs.declared.recording.Recording.{Recording}
use Rattle.cut_moves.proofs.Hulls.{empty_least}
use Rattle.cut_moves.proofs.moves.least_with.Goals as goal

pub returns : goal.returns
returns c =
    let a = c.args.audited.now in
    empty_least a.which a.recording c.recording.result.now.params.cores c.args.core c.args.count
    c.recording.ensures.valid (ap (λ (r : Recording). r.params.cores) c.recording.ensures.recording)
    (let none = c.if-count-gt0.false in omega arith)
