use Rattle.std.proofs.Common.{arith}
use Rattle.gdb_cli.proofs.AnswerLemmas.{whole_read}
use Rattle.gdb_cli.proofs.SessionLemmas.{lacked}
use Rattle.gdb_cli.proofs.recordings.audited_in.Goals as goal

-- the recording was taken, and is refused
pub returns-clause-complete : goal.returns-clause-complete
returns-clause-complete g c =
    let was = whole_read (g.F.Source.left c.args.source.now) (g.F.Source.left c.read_all.new.source) c.in-Ok.bytes.items
    c.in-Ok.ensures.bytes c.in-Ok.ensures.end (omega (arith, c.in-Ok.ensures.within, c.in-Ok.bytes.ok)) in
    λ bytes is accepts read.
    lacked c.audited_by.result c.args.which _ _ bytes c.in-Ok.bytes.items is accepts was c.audited_by.ensures.refused
