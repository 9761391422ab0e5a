use Rattle.std.proofs.Common.{sym}
use Rattle.rv_core.proofs.Programs.{none_between}
use Rattle.rv_core.proofs.program.Program.op.Goals as goal

pub returns-then-pc-ne0 : goal.returns-then-pc-ne0
returns-then-pc-ne0 c = sym (none_between c.args.self.now c.args.pc c.if-pc-ne0.true)
