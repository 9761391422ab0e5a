use Rattle.std.proofs.Common.{sym, ◌∙◌}
use Rattle.rv_core.proofs.Jumps.{at_whole_word}
use Rattle.rv_core.proofs.core_state.Core.need_at_pc.Goals as goal

pub need_of-requires : goal.need_of-requires
need_of-requires c =
    at_whole_word c.args.image.now c.args.self.now.pc c.in-Some.op (sym c.requires ∙ c.in-Some.is)
