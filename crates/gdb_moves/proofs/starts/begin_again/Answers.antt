use Rattle.std.proofs.Common.{ap, ◌∙◌}
use Rattle.rtr_types.specs.declared.cut.Cut.{Cut}
use Rattle.cut_replay.specs.ClosedCuts.{count_in}
use Rattle.gdb_moves.proofs.starts.begin_again.Goals as goal

pub returns-clause-ok : goal.returns-clause-ok
returns-clause-ok c core =
    ap (λ (cut : Cut). count_in cut core) c.in_ok-seek.ensures.ok ∙ c.limit-to.ensures.limit core
