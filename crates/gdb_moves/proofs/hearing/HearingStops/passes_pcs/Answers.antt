use Rattle.std.proofs.Common.{◌∙◌, sym}
use Rattle.rtr_types.specs.CoreSets.{has}
use Rattle.gdb_moves.proofs.StopTests.{no_pc}
use Rattle.gdb_moves.proofs.hearing.HearingStops.passes_pcs.Goals as goal

pub returns-then-not-has : goal.returns-then-not-has
returns-then-not-has c none pc =
    no_pc (has c.args.self.now.paused c.args.core) c.args.self.now.points pc
    (λ so. let no_more = sym so ∙ sym c.has.ensures ∙ c.if-not-has.true in absurd cc)

pub returns-else-not-has : goal.returns-else-not-has
returns-else-not-has c none pc =
    no_pc (has c.args.self.now.paused c.args.core) c.args.self.now.points pc (λ so. c.has_no_breaks.ensures none pc)
