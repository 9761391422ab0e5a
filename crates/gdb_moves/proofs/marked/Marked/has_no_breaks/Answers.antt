use Rattle.std.proofs.Common.{◌∙◌, List, ap, sym}
use Rattle.gdb_moves.specs.declared.points.Point.{Point}
use Rattle.gdb_moves.specs.Points.{has_break}
use Rattle.gdb_moves.proofs.StopTests.{no_breaks, not_so}
use Rattle.gdb_moves.proofs.marked.Marked.has_no_breaks.Goals as goal

pub returns : goal.returns
returns c none =
    no_breaks c.args.self.now
    (ap (λ (points : List Point). has_break points) (sym c.self.view_is) ∙ sym c.has_break.ensures ∙ not_so _ none)
