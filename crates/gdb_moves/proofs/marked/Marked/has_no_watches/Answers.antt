use Rattle.std.proofs.Common.{◌∙◌, List, ap, sym}
use Rattle.gdb_moves.specs.declared.points.Point.{Point}
use Rattle.gdb_moves.specs.Points.{has_watch}
use Rattle.gdb_moves.proofs.StopTests.{no_watches, not_so}
use Rattle.gdb_moves.proofs.marked.Marked.has_no_watches.Goals as goal

pub returns : goal.returns
returns c none =
    no_watches c.args.self.now
    (ap (λ (points : List Point). has_watch points) (sym c.self.view_is) ∙ sym c.has_watch.ensures ∙ not_so _ none)
