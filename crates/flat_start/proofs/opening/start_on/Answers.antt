use Rattle.std.proofs.Common.{refl}
use Rattle.flat_start.proofs.StartNodes.{start_stands}
use Rattle.flat_start.proofs.opening.start_on.Goals as goal

pub returns-clause-stands : goal.returns-clause-stands
returns-clause-stands c =
    start_stands (record { program = c.args.program; nodes = c.put_nodes.new.nodes; home = c.clear-2.new.self })
    c.args.program c.args.cores c.args.limit c.requires.cores c.requires.limit c.requires.room refl
    c.in_ok-put_nodes.ensures c.clear-2.ensures.items
