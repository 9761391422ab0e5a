use Rattle.std.specs.Prelude.{slice_index}
use Rattle.certificate_codec.specs.Ends.{reduced_edges}
use Rattle.certificate_codec.proofs.EndNumbers.{number_is}
use Rattle.certificate_codec.proofs.edge_ends.EdgeEnds.number_near.Goals as goal

pub returns-in-Some : goal.returns-in-Some
returns-in-Some c =
    let r = c.args.self.now in
    number_is (reduced_edges r) c.args.at.core c.args.at.count (slice_index r.totals c.args.at.core) c.in-Some.number
    c.of_core.result.now
    c.of_core.ensures c.requires.count c.in-Some.ensures
