use Rattle.std.proofs.Common.{sym, ◌∙◌}
use Rattle.std.specs.Prelude.{slice_index}
use Rattle.log_codec.specs.Incoming.{edges_out_of, left}
use Rattle.log_codec.proofs.NextEdges.{first-is, next-at}
use Rattle.log_codec.proofs.merging.first_left.Goals as goal

pub returns-clause-first : goal.returns-clause-first
returns-clause-first c =
    let source = c.in_ok-source.source in
    let next = next-at (edges_out_of c.args.cores c.args.reduced.now c.args.target source)
    (slice_index c.args.next.now source) ∙ sym c.edge_at.ensures in
    first-is c.args.cores (left c.args.cores c.args.reduced.now c.args.target c.args.next.now) c.args.fronts.now source
    c.in_ok-counts.counts c.requires.few c.requires.fronts
    c.in_ok-source.ensures.least (next ∙ c.in_ok-counts.was)
