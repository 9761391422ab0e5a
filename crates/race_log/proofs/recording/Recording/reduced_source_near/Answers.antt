use Rattle.std.proofs.Common.{rules}
use Rattle.rtr_types.specs.declared.pairs.Which.TheVariants.{Reduced}
use Rattle.race_log.proofs.SourceLaws.{found_edge, edge_in, edge_paired}
use Rattle.race_log.proofs.recording.Recording.reduced_source_near.Goals as goal

pub returns-then-not-is_pair-clause-only : goal.returns-then-not-is_pair-clause-only
returns-then-not-is_pair-clause-only c a has =
    let yes = c.is_pair.ensures.1 (edge_paired Reduced c.args.self.now c.args.of a c.args.at has) in
    let no = c.if-not-is_pair.true in
    absurd (search rules)

pub returns-clause-found : goal.returns-clause-found
returns-clause-found c = found_edge Reduced c.args.self.now c.args.of c.args.at c.reduced_between.result.now
    c.edge_source_near.result (c.is_pair.ensures.0 (let no = c.if-not-is_pair.false in search rules))
    c.reduced_between.ensures.edges c.edge_source_near.ensures.found

pub returns-clause-only : goal.returns-clause-only
returns-clause-only c a has = c.edge_source_near.ensures.only a
    (edge_in Reduced c.args.self.now c.args.of a c.args.at c.reduced_between.result.now
    c.reduced_between.ensures.edges has)
