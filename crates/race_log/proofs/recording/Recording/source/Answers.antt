use Rattle.std.proofs.Common.{◌≡◌, ◌∙◌, sym, ap, rules}
use Rattle.std.specs.List.{flat_map}
use Rattle.rtr_types.specs.declared.pairs.Which.{Which}
use Rattle.rtr_types.specs.Pairs.{pair_place}
use Rattle.stride_vector.specs.Vectors.{edges_of}
use Rattle.race_log.specs.Sources.{edges_of_pair}
use Rattle.race_log.proofs.SourceLaws.{found_edge, edge_in, edge_paired}
use Rattle.race_log.proofs.recording.Recording.source.Goals as goal
use Rattle.race_log.proofs.recording.Recording.source.Goals.{After-edge_source, After-vector_source}

pub returns-then-not-is_pair-clause-only : goal.returns-then-not-is_pair-clause-only
returns-then-not-is_pair-clause-only c a has =
    let yes = c.is_pair.ensures.1 (edge_paired c.args.which c.args.self.now c.args.of a c.args.at has) in
    let no = c.if-not-is_pair.true in
    absurd (search rules)

reduced-is : (c : After-edge_source) → c.reduced_between.result.now
    ≡ edges_of_pair c.args.which c.args.self.now (pair_place c.args.self.now.params.cores c.args.of c.args.at.core)
reduced-is c = c.reduced_between.ensures.edges
    ∙ sym (ap (λ (w : Which). edges_of_pair w c.args.self.now
    (pair_place c.args.self.now.params.cores c.args.of c.args.at.core)) c.in-Reduced.is)

regulated-is : (c : After-vector_source) → flat_map edges_of c.regulated_between.result.now
    ≡ edges_of_pair c.args.which c.args.self.now (pair_place c.args.self.now.params.cores c.args.of c.args.at.core)
regulated-is c = c.regulated_between.ensures.edges
    ∙ sym (ap (λ (w : Which). edges_of_pair w c.args.self.now
    (pair_place c.args.self.now.params.cores c.args.of c.args.at.core)) c.in-Regulated.is)

pub returns-in-Reduced-clause-found : goal.returns-in-Reduced-clause-found
returns-in-Reduced-clause-found c = found_edge c.args.which c.args.self.now c.args.of c.args.at
    c.reduced_between.result.now c.edge_source.result (c.is_pair.ensures.0 (let no = c.if-not-is_pair.false in
    search rules)) (reduced-is c) c.edge_source.ensures.found

pub returns-in-Reduced-clause-only : goal.returns-in-Reduced-clause-only
returns-in-Reduced-clause-only c a has = c.edge_source.ensures.only a
    (edge_in c.args.which c.args.self.now c.args.of a c.args.at c.reduced_between.result.now (reduced-is c) has)

pub returns-in-Regulated-clause-found : goal.returns-in-Regulated-clause-found
returns-in-Regulated-clause-found c = found_edge c.args.which c.args.self.now c.args.of c.args.at
    (flat_map edges_of c.regulated_between.result.now) c.vector_source.result (c.is_pair.ensures.0
    (let no = c.if-not-is_pair.false in search rules)) (regulated-is c) c.vector_source.ensures.found

pub returns-in-Regulated-clause-only : goal.returns-in-Regulated-clause-only
returns-in-Regulated-clause-only c a has = c.vector_source.ensures.only a
    (edge_in c.args.which c.args.self.now c.args.of a c.args.at (flat_map edges_of c.regulated_between.result.now)
    (regulated-is c) has)
