use Rattle.std.proofs.Common.{◌∙◌, ap, sym}
use Rattle.std.specs.List.{flat_map}
use Rattle.rtr_types.specs.declared.pairs.Which.{Which}
use Rattle.rtr_types.specs.Pairs.{pair_place}
use Rattle.stride_vector.specs.Vectors.{edges_of}
use Rattle.race_log.specs.Sources.{edges_of_pair}
use Rattle.replay_core.proofs.NextEdges.{next_into}
use Rattle.replay_core.proofs.next_edge.next_edge.Goals as goal

pub returns-in-Reduced : goal.returns-in-Reduced
returns-in-Reduced c =
    let place = pair_place c.args.log.recording.now.params.cores c.args.of c.args.at.core in
    next_into c.args.log.which c.args.log.recording.now c.args.of c.args.at c.reduced_between.result.now
    c.first_edge.result c.requires.pair
    (c.reduced_between.ensures.edges
    ∙ sym (ap (λ (w : Which). edges_of_pair w c.args.log.recording.now place) c.in-Reduced.is))
    c.first_edge.ensures

pub returns-in-Regulated : goal.returns-in-Regulated
returns-in-Regulated c =
    let place = pair_place c.args.log.recording.now.params.cores c.args.of c.args.at.core in
    next_into c.args.log.which c.args.log.recording.now c.args.of c.args.at
    (flat_map edges_of c.regulated_between.result.now) c.first_position.result c.requires.pair
    (c.regulated_between.ensures.edges
    ∙ sym (ap (λ (w : Which). edges_of_pair w c.args.log.recording.now place) c.in-Regulated.is))
    c.first_position.ensures
