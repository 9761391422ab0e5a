use Rattle.std.proofs.Common.{List, subst}
use Rattle.std.proofs.lemmas.List.{take_all}
use Rattle.rtr_types.specs.declared.instr.Edge.{Edge}
use Rattle.race_queries.specs.Ends.{HasPlaces}
use Rattle.race_queries.proofs.EndLemmas.{no_places, places_more}
use Rattle.race_queries.proofs.ends.put_places.Goals as goal

pub loop-edge-init : goal.loop-edge-init
loop-edge-init c = no_places _

pub loop-edge-preserved : goal.loop-edge-preserved
loop-edge-preserved c =
    places_more _ _ c.args.edges.now c.loop-edge.edge-index _ c.loop-edge-test.true c.loop-edge.invariant
    (λ at placed. c.in_ok-put_place-2.ensures.others at (c.in_ok-put_place.ensures.others at placed))
    (c.in_ok-put_place-2.ensures.others _ c.in_ok-put_place.ensures.place) c.in_ok-put_place-2.ensures.place

pub returns : goal.returns
returns c =
    subst (λ (edges : List Edge). HasPlaces c.loop-edge.kept edges)
    (take_all c.loop-edge.edge-index c.args.edges.now c.loop-edge-test.false) c.loop-edge.invariant
