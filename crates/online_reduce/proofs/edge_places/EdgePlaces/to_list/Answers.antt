use Rattle.std.proofs.Common.{◌≡◌, ◌≤◌, ◌∙◌, ap, arith, length}
use Rattle.std.proofs.lemmas.List.{length-take-le}
use Rattle.online_reduce.proofs.edge_places.EdgePlaces.to_list.Goals as goal

pub push_reserved-requires : goal.push_reserved-requires
push_reserved-requires c =
    let all = ap length c.self.view_is in
    let most = length-take-le c.self.inside.len c.self.inside.places
    (omega (arith, c.self.invariant.0, c.self.invariant.1)) in
    let within : c.loop-edge.edge-index ≤ length c.args.self.now = omega (arith, all, c.loop-edge.auto.edge-index-end)
    in
    let some : length c.loop-edge.list.items ≡ c.loop-edge.edge-index =
    ap length c.loop-edge.invariant.items ∙ length-take-le c.loop-edge.edge-index c.args.self.now within in
    (omega arith, omega (arith, all, most, some, c.loop-edge-test.true, c.self.invariant.0, c.loop-edge.invariant.room))
