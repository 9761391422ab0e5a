use Rattle.std.proofs.Common.{◌≡◌, take}
use Rattle.online_reduce.specs.Sizes.{edges_room}
use Rattle.online_reduce.proofs.edge_places.EdgePlaces.to_list.Given as goal

-- the edges so far, in the inline room
abbrev pub invariant-loop-edge : goal.invariant-loop-edge
invariant-loop-edge l = record {
  items : l.list.items ≡ take l.edge-index l.self;
  room : l.list.capacity ≡ edges_room;
}
