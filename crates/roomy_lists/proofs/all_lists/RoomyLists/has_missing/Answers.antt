use Rattle.std.proofs.Common.{◌∙◌, ◌<◌, ap, arith, length}
use Rattle.roomy_lists.specs.Lists.{are_ready}
use Rattle.roomy_lists.proofs.Rooms.{found_ready, others_tell}
use Rattle.roomy_lists.proofs.all_lists.RoomyLists.has_missing.Goals as goal

pub returns-then-self-len : goal.returns-then-self-len
returns-then-self-len g c =
    let lists = c.self.inside.lists.items in
    let full = c.self.inside.full in
    let inside : full < length lists = omega (arith, c.if-self-len.true, c.len.ensures) in
    others_tell lists full c.has_room.result inside
    (c.has_room.ensures ∙ found_ready lists full c.index.result.now inside c.index.ensures) c.self.invariant.3
    ∙ ap are_ready c.self.view_is
