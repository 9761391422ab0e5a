-- Room was made for the block of the core's oldest request, if it has one.
use Rattle.std.proofs.Common.{sym}
use Rattle.msi_memory.proofs.Roomy.{no_head, past_ports, none_made, one_made}
use Rattle.msi_memory.proofs.rooms.make_room_for_head.Goals as goal

pub returns-in_default-clause-ok : goal.returns-in_default-clause-ok
returns-in_default-clause-ok g c =
    let none = past_ports c.args.ports.now c.args.core c.in_default.ensures.lookup.3 in
    (none_made c.args.ports.now c.args.core c.args.home.now.rooms c.requires.others none).all

pub returns-in_default-head-clause-ok : goal.returns-in_default-head-clause-ok
returns-in_default-head-clause-ok g c =
    let none = no_head c.args.ports.now c.args.core c.in-Some.port.now c.in-Some.ensures.lookup.3.0
    (sym c.in-Some.ensures.lookup.1) c.in_default-head.ensures.item in
    (none_made c.args.ports.now c.args.core c.args.home.now.rooms c.requires.others none).all

pub returns-clause-rooms : goal.returns-clause-rooms
returns-clause-rooms g c =
    (one_made c.args.ports.now c.args.core c.in-Some.port.now c.in-Some-head.mail.now _ c.args.home.now _ _
    c.requires.others c.in-Some.ensures.lookup.3.0 (sym c.in-Some.ensures.lookup.1) c.in-Some-head.ensures.item.1
    c.block.ensures c.in_ok-free.ensures.ok c.in_ok-free.ensures.room).made

pub returns-clause-others : goal.returns-clause-others
returns-clause-others g c =
    (one_made c.args.ports.now c.args.core c.in-Some.port.now c.in-Some-head.mail.now _ c.args.home.now _ _
    c.requires.others c.in-Some.ensures.lookup.3.0 (sym c.in-Some.ensures.lookup.1) c.in-Some-head.ensures.item.1
    c.block.ensures c.in_ok-free.ensures.ok c.in_ok-free.ensures.room).others

pub returns-clause-ok : goal.returns-clause-ok
returns-clause-ok g c =
    (one_made c.args.ports.now c.args.core c.in-Some.port.now c.in-Some-head.mail.now _ c.args.home.now _ _
    c.requires.others c.in-Some.ensures.lookup.3.0 (sym c.in-Some.ensures.lookup.1) c.in-Some-head.ensures.item.1
    c.block.ensures c.in_ok-free.ensures.ok c.in_ok-free.ensures.room).all
