use Rattle.std.proofs.Common.{◌≡◌, ◌∙◌, sym, subst, ℕ, ◌<◌, ◌≤◌, true, length}
use Rattle.rtr_types.specs.declared.TheConstants.{CORES_MAX}
use Rattle.msi_laws.proofs.Ready.{memory_ready}
use Rattle.msi_memory.specs.Memories.{Memory}
use Rattle.msi_memory.specs.Rests.{are_heads_roomy}
use Rattle.msi_memory.proofs.Roomy.{each_roomy}
use Rattle.move_marks.specs.Ports.{PortsNoted}
use Rattle.move_marks.proofs.Lateness.{all_noted, all_past, head_can, late_found}
use Rattle.move_marks.proofs.late.make_room.Goals as goal

pub make_room-requires-clause-heads : goal.make_room-requires-clause-heads
make_room-requires-clause-heads g c =
    (memory_ready g.R.Rider.riding g.K.Carry.carrying c.args.memory.now.memory c.requires.holds).heads

pub returns-in_ok-can-clause-noted : goal.returns-in_ok-can-clause-noted
returns-in_ok-can-clause-noted g c =
    let m : Memory g.row.R.Denot g.row.K.Denot = c.args.memory.now.memory in
    let here : c.args.late.now < length m.ports = subst (λ (n : ℕ). c.args.late.now < n) c.requires.noted.long
    c.if-late-cores.true in
    let roomy : are_heads_roomy m.ports c.make_room.new.self.rooms ≡ true =
    subst (λ (n : Memory g.row.R.Denot g.row.K.Denot). are_heads_roomy n.ports c.make_room.new.self.rooms ≡ true)
    c.in_ok-can.ensures.memory c.in_ok-can.ensures.ok in
    subst (λ (n : Memory g.row.R.Denot g.row.K.Denot). PortsNoted g.R.Rider.riding g.K.Carry.carrying n
    c.make_room.new.self.rooms c.args.cores c.set.new.self CORES_MAX)
    (sym c.in_ok-can.ensures.memory)
    (all_noted g.R.Rider.riding g.K.Carry.carrying m c.make_room.new.self.rooms c.args.cores c.set.new.self CORES_MAX
    (late_found g.R.Rider.riding g.K.Carry.carrying m c.args.marks.now c.set.new.self c.args.late.now
    c.requires.noted.marked
    (c.set.ensures.this ∙ c.in_ok-can.ensures.free
    ∙ head_can g.R.Rider.riding g.K.Carry.carrying m c.args.late.now here) c.set.ensures.others)
    c.requires.noted.long (λ k other. each_roomy m.ports c.make_room.new.self.rooms roomy k))

pub returns-else-late-cores-clause-ok : goal.returns-else-late-cores-clause-ok
returns-else-late-cores-clause-ok g c =
    all_past c.args.memory.now.memory.ports c.args.late.now c.args.memory.now.rooms c.requires.noted.roomy
    (subst (λ (n : ℕ). n ≤ c.args.late.now) c.requires.noted.long c.if-late-cores.false)
