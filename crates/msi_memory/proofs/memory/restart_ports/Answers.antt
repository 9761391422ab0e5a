-- Port after port begins anew.
use Rattle.std.proofs.Common.{◌≡◌, ◌∙◌, List, ap, length, refl}
use Rattle.std.specs.Prelude.{slice_set}
use Rattle.msi_cache.proofs.Cleared.{cleared_all, cleared_next}
use Rattle.msi_memory.specs.declared.port.Port.{Port}
use Rattle.msi_memory.specs.Memories.{port_start}
use Rattle.msi_memory.proofs.memory.restart_ports.Goals as goal

pub loop-place-init : goal.loop-place-init
loop-place-init g c = refl

pub loop-place-preserved : goal.loop-place-preserved
loop-place-preserved g c =
    let first : Port g.row.R.Denot g.row.K.Denot = port_start g.R.Rider.riding g.K.Carry.carrying in
    ap (slice_set c.loop-place.ports c.loop-place.place) c.in_ok-restart.ensures
    ∙ ap (λ (ports : List (Port g.row.R.Denot g.row.K.Denot)). slice_set ports c.loop-place.place first)
    c.loop-place.invariant
    ∙ cleared_next first c.args.ports.now c.loop-place.place c.loop-place-test.true

pub returns : goal.returns
returns g c =
    cleared_all (port_start g.R.Rider.riding g.K.Carry.carrying) c.loop-place.ports c.args.ports.now c.loop-place.place
    (length c.args.ports.now) c.loop-place.invariant c.loop-place.auto.place-end c.loop-place-test.false refl
