use Rattle.std.proofs.Common.{◌≡◌, ◌<◌, ◌∙◌, ap, sym, subst, length, Bool}
use Rattle.std.specs.Prelude.{slice_set}
use Rattle.std.proofs.lemmas.List.{get_or-set_same}
use Rattle.rv_core.specs.declared.core_state.Core.{Core}
use Rattle.rv_core.specs.States.{starting}
use Rattle.msi_cache.specs.Lines.{waits}
use Rattle.msi_machine.specs.declared.standing.Standing.{Standing}
use Rattle.msi_machine.specs.Standings.{standing_with}
use Rattle.msi_memory.specs.Memories.{port_at}
use Rattle.msi_state.specs.States.{Machinery, core_at}
use Rattle.msi_machine.proofs.TouchedLines.{retired_waits}
use Rattle.msi_machine.proofs.parts.Parts.retire_access.Goals as goal

pub returns-clause-renewed : goal.returns-clause-renewed
returns-clause-renewed g c =
    let here : c.args.c < length c.self.inside.cores.items =
    subst (λ (m : Machinery g.row.R.Denot g.row.K.Denot). c.args.c < length m.state.cores) (sym c.self.view_is)
    c.requires.there.core in
    let port : c.args.c < length c.self.inside.memory.memory.ports =
    subst (λ (m : Machinery g.row.R.Denot g.row.K.Denot). c.args.c < length m.state.memory.ports) (sym c.self.view_is)
    c.requires.there.port in
    let core : c.finish_op-after.new.self ≡ core_at (slice_set c.self.inside.cores.items c.args.c
    c.finish_op-after.new.self) c.args.c =
    sym (get_or-set_same c.self.inside.cores.items c.args.c c.finish_op-after.new.self (starting 0 0) here) in
    let before : c.args.standing.now.waits ≡ waits (port_at g.K.Carry.carrying c.self.inside.memory.memory.ports
    c.args.c).cache =
    ap (λ (x : Standing). x.waits) c.requires.stands
    ∙ ap (λ (m : Machinery g.row.R.Denot g.row.K.Denot). waits (port_at g.K.Carry.carrying m.state.memory.ports
    c.args.c).cache) (sym c.self.view_is) in
    let waiting : c.args.standing.now.waits ≡ waits (port_at g.K.Carry.carrying c.touch.new.self.memory.ports
    c.args.c).cache =
    before ∙ sym (retired_waits g.R.Rider.riding g.K.Carry.carrying c.self.inside.memory.memory c.retire.new.self.memory
    c.touch.new.self.memory c.args.c _ _ _ _ _ _ port c.retire.ensures.memory c.touch.ensures.memory) in
    c.look_ahead.ensures
    ∙ ap (λ (x : Core). standing_with c.self.inside.program x c.args.standing.now.waits) core
    ∙ ap (λ (w : Bool). standing_with c.self.inside.program
    (core_at (slice_set c.self.inside.cores.items c.args.c c.finish_op-after.new.self) c.args.c) w)
    waiting
