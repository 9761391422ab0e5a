-- The message is taken from its link first. What it grants is done at once; without a grant nothing else changes.
use Rattle.std.proofs.Common.{◌≡◌, ◌∙◌, ap, rules, sym}
use Rattle.msi_cache.specs.Lines.{waits}
use Rattle.msi_memory.specs.Acts.{data_next}
use Rattle.msi_memory.specs.Memories.{Memory, port_at}
use Rattle.tso_state.specs.States.{State}
use Rattle.tso_core.specs.Machineries.{Machinery}
use Rattle.tso_core.specs.Workings.{asked_by}
use Rattle.tso_core.proofs.CoreMoves.{message_granted, message_quiet, taken}
use Rattle.tso_core.proofs.parts.Parts.receive.Goals as goal
use Rattle.tso_core.proofs.parts.Parts.receive.Goals.{then-take_message, else-take_message}

pub returns-clause-made : goal.returns-clause-made
returns-clause-made g c =
    let s : State g.row.R.Denot g.row.K.Denot = c.args.self.now.state in
    let first : State g.row.R.Denot g.row.K.Denot =
    record {
      image = c.self.inside.program;
      cores = c.self.inside.cores.items;
      memory =
          c.take_message.new.self.memory;
    } in
    let took : first ≡ taken g.R.Rider.riding g.K.Carry.carrying s c.args.c =
    ap (λ (m : Memory g.row.R.Denot g.row.K.Denot). record {
      image = c.self.inside.program;
      cores =
          c.self.inside.cores.items;
      memory = m;
    })
    c.take_message.ensures.memory
    ∙ ap (λ (m : Machinery g.row.R.Denot g.row.K.Denot). taken g.R.Rider.riding g.K.Carry.carrying m.state c.args.c)
    c.self.view_is in
    let came : c.take_message.result ≡ data_next (port_at g.K.Carry.carrying s.memory.ports c.args.c).messages.items =
    c.take_message.ensures.data
    ∙ ap (λ (m : Machinery g.row.R.Denot g.row.K.Denot). data_next (port_at g.K.Carry.carrying m.state.memory.ports
    c.args.c).messages.items)
    c.self.view_is in
    let still = c.take_message.ensures.waits
    ∙ ap (λ (x : State g.row.R.Denot g.row.K.Denot). waits (port_at g.K.Carry.carrying x.memory.ports c.args.c).cache)
    took in
    record {
      state = elim c.if-take_message.branch [
        | then-take_message w ↦
            message_granted g.R.Rider.riding g.K.Carry.carrying s first w.grant.new.self.state
            c.keep_asker.new.self.state
            c.args.c
            c.take_message.new.waiting c.requires.there.core c.requires.there.port (sym w.if-take_message.true
            ∙ came) still took w.grant.ensures.done.state
            (c.keep_asker.ensures.state
            ∙ ap (λ (m : Machinery g.row.R.Denot g.row.K.Denot). asked_by m.state c.args.c c.take_message.new.waiting)
            w.self-is)
        | else-take_message w ↦
            message_quiet g.R.Rider.riding g.K.Carry.carrying s first c.keep_asker.new.self.state c.args.c
            c.take_message.new.waiting c.requires.there.port
            (sym w.if-take_message.false ∙ came) still took
            (c.keep_asker.ensures.state
            ∙ ap (λ (m : Machinery g.row.R.Denot g.row.K.Denot). asked_by m.state c.args.c c.take_message.new.waiting)
            w.self-is)
      ];
      rooms = search rules;
      told = search rules;
    }
