use Rattle.std.proofs.Common.{◌≡◌, ◌∙◌, sym, subst, ap, ℕ}
use Rattle.rtr_types.specs.declared.access.Access.{Access}
use Rattle.rtr_types.specs.declared.access.Kind.TheVariants.{Store as Storing}
use Rattle.msi_memory.specs.declared.port.Port.{Port}
use Rattle.msi_memory.specs.Memories.{port_at, word_at}
use Rattle.tso_state.specs.declared.pending.Pending.TheVariants.{Store as PendingStore}
use Rattle.tso_state.specs.Events.{Drains, Event}
use Rattle.tso_state.specs.Pending.{left_by}
use Rattle.tso_state.specs.States.{BufferedCore, State, core_at}
use Rattle.tso_core.specs.Machineries.{Machinery}
use Rattle.tso_core.specs.Workings.{Does}
use Rattle.tso_core.proofs.Heads.{store_drains, written}
use Rattle.tso_core.proofs.parts.Parts.order_store.Goals as goal

pub returns : goal.returns
returns g c =
    let s : State g.row.R.Denot g.row.K.Denot = c.args.self.now.state in
    let t : BufferedCore = core_at s.cores c.args.c in
    let p : Port g.row.R.Denot g.row.K.Denot = port_at g.K.Carry.carrying s.memory.ports c.args.c in
    let before : c.word-before.result ≡ word_at g.R.Rider.riding p c.args.word =
    c.word-before.ensures
    ∙ ap (λ (m : Machinery g.row.R.Denot g.row.K.Denot). word_at g.R.Rider.riding
    (port_at g.K.Carry.carrying m.state.memory.ports c.args.c) c.args.word)
    c.self.view_is in
    let after : c.left_by.result ≡ left_by (PendingStore c.args.count c.args.word c.args.mask c.args.bits)
    (word_at g.R.Rider.riding p c.args.word) =
    c.left_by.ensures ∙ ap (λ (old : ℕ). left_by (PendingStore c.args.count c.args.word c.args.mask c.args.bits) old)
    before in
    let is = store_drains t.queue g.R.Rider.riding t.core.id p c.args.count c.args.word c.args.mask c.args.bits
    c.requires.oldest c.requires.allowed in
    let made : Access = record {
      at = c.instr-at.result;
      word = c.args.word;
      kind = Storing;
      before =
          c.word-before.result;
      after = c.left_by.result;
    } in
    let access : made ≡ written g.R.Rider.riding t.core.id p c.args.count c.args.word c.args.mask c.args.bits =
    (λ i. record {
      at = c.instr-at.ensures i;
      word = c.args.word;
      kind = Storing;
      before = before i;
      after =
          after i;
    }) in
    record {
      done = subst (λ (e : Event). Does g.C.Clerk.told_local g.C.Clerk.told_touch g.C.TsoClerk.told_logged
          g.R.Rider.riding g.K.Carry.carrying c.args.self.now c.drain.new.self c.args.c e c.args.clerk.now
          c.drain.new.clerk) (ap Drains access ∙ sym is) c.drain.ensures.done;
    }
