-- Count by count: what was told so far are the first of the instructions behind the count, each alone, and the state
-- changes by what rides on the port.
use Rattle.std.proofs.Common.{◌≡◌, ◌∙◌, ◌<◌, ◌+◌, sym, subst, ap, ℕ, List, length, arith}
use Rattle.std.proofs.lemmas.List.{length-set}
use Rattle.msi_memory.specs.Memories.{Memory, port_at}
use Rattle.tso_clerk.specs.Telling.{TellsAll}
use Rattle.tso_state.specs.States.{BufferedCore, core_at}
use Rattle.tso_core.specs.Machineries.{Machinery}
use Rattle.tso_core.specs.Workings.{HasTold, locals_of}
use Rattle.tso_core.proofs.ToldAlone.{Behind, accepts_next, all_told, instr, one_told}
use Rattle.tso_core.proofs.parts.Parts.tell_behind.Given.{Over}
use Rattle.tso_core.proofs.parts.Parts.tell_behind.Goals as goal
use Rattle.tso_core.proofs.parts.Parts.tell_behind.Goals.{After-instr-at}

-- the instruction whose turn it is
module _ (g : Over) (c : After-instr-at g) where
  at_is : c.instr-at.result ≡ instr (core_at c.args.self.now.state.cores c.args.c).core.id (c.loop-last.last + 1)
  at_is =
      c.instr-at.ensures
      ∙ ap (λ (cores : List BufferedCore). instr (core_at cores c.args.c).core.id (c.loop-last.last + 1))
      c.loop-last.invariant.cores

pub alone-requires : goal.alone-requires
alone-requires g c =
    accepts_next g.C.Clerk.accepts g.C.TsoClerk.accepts_alone g.C.Clerk.told_local g.C.Clerk.told_touch
    g.C.TsoClerk.told_logged g.R.Rider.riding g.K.Carry.carrying c.args.self.now.state c.loop-last.self.state c.args.c
    (core_at c.args.self.now.state.cores c.args.c).core.id c.args.count c.loop-last.last c.count_before-until.result
    c.args.clerk.now c.loop-last.clerk c.loop-last.invariant.behind c.loop-last-test.true c.instr-at.result
    (at_is g (goal.at.alone-requires g c).After-instr-at)

pub loop-last-preserved : goal.loop-last-preserved
loop-last-preserved g c =
    let core : ℕ = (core_at c.args.self.now.state.cores c.args.c).core.id in
    let before = subst (λ (m : Machinery g.row.R.Denot g.row.K.Denot). Behind g.C.Clerk.accepts
    g.C.TsoClerk.accepts_alone g.C.Clerk.told_local
    g.C.Clerk.told_touch g.C.TsoClerk.told_logged g.R.Rider.riding g.K.Carry.carrying c.args.self.now.state m.state
    c.args.c core c.args.count
    c.loop-last.last c.count_before-until.result c.args.clerk.now c.loop-last.clerk) (sym
    c.self-in-loop-last.view_is) c.loop-last.invariant.behind in
    record {
      behind = one_told g.C.Clerk.accepts g.C.TsoClerk.accepts_alone g.C.Clerk.told_local g.C.Clerk.told_touch
          g.C.TsoClerk.told_logged
          g.R.Rider.riding g.K.Carry.carrying c.args.self.now.state _ c.args.c core c.args.count c.loop-last.last
          c.count_before-until.result
          c.args.clerk.now c.loop-last.clerk before c.loop-last-test.true c.instr-at.result
          (at_is g (goal.at.loop-last-preserved g c).After-instr-at)
          c.retire.new.self.memory _ c.alone.new.self
          c.retire.ensures.memory c.retire.ensures.carry c.carry.ensures c.alone.ensures;
      cores = ap (λ (m : Machinery g.row.R.Denot g.row.K.Denot). m.state.cores) c.self-in-loop-last.view_is
          ∙ c.loop-last.invariant.cores;
      port = subst (λ (m : Memory g.row.R.Denot g.row.K.Denot). c.args.c < length m.ports) (sym c.retire.ensures.memory)
          (subst (λ (n : ℕ). c.args.c < n) (sym (length-set c.self-in-loop-last.inside.memory.memory.ports c.args.c _))
          (subst (λ (m : Machinery g.row.R.Denot g.row.K.Denot). c.args.c < length m.state.memory.ports)
          (sym c.self-in-loop-last.view_is)
          c.loop-last.invariant.port));
      few = λ past. absurd (let started = c.loop-last.invariant.behind.started in
          omega (arith, c.loop-last-test.true, started, past));
      rooms = c.retire.ensures.rooms ∙ ap (λ (m : Machinery g.row.R.Denot g.row.K.Denot). m.rooms)
          c.self-in-loop-last.view_is
          ∙ c.loop-last.invariant.rooms;
    }

pub returns-clause-state : goal.returns-clause-state
returns-clause-state g c = λ rider.
    subst (λ (n : ℕ). HasTold g.R.Rider.riding g.K.Carry.carrying c.args.self.now.state c.loop-last.self.state c.args.c
    rider (locals_of (core_at c.args.self.now.state.cores c.args.c).core.id c.args.count n))
    (all_told _ c.args.self.now c.args.c c.args.count c.loop-last.last c.count_before-until.result
    c.index.result.now c.self.view_is c.requires.there.core c.index.ensures c.count_before-until.ensures
    c.loop-last-test.false c.loop-last.auto.last-end c.loop-last.invariant.few)
    (c.loop-last.invariant.behind.state rider)

pub returns-clause-told : goal.returns-clause-told
returns-clause-told g c = λ found left.
    subst (λ (n : ℕ). TellsAll g.C.Clerk.told_local g.C.Clerk.told_touch g.C.TsoClerk.told_logged g.K.Carry.carrying
    (locals_of (core_at c.args.self.now.state.cores c.args.c).core.id c.args.count n)
    (port_at g.K.Carry.carrying c.args.self.now.state.memory.ports c.args.c).carry c.args.clerk.now found
    c.loop-last.clerk left)
    (all_told _ c.args.self.now c.args.c c.args.count c.loop-last.last c.count_before-until.result
    c.index.result.now c.self.view_is c.requires.there.core c.index.ensures c.count_before-until.ensures
    c.loop-last-test.false c.loop-last.auto.last-end c.loop-last.invariant.few)
    (c.loop-last.invariant.behind.told found left)
