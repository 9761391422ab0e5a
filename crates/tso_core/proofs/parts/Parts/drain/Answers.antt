use Rattle.std.proofs.Common.{◌∙◌}
use Rattle.msi_memory.specs.Memories.{Memory, port_at, rider_at}
use Rattle.tso_state.specs.Events.{Ordered}
use Rattle.tso_core.proofs.OldestLeaves.{accepts_behind, drained_state, rider_stays, tells_behind}
use Rattle.tso_core.proofs.parts.Parts.drain.Goals as goal

pub tell_behind-requires-clause-accepts : goal.tell_behind-requires-clause-accepts
tell_behind-requires-clause-accepts g c = (
  _,
  accepts_behind g.C.Clerk.accepts g.C.TsoClerk.accepts_alone g.C.Clerk.told_local g.C.Clerk.told_touch
      g.C.TsoClerk.told_logged g.R.Rider.riding g.K.Carry.carrying c.args.self.now.state c.leave.new.self.state
      c.tell_access.new.self.state c.args.c c.args.access.at.count _ (Ordered c.args.access)
      (λ (m : Memory g.row.R.Denot g.row.K.Denot). rider_at g.R.Rider.riding
      (port_at g.K.Carry.carrying m.ports c.args.c) c.args.access.word) c.args.clerk.now c.tell_access.new.clerk
      c.leave.ensures.state c.tell_access.ensures.state
      c.requires.there c.requires.accepts _ c.tell_access.ensures.told,
)

pub returns : goal.returns
returns g c =
    let stays = rider_stays g.R.Rider.riding g.K.Carry.carrying c.args.self.now.state c.leave.new.self.state
    c.tell_access.new.self.state c.tell_behind.new.self.state c.args.c c.args.access c.leave.ensures.state
    c.tell_access.ensures.state c.tell_behind.ensures.state c.requires.there.core c.requires.there.port in
    record {
      done = record {
        state = drained_state g.R.Rider.riding g.K.Carry.carrying c.args.self.now.state c.leave.new.self.state
            c.tell_access.new.self.state c.tell_behind.new.self.state c.args.c c.args.access c.leave.ensures.state
            c.tell_access.ensures.state c.tell_behind.ensures.state c.requires.there.core c.requires.there.port;
        rooms = c.tell_behind.ensures.rooms ∙ c.tell_access.ensures.rooms ∙ c.leave.ensures.rooms;
        told = tells_behind g.C.Clerk.accepts g.C.TsoClerk.accepts_alone g.C.Clerk.told_local g.C.Clerk.told_touch
            g.C.TsoClerk.told_logged g.R.Rider.riding g.K.Carry.carrying c.args.self.now.state c.leave.new.self.state
            c.tell_access.new.self.state c.args.c c.args.access.at.count _ (Ordered c.args.access)
            (λ (m : Memory g.row.R.Denot g.row.K.Denot). rider_at g.R.Rider.riding
            (port_at g.K.Carry.carrying m.ports c.args.c) c.args.access.word) c.args.clerk.now c.tell_access.new.clerk
            c.leave.ensures.state c.tell_access.ensures.state c.requires.there c.tell_behind.new.clerk _
            (rw stays c.tell_access.ensures.told) (c.tell_behind.ensures.told _ _);
      };
    }
