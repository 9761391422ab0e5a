use Rattle.std.proofs.Common.{◌∙◌}
use Rattle.msi_memory.specs.Memories.{Memory}
use Rattle.tso_state.specs.Events.{Logged}
use Rattle.tso_core.proofs.OldestLeaves.{accepts_behind, logged_state, tells_behind}
use Rattle.tso_core.proofs.parts.Parts.log.Goals as goal

pub tell_behind-requires-clause-accepts : goal.tell_behind-requires-clause-accepts
tell_behind-requires-clause-accepts g c = (
  g.R.Rider.riding.fresh,
  accepts_behind g.C.Clerk.accepts g.C.TsoClerk.accepts_alone g.C.Clerk.told_local
      g.C.Clerk.told_touch g.C.TsoClerk.told_logged g.R.Rider.riding g.K.Carry.carrying c.args.self.now.state
      c.leave.new.self.state c.tell_logged.new.self.state c.args.c c.args.at.count g.R.Rider.riding.fresh
      (Logged c.args.at c.args.word c.args.value) (λ (m : Memory g.row.R.Denot g.row.K.Denot). g.R.Rider.riding.fresh)
      c.args.clerk.now c.tell_logged.new.clerk c.leave.ensures.state
      (c.tell_logged.ensures.state g.R.Rider.riding.fresh) c.requires.there c.requires.accepts
      g.R.Rider.riding.fresh c.tell_logged.ensures.told,
)

pub returns : goal.returns
returns g c =
    record {
      done = record {
        state = logged_state g.R.Rider.riding g.K.Carry.carrying c.args.self.now.state c.leave.new.self.state
            c.tell_logged.new.self.state c.tell_behind.new.self.state c.args.c c.args.at c.args.word c.args.value
            c.leave.ensures.state c.tell_logged.ensures.state c.tell_behind.ensures.state c.requires.there.core;
        rooms = c.tell_behind.ensures.rooms ∙ c.tell_logged.ensures.rooms ∙ c.leave.ensures.rooms;
        told = tells_behind g.C.Clerk.accepts g.C.TsoClerk.accepts_alone g.C.Clerk.told_local g.C.Clerk.told_touch
            g.C.TsoClerk.told_logged g.R.Rider.riding g.K.Carry.carrying c.args.self.now.state c.leave.new.self.state
            c.tell_logged.new.self.state c.args.c c.args.at.count g.R.Rider.riding.fresh
            (Logged c.args.at c.args.word c.args.value)
            (λ (m : Memory g.row.R.Denot g.row.K.Denot). g.R.Rider.riding.fresh) c.args.clerk.now
            c.tell_logged.new.clerk c.leave.ensures.state (c.tell_logged.ensures.state g.R.Rider.riding.fresh)
            c.requires.there
            c.tell_behind.new.clerk g.R.Rider.riding.fresh c.tell_logged.ensures.told
            (c.tell_behind.ensures.told g.R.Rider.riding.fresh g.R.Rider.riding.fresh);
      };
    }
