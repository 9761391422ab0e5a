use Rattle.std.proofs.Common.{◌≡◌, ◌<◌, ◌≤◌, length}
use Rattle.tso_state.specs.States.{core_at}
use Rattle.tso_core.proofs.ToldAlone.{Behind}
use Rattle.tso_core.proofs.parts.Parts.tell_behind.Given as goal

abbrev pub invariant-loop-last : goal.invariant-loop-last
invariant-loop-last g l = record {
  behind : Behind g.C.Clerk.accepts g.C.TsoClerk.accepts_alone g.C.Clerk.told_local g.C.Clerk.told_touch
      g.C.TsoClerk.told_logged
      g.R.Rider.riding g.K.Carry.carrying l.fn.self.state l.self.state l.c (core_at l.fn.self.state.cores l.c).core.id
      l.count l.last l.until
      l.fn.clerk l.clerk;
  cores : l.self.state.cores ≡ l.fn.self.state.cores;
  port : l.c < length l.self.state.memory.ports;
  few : l.until ≤ l.count → l.last ≡ l.count;
  rooms : l.self.rooms ≡ l.fn.self.rooms;
}
