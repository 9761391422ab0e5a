use Rattle.machine_times.proofs.NotedRiders.{timed_told, clocks_told}
use Rattle.machine_times.proofs.laws.timed_tellings.Goals as goal

pub returns : goal.returns
returns g c =
    record {
      stands = timed_told g.C.Clerk.told_local g.C.Clerk.told_touch g.C.TimesClerk.clock g.met.C.TimesClerk.touch_notes
          g.K.Carry.carrying;
      clocks = clocks_told g.C.Clerk.told_local g.C.Clerk.told_touch g.C.TimesClerk.clock g.met.C.TimesClerk.local_keeps
          g.met.C.TimesClerk.touch_keeps;
    }
