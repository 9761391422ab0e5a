use Rattle.std.proofs.Common.{◌≡◌, length, subst, sym}
use Rattle.replay_audit.specs.Clocks.{clocks_of, number_of}
use Rattle.replay_audit.specs.Trails.{Trailed}
use Rattle.replay_audit.proofs.trail.TrailWatch.touch.Goals as goal

pub by_number-clock-requires-clause-number : goal.by_number-clock-requires-clause-number
by_number-clock-requires-clause-number c =
    subst (λ (s : Trailed). number_of s.kept c.args.access.at.core c.args.access.at.count
    ≡ length (clocks_of s.kept c.args.access.at.core)) (sym c.self.view_is) c.requires.last
