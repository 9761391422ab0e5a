use Rattle.std.proofs.Common.{◌∙◌, ap, sym, length, ℕ}
use Rattle.std.specs.Prelude.{Option}
use Rattle.std.specs.List.{range_with_len}
use Rattle.turn_lists.specs.declared.actor.Actor.{Actor}
use Rattle.hunt_runs.specs.Directing.{to_settle}
use Rattle.hunt_runs.specs.Seen.{first_settling}
use Rattle.hunt_runs.proofs.director.to_settle.Goals as goal

pub returns-in-None-clause-value : goal.returns-in-None-clause-value
returns-in-None-clause-value g c =
    let seen = g.M.HuntedMachine.seen c.args.machine.now in
    c.first_settling.ensures.value
    ∙ ap (λ (n : ℕ). first_settling seen (range_with_len 0 n))
    (c.requires.cores ∙ sym (ap length c.is_seen.ensures.cores))
    ∙ ap (λ (turn : Option Actor). to_settle turn seen) (sym c.in-None.is)
