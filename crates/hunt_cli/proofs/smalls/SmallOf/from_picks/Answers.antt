use Rattle.std.proofs.Common.{rules, ◌≡◌, ◌∙◌, ap, subst, ℕ, List, IfOk, length}
use Rattle.schedule_pick.specs.Choices.{Choices}
use Rattle.turn_lists.specs.declared.actor.Turn.{Turn}
use Rattle.turn_policies.specs.PickedTurns.{turns_of_picks}
use Rattle.hunt_runs.specs.Picked.{picks_numbered}
use Rattle.hunt_cli.specs.Finds.{IsMadeSmall, turns_break}
use Rattle.hunt_cli.specs.Kinds.{Setting, course, kind_with, numbered_choices, picks, setting_on}
use Rattle.hunt_cli.proofs.smalls.SmallOf.from_picks.Goals as goal

-- the room is that of the run's choices
pub returns-in_ok-turns-in-None : goal.returns-in_ok-turns-in-None
returns-in_ok-turns-in-None g c =
    let a = c.args.self in
    let s : Setting = setting_on (kind_with g.M.HuntedMachine.seen_at g.M.HuntedMachine.changes_at
    g.M.HuntedMachine.outcome g.M.HuntedMachine.most_steps g.M.HuntedMachine.buffers) a.setup.params a.bytes.now in
    let number = c.args.number in
    let Picked : ℕ → List Turn = λ room.
    turns_of_picks (picks_numbered (course s) (picks s) number room s.params.cores (s.kind.most_steps s.params)) in
    let room : c.noted-noted.result ≡ length (numbered_choices s number).bytes =
    c.noted-noted.ensures ∙ ap (λ (k : Choices). length k.bytes) c.requires.run.choices_are in
    let made : c.as_slice.result.now ≡ Picked c.noted-noted.result = search rules in
    subst (λ (turns : List Turn). IfOk c.least_of.result
    (λ found. IsMadeSmall (turns_break s a.demand.now a.first.now) turns found))
    (made ∙ ap Picked room) c.least_of.ensures
