use Rattle.std.proofs.Common.{◌∙◌}
use Rattle.std.specs.Option.{option_map}
use Rattle.schedule_pick.specs.Choices.{Choices}
use Rattle.hunt_cli.specs.Finds.{choices_at}
use Rattle.hunt_cli.specs.Kinds.{Setting, kind_with, setting_on}
use Rattle.hunt_cli.proofs.RunsSame.{any-within, breaks-under, places-within, values-under}
use Rattle.hunt_cli.proofs.ranges.PolicyRunsRuns.see.Goals as goal

pub breaks-breaks-requires : goal.breaks-breaks-requires
breaks-breaks-requires g c =
    let s : Setting = setting_on (kind_with g.M.HuntedMachine.seen_at g.M.HuntedMachine.changes_at
    g.M.HuntedMachine.outcome g.M.HuntedMachine.most_steps g.M.HuntedMachine.buffers) c.args.self.now.params
    c.args.self.now.bytes.now in
    let choices : Choices = choices_at s c.args.self.now.by c.args.n in
    any-within s choices c.in_ok-run.run' c.in_ok-run.ensures (option_map (λ d. d.now) c.args.self.now.demand)
    c.args.self.now.demanded

pub values-requires : goal.values-requires
values-requires g c =
    let s : Setting = setting_on (kind_with g.M.HuntedMachine.seen_at g.M.HuntedMachine.changes_at
    g.M.HuntedMachine.outcome g.M.HuntedMachine.most_steps g.M.HuntedMachine.buffers) c.args.self.now.params
    c.args.self.now.bytes.now in
    let choices : Choices = choices_at s c.args.self.now.by c.args.n in
    places-within s choices c.in_ok-run.run' c.in_ok-run.ensures c.args.self.now.places.now c.args.self.now.placed

pub returns-clause-values : goal.returns-clause-values
returns-clause-values g c =
    let s : Setting = setting_on (kind_with g.M.HuntedMachine.seen_at g.M.HuntedMachine.changes_at
    g.M.HuntedMachine.outcome g.M.HuntedMachine.most_steps g.M.HuntedMachine.buffers) c.args.self.now.params
    c.args.self.now.bytes.now in
    let choices : Choices = choices_at s c.args.self.now.by c.args.n in
    values-under s choices c.in_ok-run.run' c.in_ok-run.ensures c.args.self.now.places.now c.in_ok-values.values
    c.in_ok-values.ensures

pub returns-clause-breaks : goal.returns-clause-breaks
returns-clause-breaks g c =
    let s : Setting = setting_on (kind_with g.M.HuntedMachine.seen_at g.M.HuntedMachine.changes_at
    g.M.HuntedMachine.outcome g.M.HuntedMachine.most_steps g.M.HuntedMachine.buffers) c.args.self.now.params
    c.args.self.now.bytes.now in
    let choices : Choices = choices_at s c.args.self.now.by c.args.n in
    breaks-under s choices c.in_ok-run.run' c.in_ok-run.ensures (option_map (λ d. d.now) c.args.self.now.demand)
    c.args.self.now.first.now c.breaks-breaks.result c.breaks-breaks.ensures

pub returns-clause-bench : goal.returns-clause-bench
returns-clause-bench g c = c.into_machine.ensures ∙ c.in_ok-run.ensures.image_is
