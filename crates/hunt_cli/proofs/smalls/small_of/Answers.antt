use Rattle.std.proofs.Common.{rules, ◌≡◌, ◌∙◌, ap, subst, List, ℕ, [], true}
use Rattle.schedule_pick.specs.Choices.{Choices}
use Rattle.turn_lists.specs.Turns.{IsLeastInSteps}
use Rattle.hunt_cli.specs.Finds.{breaks_under, turns_break}
use Rattle.hunt_cli.specs.Kinds.{kind_with, named_choices, setting_on, turns_choices}
use Rattle.hunt_cli.proofs.ShownRuns.{small-answer}
use Rattle.hunt_cli.proofs.smalls.small_of.Goals as goal

-- src/smalls.rt:142:1
pub returns-in-Some : goal.returns-in-Some
returns-in-Some g c =
    let a = c.args.asked in
    let m = g.M.HuntedMachine in
    let s = setting_on (kind_with m.seen_at m.changes_at m.outcome m.most_steps m.buffers) a.setup.params a.bytes.now in
    let name = c.args.run.now in
    let named : named_choices s name ≡ turns_choices s c.as_slice.result.now = search rules in
    let ends : turns_break s a.demand.now a.first.now c.as_slice.result.now ≡ true = search rules in
    let here : breaks_under s a.demand.now a.first.now (named_choices s name) ≡ true =
    ap (λ (choices : Choices). breaks_under s a.demand.now a.first.now choices) named ∙ ends in
    let breaks : breaks_under s a.demand.now [] (named_choices s name) ≡ true =
    subst (λ (first : List ℕ). breaks_under s a.demand.now first (named_choices s name) ≡ true) c.requires here in
    let least : IsLeastInSteps (turns_break s a.demand.now []) c.as_slice-in-Some.result.now = search rules in
    small-answer a.setup s name a.demand.now c.as_slice-in-Some.result.now breaks least c.least_answer.result
    c.least_answer.ensures.out c.least_answer.ensures.report c.least_answer.ensures.exit
