use Rattle.std.proofs.Common.{rules, ◌≡◌, ◌∙◌, sym, subst, List, ℕ, [], Some, true, false}
use Rattle.turn_lists.specs.Turns.{IsLeastInSteps}
use Rattle.hunt_cli.specs.Finds.{breaks_under, turns_break}
use Rattle.hunt_cli.specs.Kinds.{kind_with, named_choices, setting_on}
use Rattle.hunt_cli.proofs.RunsSame.{breaks-under}
use Rattle.hunt_cli.specs.OwnTurns.{turns_named}
use Rattle.hunt_cli.proofs.ShownRuns.{plain-found, small-answer}
use Rattle.hunt_cli.proofs.smalls.small_of_number.Goals as goal

-- src/smalls.rt:162:1
pub returns-in-Some : goal.returns-in-Some
returns-in-Some g c =
    let a = c.args.asked in
    let m = g.M.HuntedMachine in
    let s = setting_on (kind_with m.seen_at m.changes_at m.outcome m.most_steps m.buffers) a.setup.params a.bytes.now in
    let name = c.args.name.now in
    let ends : breaks_under s a.demand.now a.first.now (named_choices s name) ≡ true =
    sym (breaks-under _ _ _ c.in_ok-run.ensures (Some a.demand.now) a.first.now c.breaks.result c.breaks.ensures)
    ∙ c.if-not-breaks.false in
    let breaks : breaks_under s a.demand.now [] (named_choices s name) ≡ true =
    subst (λ (first : List ℕ). breaks_under s a.demand.now first (named_choices s name) ≡ true) c.requires ends in
    let least : IsLeastInSteps (turns_break s a.demand.now []) c.as_slice.result.now = search rules in
    small-answer a.setup s name a.demand.now c.as_slice.result.now breaks least c.least_answer.result
    c.least_answer.ensures.out c.least_answer.ensures.report c.least_answer.ensures.exit

pub returns-in-None : goal.returns-in-None
returns-in-None g c =
    let a = c.args.asked in
    let m = g.M.HuntedMachine in
    let s = setting_on (kind_with m.seen_at m.changes_at m.outcome m.most_steps m.buffers) a.setup.params a.bytes.now in
    let name = c.args.name.now in
    let ends : breaks_under s a.demand.now a.first.now (named_choices s name) ≡ true =
    sym (breaks-under _ _ _ c.in_ok-run.ensures (Some a.demand.now) a.first.now c.breaks.result c.breaks.ensures)
    ∙ c.if-not-breaks.false in
    let breaks : breaks_under s a.demand.now [] (named_choices s name) ≡ true =
    subst (λ (first : List ℕ). breaks_under s a.demand.now first (named_choices s name) ≡ true) c.requires ends in
    let here : turns_break s a.demand.now a.first.now (turns_named s name) ≡ false = search rules in
    let whole : turns_break s a.demand.now [] (turns_named s name) ≡ false =
    subst (λ (first : List ℕ). turns_break s a.demand.now first (turns_named s name) ≡ false) c.requires here in
    plain-found a.setup s name a.demand.now breaks whole c.plain_answer.result c.plain_answer.ensures.out
    c.plain_answer.ensures.report c.plain_answer.ensures.exit
