use Rattle.std.proofs.Common.{rules, ◌≡◌, List, Option, false, string_bytes, subst}
use Rattle.std.proofs.lemmas.Result.{on_ok_weaker}
use Rattle.turn_lists.specs.declared.actor.Turn.{Turn}
use Rattle.turn_lists.specs.Turns.{IsLeastInSteps}
use Rattle.turn_policies.specs.Named.{numbered_by}
use Rattle.turn_policies.specs.declared.named.Numbered.{Numbered}
use Rattle.hunt_cli.specs.Finds.{IsMadeSmall, turns_break}
use Rattle.hunt_cli.specs.Kinds.{Setting, kind_with, setting_on}
use Rattle.hunt_cli.specs.OwnTurns.{turns_numbered}
use Rattle.hunt_cli.proofs.FirstShown.{put-small, put-whole}
use Rattle.hunt_cli.proofs.firsts.put_found.Goals as goal

pub returns-in-Some : goal.returns-in-Some
returns-in-Some g c =
    let a = c.args.asked in
    let s : Setting = setting_on (kind_with g.M.HuntedMachine.seen_at g.M.HuntedMachine.changes_at
    g.M.HuntedMachine.outcome g.M.HuntedMachine.most_steps g.M.HuntedMachine.buffers) a.setup.params a.bytes.now in
    let Least : List Turn → Type 0 = λ turns. IsLeastInSteps (turns_break s a.demand.now c.args.first.now) turns in
    let least : Least c.as_slice.result.now = search rules in
    on_ok_weaker c.put_turns.result
    (λ told. put-small a.setup s a.runs a.demand.now c.args.number a.plain c.as_slice.result.now c.args.first.now
    (string_bytes c.args.text.now) (string_bytes c.put_turns.new.text) c.if-asked.false c.requires.values least told)
    c.put_turns.ensures

pub returns-in-None : goal.returns-in-None
returns-in-None g c =
    let a = c.args.asked in
    let s : Setting = setting_on (kind_with g.M.HuntedMachine.seen_at g.M.HuntedMachine.changes_at
    g.M.HuntedMachine.outcome g.M.HuntedMachine.most_steps g.M.HuntedMachine.buffers) a.setup.params a.bytes.now in
    let Made : Option (List Turn) → Type 0 =
    λ o. IsMadeSmall (turns_break s a.demand.now c.args.first.now) (turns_numbered s c.numbered.result) o in
    let Whole : Numbered → Type 0 =
    λ n. turns_break s a.demand.now c.args.first.now (turns_numbered s n) ≡ false in
    let whole : Whole (numbered_by a.runs.by c.args.number) =
    subst Whole c.numbered.ensures (subst Made c.in-None.is c.in_ok-least.ensures) in
    on_ok_weaker c.put_plain-in-None.result
    (λ told. put-whole a.setup s a.runs a.demand.now c.args.number a.plain c.args.first.now
    (string_bytes c.args.text.now) (string_bytes c.put_plain-in-None.new.text) c.if-asked.false c.requires.values
    c.requires.breaks whole told) c.put_plain-in-None.ensures
