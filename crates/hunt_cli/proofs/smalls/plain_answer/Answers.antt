use Rattle.std.proofs.Common.{rules, ◌≡◌, None}
use Rattle.end_claims.specs.Demands.{demand_places}
use Rattle.hunt_texts.specs.Shown.{shown_text}
use Rattle.hunt_cli.specs.Finds.{shown_of}
use Rattle.hunt_cli.specs.Inputs.{words_of}
use Rattle.hunt_cli.specs.RunEnds.{end_in}
use Rattle.hunt_words.proofs.PlacesWithin.{demanded-within}
use Rattle.hunt_cli.proofs.RunsSame.{places-within}
use Rattle.hunt_cli.proofs.ShownRuns.{is-shown}
use Rattle.hunt_cli.proofs.smalls.plain_answer.Goals as goal

-- src/smalls.rt:213:5
pub put_run-requires : goal.put_run-requires
put_run-requires g c =
    let a = c.args.asked in
    places-within _ _ _ c.in_ok-run.ensures (demand_places a.setup.params.cores a.demand.now)
    (demanded-within a.setup.params.cores a.setup.params.words a.demand.now a.demanded)

-- src/smalls.rt:200:1
pub returns-clause-out : goal.returns-clause-out
returns-clause-out g c =
    let a = c.args.asked in
    let r = c.in_ok-run.run' in
    let out : c.done.result.out.items
    ≡ shown_text (shown_of a.setup a.demand.now None (end_in r) (words_of a.setup r.choices r.seed)) = search rules in
    is-shown a.setup _ a.demand.now None _ r c.in_ok-run.ensures c.done.result.out.items out
