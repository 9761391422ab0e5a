use Rattle.std.proofs.Common.{Some, string_bytes}
use Rattle.std.proofs.lemmas.Result.{on_ok_weaker}
use Rattle.end_claims.specs.Demands.{demand_places}
use Rattle.hunt_words.proofs.PlacesWithin.{demanded-within}
use Rattle.hunt_cli.proofs.RunsSame.{places-within}
use Rattle.hunt_cli.proofs.ShownRuns.{is-put}
use Rattle.hunt_cli.proofs.smalls.SmallOf.put_turns.Goals as goal

-- src/smalls.rt:137:9
pub put_run-requires : goal.put_run-requires
put_run-requires g c =
    let a = c.args.self in
    places-within _ _ _ c.in_ok-run.ensures (demand_places a.setup.params.cores a.demand.now)
    (demanded-within a.setup.params.cores a.setup.params.words a.demand.now a.demanded)

-- src/smalls.rt:126:5
pub returns : goal.returns
returns g c =
    let a = c.args.self in
    on_ok_weaker c.put_run.result
    (λ told. is-put a.setup _ a.demand.now (Some c.args.turns.now) _ _ c.in_ok-run.ensures (string_bytes
    c.args.text.now)
    (string_bytes c.put_run.new.text) told) c.put_run.ensures
