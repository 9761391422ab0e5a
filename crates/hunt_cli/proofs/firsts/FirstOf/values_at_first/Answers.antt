use Rattle.hunt_cli.proofs.RunsSame.{places-within, values-under}
use Rattle.hunt_cli.proofs.firsts.FirstOf.values_at_first.Goals as goal

pub values-requires : goal.values-requires
values-requires g c = places-within _ _ _ c.in_ok-run.ensures c.args.places.now c.requires.within

pub returns : goal.returns
returns g c =
    values-under _ _ _ c.in_ok-run.ensures c.args.places.now c.in_ok-values.values c.in_ok-values.ensures
