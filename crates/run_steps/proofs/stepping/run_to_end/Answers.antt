use Rattle.std.proofs.Common.{◌∙◌, refl, suc}
use Rattle.run_steps.proofs.stepping.run_to_end.Goals as goal

pub loop-run-init : goal.loop-run-init
loop-run-init g c = record {
  stands = λ image params schedule t there. (t, there);
  ready = c.requires.ready;
  image = refl;
}

pub turn-requires-clause-under_way : goal.turn-requires-clause-under_way
turn-requires-clause-under_way g c =
    let way = c.requires.under_way in
    let later = c.loop-run.invariant.stands way.image way.params way.schedule way.t way.stands_so in
    record {
      image = way.image;
      params = way.params;
      schedule = way.schedule;
      t = later.0;
      fits = way.fits;
      stands_so = later.1;
    }

pub loop-run-preserved : goal.loop-run-preserved
loop-run-preserved g c = record {
  stands = λ image params schedule t there.
      let before = c.loop-run.invariant.stands image params schedule t there in
      (suc before.0, c.in_ok-turn.ensures.stands image params schedule before.0 before.1);
  ready = c.in_ok-turn.ensures.ready;
  image = c.in_ok-turn.ensures.image ∙ c.loop-run.invariant.image;
}
