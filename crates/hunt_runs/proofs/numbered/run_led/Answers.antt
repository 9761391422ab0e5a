use Rattle.hunt_runs.proofs.numbered.run_led.Goals as goal

pub returns-clause-comes_to : goal.returns-clause-comes_to
returns-clause-comes_to g c = c.in_ok-led.ensures.comes_to 0
