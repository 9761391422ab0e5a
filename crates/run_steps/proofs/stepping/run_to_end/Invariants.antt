use Rattle.std.proofs.Common.{◌≡◌, ℕ}
use Rattle.image_mem.specs.Contents.{Contents}
use Rattle.rtr_types.specs.declared.params.Params.{Params}
use Rattle.schedule_pick.specs.Choices.{Choices}
use Rattle.run_steps.specs.Ways.{running_with}
use Rattle.run_steps.proofs.stepping.run_to_end.Given as goal

-- wherever it stood at the start, it stands at some moment of the same run
abbrev pub invariant-loop-run : goal.invariant-loop-run
invariant-loop-run g l = record {
  stands : (image : Contents) (params : Params) (schedule : Choices) (t : ℕ)
      → g.S.Stepping.stands (running_with l.fn.machine l.fn.clerk l.fn.choices) image params schedule t
      → (u : ℕ) × g.S.Stepping.stands l.run image params schedule u;
  ready : g.S.Stepping.ready l.run;
  image : g.S.Machine.SteppedMachine.image l.run.machine ≡ g.S.Machine.SteppedMachine.image l.fn.machine;
}

abbrev pub decreases-loop-run : goal.decreases-loop-run
decreases-loop-run g l = g.S.Machine.SteppedMachine.left l.run.machine
