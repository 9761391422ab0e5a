-- How a step back comes to a cut at which both instructions of an edge come next.
use Rattle.rtr_types.specs.declared.cut.Cut.{Cut}
use Rattle.rtr_types.specs.declared.instr.Instr.{Instr}
use Rattle.rtr_types.specs.declared.pairs.Which.TheVariants.{Reduced}
use Rattle.race_log.specs.declared.recording.Recording.{Recording}
use Rattle.race_log.specs.Sources.{HasEdge}
use Rattle.cut_replay.specs.ClosedCuts.{Holds, IsContained, IsClosed, IsLeastWith}
use Rattle.cut_moves.specs.Steps.{IsStepBack}
use Rattle.race_cuts.specs.OpenCuts.{IsOpenCut, HasLeastLog}

-- From each closed cut that holds the target of an edge of a least log, the step back over its source comes to a cut at
-- which both come next.
abbrev pub BackIsOpenLaw : Type 0
BackIsOpenLaw = (r : Recording) (x y : Instr) (from to : Cut) → HasLeastLog r → HasEdge Reduced r x y →
    IsClosed Reduced r from → Holds from y → IsStepBack Reduced r from x to → IsOpenCut Reduced r x y to

-- From the least cut that holds the target it comes to the first of them, which each other one holds.
abbrev pub FirstOpenLaw : Type 0
FirstOpenLaw = (r : Recording) (x y : Instr) (from to other : Cut) → HasLeastLog r → HasEdge Reduced r x y →
    IsLeastWith Reduced r y from → IsStepBack Reduced r from x to → IsOpenCut Reduced r x y other →
    IsContained to other
