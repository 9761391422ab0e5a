-- What the two instructions of an edge do if both come next.
use Rattle.std.specs.Prelude.{ℕ, List}
use Rattle.rtr_types.specs.declared.cut.Cut.{Cut}
use Rattle.rtr_types.specs.declared.instr.Instr.{Instr}
use Rattle.rtr_types.specs.declared.pairs.Which.{Which}
use Rattle.conflict_edge.specs.Conflicts.{ConflictPair}
use Rattle.race_log.specs.declared.recording.Recording.{Recording}
use Rattle.race_log.specs.Sources.{HasEdge}
use Rattle.race_log.specs.Validity.{Valid}
use Rattle.rv_core.specs.declared.outcome.Outcome.{Outcome}
use Rattle.replay_core.specs.Plans.{plan_of}
use Rattle.replay_core.specs.Play.{use_of, need_at, played}
use Rattle.replay_audit.specs.Determinate.{IsDeterminate, low_accesses}
use Rattle.replay_audit.specs.Laws.{Clash}
use Rattle.cut_replay.specs.CutStates.{Reaches, IsStateAt}
use Rattle.race_cuts.specs.OpenCuts.{IsOpenCut}

-- the next instructions of the two cores use one word, and one of them writes it
abbrev pub ClashNext : Which → Recording → Outcome → Instr → Instr → Type 0
ClashNext which r s x y =
    Clash (use_of (need_at (plan_of which r) s x.core)) (use_of (need_at (plan_of which r) s y.core))

-- If both instructions of an edge that is a conflict come next, the next accesses of the two cores conflict: neither
-- needs that the other has gone first.
abbrev pub ClashNextLaw : Type 0
ClashNextLaw = (which : Which) (r : Recording) (x y : Instr) (cut : Cut) (order : List ℕ) → Valid r →
    IsDeterminate which r → HasEdge which r x y → ConflictPair (low_accesses which r) x y →
    IsOpenCut which r x y cut → Reaches which r cut order → ClashNext which r (played (plan_of which r) order) x y

-- so it is in the state at the cut
abbrev pub ClashAtLaw : Type 0
ClashAtLaw = (which : Which) (r : Recording) (x y : Instr) (cut : Cut) (s : Outcome) → Valid r →
    IsDeterminate which r → HasEdge which r x y → ConflictPair (low_accesses which r) x y →
    IsOpenCut which r x y cut → IsStateAt which r cut s → ClashNext which r s x y
