-- Rule: the cuts at which the order of an edge's two instructions was open: IsOpenCut
-- The cuts at which both instructions of an edge come next.
use Rattle.std.specs.Prelude.{◌≡◌, ◌≢◌, ℕ, ◌+◌, ◌↔◌, List}
use Rattle.rtr_types.specs.declared.cut.Cut.{Cut}
use Rattle.rtr_types.specs.declared.instr.Instr.{Instr}
use Rattle.rtr_types.specs.declared.pairs.Which.{Which}
use Rattle.rtr_types.specs.declared.pairs.Which.TheVariants.{Reduced}
use Rattle.race_log.specs.declared.recording.Recording.{Recording}
use Rattle.race_log.specs.Sources.{HasEdge}
use Rattle.race_log.specs.Validity.{Valid}
use Rattle.replay_core.specs.Plans.{plan_of}
use Rattle.replay_core.specs.Orders.{bump, counts, nought, Ready}
use Rattle.replay_audit.specs.Determinate.{IsDeterminate}
use Rattle.cut_replay.specs.ClosedCuts.{count_in, Holds, IsContained, IsClosed, IsGreatestWithout}
use Rattle.cut_replay.specs.CutStates.{Reaches}
use Rattle.min_certificate.specs.Laws.{IsLeastIn, AllConflict}

-- the instruction is the next one of its core at the cut
abbrev pub ComesNext : Cut → Instr → Type 0
ComesNext cut at = count_in cut at.core + 1 ≡ at.count

-- a closed cut at which both instructions come next. It holds each logged source of x, and each of y but x, so the edge
-- from x to y alone says which one goes first
pub record IsOpenCut (which : Which) (r : Recording) (x y : Instr) (cut : Cut) : Type 0 where
  pub closed : IsClosed which r cut
  pub first : ComesNext cut x
  pub second : ComesNext cut y
  pub first_sources : (from : Instr) → HasEdge which r from x → Holds cut from
  pub second_sources : (from : Instr) → HasEdge which r from y → from ≢ x → Holds cut from

-- a recording whose reduced log is least
pub record HasLeastLog (r : Recording) : Type 0 where
  pub valid : Valid r
  pub determinate : IsDeterminate Reduced r
  pub least : IsLeastIn r

-- At the greatest closed cut without the source of an edge of a least log both its instructions come next.
abbrev pub GreatestIsOpenLaw : Type 0
GreatestIsOpenLaw = (r : Recording) (x y : Instr) (cut : Cut) → HasLeastLog r → HasEdge Reduced r x y →
    IsGreatestWithout Reduced r x cut → IsOpenCut Reduced r x y cut

-- There is one: each edge of a least log is a place where the other order was possible.
abbrev pub OpenCutLaw : Type 0
OpenCutLaw = (r : Recording) (x y : Instr) → HasLeastLog r → HasEdge Reduced r x y →
    (cut : Cut) × IsOpenCut Reduced r x y cut

-- The greatest one without the source holds every other at which both come next.
abbrev pub LastOpenLaw : Type 0
LastOpenLaw = (which : Which) (r : Recording) (x y : Instr) (cut other : Cut) → IsGreatestWithout which r x cut →
    IsOpenCut which r x y other → IsContained other cut

-- A reduced log of conflicts, by which the recording is determinate, is least exactly if each of its edges has such a
-- cut.
abbrev pub OpenEdgesAreLeastLaw : Type 0
OpenEdgesAreLeastLaw = (r : Recording) → Valid r → IsDeterminate Reduced r → AllConflict r →
    IsLeastIn r ↔ ((x y : Instr) → HasEdge Reduced r x y → (cut : Cut) × IsOpenCut Reduced r x y cut)

-- If a replay order reaches such a cut, the core of x is ready, and behind x the core of y is.
abbrev pub ReadyWhereOpenLaw : Type 0
ReadyWhereOpenLaw = (which : Which) (r : Recording) (x y : Instr) (cut : Cut) (order : List ℕ) → Valid r →
    HasEdge which r x y → IsOpenCut which r x y cut → Reaches which r cut order →
    Ready (plan_of which r) (counts nought order) x.core
    × Ready (plan_of which r) (bump (counts nought order) x.core) y.core
