-- Rule: what a core depends on at a closed cut: alone_at, AloneAtLaw
-- Each core of a recording on its own, and that it stands there wherever a replay order has come.
use Rattle.std.specs.Prelude.{◌≡◌, ℕ, ◌<◌, false, List, slice_index}
use Rattle.rtr_types.specs.declared.cut.Cut.{Cut}
use Rattle.rtr_types.specs.declared.pairs.Which.{Which}
use Rattle.rv_core.specs.declared.outcome.LoadNote.{LoadNote}
use Rattle.rv_core.specs.declared.outcome.Outcome.{Outcome}
use Rattle.rv_core.specs.Steps.{is_done, need}
use Rattle.race_log.specs.declared.recording.Recording.{Recording}
use Rattle.race_log.specs.Validity.{Valid}
use Rattle.replay_core.specs.Orders.{counts, nought, IsReplayOrder}
use Rattle.replay_core.specs.Plans.{plan_of, recorded_image}
use Rattle.replay_core.specs.Play.{core_at, loads_at, need_at, played}
use Rattle.replay_audit.specs.Determinate.{IsDeterminate, low_outcome}
use Rattle.cut_replay.specs.ClosedCuts.{count_in}
use Rattle.cut_replay.specs.CutStates.{IsStateAt}
use Rattle.cut_index.specs.Alone.{alone_after, alone_first}
use Rattle.cut_index.specs.declared.alone.Alone.{Alone}
use Rattle.cut_index.specs.declared.alone.Next.{Next}
use Rattle.cut_index.specs.Runs.{next_of}

-- what the core's loads read, in every replay order that is whole
abbrev pub own_loads : Which → Recording → (core : ℕ) → List LoadNote
own_loads which r core = loads_at (low_outcome which r) core

-- the recording's core on its own, behind so many of its instructions
abbrev pub alone_at : Which → Recording → (core count : ℕ) → Alone
alone_at which r core count =
    alone_after (recorded_image r) (own_loads which r core) (alone_first core r.params.limit) count

-- and what comes next there
abbrev pub next_at : Which → Recording → (core count : ℕ) → Next
next_at which r core count = next_of (recorded_image r) (alone_at which r core count).core

-- ---- laws

-- wherever a replay order has come, a core stands where its own instructions and its own loads have brought it
abbrev pub AloneLaw : Type 0
AloneLaw = (which : Which) (r : Recording) (order : List ℕ) (core : ℕ) → Valid r → IsDeterminate which r →
    IsReplayOrder (plan_of which r) order → core < r.params.cores →
    core_at (played (plan_of which r) order) core ≡ (alone_at which r core (counts nought order core)).core

-- so at a closed cut it depends on the cut's count of that core alone
abbrev pub AloneAtLaw : Type 0
AloneAtLaw = (which : Which) (r : Recording) (cut : Cut) (outcome : Outcome) (core : ℕ) → Valid r →
    IsDeterminate which r → IsStateAt which r cut outcome → core < r.params.cores →
    core_at outcome core ≡ (alone_at which r core (count_in cut core)).core

-- and so does what its next instruction needs
abbrev pub NextAtLaw : Type 0
NextAtLaw = (which : Which) (r : Recording) (cut : Cut) (outcome : Outcome) (core : ℕ) → Valid r →
    IsDeterminate which r → IsStateAt which r cut outcome → core < r.params.cores →
    need_at (plan_of which r) outcome core
    ≡ need (recorded_image r) (alone_at which r core (count_in cut core)).core

-- on its own it isn't done before its total
abbrev pub GoesOnLaw : Type 0
GoesOnLaw = (which : Which) (r : Recording) (core count : ℕ) → Valid r → IsDeterminate which r → core < r.params.cores →
    count < slice_index r.totals core →
    is_done (need (recorded_image r) (alone_at which r core count).core) ≡ false
