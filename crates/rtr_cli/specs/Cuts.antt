-- What is told of the state at an instruction.
use Rattle.std.specs.Prelude.{◌≡◌, ℕ, Bool, true, false, List}
use Rattle.rv_core.specs.declared.outcome.Outcome.{Outcome}
use Rattle.race_log.specs.declared.recording.Recording.{Recording}
use Rattle.rtr_types.specs.declared.cut.Cut.{Cut}
use Rattle.rtr_types.specs.declared.instr.Instr.{Instr}
use Rattle.rtr_types.specs.declared.pairs.Which.{Which}
use Rattle.replay_core.specs.Plans.{recorded_image}
use Rattle.replay_audit.specs.Audits.{AuditRefuses, IsInstrOf}
use Rattle.cut_replay.specs.ClosedCuts.{IsGreatestWithout, IsLeastWith}
use Rattle.cut_replay.specs.CutStates.{IsStateAt}
use Rattle.state_text.specs.declared.exit.Exit.{Exit}
use Rattle.state_text.specs.declared.exit.Exit.TheVariants as exits
use Rattle.state_text.specs.Cuts.{cut_state_lines}
use Rattle.rtr_cli.specs.Replays.{Ends}

-- the closed cut that is asked for at an instruction: the least that holds it, or else the greatest that doesn't
abbrev pub IsCutAt : Which → Recording → Instr → (latest : Bool) → Cut → Type 0
IsCutAt which r at false cut = IsLeastWith which r at cut
IsCutAt which r at true cut = IsGreatestWithout which r at cut

-- of an instruction of the recording that cut, and then the state text of what every replay order plays to whose counts
-- are the cut's
abbrev pub IsToldAt : Which → Instr → (latest loads : Bool) → Recording → (out : List ℕ) → Type 0
IsToldAt which at latest loads r out =
    IsInstrOf r at
    × (cut : Cut) × (outcome : Outcome) × IsCutAt which r at latest cut × IsStateAt which r cut outcome
    × (out ≡ cut_state_lines cut outcome (recorded_image r) loads)

-- a command that asks for the state at an instruction of this recording ends so
abbrev pub AtEnds : Which → Instr → Recording → Exit → Type 0
AtEnds which at r (exits.NoInstr absent) = (IsInstrOf r at → ⊥) × (absent ≡ at)
AtEnds which at r exit = Ends (λ fault. IsInstrOf r at × AuditRefuses which r fault) (λ failure. ⊥) exit
