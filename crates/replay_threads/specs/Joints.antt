-- Rule: what a replay on several threads answers: IsJointOf
-- What a replay on several threads answers.
use Rattle.std.specs.Prelude.{◌≡◌}
use Rattle.rtr_types.specs.declared.pairs.Which.{Which}
use Rattle.race_log.specs.declared.recording.Recording.{Recording}
use Rattle.replay_core.specs.Plans.{plan_of}
use Rattle.replay_audit.specs.Determinate.{IsDeterminate, low_outcome}
use Rattle.replay_table.specs.Seats.{Ended, IsEnd}
use Rattle.replay_threads.specs.declared.joint.Joint.{Joint}
use Rattle.replay_threads.specs.declared.joint.Joint.TheVariants.{Ran, Unsure}

-- the recording is determinate by the log, the table was brought to the end of a whole replay order, with the accesses
-- of its play, and this end is the outcome of the low order
pub record RanOut (which : Which) (r : Recording) (closed : Ended) : Type 0 where
  pub determinate : IsDeterminate which r
  pub ended : IsEnd (plan_of which r) closed
  pub outcome : closed.outcome ≡ low_outcome which r

-- a replay runs out where the recording is determinate by the log, and is unsure where it isn't
abbrev pub IsJointOf : Which → Recording → Joint → Type 0
IsJointOf which r (Ran closed) = RanOut which r closed
IsJointOf which r Unsure = IsDeterminate which r → ⊥
