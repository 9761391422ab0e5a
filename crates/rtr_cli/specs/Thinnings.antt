-- Recordings with fewer vectors, and how commands end that make or check them.
use Rattle.std.specs.Prelude.{◌≡◌, ℕ, Bool, true, false, List, length}
use Rattle.race_log.specs.declared.recording.Recording.{Recording}
use Rattle.rtr_types.specs.declared.pairs.Which.TheVariants.{Regulated}
use Rattle.log_codec.specs.Spelling.{spelling}
use Rattle.replay_audit.specs.Audits.{AuditRefuses}
use Rattle.replay_audit.specs.Determinate.{IsDeterminate}
use Rattle.vector_reduce.specs.declared.thinned.Thinned.{Thinned}
use Rattle.vector_reduce.specs.Answers.{IsThinningOf, IsTooMany, IsNotShown as IsNotNeededShown}
use Rattle.vector_reduce.specs.Spelling.{spelling as thin_spelling}
use Rattle.vector_reduce.specs.Vectors.{vectors_of}
use Rattle.state_text.specs.declared.exit.Exit.{Exit}
use Rattle.state_text.specs.declared.exit.Exit.TheVariants as exits
use Rattle.state_text.specs.Checks.{needed_lines}
use Rattle.rtr_cli.specs.Replays.{Ends}

-- what is written of a thinned recording: its spelling, or with what shows that each of its vectors is needed
abbrev pub thinned_bytes : (certify : Bool) → Thinned → List ℕ
thinned_bytes false t = spelling t.recording
thinned_bytes true t = thin_spelling t

-- that of the recording with fewer vectors: those that are left where each is tried once, in order, and left out where
-- the others that aren't left out so far imply it
abbrev pub IsThinnedTo : (certify : Bool) → Recording → (out : List ℕ) → Type 0
IsThinnedTo certify r out = (t : Thinned) × IsThinningOf r t × (out ≡ thinned_bytes certify t)

-- what a check of a thin file prints: the number of its vectors
abbrev pub thin_checked_lines : Thinned → List ℕ
thin_checked_lines t = needed_lines (length (vectors_of t.recording))

-- a command that thins this recording ends so
abbrev pub ThinEnds : Recording → Exit → Type 0
ThinEnds r (exits.TooMany vectors edges) = IsDeterminate Regulated r × IsTooMany r vectors edges
ThinEnds r exit = Ends (λ fault. AuditRefuses Regulated r fault) (λ failure. ⊥) exit

-- a command that checks this thin file ends so
abbrev pub CheckThinEnds : Thinned → Exit → Type 0
CheckThinEnds t (exits.NotShown vector) = IsNotNeededShown t vector
CheckThinEnds t exit = Ends (λ fault. AuditRefuses Regulated t.recording fault) (λ failure. ⊥) exit
