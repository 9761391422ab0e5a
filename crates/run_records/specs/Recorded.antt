-- That every run is recorded, and what its recording is.
use Rattle.std.specs.Prelude.{◌≡◌, ℕ, ◌*◌, ◌≤◌, List, length}
use Rattle.image_mem.specs.Contents.{Contents}
use Rattle.rtr_types.specs.Parameters.{Fits}
use Rattle.rtr_types.specs.declared.access.Access.{Access}
use Rattle.rtr_types.specs.declared.instr.Edge.{Edge}
use Rattle.rtr_types.specs.declared.instr.Instr.{Instr}
use Rattle.rtr_types.specs.declared.pairs.Which.TheVariants.{Reduced}
use Rattle.rtr_types.specs.declared.params.Params.{Params}
use Rattle.schedule_pick.specs.Choices.{Choices}
use Rattle.clock_core.specs.Order.{Among, Before}
use Rattle.conflict_edge.specs.Least.{IsLeast, Others}
use Rattle.edge_regulate.specs.Regulated.{IsRegulation, Knowledge, regulated}
use Rattle.race_log.specs.Sources.{log_edges}
use Rattle.run_records.specs.Recordings.{IsRecorded, run_accesses, recording_of}
use Rattle.run_records.specs.Standing.{NotesAt}
use Rattle.run_records.specs.WhatIsKnown.{CountsKnown}
use Rattle.run_records.specs.StandingAt.{Standing, UntilEnd, regulation_of, standing_at}

-- Until its end a run is recorded: the machine, the reduction, what is noted and the choices that are left stand t
-- choices into it, and the vectors of the reduction's edges are those by what is noted, whatever is noted later.
pub record IsStanding (image : Contents) (params : Params) (schedule : Choices) (t : ℕ) (w : Standing) : Type 0 where
  pub notes : NotesAt image params schedule t w.state w.reduction w.notes w.rest
  pub regulation : IsRegulation w.notes w.reduction.lists (regulation_of w.reduction w.notes)

abbrev pub RecordsLaw : Type 0
RecordsLaw =
    UntilEnd (λ image params schedule t. IsStanding image params schedule t (standing_at image params schedule t))

abbrev pub RecordedLaw : Type 0
RecordedLaw =
    (image : Contents) (params : Params) (schedule : Choices) → Fits params → image.words ≡ params.words
    → length image.bytes ≤ 4 * params.words → IsRecorded image params schedule

-- the edges are the least set of the accesses, so each is a conflict, and the others leave it unordered
pub record IsLeastLog (list : List Access) (edges : List Edge) : Type 0 where
  pub least : IsLeast list edges
  pub needed : (x y : Instr) → Among edges x y → Before (Others (Among edges) x y) x y → ⊥

abbrev pub LeastLogLaw : Type 0
LeastLogLaw =
    (image : Contents) (params : Params) (schedule : Choices) → Fits params
    → IsLeastLog (run_accesses image params schedule) (log_edges Reduced (recording_of image params schedule))

-- The regulated log has each pair's greedy vectors of the reduced edges, by whatever counts what is known in the run.
abbrev pub RegulatedLogLaw : Type 0
RegulatedLogLaw =
    (image : Contents) (params : Params) (schedule : Choices) (known : Knowledge) → Fits params
    → CountsKnown image params schedule known
    → (recording_of image params schedule).regulated
    ≡ regulated params.cores known (recording_of image params schedule).reduced
