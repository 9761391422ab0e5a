-- Rule: a word at a closed cut: WordAtLaw
-- A word at a closed cut is what its last write in the cut left: the low order's accesses that the cut holds say it.
use Rattle.std.specs.Prelude.{◌≡◌, ℕ, ◌<◌, List, filter, slice_index}
use Rattle.rtr_types.specs.declared.access.Access.{Access}
use Rattle.rtr_types.specs.declared.cut.Cut.{Cut}
use Rattle.rtr_types.specs.declared.pairs.Which.{Which}
use Rattle.image_mem.specs.Contents.{opening_word}
use Rattle.rv_core.specs.declared.outcome.Outcome.{Outcome}
use Rattle.race_log.specs.declared.recording.Recording.{Recording}
use Rattle.race_log.specs.Validity.{Valid}
use Rattle.replay_core.specs.Plans.{recorded_image}
use Rattle.replay_audit.specs.Determinate.{IsDeterminate, low_accesses}
use Rattle.cut_replay.specs.ClosedCuts.{IsClosed}
use Rattle.cut_replay.specs.CutStates.{IsStateAt}
use Rattle.race_queries.specs.Queries.{is_held}
use Rattle.cut_index.specs.Left.{left_by}

-- the accesses of the list that the cut holds
abbrev pub held_in : Cut → List Access → List Access
held_in cut list = filter (λ access. is_held cut access.at) list

-- a word at a closed cut is what the low order's accesses that the cut holds leave of the image's word
abbrev pub WordAtLaw : Type 0
WordAtLaw = (which : Which) (r : Recording) (cut : Cut) (outcome : Outcome) (word : ℕ) → Valid r →
    IsDeterminate which r → IsClosed which r cut → IsStateAt which r cut outcome → word < r.params.words →
    slice_index outcome.words word
    ≡ left_by word (opening_word (recorded_image r) word) (held_in cut (low_accesses which r))
