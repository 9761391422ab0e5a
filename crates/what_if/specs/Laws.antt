-- What the run in which another core goes first is: the play of an order that begins with the cut.
use Rattle.std.specs.Prelude.{◌≡◌, ℕ, List, [], ◌∷◌, ◌++◌, if◌then◌else◌}
use Rattle.rtr_types.specs.declared.cut.Cut.{Cut}
use Rattle.rtr_types.specs.declared.pairs.Which.{Which}
use Rattle.race_log.specs.declared.recording.Recording.{Recording}
use Rattle.race_log.specs.Validity.{Valid}
use Rattle.rv_core.specs.declared.outcome.Outcome.{Outcome}
use Rattle.replay_core.specs.Plans.{Plan}
use Rattle.replay_core.specs.Play.{Plays, place, play, played, start}
use Rattle.replay_core.specs.Orders.{nought}
use Rattle.replay_audit.specs.Audits.{IsInstrOf}
use Rattle.replay_audit.specs.Determinate.{IsDeterminate}
use Rattle.cut_replay.specs.ClosedCuts.{IsClosed, count_in}
use Rattle.cut_replay.specs.CutStates.{IsStateAt}
use Rattle.cut_moves.specs.Rounds.{rounds_of}
use Rattle.cut_moves.specs.Steps.{next_in}
use Rattle.cut_moves.specs.Ways.{way_of}
use Rattle.what_if.specs.Others.{free_plan, goes_on, left_by, other_outcome, tried}

-- of some places those whose core can go on
unfoldable pub taken : Plan → Outcome → List ℕ → List ℕ
taken p s [] = []
taken p s (c ∷ cs) = if goes_on p s c then c ∷ taken p (tried p s c) cs else taken p (tried p s c) cs

-- these play, fall short nowhere, and come to the same
pub record PlaysTaken (p : Plan) (s : Outcome) (places : List ℕ) : Type 0 where
  pub plays : Plays p s (taken p s places)
  pub same : left_by p s places ≡ play p s (taken p s places)

abbrev pub TakenPlaysLaw : Type 0
TakenPlaysLaw = (p : Plan) (s : Outcome) (places : List ℕ) → PlaysTaken p s places

-- the timeline as far as a closed cut comes, without the log, to the cut's state
abbrev pub CutFirstLaw : Type 0
CutFirstLaw = (which : Which) (r : Recording) (cut : Cut) (state : Outcome) → Valid r → IsDeterminate which r →
    IsClosed which r cut → IsStateAt which r cut state →
    left_by (free_plan r) (start (free_plan r)) (way_of nought (count_in cut) (rounds_of which r)) ≡ state

-- what the run comes to is the outcome of the play of an order, which begins with the timeline as far as the cut, and
-- then with the core that goes first
pub record PlaysOther (which : Which) (r : Recording) (cut : Cut) (first : ℕ) (order : List ℕ) : Type 0 where
  pub rest : List ℕ
  pub begins : order ≡ way_of nought (count_in cut) (rounds_of which r) ++ first ∷ rest
  pub plays : Plays (free_plan r) (start (free_plan r)) order
  pub outcome_is : other_outcome which r cut first ≡ played (free_plan r) order

-- so it is where the core has an instruction of the recording to come
abbrev pub OtherPlaysLaw : Type 0
OtherPlaysLaw = (which : Which) (r : Recording) (cut : Cut) (first : ℕ) → Valid r → IsDeterminate which r →
    IsClosed which r cut → IsInstrOf r (next_in cut first) →
    (order : List ℕ) × PlaysOther which r cut first order
