-- Rule: the run in which the other core goes first: other_outcome
-- What a run comes to if another core goes first at a cut: up to there it is the recorded one, and from there on each
-- core goes on where the timeline has it next, without a log, and then round by round to its end.
use Rattle.std.specs.Prelude.{ℕ, zero, suc, Bool, ◌&&◌, not, nat_eq, List, [], ◌∷◌, ◌++◌, length}
use Rattle.std.specs.Prelude.{replicate, slice_index, if◌then◌else◌}
use Rattle.std.specs.List.{range_with_len}
use Rattle.rtr_types.specs.Pairs.{pair_count}
use Rattle.rtr_types.specs.declared.cut.Cut.{Cut}
use Rattle.rtr_types.specs.declared.pairs.Which.{Which}
use Rattle.rtr_types.specs.declared.pairs.Which.TheVariants.{Reduced}
use Rattle.race_log.specs.declared.recording.Recording.{Recording}
use Rattle.rv_core.specs.declared.outcome.Outcome.{Outcome}
use Rattle.rv_core.specs.Steps.{is_done}
use Rattle.replay_core.specs.Plans.{Plan, plan_of}
use Rattle.replay_core.specs.Play.{need_at, place, start}
use Rattle.replay_core.specs.Orders.{counts_in, is_ready, nought}
use Rattle.cut_replay.specs.ClosedCuts.{count_in}
use Rattle.cut_moves.specs.Rounds.{rounds_of}
use Rattle.cut_moves.specs.Ways.{way_of}

-- ---- without a log

-- the recording without its logs: no instruction waits, and each core may go on as far as the limit
abbrev pub free_of : Recording → Recording
free_of r = record {
  params = r.params;
  image = r.image;
  totals = replicate r.params.cores r.params.limit;
  reduced = replicate (pair_count r.params.cores) [];
  regulated = replicate (pair_count r.params.cores) [];
}

abbrev pub free_plan : Recording → Plan
free_plan r = plan_of Reduced (free_of r)

-- ---- cores that can go on

-- the core is below its total, and its program isn't done
abbrev pub goes_on : Plan → Outcome → ℕ → Bool
goes_on p s c = is_ready p (counts_in s) c && not (is_done (need_at p s c))

-- it retires an instruction, if it can go on
abbrev pub tried : Plan → Outcome → ℕ → Outcome
tried p s c = if goes_on p s c then place p s c else s

-- so do these cores, one after the other
unfoldable pub left_by : Plan → Outcome → List ℕ → Outcome
left_by p s [] = s
left_by p s (c ∷ cs) = left_by p (tried p s c) cs

-- a round: each core once, lower ones first
abbrev pub round : Plan → Outcome → Outcome
round p s = left_by p s (range_with_len 0 (length p.totals))

unfoldable pub rounds : Plan → Outcome → ℕ → Outcome
rounds p s zero = s
rounds p s (suc n) = rounds p (round p s) n

-- ---- the other way

-- all but the first place of the core
unfoldable pub less : ℕ → List ℕ → List ℕ
less c [] = []
less c (d ∷ ds) = if nat_eq d c then ds else d ∷ less c ds

-- each core's total
abbrev pub total_in : Recording → ℕ → ℕ
total_in r core = slice_index r.totals core

-- the timeline as far as the cut, then the core that goes first, and then what else is left of the timeline
abbrev pub other_places : Which → Recording → Cut → (first : ℕ) → List ℕ
other_places which r cut first =
    way_of nought (count_in cut) (rounds_of which r)
    ++ first ∷ less first (way_of (count_in cut) (total_in r) (rounds_of which r))

-- what these places come to by a recording's reduced log, if cores that can't go on are passed over, and then as many
-- rounds as the limit allows instructions, in which each core comes to its end
abbrev pub outcome_by : Recording → (places : List ℕ) → Outcome
outcome_by r places =
    let p = plan_of Reduced r in
    rounds p (left_by p (start p) places) r.params.limit

-- what the run comes to in which at the cut this core goes first
abbrev pub other_outcome : Which → Recording → Cut → (first : ℕ) → Outcome
other_outcome which r cut first = outcome_by (free_of r) (other_places which r cut first)
