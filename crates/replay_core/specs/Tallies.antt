-- Rule: the low order, place by place: Tallied, IsLow
-- How far each core has come, and the sources of what comes next.
use Rattle.std.specs.Prelude.{◌≡◌, ◌⊎◌, ℕ, ◌+◌, ◌<◌, ◌≤◌, true, List, Option, Some, None, length, slice_index}
use Rattle.std.specs.Prelude.{slice_index_or, slice_set}
use Rattle.rtr_types.specs.declared.TheConstants.{CORES_MAX}
use Rattle.rtr_types.specs.declared.instr.Edge.{Edge}
use Rattle.rtr_types.specs.declared.instr.Instr.{Instr}
use Rattle.rtr_types.specs.declared.pairs.Which.{Which}
use Rattle.clock_core.specs.Counts.{no_counts}
use Rattle.clock_core.specs.Order.{Among}
use Rattle.race_log.specs.declared.recording.Recording.{Recording}
use Rattle.race_log.specs.Sources.{log_edges}
use Rattle.race_log.specs.Validity.{Valid}
use Rattle.replay_core.specs.Plans.{Plan, plan_of}
use Rattle.replay_core.specs.Play.{instr}
use Rattle.replay_core.specs.Orders.{is_sourced, lowest_ready}
use Rattle.replay_core.specs.Sources.{AreSources, sources_in}

-- what contracts see of a tally: the plan, and the count of each core
pub record Tallied : Type 0 where
  pub plan : Plan
  pub counts : List ℕ

abbrev pub count_of : List ℕ → ℕ → ℕ
count_of counts c = slice_index counts c

-- core c's next instruction
abbrev pub next_of : List ℕ → ℕ → Instr
next_of counts c = instr c (count_of counts c + 1)

-- it is core c's next instruction, with its logged sources
pub record IsNextInstr (t : Tallied) (c : ℕ) (y : Instr) (found : List ℕ) : Type 0 where
  pub at : y ≡ next_of t.counts c
  pub sources : AreSources t.plan.edges (next_of t.counts c) found

-- core c is counted one place more
pub record IsOneMore (s : Tallied) (c : ℕ) (t : Tallied) : Type 0 where
  pub plan : t.plan ≡ s.plan
  pub counts : t.counts ≡ slice_set s.counts c (count_of s.counts c + 1)
  pub one_more : count_of t.counts c ≡ count_of s.counts c + 1

-- core c has gone on to the count n
pub record IsGoneOn (s : Tallied) (c n : ℕ) (t : Tallied) : Type 0 where
  pub plan : t.plan ≡ s.plan
  pub counts : t.counts ≡ slice_set s.counts c n
  pub here : count_of t.counts c ≡ n

-- the lowest core that is ready can go on to the count n: it stays the lowest until then, and its instructions after
-- the next have no sources
pub record IsRun (t : Tallied) (c n : ℕ) : Type 0 where
  pub more : count_of t.counts c < n
  pub within : n ≤ slice_index t.plan.totals c
  pub lowest : (k : ℕ) → count_of t.counts c ≤ k → k < n →
      lowest_ready t.plan (count_of (slice_set t.counts c k)) ≡ Some c
  pub free : (k : ℕ) → count_of t.counts c + 1 < k → k ≤ n → AreSources t.plan.edges (instr c k) no_counts

-- the sources that are wanted before core c's next instruction
abbrev pub wanted_at : List (Option (List ℕ)) → ℕ → List ℕ
wanted_at wanted c = sources_in (slice_index_or wanted c None)

-- they are those of the first instruction of each of so many cores
pub record AreWanted (edges : List Edge) (cores : ℕ) (wanted : List (Option (List ℕ))) : Type 0 where
  pub all : length wanted ≡ cores
  pub each : (c : ℕ) → c < cores → AreSources edges (instr c 1) (wanted_at wanted c)

-- each core is within its total, and the sources of its next instruction are wanted; later ones are looked for in the
-- same log
pub record IsTally (which : Which) (r : Recording) (sources : Plan) (counts : List ℕ) (wanted : List (Option (List ℕ)))
    : Type 0 where
  pub valid : Valid r
  pub sources_is : sources ≡ plan_of which r
  pub all_counts : length counts ≡ r.params.cores
  pub all_wanted : length wanted ≡ r.params.cores
  pub within : (c : ℕ) → count_of counts c ≤ slice_index r.totals c
  pub each : (c : ℕ) → c < r.params.cores →
      AreSources (log_edges which r) (next_of counts c) (wanted_at wanted c)

-- ---- the lowest core that is ready

-- a source of core c's next instruction that lies above the counts
pub record IsWanting (t : Tallied) (c : ℕ) (i a : ℕ) : Type 0 where
  pub core : i < CORES_MAX
  pub among : Among t.plan.edges (instr i a) (next_of t.counts c)
  pub above : count_of t.counts i < a

-- one of these, or none where each source lies within the counts
abbrev pub IsUnmet : Tallied → (c : ℕ) → Option (ℕ × ℕ) → Type 0
IsUnmet t c None = true ≡ is_sourced t.plan.edges (count_of t.counts) c (count_of t.counts c + 1)
IsUnmet t c (Some e) = IsWanting t c e.0 e.1

-- core c is at its total, or its next instruction waits for a source that isn't below the count of `until`
pub record WaitsFor (t : Tallied) (c : ℕ) (until : List ℕ) : Type 0 where
  pub of : ℕ
  pub count : ℕ
  pub wanting : IsWanting t c of count
  pub awaited : slice_index until of ≤ count

abbrev pub Waits : Tallied → (c : ℕ) → (until : List ℕ) → Type 0
Waits t c until = (slice_index t.plan.totals c ≤ count_of t.counts c) ⊎ WaitsFor t c until

-- so each core below `low`
pub record AreAwaited (t : Tallied) (low : ℕ) (until : List ℕ) : Type 0 where
  pub each : (d : ℕ) → d < low → Waits t d until

-- it is the lowest, and while the counts are below those of `until` no core below it becomes ready
pub record IsLow (t : Tallied) (low : Option ℕ) (until : List ℕ) : Type 0 where
  pub lowest_is : low ≡ lowest_ready t.plan (count_of t.counts)
  pub awaited : (c : ℕ) → low ≡ Some c → AreAwaited t c until
