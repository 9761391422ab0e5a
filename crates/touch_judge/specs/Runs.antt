-- Rule: the low order, run by run: IsRunOf, IsOrder
-- The low order of a log, run by run.
use Rattle.std.specs.Prelude.{◌≡◌, ◌≢◌, ℕ, ◌<◌, ◌≤◌, ◌↔◌, List, [], ◌∷◌, length, replicate, slice_index, slice_index_or}
use Rattle.std.specs.Prelude.{slice_set}
use Rattle.rtr_types.specs.declared.instr.Edge.{Edge}
use Rattle.rtr_types.specs.declared.instr.Instr.{Instr}
use Rattle.rtr_types.specs.declared.pairs.Which.{Which}
use Rattle.clock_core.specs.Order.{Among, IsOrLeads}
use Rattle.clock_entries.specs.Laws.{IsAcyclic}
use Rattle.race_log.specs.declared.recording.Recording.{Recording}
use Rattle.race_log.specs.Sources.{log_edges}
use Rattle.race_log.specs.Validity.{Valid}
use Rattle.replay_core.specs.Orders.{IsWhole}
use Rattle.replay_core.specs.Plans.{plan_of}
use Rattle.replay_core.specs.Play.{instr}
use Rattle.replay_audit.specs.Clocks.{AreRising}
use Rattle.replay_audit.specs.Determinate.{low_order_of}
use Rattle.touch_judge.specs.declared.order.Run.{Run}

-- the clocks of each core stand by rising counts
abbrev pub EachRises : List (List (List ℕ)) → Type 0
EachRises clocks = (c : ℕ) → AreRising c (slice_index_or clocks c [])

-- each edge into an instruction within the counts comes from one within them
abbrev pub IsClosed : List Edge → (counts : List ℕ) → Type 0
IsClosed edges counts = (x y : Instr) → Among edges x y → y.count ≤ slice_index counts y.core →
    x.count ≤ slice_index counts x.core

-- the core goes on from the counts, and the clock has of each other core the instructions that lead to one of the run
pub record IsRunOf (edges : List Edge) (counts : List ℕ) (run : Run) : Type 0 where
  pub core : run.core < length counts
  pub more : slice_index counts run.core < run.until
  pub closed : IsClosed edges counts
  pub clock : IsAcyclic edges → (m : ℕ) (x : Instr) → slice_index counts run.core < m → m ≤ run.until →
      1 ≤ x.count → x.core ≢ run.core →
      (x.count ≤ slice_index run.clock x.core) ↔ IsOrLeads (Among edges) x (instr run.core m)

-- one after the other, from these counts on
abbrev pub AreRuns : List Edge → (counts : List ℕ) → List Run → Type 0
AreRuns edges counts [] = Unit {0}
AreRuns edges counts (run ∷ runs) =
    IsRunOf edges counts run × AreRuns edges (slice_set counts run.core run.until) runs

-- the counts that they come to
abbrev pub after_runs : (counts : List ℕ) → List Run → List ℕ
after_runs counts [] = counts
after_runs counts (run ∷ runs) = after_runs (slice_set counts run.core run.until) runs

-- before the first run
abbrev pub no_counts_of : Recording → List ℕ
no_counts_of r = replicate (length r.totals) 0

-- the log's low order is whole, and the runs bring each core to its total
pub record IsOrder (which : Which) (r : Recording) (runs : List Run) : Type 0 where
  pub valid : Valid r
  pub whole : IsWhole (plan_of which r) (low_order_of which r)
  pub runs_are : AreRuns (log_edges which r) (no_counts_of r) runs
  pub ends : (c : ℕ) → c < length r.totals →
      slice_index (after_runs (no_counts_of r) runs) c ≡ slice_index r.totals c
