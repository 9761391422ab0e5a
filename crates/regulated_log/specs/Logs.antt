-- A recording with its regulated log, and the order in which the instructions of its run retired.
use Rattle.std.specs.Prelude.{◌≡◌, ℕ, ◌+◌, ◌≤◌, List, ◌∷◌, ◌++◌}
use Rattle.rtr_types.specs.Pairs.{IsPair}
use Rattle.rtr_types.specs.declared.instr.Instr.{Instr}
use Rattle.race_log.specs.declared.recording.Recording.{Recording}
use Rattle.replay_core.specs.Orders.{counts, nought}
use Rattle.edge_regulate.specs.Regulated.{Knowledge, regulated}

-- the recording with the vectors of its reduced edges, by what was known
abbrev pub with_regulated : Knowledge → Recording → Recording
with_regulated known r =
    record {
      params = r.params;
      image = r.image;
      totals = r.totals;
      reduced = r.reduced;
      regulated = regulated r.params.cores known r.reduced;
    }

-- at each place of the order of retirement, what is known of another core has retired before
pub record IsPast (cores : ℕ) (order : List ℕ) (known : Knowledge) : Type 0 where
  pub each : (front : List ℕ) (core : ℕ) (rest : List ℕ) (of : ℕ) → order ≡ front ++ core ∷ rest →
      IsPair cores of core → known core (counts nought front core + 1) of ≤ counts nought front of

-- x retires before y in this order
pub record RetiresBefore (order : List ℕ) (x y : Instr) : Type 0 where
  pub front : List ℕ
  pub rest : List ℕ
  pub place : order ≡ front ++ y.core ∷ rest
  pub target : counts nought front y.core + 1 ≡ y.count
  pub source : x.count ≤ counts nought front x.core
