-- Streams over memory.
use Rattle.std.specs.Prelude.{ℕ, ◌+◌, List, min}
use Rattle.rtr_io.specs.Faults.{last_count}

-- what is kept of a stream over memory beside its bytes: the numbers of the calls that fail, the most bytes
-- that one call moves, how many calls there were, and how many of them failed
pub record Script : Type 0 where
  pub failing : List ℕ
  pub most : ℕ
  pub calls : ℕ
  pub faults : ℕ

-- a source over memory: the bytes that are left
pub record Reading : Type 0 where
  pub left : List ℕ
  pub script : Script

-- a sink over memory: the bytes that it got, and how many it has room for in all
pub record Writing : Type 0 where
  pub got : List ℕ
  pub room : ℕ
  pub script : Script

-- one more; a count stands still at its last value
abbrev pub risen : ℕ → ℕ
risen n = min (n + 1) last_count

-- before the first call
abbrev pub fresh : List ℕ → ℕ → Script
fresh failing most = record { failing = failing; most = most; calls = 0; faults = 0 }

-- after a call that moved bytes, or found none
abbrev pub called : Script → Script
called s = record s { calls = risen s.calls }

-- after a call that failed
abbrev pub failed : Script → Script
failed s = record s { calls = risen s.calls; faults = risen s.faults }

-- a stream over another: this, and how many of its calls failed
pub record Over (T : Type 0) : Type 0 where
  pub inner : T
  pub faults : ℕ
