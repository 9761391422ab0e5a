-- How many lines of a cache wait for a message from home.
use Rattle.std.specs.Prelude.{ℕ, List, Bool, true, false}
use Rattle.std.specs.List.{sum_by}
use Rattle.msi_cache.specs.Table.{is_transient}
use Rattle.msi_cache.specs.declared.line.Line.{Line}

-- 1 for what is so
abbrev pub one_if : Bool → ℕ
one_if true = 1
one_if false = 0

-- how many of the lines wait
unfoldable pub how_many_wait : {R : Type 0} → List (Line R) → ℕ
how_many_wait lines = sum_by (λ line. one_if (is_transient line.state)) lines
