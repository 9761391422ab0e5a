-- The sizes of a store buffer that users see, as numbers. `sizes_law` ties the code's constants, which all definitions
-- cite, to these.
use Rattle.std.specs.Prelude.{ℕ}

-- the most accesses of a core that may be pending
abbrev pub pending_max : ℕ
pending_max = 16

-- the most of them that may be stores
abbrev pub stores_max : ℕ
stores_max = 4
