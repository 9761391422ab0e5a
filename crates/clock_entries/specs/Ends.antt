-- The ends of a log's edges, and what is kept of an instruction at the last one.
use Rattle.std.specs.Prelude.{ℕ, zero, suc, List, [], ◌∷◌, ◌++◌, length, slice_index, slice_index_or, Bool, false}
use Rattle.std.specs.Prelude.{◌||◌, if◌then◌else◌, IsTrue}
pub use Rattle.rtr_types.specs.Accesses.{is_same}
use Rattle.rtr_types.specs.declared.instr.Instr.{Instr}
use Rattle.rtr_types.specs.declared.instr.Edge.{Edge}

-- an instruction by its core and its count
abbrev pub instr : (core count : ℕ) → Instr
instr core count = record { core = core; count = count }

-- an edge begins or ends at x
abbrev pub is_end : List Edge → Instr → Bool
is_end [] x = false
is_end (e ∷ edges) x = (is_same e.from x || is_same e.to x) || is_end edges x

abbrev pub IsEnd : List Edge → Instr → Type 0
IsEnd edges x = IsTrue (is_end edges x)

-- the counts of core c, rising up to n, at which an edge begins or ends
unfoldable pub ends_to : List Edge → (c n : ℕ) → List ℕ
ends_to edges c zero = []
ends_to edges c (suc n) = if is_end edges (instr c (suc n)) then ends_to edges c n ++ suc n ∷ [] else ends_to edges c n

-- for each core, for each of its edge ends by rising count, a count of each core
abbrev pub Clocks : Type 0
Clocks = List (List (List ℕ))

-- the k-th entry of core c, counted from 1; there is none at 0
abbrev pub entry_at : Clocks → (c k : ℕ) → List ℕ
entry_at clocks c zero = []
entry_at clocks c (suc k) = slice_index_or (slice_index_or clocks c []) k []

-- the entry of y, or where no edge begins or ends at y the last entry of its core before y
abbrev pub last_entry : List Edge → Clocks → Instr → List ℕ
last_entry edges clocks y = entry_at clocks y.core (length (ends_to edges y.core y.count))

-- its count at place i, which is 0 where there is none
abbrev pub entry_of : List Edge → Clocks → Instr → ℕ → ℕ
entry_of edges clocks y i = slice_index (last_entry edges clocks y) i
