-- Rule: what a core's loads see of its own pending stores: left_by, forwarded
-- The pending accesses of a core, oldest first, and what its own loads see of them.
use Rattle.std.specs.Prelude.{ℕ, ◌==◌, Bool, true, false, List, [], ◌∷◌, length, if◌then◌else◌}
use Rattle.std.specs.List.{filter}
use Rattle.rv_core.specs.StoreMask.{masked}
use Rattle.tso_state.specs.declared.pending.Pending.{Pending}
use Rattle.tso_state.specs.declared.pending.Pending.TheVariants.{Load as PendingLoad, Store as PendingStore}

-- the count of its instruction in its core
abbrev pub count_of : Pending → ℕ
count_of (PendingLoad count word value) = count
count_of (PendingStore count word mask bits) = count

-- the index of its word
abbrev pub word_of : Pending → ℕ
word_of (PendingLoad count word value) = word
word_of (PendingStore count word mask bits) = word

-- the access is a store
abbrev pub is_store : Pending → Bool
is_store (PendingLoad count word value) = false
is_store (PendingStore count word mask bits) = true

-- the value that a load got; a store gets none
abbrev pub value_of : Pending → ℕ
value_of (PendingLoad count word value) = value
value_of (PendingStore count word mask bits) = 0

-- what the access leaves of its word: a store replaces the bits of its lanes
abbrev pub left_by : Pending → (old : ℕ) → ℕ
left_by (PendingLoad count word value) old = old
left_by (PendingStore count word mask bits) old = masked old mask bits

-- how many of the accesses are stores
abbrev pub stores_in : List Pending → ℕ
stores_in queue = length (filter is_store queue)

-- a word as its core sees it: its lanes are replaced by those of the core's own pending stores to it, oldest first
abbrev pub forwarded : List Pending → (word old : ℕ) → ℕ
forwarded [] word old = old
forwarded (p ∷ rest) word old = forwarded rest word (if word_of p == word then left_by p old else old)
