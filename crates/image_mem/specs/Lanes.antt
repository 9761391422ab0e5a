-- Parts of a word. A word has four lanes, one byte each, and lane 0 is the lowest byte.
use Rattle.std.specs.Prelude.{ℕ, ◌+◌, ◌-◌, Bool, [], ◌∷◌, ◌&&◌, ◌||◌, ◌==◌, nat_le, nat_lt, if◌then◌else◌}
use Rattle.std.specs.Int.{byte_at, from_le_bytes, w32}

-- a byte, a halfword or a word
abbrev pub is_access_size : ℕ → Bool
is_access_size size = size == 1 || size == 2 || size == 4

-- the lane lies among the `size` lanes from `first`
abbrev pub is_lane_of : (first size lane : ℕ) → Bool
is_lane_of first size lane = nat_le first lane && nat_lt lane (first + size)

-- the byte of a lane after the `size` lanes from `first` took the low bytes of a value
abbrev pub merged_lane : (old value first size lane : ℕ) → ℕ
merged_lane old value first size lane =
    if is_lane_of first size lane then byte_at (lane - first) value else byte_at lane old

-- the word whose `size` lanes from `first` are the low bytes of a value, and whose other lanes are the old word's
unfoldable pub merged : (old value first size : ℕ) → ℕ
merged old value first size = from_le_bytes w32 (lane 0 ∷ lane 1 ∷ lane 2 ∷ lane 3 ∷ [])
  where
    lane : ℕ → ℕ
    lane k = merged_lane old value first size k
