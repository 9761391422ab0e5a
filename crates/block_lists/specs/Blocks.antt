-- A list in blocks, of which only those that were written are kept. Block number 0 of those that are kept stands for all
-- that nobody wrote.
use Rattle.std.specs.Prelude.{◌≡◌, ℕ, ◌+◌, ◌*◌, ◌/◌, ◌%◌, ◌<◌, ◌≤◌, List, length, map, slice_index, slice_index_or}
use Rattle.std.specs.List.{range_with_len}
use Rattle.block_lists.specs.declared.block_list.TheConstants.{BLOCK}

-- where a place's value lies among those that are kept
abbrev pub spot_of : (table : List ℕ) → (place : ℕ) → ℕ
spot_of table place = slice_index table (place / BLOCK) * BLOCK + place % BLOCK

module _ {T : Type 0} where
  -- the value at a place
  abbrev pub value_at : (first : T) → (table : List ℕ) → (kept : List T) → (place : ℕ) → T
  value_at first table kept place = slice_index_or kept (spot_of table place) first

  -- all values
  abbrev pub values_in : (first : T) → (table : List ℕ) → (kept : List T) → (len : ℕ) → List T
  values_in first table kept len = map (value_at first table kept) (range_with_len 0 len)

  -- the table has each place's block, and each of its blocks is kept; the one that nobody wrote has the first value
  -- throughout; and no two blocks of the table share another
  pub record Fits (first : T) (table : List ℕ) (kept : List T) (len : ℕ) : Type 0 where
    pub wide : len ≤ length table * BLOCK
    pub whole : length kept % BLOCK ≡ 0
    pub inside : (block : ℕ) → slice_index table block * BLOCK + BLOCK ≤ length kept
    pub unwritten : (spot : ℕ) → spot < BLOCK → slice_index_or kept spot first ≡ first
    pub apart : (block other : ℕ) → 1 ≤ slice_index table block → slice_index table block ≡ slice_index table other →
        block ≡ other

  -- one of the table's blocks is kept as its own, and no list of these blocks has changed
  pub record IsOwned (table : List ℕ) (kept : List T) (block : ℕ) (table_now : List ℕ) (kept_now : List T) : Type 0 where
    pub own : 1 ≤ slice_index table_now block
    pub fits : (first : T) (len : ℕ) → Fits first table kept len → Fits first table_now kept_now len
    pub same : (first : T) (len : ℕ) → Fits first table kept len →
        values_in first table_now kept_now len ≡ values_in first table kept len
