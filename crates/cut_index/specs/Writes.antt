-- The writes of each word, as they stand among accesses.
use Rattle.std.specs.Prelude.{◌≡◌, ℕ, ◌<◌, ◌≤◌, true, List, [], ◌∷◌, length, map, filter, slice_index_or, if◌then◌else◌}
use Rattle.rtr_types.specs.declared.access.Access.{Access}
use Rattle.rtr_types.specs.declared.cut.Cut.{Cut}
use Rattle.race_queries.specs.Queries.{is_held}
use Rattle.cut_index.specs.declared.writes.Write.{Write}
use Rattle.cut_index.specs.Left.{writes}

abbrev pub write_by : Access → Write
write_by access = record { at = access.at; left = access.after }

-- those of a word
abbrev pub writes_in : (word : ℕ) → List Access → List Write
writes_in word list = map write_by (filter (writes word) list)

-- for each of so many words those among these accesses
pub record AreWrites (words : ℕ) (accesses : List Access) (lists : List (List Write)) : Type 0 where
  pub all : length lists ≡ words
  pub each : (word : ℕ) → word < words → slice_index_or lists word [] ≡ writes_in word accesses

-- what those that the cut holds leave of a word that held this
abbrev pub left_behind : Cut → (held : ℕ) → List Write → ℕ
left_behind cut held [] = held
left_behind cut held (write ∷ rest) = left_behind cut (if is_held cut write.at then write.left else held) rest

-- the cut holds with one of them each before
abbrev pub HoldsFirst : Cut → List Write → Type 0
HoldsFirst cut list = (j k : ℕ) (d : Write) → j ≤ k → k < length list →
    is_held cut (slice_index_or list k d).at ≡ true → is_held cut (slice_index_or list j d).at ≡ true
