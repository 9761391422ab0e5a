-- Lists and their room.
use Rattle.std.specs.Prelude.{◌≢◌, ℕ, ◌-◌, ◌<◌, Bool, IsTrue, false, List, [], ◌∷◌, ◌++◌, length, map}
use Rattle.std.specs.Prelude.{slice_index_or, slice_set}
use Rattle.std.specs.List.{list_all}

-- one list's items, and whether there is room for one more
pub record Listed (T : Type 0) : Type 0 where
  pub items : List T
  pub ready : Bool

module _ {T : Type 0} where
  abbrev pub items_in : List (Listed T) → List (List T)
  items_in all = map (λ l. l.items) all

  -- the items of the list at a place
  abbrev pub items_at : List (Listed T) → (place : ℕ) → List T
  items_at all place = slice_index_or (items_in all) place []

  -- the list at a place has room for one more item
  abbrev pub is_ready_at : List (Listed T) → (place : ℕ) → Bool
  is_ready_at all place = slice_index_or (map (λ l. l.ready) all) place false

  -- each list has
  abbrev pub are_ready : List (Listed T) → Bool
  are_ready all = list_all (λ l. l.ready) all

  -- each list but the one at this place has, if it is one of them
  pub record OthersReady (all : List (Listed T)) (full : ℕ) : Type 0 where
    pub each : (place : ℕ) → full < length all → place < length all → place ≢ full → IsTrue (is_ready_at all place)

  -- the list at this place has one more item at its end
  abbrev pub with_item : List (List T) → (place : ℕ) → T → List (List T)
  with_item lists place item = slice_set lists place (slice_index_or lists place [] ++ item ∷ [])

  -- the list at this place has this item as its newest
  abbrev pub with_newest : List (List T) → (place : ℕ) → T → List (List T)
  with_newest lists place item = let list = slice_index_or lists place [] in
      slice_set lists place (slice_set list (length list - 1) item)
