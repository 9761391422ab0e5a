-- Rule: conflict pairs: ConflictPair
-- Conflict pairs of a list of accesses, the oldest first.
use Rattle.std.specs.Prelude.{◌≡◌, ◌≢◌, ◌<◌, ◌≤◌, ◌⊎◌, List, [], ◌∷◌, ⊤, Bool, true, not, ◌&&◌, ◌||◌, nat_eq, nat_lt}
use Rattle.std.specs.Prelude.{nat_le, IsTrue, length}
use Rattle.rtr_types.specs.Accesses.{is_write}
use Rattle.rtr_types.specs.declared.access.Access.{Access}
use Rattle.rtr_types.specs.declared.TheConstants.{CORES_MAX}
use Rattle.clock_core.specs.Order.{Relation}
use Rattle.conflict_edge.specs.declared.TheConstants.{ACCESSES_MAX}

-- different cores, one word, and one of them writes
abbrev pub Conflicts : Access → Access → Type 0
Conflicts a b =
    (a.at.core ≢ b.at.core) × (a.word ≡ b.word) × (IsTrue (is_write a.kind) ⊎ IsTrue (is_write b.kind))

-- the same as a test, which `conflicts` ties to it
abbrev pub do_conflict : Access → Access → Bool
do_conflict a b =
    not (nat_eq a.at.core b.at.core) && (nat_eq a.word b.word && (is_write a.kind || is_write b.kind))

-- a stands in the list
abbrev pub StandsIn : {X : Type 0} → List X → X → Type 0
StandsIn [] a = ⊥
StandsIn (b ∷ list) a = (b ≡ a) ⊎ StandsIn list a

-- x is the node of an access, y that of a later one, and these conflict
abbrev pub ConflictPair : List Access → Relation
ConflictPair [] x y = ⊥
ConflictPair (a ∷ later) x y =
    ((a.at ≡ x) × (b : Access) × StandsIn later b × (b.at ≡ y) × Conflicts a b) ⊎ ConflictPair later x y

-- counts begin at 1 and rise for each core
abbrev pub CountsRise : List Access → Type 0
CountsRise [] = ⊤
CountsRise (a ∷ later) =
    (1 ≤ a.at.count)
    × ((b : Access) → StandsIn later b → a.at.core ≡ b.at.core → a.at.count < b.at.count)
    × CountsRise later

-- each core is in range
abbrev pub AreCores : List Access → Type 0
AreCores list = (a : Access) → StandsIn list a → a.at.core < CORES_MAX

-- each of these that is of a's core has a greater count
abbrev pub are_after : Access → List Access → Bool
are_after a [] = true
are_after a (b ∷ later) = (not (nat_eq a.at.core b.at.core) || nat_lt a.at.count b.at.count) && are_after a later

-- counts begin at 1 and rise for each core, and each core is in range
abbrev pub do_counts_rise : List Access → Bool
do_counts_rise [] = true
do_counts_rise (a ∷ later) =
    (nat_le 1 a.at.count && nat_lt a.at.core CORES_MAX) && (are_after a later && do_counts_rise later)

-- what the plain reduction takes: no more accesses than it may have, whose counts rise
abbrev pub is_short_history : List Access → Bool
is_short_history list = nat_le (length list) ACCESSES_MAX && do_counts_rise list
