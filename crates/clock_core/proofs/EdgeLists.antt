-- Edges as elements of a list, and as pairs of instructions.
use Rattle.std.proofs.Common.{◌≡◌, ◌∙◌, ap, ℕ, zero, suc, ◌<◌, List, [], ◌∷◌, length, inl, inr, arith, ◌⊎◌, ◌++◌}
use Rattle.std.proofs.Common.{get_or, refl}
use Rattle.std.specs.Prelude.{slice_index_or}
use Rattle.std.specs.List.{Contains}
use Rattle.rtr_types.specs.declared.instr.Edge.{Edge}
use Rattle.rtr_types.specs.declared.instr.Instr.{Instr}
use Rattle.clock_core.specs.Order.{Among, AmongLaw}

abbrev edge : Instr → Instr → Edge
edge x y = record { from = x; to = y }

-- an edge among these stands in the list
pub among_contains : (edges : List Edge) (x y : Instr) → Among edges x y → Contains edges (record { from = x; to = y })
among_contains [] x y among = absurd among
among_contains (e ∷ edges) x y (inl is) = (0, omega arith, ap (λ (i : Instr). edge i e.to) is.0 ∙ ap (edge x) is.1)
among_contains (e ∷ edges) x y (inr among) = let there = among_contains edges x y among in
    (suc there.0, omega (arith, there.1), there.2)

among_at : (edges : List Edge) (x y : Instr) (k : ℕ) → k < length edges → slice_index_or edges k (edge x y) ≡ edge x y
    → Among edges x y
among_at [] x y k lt is = absurd (omega (arith, lt))
among_at (e ∷ edges) x y zero lt is = inl (ap (λ (d : Edge). d.from) is, ap (λ (d : Edge). d.to) is)
among_at (e ∷ edges) x y (suc k) lt is = inr (among_at edges x y k (omega (arith, lt)) is)

-- an edge that the list contains is among these
pub contains_among : (edges : List Edge) (x y : Instr) → Contains edges (record { from = x; to = y }) → Among edges x y
contains_among edges x y has = among_at edges x y has.0 has.1 has.2

pub among_law : AmongLaw
among_law edges x y = (among_contains edges x y, contains_among edges x y)

-- ---- edges of two lists, and at a place

pub among_left : (xs ys : List Edge) (x y : Instr) → Among xs x y → Among (xs ++ ys) x y
among_left [] ys x y a = absurd a
among_left (e ∷ xs) ys x y (inl s) = inl s
among_left (e ∷ xs) ys x y (inr a) = inr (among_left xs ys x y a)

pub among_right : (xs ys : List Edge) (x y : Instr) → Among ys x y → Among (xs ++ ys) x y
among_right [] ys x y a = a
among_right (e ∷ xs) ys x y a = inr (among_right xs ys x y a)

pub among_cases : (xs ys : List Edge) (x y : Instr) → Among (xs ++ ys) x y → Among xs x y ⊎ Among ys x y
among_cases [] ys x y a = inr a
among_cases (e ∷ xs) ys x y (inl s) = inl (inl s)
among_cases (e ∷ xs) ys x y (inr a) = elim (among_cases xs ys x y a) [
  | inl b ↦ inl (inr b)
  | inr b ↦ inr b
]

pub place_among : (edges : List Edge) (i : ℕ) (d : Edge) → i < length edges →
    Among edges (get_or edges i d).from (get_or edges i d).to
place_among [] i d lt = absurd (omega arith)
place_among (e ∷ edges) zero d lt = inl (refl, refl)
place_among (e ∷ edges) (suc i) d lt = inr (place_among edges i d (omega arith))
