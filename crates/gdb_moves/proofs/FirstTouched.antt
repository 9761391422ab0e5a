-- The first of the points from a place on that an access touches.
use Rattle.std.proofs.Common.{◌≡◌, ℕ, ◌+◌, ◌<◌, ◌≤◌, Bool, true, false, cond, List, ◌∷◌, length, drop, get_or, sym}
use Rattle.std.proofs.Common.{ap, ◌∙◌, add-one}
use Rattle.std.specs.Prelude.{Some, None}
use Rattle.std.proofs.Math.Seq.{drop-cons}
use Rattle.std.proofs.lemmas.List.{drop_all}
use Rattle.rtr_types.specs.declared.access.Kind.{Kind}
use Rattle.gdb_moves.specs.declared.points.Point.{Point}
use Rattle.gdb_moves.specs.Points.{first_touched, touches}

-- what is left of a list from a place on
left : {A : Type 0} (xs : List A) (i : ℕ) (d : A) → i < length xs → drop i xs ≡ get_or xs i d ∷ drop (i + 1) xs
left xs i d inside = drop-cons xs i d inside ∙ ap (λ (k : ℕ). get_or xs i d ∷ drop k xs) (sym (add-one i))

touched_at : (points : List Point) (used : Kind × ℕ) (i : ℕ) (d : Point) → i < length points →
    first_touched (drop i points) used
    ≡ cond (touches used (get_or points i d)) (Some (get_or points i d)) (first_touched (drop (i + 1) points) used)
unfolding first_touched
touched_at points used i d inside = ap (λ (l : List Point). first_touched l used) (left points i d inside)

pub touched_here : (points : List Point) (used : Kind × ℕ) (i : ℕ) (d : Point) → i < length points →
    touches used (get_or points i d) ≡ true → first_touched (drop i points) used ≡ Some (get_or points i d)
touched_here points used i d inside so =
    touched_at points used i d inside
    ∙ ap (λ (b : Bool). cond b (Some (get_or points i d)) (first_touched (drop (i + 1) points) used)) so

pub touched_on : (points : List Point) (used : Kind × ℕ) (i : ℕ) (d : Point) → i < length points →
    touches used (get_or points i d) ≡ false →
    first_touched (drop i points) used ≡ first_touched (drop (i + 1) points) used
touched_on points used i d inside so =
    touched_at points used i d inside
    ∙ ap (λ (b : Bool). cond b (Some (get_or points i d)) (first_touched (drop (i + 1) points) used)) so

pub touched_nowhere : (points : List Point) (used : Kind × ℕ) (i : ℕ) → length points ≤ i →
    first_touched (drop i points) used ≡ None
unfolding first_touched
touched_nowhere points used i past = ap (λ (l : List Point). first_touched l used) (drop_all i points past)
