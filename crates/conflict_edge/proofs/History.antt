-- A list of accesses, the newest first.
use Rattle.std.proofs.Common.{◌≡◌, ◌≢◌, ◌<◌, ◌≤◌, ◌⊎◌, List, [], ◌∷◌, refl, sym, ◌∙◌, ap, subst, inl, inr, arith, true}
use Rattle.std.proofs.Common.{false, Bool, nat_eq, ◌&&◌, ◌||◌, not}
use Rattle.std.proofs.lemmas.Bool.{and_parts, or_cases}
use Rattle.std.specs.Prelude.{⊤}
use Rattle.std.proofs.lemmas.Bool.Decides.{nat_tests}
use Rattle.clock_core.specs.Order.{Relation}
use Rattle.conflict_edge.specs.Clocks.{reaches}
use Rattle.conflict_edge.specs.Conflicts.{Conflicts, do_conflict, StandsIn}
use Rattle.rtr_types.specs.Accesses.{is_write}
use Rattle.rtr_types.specs.declared.access.Access.{Access}
use Rattle.rtr_types.specs.declared.instr.Instr.{Instr}

-- an access of h that conflicts with a is at x
abbrev pub Source : List Access → Access → Instr → Type 0
Source h a x = (b : Access) × StandsIn h b × (b.at ≡ x) × Conflicts b a

-- a conflict pair, over a list with the newest first
abbrev pub Pair : List Access → Relation
Pair [] x y = ⊥
Pair (a ∷ h) x y = ((a.at ≡ y) × Source h a x) ⊎ Pair h x y

abbrev pub Rising : List Access → Type 0
Rising [] = ⊤
Rising (a ∷ h) = (1 ≤ a.at.count) × ((b : Access) → StandsIn h b → b.at.core ≡ a.at.core →
    b.at.count < a.at.count) × Rising h

pub reaches-true : (a : Access) (y : Instr) → reaches a y ≡ true → (a.at.core ≡ y.core) × (a.at.count ≤ y.count)
reaches-true a y e = grind (arith, nat_tests)

pub reaches-false : (a : Access) (y : Instr) → reaches a y ≡ false → a.at.core ≡ y.core → y.count < a.at.count
reaches-false a y e p = grind (arith, nat_tests)

pub reaches-yes : (a : Access) (y : Instr) → a.at.core ≡ y.core → a.at.count ≤ y.count → reaches a y ≡ true
reaches-yes a y p q = grind (arith, nat_tests)

pub reaches-no : (a : Access) (y : Instr) → (a.at.core ≡ y.core → y.count < a.at.count) → reaches a y ≡ false
reaches-no a y f = grind (arith, nat_tests)

-- two accesses in conflict, one of each list
pub record Meets (xs ys : List Access) (x y : Instr) : Type 0 where
  pub first : Access
  pub second : Access
  pub first_stands : StandsIn xs first
  pub second_stands : StandsIn ys second
  pub first_at : first.at ≡ x
  pub second_at : second.at ≡ y
  pub conflict : Conflicts first second

-- the ends of a pair
abbrev pub Ends : List Access → (x y : Instr) → Type 0
Ends h x y = Meets h h x y

-- they are in a longer list too
pub ends_more : (a : Access) (h : List Access) (x y : Instr) → Ends h x y → Ends (a ∷ h) x y
ends_more a h x y e =
    record {
      first = e.first;
      second = e.second;
      first_stands = inr e.first_stands;
      second_stands = inr e.second_stands;
      first_at = e.first_at;
      second_at = e.second_at;
      conflict = e.conflict;
    }

pub ends : (h : List Access) (x y : Instr) → Pair h x y → Ends h x y
ends [] x y p = absurd p
ends (a ∷ h) x y (inl p) =
    record {
      first = p.1.0;
      second = a;
      first_stands = inr p.1.1;
      second_stands = inl refl;
      first_at =
          p.1.2;
      second_at = p.0;
      conflict = p.1.3;
    }
ends (a ∷ h) x y (inr p) = ends_more a h x y (ends h x y p)

-- the newest access isn't at or before an instruction of an older one
pub older : (a : Access) (h : List Access) (b : Access) (y : Instr) → Rising (a ∷ h) → StandsIn h b → b.at ≡ y →
    reaches a y ≡ false
older a h b y rising stands e = subst (λ (z : Instr). reaches a z ≡ false) e
    (reaches-no a b.at (λ (p : a.at.core ≡ b.at.core). rising.1 b stands (sym p)))

pub pair_cores : (h : List Access) (x y : Instr) → Pair h x y → x.core ≢ y.core
pair_cores h x y p =
    let e = ends h x y p in
    λ same. e.conflict.0 (ap (λ (z : Instr). z.core) e.first_at ∙ same ∙ sym (ap (λ (z : Instr). z.core) e.second_at))

pub do_conflict-true : (a b : Access) → do_conflict a b ≡ true → Conflicts a b
do_conflict-true a b e =
    let p = and_parts (not (nat_eq a.at.core b.at.core)) (nat_eq a.word b.word && (is_write a.kind || is_write b.kind))
    e in
    let q = and_parts (nat_eq a.word b.word) (is_write a.kind || is_write b.kind) p.1 in
    let cores : not (nat_eq a.at.core b.at.core) ≡ true = p.0 in
    let words : nat_eq a.word b.word ≡ true = q.0 in
    (grind (arith, nat_tests), grind (arith, nat_tests), or_cases (is_write a.kind) (is_write b.kind) q.1)

or_from : (a b : Bool) → (a ≡ true) ⊎ (b ≡ true) → a || b ≡ true
or_from true b _ = refl
or_from false b (inl e) = absurd cc
or_from false b (inr e) = e

pub do_conflict-yes : (a b : Access) → Conflicts a b → do_conflict a b ≡ true
do_conflict-yes a b c =
    let cores : a.at.core ≢ b.at.core = c.0 in
    let words : a.word ≡ b.word = c.1 in
    let one : not (nat_eq a.at.core b.at.core) ≡ true = grind (arith, nat_tests) in
    let two : nat_eq a.word b.word ≡ true = grind (arith, nat_tests) in
    let three : is_write a.kind || is_write b.kind ≡ true = or_from (is_write a.kind) (is_write b.kind) c.2 in
    rw (one, two, three) refl
