-- A list of accesses and the same list with the newest first.
use Rattle.std.proofs.lemmas.List.{reverse-append}
use Rattle.std.proofs.lemmas.Grind.{reverse_onto}
use Rattle.std.proofs.Common.{◌≡◌, ◌<◌, ◌≤◌, ◌⊎◌, List, [], ◌∷◌, reverse, ◌++◌, refl, sym, ◌∙◌, ap, subst, inl, inr}
use Rattle.clock_core.specs.Order.{Within}
use Rattle.conflict_edge.proofs.History.{Ends, Pair, Rising, ends}
use Rattle.conflict_edge.specs.Conflicts.{Conflicts, StandsIn, ConflictPair, CountsRise}
use Rattle.rtr_types.specs.declared.access.Access.{Access}
use Rattle.rtr_types.specs.declared.instr.Instr.{Instr}

pub reverse-cons : (a : Access) (list : List Access) → reverse (a ∷ list) ≡ reverse list ++ (a ∷ [])
reverse-cons a list = reverse_onto list a []

pub stands_front : (g : List Access) (a b : Access) → StandsIn g b → StandsIn (g ++ (a ∷ [])) b
stands_front [] a b s = absurd s
stands_front (c ∷ g) a b (inl e) = inl e
stands_front (c ∷ g) a b (inr s) = inr (stands_front g a b s)

pub stands_last : (g : List Access) (a : Access) → StandsIn (g ++ (a ∷ [])) a
stands_last [] a = inl refl
stands_last (c ∷ g) a = inr (stands_last g a)

stands_cases : (g : List Access) (a b : Access) → StandsIn (g ++ (a ∷ [])) b → StandsIn g b ⊎ (a ≡ b)
stands_cases [] a b (inl e) = inr e
stands_cases [] a b (inr s) = absurd s
stands_cases (c ∷ g) a b (inl e) = inl (inl e)
stands_cases (c ∷ g) a b (inr s) = elim (stands_cases g a b s) [
  | inl t ↦ inl (inr t)
  | inr e ↦ inr e
]

-- the same accesses stand in both lists
pub stands_back : (list : List Access) (b : Access) → StandsIn (reverse list) b → StandsIn list b
stands_back [] b s = s
stands_back (a ∷ list) b s = on (stands_back list b) (stands_cases (reverse list) a b
    (subst (λ (g : List Access). StandsIn g b) (reverse-cons a list) s))
  where
    on : (StandsIn (reverse list) b → StandsIn list b) → StandsIn (reverse list) b ⊎ (a ≡ b) → StandsIn (a ∷ list) b
    on back (inl t) = inr (back t)
    on back (inr e) = inl e

pub stands_forth : (list : List Access) (b : Access) → StandsIn list b → StandsIn (reverse list) b
stands_forth [] b s = s
stands_forth (a ∷ list) b (inl e) =
    subst (λ (g : List Access). StandsIn g b) (sym (reverse-cons a list))
    (subst (λ (c : Access). StandsIn (reverse list ++ (a ∷ [])) c) e (stands_last (reverse list) a))
stands_forth (a ∷ list) b (inr s) =
    subst (λ (g : List Access). StandsIn g b) (sym (reverse-cons a list)) (stands_front (reverse list) a b
    (stands_forth list b s))

-- a pair that the oldest access adds
abbrev FromOldest : List Access → Access → Instr → Instr → Type 0
FromOldest g a x y = (a.at ≡ x) × (b : Access) × StandsIn g b × (b.at ≡ y) × Conflicts a b

pair_front : (g : List Access) (a : Access) (x y : Instr) → Pair g x y → Pair (g ++ (a ∷ [])) x y
pair_front [] a x y p = absurd p
pair_front (c ∷ g) a x y (inl p) = inl (p.0, (p.1.0, stands_front g a p.1.0 p.1.1, p.1.2, p.1.3))
pair_front (c ∷ g) a x y (inr p) = inr (pair_front g a x y p)

pair_oldest : (g : List Access) (a : Access) (x y : Instr) → FromOldest g a x y → Pair (g ++ (a ∷ [])) x y
pair_oldest [] a x y p = absurd p.2
pair_oldest (c ∷ g) a x y p = by (pair_oldest g a x y) p.0 p.1 p.2 p.3 p.4
  where
    by : (FromOldest g a x y → Pair (g ++ (a ∷ [])) x y) → a.at ≡ x → (b : Access) → StandsIn (c ∷ g) b → b.at ≡ y →
        Conflicts a b →
        Pair (c ∷ g ++ (a ∷ [])) x y
    by rest q b (inl e) r k = inl (
      ap (λ (d : Access). d.at) e
          ∙ r,
      (a, stands_last g a, q, subst (λ (d : Access). Conflicts a d) (sym e) k),
    )
    by rest q b (inr s) r k = inr (rest (q, b, s, r, k))

pair_cases : (g : List Access) (a : Access) (x y : Instr) → Pair (g ++ (a ∷ [])) x y → Pair g x y ⊎ FromOldest g a x y
pair_cases [] a x y (inl p) = absurd p.1.1
pair_cases [] a x y (inr p) = absurd p
pair_cases (c ∷ g) a x y (inl p) = by p.0 p.1.0 (stands_cases g a p.1.0 p.1.1) p.1.2 p.1.3
  where
    by : c.at ≡ y → (b : Access) → StandsIn g b ⊎ (a ≡ b) → b.at ≡ x → Conflicts b c →
        Pair (c ∷ g) x y ⊎ FromOldest (c ∷ g) a x y
    by q b (inl s) r k = inl (inl (q, (b, s, r, k)))
    by q b (inr e) r k = inr (
      ap (λ (d : Access). d.at) e ∙ r,
      c,
      inl refl,
      q,
      subst (λ (d : Access). Conflicts d c)
          (sym e) k,
    )
pair_cases (c ∷ g) a x y (inr p) = on (pair_cases g a x y p)
  where
    on : Pair g x y ⊎ FromOldest g a x y → Pair (c ∷ g) x y ⊎ FromOldest (c ∷ g) a x y
    on (inl q) = inl (inr q)
    on (inr q) = inr (q.0, q.1, inr q.2, q.3, q.4)

-- and their conflict pairs are the same
pub pair_back : (list : List Access) → Within (Pair (reverse list)) (ConflictPair list)
pair_back [] x y p = p
pair_back (a ∷ list) x y p = on (pair_back list x y) (pair_cases (reverse list) a x y
    (subst (λ (g : List Access). Pair g x y) (reverse-cons a list) p))
  where
    on : (Pair (reverse list) x y → ConflictPair list x y) → Pair (reverse list) x y ⊎ FromOldest (reverse list) a x y →
        ConflictPair (a ∷ list) x y
    on back (inl q) = inr (back q)
    on back (inr q) = inl (q.0, q.1, stands_back list q.1 q.2, q.3, q.4)

pub pair_forth : (list : List Access) → Within (ConflictPair list) (Pair (reverse list))
pair_forth [] x y p = p
pair_forth (a ∷ list) x y (inl p) =
    subst (λ (g : List Access). Pair g x y) (sym (reverse-cons a list)) (pair_oldest (reverse list) a x y (
      p.0,
      p.1,
      stands_forth list p.1 p.2,
      p.3,
      p.4,
    ))
pair_forth (a ∷ list) x y (inr p) =
    subst (λ (g : List Access). Pair g x y) (sym (reverse-cons a list)) (pair_front (reverse list) a x y
    (pair_forth list x y p))

-- counts that rise in the list fall from the newest on
rising_oldest : (g : List Access) (a : Access) → 1 ≤ a.at.count → ((b : Access) → StandsIn g b → a.at.core ≡ b.at.core →
    a.at.count < b.at.count) → Rising g →
    Rising (g ++ (a ∷ []))
rising_oldest [] a pos before r = (pos, (λ b s e. absurd s), tt)
rising_oldest (c ∷ g) a pos before r = (r.0, newest, rising_oldest g a pos (λ b s e. before b (inr s) e) r.2)
  where
    by : (b : Access) → StandsIn g b ⊎ (a ≡ b) → b.at.core ≡ c.at.core → b.at.count < c.at.count
    by b (inl s) e = r.1 b s e
    by b (inr f) e = subst (λ (d : Access). d.at.count < c.at.count) f
        (before c (inl refl) (ap (λ (d : Access). d.at.core) f ∙ e))

    newest : (b : Access) → StandsIn (g ++ (a ∷ [])) b → b.at.core ≡ c.at.core → b.at.count < c.at.count
    newest b s e = by b (stands_cases g a b s) e

pub rising_back : (list : List Access) → CountsRise list → Rising (reverse list)
rising_back [] r = r
rising_back (a ∷ list) r =
    subst Rising (sym (reverse-cons a list)) (rising_oldest (reverse list) a r.0 (λ b s e. r.1 b (stands_back list b s)
    e) (rising_back list r.2))

pub reverse-next : (list : List Access) (a : Access) → reverse (list ++ (a ∷ [])) ≡ a ∷ reverse list
reverse-next list a = reverse-append list (a ∷ [])

-- the two accesses of a conflict pair of the list
pub list_ends : (list : List Access) (x y : Instr) → ConflictPair list x y → Ends list x y
list_ends list x y p =
    let e = ends (reverse list) x y (pair_forth list x y p) in
    record {
      first = e.first;
      second = e.second;
      first_stands = stands_back list e.first e.first_stands;
      second_stands = stands_back list e.second e.second_stands;
      first_at = e.first_at;
      second_at = e.second_at;
      conflict = e.conflict;
    }
