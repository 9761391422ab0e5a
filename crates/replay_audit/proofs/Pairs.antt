-- Accesses and conflict pairs of lists that were put together.
use Rattle.std.proofs.Common.{inl, inr, ◌≡◌, ◌⊎◌, List, [], ◌∷◌, ◌++◌, sym, refl, ap, subst}
use Rattle.rtr_types.specs.declared.instr.Instr.{Instr}
use Rattle.rtr_types.specs.declared.access.Access.{Access}
use Rattle.clock_core.specs.Order.{Within}
use Rattle.conflict_edge.specs.Conflicts.{Conflicts, ConflictPair, StandsIn}
use Rattle.conflict_edge.proofs.AccessPlaces.{stands_left, stands_right, stands_which}

-- each access of the one list stands in the other
abbrev pub Parts : List Access → List Access → Type 0
Parts xs ys = (a : Access) → StandsIn xs a → StandsIn ys a

pub parts_after : (front xs ys : List Access) → Parts xs ys → Parts (front ++ xs) (front ++ ys)
parts_after [] xs ys h a s = h a s
parts_after (b ∷ front) xs ys h a (inl e) = inl e
parts_after (b ∷ front) xs ys h a (inr s) = inr (parts_after front xs ys h a s)

pub pairs_after : (front xs ys : List Access) → Parts xs ys → Within (ConflictPair xs) (ConflictPair ys) →
    Within (ConflictPair (front ++ xs)) (ConflictPair (front ++ ys))
pairs_after [] xs ys p h x y q = h x y q
pairs_after (b ∷ front) xs ys p h x y (inl q) = inl (q.0, q.1, parts_after front xs ys p q.1 q.2, q.3, q.4)
pairs_after (b ∷ front) xs ys p h x y (inr q) = inr (pairs_after front xs ys p h x y q)

pub pairs_right : (front xs : List Access) → Within (ConflictPair xs) (ConflictPair (front ++ xs))
pairs_right [] xs x y p = p
pairs_right (a ∷ front) xs x y p = inr (pairs_right front xs x y p)

pub pairs_left : (xs ys : List Access) → Within (ConflictPair xs) (ConflictPair (xs ++ ys))
pairs_left [] ys x y p = absurd p
pairs_left (a ∷ xs) ys x y (inl p) = inl (p.0, p.1, stands_left xs ys p.1 p.2, p.3, p.4)
pairs_left (a ∷ xs) ys x y (inr p) = inr (pairs_left xs ys x y p)

-- one of the first list and one of the second, in conflict
pub pairs_across : (xs ys : List Access) (a b : Access) → StandsIn xs a → StandsIn ys b → Conflicts a b →
    ConflictPair (xs ++ ys) a.at b.at
pairs_across [] ys a b s t k = absurd s
pairs_across (x ∷ xs) ys a b (inl e) t k =
    inl (ap (λ (z : Access). z.at) e, b, stands_right xs ys b t, refl, subst (λ (z : Access). Conflicts z b) (sym e) k)
pairs_across (x ∷ xs) ys a b (inr s) t k = inr (pairs_across xs ys a b s t k)

pub parts_swap : (one two rest : List Access) → Parts (two ++ (one ++ rest)) (one ++ (two ++ rest))
parts_swap one two rest a s = by (stands_which two (one ++ rest) a s)
  where
    by : StandsIn two a ⊎ StandsIn (one ++ rest) a → StandsIn (one ++ (two ++ rest)) a
    by (inl t) = stands_right one (two ++ rest) a (stands_left two rest a t)
    by (inr t) = parts_after one rest (two ++ rest) (stands_right two rest) a t

-- a pair is within the one list, within the other, or across
pub data Apart (xs ys : List Access) (x y : Instr) : Type 0 where
  both_left : ConflictPair xs x y → Apart xs ys x y
  both_right : ConflictPair ys x y → Apart xs ys x y
  across : (a b : Access) → StandsIn xs a → StandsIn ys b → a.at ≡ x → b.at ≡ y → Conflicts a b → Apart xs ys x y

pub pairs_which : (xs ys : List Access) (x y : Instr) → ConflictPair (xs ++ ys) x y → Apart xs ys x y
pairs_which [] ys x y p = both_right p
pairs_which (a ∷ xs) ys x y (inl p) = by (stands_which xs ys p.1 p.2)
  where
    by : StandsIn xs p.1 ⊎ StandsIn ys p.1 → Apart (a ∷ xs) ys x y
    by (inl s) = both_left (inl (p.0, p.1, s, p.3, p.4))
    by (inr s) = across a p.1 (inl refl) s p.0 p.3 p.4
pairs_which (a ∷ xs) ys x y (inr p) = by (pairs_which xs ys x y p)
  where
    by : Apart xs ys x y → Apart (a ∷ xs) ys x y
    by (both_left q) = both_left (inr q)
    by (both_right q) = both_right q
    by (across b c s t e f k) = across b c (inr s) t e f k

pub pairs_across_at : (xs ys : List Access) (a b : Access) (x y : Instr) → StandsIn xs a → StandsIn ys b → a.at ≡ x →
    b.at ≡ y → Conflicts a b →
    ConflictPair (xs ++ ys) x y
pairs_across_at xs ys a b x y s t e f k = subst (λ (z : Instr). ConflictPair (xs ++ ys) z y) e
    (subst (λ (z : Instr). ConflictPair (xs ++ ys) a.at z) f (pairs_across xs ys a b s t k))

-- lists that don't conflict change places
pub pairs_swap : (one two rest : List Access) → ((a b : Access) → StandsIn one a → StandsIn two b → Conflicts b a → ⊥) →
    Within (ConflictPair (two ++ (one ++ rest))) (ConflictPair (one ++ (two ++ rest)))
pairs_swap one two rest free x y p = first (pairs_which two (one ++ rest) x y p)
  where
    second : Apart one rest x y → ConflictPair (one ++ (two ++ rest)) x y
    second (both_left q) = pairs_left one (two ++ rest) x y q
    second (both_right q) = pairs_right one (two ++ rest) x y (pairs_right two rest x y q)
    second (across a b s t e f k) = pairs_across_at one (two ++ rest) a b x y s (stands_right two rest b t) e f k

    crossing : (a b : Access) → StandsIn two a → StandsIn one b ⊎ StandsIn rest b → a.at ≡ x → b.at ≡ y →
        Conflicts a b →
        ConflictPair (one ++ (two ++ rest)) x y
    crossing a b s (inl t) e f k = absurd (free b a t s k)
    crossing a b s (inr t) e f k = pairs_right one (two ++ rest) x y (pairs_across_at two rest a b x y s t e f k)

    first : Apart two (one ++ rest) x y → ConflictPair (one ++ (two ++ rest)) x y
    first (both_left q) = pairs_right one (two ++ rest) x y (pairs_left two rest x y q)
    first (both_right q) = second (pairs_which one rest x y q)
    first (across a b s t e f k) = crossing a b s (stands_which one rest b t) e f k

-- ---- two in conflict
