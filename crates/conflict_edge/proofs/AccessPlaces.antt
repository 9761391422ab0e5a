-- Accesses that stand in a list.
use Rattle.std.proofs.Common.{◌≡◌, ◌∙◌, refl, sym, ap, subst, ◌≤◌, ◌⊎◌, inl, inr, List, [], ◌∷◌, ◌++◌, arith}
use Rattle.rtr_types.specs.declared.access.Access.{Access}
use Rattle.rtr_types.specs.declared.instr.Instr.{Instr}
use Rattle.conflict_edge.specs.Conflicts.{ConflictPair, Conflicts, CountsRise, StandsIn}

pub positive : (list : List Access) (a : Access) → CountsRise list → StandsIn list a → 1 ≤ a.at.count
positive [] a rise stands = absurd stands
positive (b ∷ later) a rise (inl e) = subst (λ (x : Access). 1 ≤ x.at.count) e rise.0
positive (b ∷ later) a rise (inr s) = positive later a rise.2 s

-- two accesses of one instruction are one
pub one_access : (list : List Access) (a b : Access) → CountsRise list → StandsIn list a → StandsIn list b →
    a.at ≡ b.at → a ≡ b
one_access [] a b rise s t same = absurd s
one_access (c ∷ later) a b rise (inl e) (inl f) same = sym e ∙ f
one_access (c ∷ later) a b rise (inl e) (inr t) same =
    let is : c.at ≡ b.at = ap (λ (x : Access). x.at) e ∙ same in
    let lt = rise.1 b t (ap (λ (i : Instr). i.core) is) in
    let eq : c.at.count ≡ b.at.count = ap (λ (i : Instr). i.count) is in
    absurd (omega arith)
one_access (c ∷ later) a b rise (inr s) (inl f) same =
    let is : c.at ≡ a.at = ap (λ (x : Access). x.at) f ∙ sym same in
    let lt = rise.1 a s (ap (λ (i : Instr). i.core) is) in
    let eq : c.at.count ≡ a.at.count = ap (λ (i : Instr). i.count) is in
    absurd (omega arith)
one_access (c ∷ later) a b rise (inr s) (inr t) same = one_access later a b rise.2 s t same

pub turned_conflict : (a b : Access) → Conflicts a b → Conflicts b a
turned_conflict a b c = (λ same. c.0 (sym same), sym c.1, turned c.2)
  where
    turned : {A B : Type 0} → A ⊎ B → B ⊎ A
    turned (inl x) = inr x
    turned (inr x) = inl x

-- one of two accesses that conflict comes first
pub one_first : (list : List Access) (a b : Access) → StandsIn list a → StandsIn list b → Conflicts a b →
    ConflictPair list a.at b.at ⊎ ConflictPair list b.at a.at
one_first [] a b s t c = absurd s
one_first (d ∷ later) a b (inl e) (inl f) c = absurd (c.0 (ap (λ (x : Access). x.at.core) (sym e ∙ f)))
one_first (d ∷ later) a b (inl e) (inr t) c =
    inl (inl (ap (λ (x : Access). x.at) e, b, t, refl, subst (λ (x : Access). Conflicts x b) (sym e) c))
one_first (d ∷ later) a b (inr s) (inl f) c =
    inr (inl (
      ap (λ (x : Access). x.at) f,
      a,
      s,
      refl,
      subst (λ (x : Access). Conflicts x a) (sym f)
          (turned_conflict a b c),
    ))
one_first (d ∷ later) a b (inr s) (inr t) c = by (one_first later a b s t c)
  where
    by : ConflictPair later a.at b.at ⊎ ConflictPair later b.at a.at → ConflictPair (d ∷ later) a.at b.at ⊎ ConflictPair
        (d ∷ later) b.at a.at
    by (inl p) = inl (inr p)
    by (inr p) = inr (inr p)

-- ---- lists that were put together

module _ {X : Type 0} where
  pub stands_left : (xs ys : List X) (a : X) → StandsIn xs a → StandsIn (xs ++ ys) a
  stands_left [] ys a s = absurd s
  stands_left (x ∷ xs) ys a (inl same) = inl same
  stands_left (x ∷ xs) ys a (inr s) = inr (stands_left xs ys a s)

  pub stands_right : (xs ys : List X) (a : X) → StandsIn ys a → StandsIn (xs ++ ys) a
  stands_right [] ys a s = s
  stands_right (x ∷ xs) ys a s = inr (stands_right xs ys a s)

  pub stands_which : (xs ys : List X) (a : X) → StandsIn (xs ++ ys) a → StandsIn xs a ⊎ StandsIn ys a
  stands_which [] ys a s = inr s
  stands_which (x ∷ xs) ys a (inl same) = inl (inl same)
  stands_which (x ∷ xs) ys a (inr s) = elim (stands_which xs ys a s) [
    | inl there ↦ inl (inr there)
    | inr there ↦ inr there
  ]
