-- What entries show of a sufficient log.
use Rattle.std.proofs.Common.{inl, inr, ◌≡◌, ◌≢◌, ◌⊎◌, List, [], ◌∷◌, refl, sym, subst, true, false}
use Rattle.std.proofs.lemmas.Bool.{cases_Bool}
use Rattle.rtr_types.specs.declared.instr.Instr.{Instr}
use Rattle.rtr_types.specs.declared.access.Access.{Access}
use Rattle.clock_core.specs.Order.{Among}
use Rattle.conflict_edge.specs.Conflicts.{Conflicts, do_conflict, ConflictPair, StandsIn}
use Rattle.conflict_edge.specs.Least.{IsLeast}
use Rattle.conflict_edge.proofs.History.{do_conflict-true, do_conflict-yes}
use Rattle.conflict_edge.proofs.Independent.{cases_instr}
use Rattle.conflict_edge.proofs.TwoForms.{independent_law}
use Rattle.clock_entries.specs.Entries.{IsAmiss}
use Rattle.clock_entries.specs.Laws.{GoodShowsLeastLaw, LeastIsNeededLaw, AmissLaw}
use Rattle.clock_entries.proofs.Exact.{needed, needed_or_known, implied_law}

pub good_shows_least : GoodShowsLeastLaw
good_shows_least list edges entry rise log last conflict suffices good each =
    (independent_law list edges rise conflict suffices).1
    (λ x y a p. needed edges entry x y log last good a (each x y a) p)

pub least_is_needed : LeastIsNeededLaw
least_is_needed list edges entry rise log acyclic last exact l x y a =
    (needed_or_known edges entry x y).1 (λ k. (independent_law list edges rise l.conflict l.suffices).0 l x y a
    ((implied_law edges entry x y log acyclic last exact a).1 k))

-- a later access at y conflicts with a
abbrev HasLater : List Access → Access → Instr → Type 0
HasLater later a y = (b : Access) × StandsIn later b × (b.at ≡ y) × Conflicts a b

later_decided : (later : List Access) (a : Access) (y : Instr) → HasLater later a y ⊎ (HasLater later a y → ⊥)
later_decided [] a y = inr (λ q. absurd q.1)
later_decided (b ∷ later) a y = by (later_decided later a y) (cases_instr b.at y) (cases_Bool (do_conflict a b))
  where
    none : ((b.at ≡ y) → Conflicts a b → ⊥) → (HasLater later a y → ⊥) → HasLater (b ∷ later) a y → ⊥
    none f g (c, inl e, p, q) =
        f (subst (λ (d : Access). d.at ≡ y) (sym e) p) (subst (λ (d : Access). Conflicts a d) (sym e) q)
    none f g (c, inr s, p, q) = g (c, s, p, q)

    by : HasLater later a y ⊎ (HasLater later a y → ⊥) → (b.at ≡ y) ⊎ (b.at ≢ y) →
        (do_conflict a b ≡ true) ⊎ (do_conflict a b ≡ false) → HasLater (b ∷ later) a y ⊎ (HasLater (b ∷ later) a y → ⊥)
    by (inl q) _ _ = inl (q.0, inr q.1, q.2, q.3)
    by (inr g) (inl e) (inl t) = inl (b, inl refl, e, do_conflict-true a b t)
    by (inr g) (inr ne) _ = inr (none (λ e _. ne e) g)
    by (inr g) (inl e) (inr f) = inr (none (λ _ q. let t = do_conflict-yes a b q in absurd (cc)) g)

pub pair_decided : (list : List Access) (x y : Instr) → ConflictPair list x y ⊎ (ConflictPair list x y → ⊥)
pair_decided [] x y = inr (λ p. absurd p)
pair_decided (a ∷ later) x y = by (pair_decided later x y) (cases_instr a.at x) (later_decided later a y)
  where
    by : ConflictPair later x y ⊎ (ConflictPair later x y → ⊥) → (a.at ≡ x) ⊎ (a.at ≢ x) →
        HasLater later a y ⊎ (HasLater later a y → ⊥) →
        ConflictPair (a ∷ later) x y ⊎ (ConflictPair (a ∷ later) x y → ⊥)
    by (inl p) _ _ = inl (inr p)
    by (inr g) (inl e) (inl q) = inl (inl (e, q.0, q.1, q.2, q.3))
    by (inr g) (inr ne) _ = inr (none (λ p. ne p.0))
      where
        none : ((a.at ≡ x) × (b : Access) × StandsIn later b × (b.at ≡ y) × Conflicts a b → ⊥) →
            ConflictPair (a ∷ later) x y → ⊥
        none f (inl p) = f p
        none f (inr p) = g p
    by (inr g) (inl e) (inr h) = inr none
      where
        none : ConflictPair (a ∷ later) x y → ⊥
        none (inl p) = h (p.1, p.2, p.3, p.4)
        none (inr p) = g p

is_pair : (list : List Access) (x y : Instr) → ((ConflictPair list x y → ⊥) → ⊥) → ConflictPair list x y
is_pair list x y f = by (pair_decided list x y)
  where
    by : ConflictPair list x y ⊎ (ConflictPair list x y → ⊥) → ConflictPair list x y
    by (inl p) = p
    by (inr g) = absurd (f g)

pub amiss_law : AmissLaw
amiss_law list edges rise suffices = (to, back)
  where
    to : IsLeast list edges → (x y : Instr) → Among edges x y → IsAmiss list edges x y → ⊥
    to l x y a (inl nc) = nc (l.conflict x y a)
    to l x y a (inr p) = (independent_law list edges rise l.conflict l.suffices).0 l x y a p

    back : ((x y : Instr) → Among edges x y → IsAmiss list edges x y → ⊥) → IsLeast list edges
    back f =
        (independent_law list edges rise (λ x y a. is_pair list x y (λ nc. f x y a (inl nc))) suffices).1
        (λ x y a p. f x y a (inr p))
