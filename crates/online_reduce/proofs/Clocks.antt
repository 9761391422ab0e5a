-- Clocks that are merged, and clocks along a core.
use Rattle.std.proofs.Common.{◌≡◌, ◌≢◌, ℕ, ◌<◌, ◌≤◌, ◌⊎◌, List, [], ◌∷◌, ◌++◌, length, max, refl, sym, ◌∙◌, ap, subst}
use Rattle.std.proofs.Common.{inl, inr, arith, true, false, Bool}
use Rattle.std.proofs.Common.{nat_eq, slice_index}
use Rattle.std.specs.List.{fold}
use Rattle.std.proofs.lemmas.Bool.Decides.{nat_tests}
use Rattle.rtr_types.specs.declared.instr.Instr.{Instr}
use Rattle.rtr_types.specs.declared.access.Access.{Access}
use Rattle.clock_core.specs.Counts.{merged}
use Rattle.clock_core.specs.declared.clock.Clock.{Clock}
use Rattle.clock_core.proofs.MergedClocks.{get_or-merged}
use Rattle.conflict_edge.specs.Clocks.{clock, greatest, reaches}
use Rattle.conflict_edge.specs.Conflicts.{StandsIn, CountsRise}
use Rattle.clock_core.proofs.Paths.{joined}
use Rattle.clock_core.specs.Order.{Before}
use Rattle.clock_core.proofs.Reach.{reached_by}
use Rattle.conflict_edge.proofs.Clocks.{clock-newest, clock-older, clock-own, clock-before, clock-up_to, UpTo}
use Rattle.conflict_edge.proofs.History.{Pair, Rising, reaches-true, reaches-false, reaches-yes, reaches-no}
use Rattle.online_reduce.specs.declared.source.Source.{Source}
use Rattle.online_reduce.specs.Rule.{merged_with}
use Rattle.conflict_edge.proofs.AccessPlaces.{stands_which}

-- ---- merged clocks

longer-merged : (xs ys : List ℕ) → length xs ≤ length (merged xs ys)
longer-merged [] ys = omega arith
longer-merged (x ∷ xs) [] = omega arith
longer-merged (x ∷ xs) (y ∷ ys) = let le = longer-merged xs ys in omega arith

pub longer-fold : (before : Clock) (found : List Source) → length before ≤ length (fold merged_with before found)
longer-fold before [] = omega arith
longer-fold before (s ∷ found) = omega (arith, longer-merged before s.clock, longer-fold (merged before s.clock) found)

-- n is no more than the count at place i of the first clock or of one of the candidates'
abbrev pub IsBelow : Clock → List Source → ℕ → ℕ → Type 0
IsBelow before found i n = (n ≤ slice_index before i) ⊎ ((s : Source) × StandsIn found s × (n ≤ slice_index s.clock i))

pub below_merged : (before : Clock) (found : List Source) (i n : ℕ) → n ≤ slice_index (fold merged_with before found)
    i → IsBelow before found i n
below_merged before [] i n le = inl le
below_merged before (s ∷ found) i n le = by (below_merged (merged before s.clock) found i n le)
  where
    here : (n ≤ slice_index before i) ⊎ (n ≤ slice_index s.clock i) → IsBelow before (s ∷ found) i n
    here (inl h) = inl h
    here (inr h) = inr (s, inl refl, h)

    by : IsBelow (merged before s.clock) found i n → IsBelow before (s ∷ found) i n
    by (inl h) = here
        (reached_by n (slice_index before i) (slice_index s.clock i) (omega (arith, get_or-merged before s.clock i)))
    by (inr q) = inr (q.0, inr q.1, q.2)

pub merged_above : (before : Clock) (found : List Source) (i n : ℕ) → IsBelow before found i n
    → n ≤ slice_index (fold merged_with before found) i
merged_above before [] i n (inl le) = le
merged_above before [] i n (inr q) = absurd q.1
merged_above before (s ∷ found) i n (inl le) = merged_above (merged before s.clock) found i n
    (inl (omega (arith, get_or-merged before s.clock i)))
merged_above before (s ∷ found) i n (inr q) = merged_above (merged before s.clock) found i n (by q.0 q.1 q.2)
  where
    by : (r : Source) → StandsIn (s ∷ found) r → n ≤ slice_index r.clock i → IsBelow (merged before s.clock) found i n
    by r (inl e) le = inl (omega (arith, get_or-merged before s.clock i, ap (λ (v : Source). slice_index v.clock i) e))
    by r (inr one) le = inr (r, one, le)

-- ---- the next count of a core

-- no access of the list is of this core and later
abbrev pub EndsAt : List Access → Instr → Type 0
EndsAt h y = (b : Access) → StandsIn h b → b.at.core ≡ y.core → b.at.count ≤ y.count

-- past a core's last access, the clock changes at its own place alone
pub same_clock : (h : List Access) (x y : Instr) (i : ℕ) → i ≢ x.core → y.core ≡ x.core → x.count ≤ y.count
    → EndsAt h x → clock h y i ≡ clock h x i
unfolding clock
same_clock [] x y i other core le ends =
    let one : nat_eq y.core i ≡ false = grind (arith, nat_tests) in
    let two : nat_eq x.core i ≡ false = grind (arith, nat_tests) in
    rw (one, two) refl
same_clock (a ∷ h) x y i other core le ends = by (reaches a x) refl
    (same_clock h x y i other core le (λ b s. ends b (inr s)))
  where
    by : (b : Bool) → reaches a x ≡ b → clock h y i ≡ clock h x i → clock (a ∷ h) y i ≡ clock (a ∷ h) x i
    by true t rest =
        let r = reaches-true a x t in
        let core_is : a.at.core ≡ y.core = r.0 ∙ sym core in
        let count = r.1 in
        clock-newest a h y i (reaches-yes a y core_is (omega arith))
        ∙ ap (λ (n : ℕ). max n (greatest (λ (b : Access). clock h b.at i) a h)) rest
        ∙ sym (clock-newest a h x i t)
    by false t rest =
        let not_y : reaches a y ≡ false = reaches-no a y (λ (e : a.at.core ≡ y.core). absurd (later e)) in
        clock-older a h y i not_y ∙ rest ∙ sym (clock-older a h x i t)
      where
        later : a.at.core ≡ y.core → ⊥
        later e =
            let e_x : a.at.core ≡ x.core = e ∙ core in
            let up = ends a (inl refl) e_x in
            let down = reaches-false a x t e_x in
            omega arith

-- ---- what leads to an instruction

pub up_joined : (h : List Access) (x y z : Instr) → UpTo h x y → UpTo h y z → UpTo h x z
up_joined h x y z (inl e) u = subst (λ (v : Instr). UpTo h v z) (sym e) u
up_joined h x y z (inr p) (inl e) = inr (subst (λ (v : Instr). Before (Pair h) x v) e p)
up_joined h x y z (inr p) (inr q) = inr (joined (Pair h) x y z p q)

pub up_counts : (h : List Access) (x y : Instr) → Rising h → UpTo h x y → x.count ≤ clock h y x.core
up_counts h x y rising (inl e) = subst (λ (v : Instr). x.count ≤ clock h v x.core) e (clock-own h x)
up_counts h x y rising (inr p) = clock-before h x y rising p

-- and its whole clock is below
pub up_clock : (h : List Access) (x y : Instr) (i n : ℕ) → Rising h → UpTo h x y → 1 ≤ n → n ≤ clock h x i
    → n ≤ clock h y i
up_clock h x y i n rising up pos le = up_counts h at y rising (up_joined h at x y (clock-up_to h at x pos le) up)
  where
    at : Instr
    at = record { core = i; count = n }

-- ---- counts rise by one access more

pub rise_next : (list : List Access) (a : Access) → CountsRise list → 1 ≤ a.at.count →
    ((b : Access) → StandsIn list b → b.at.core ≡ a.at.core → b.at.count < a.at.count) → CountsRise (list ++ (a ∷ []))
rise_next [] a r pos before = (pos, (λ b s e. absurd s), tt)
rise_next (b ∷ list) a r pos before = (
  r.0,
  (λ c s e. by c (stands_which list (a ∷ []) c s) e),
  rise_next list a r.2
      pos (λ c s e. before c (inr s) e),
)
  where
    by : (c : Access) → StandsIn list c ⊎ StandsIn (a ∷ []) c → b.at.core ≡ c.at.core → b.at.count < c.at.count
    by c (inl s) e = r.1 c s e
    by c (inr (inl f)) e = subst (λ (v : Access). b.at.count < v.at.count) f
        (before b (inl refl) (e ∙ sym (ap (λ (v : Access). v.at.core) f)))
    by c (inr (inr s)) e = absurd s
