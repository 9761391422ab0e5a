-- The covering pairs of a list and one access more.
use Rattle.std.proofs.Common.{◌≡◌, ◌≢◌, ℕ, ◌+◌, ◌<◌, ◌≤◌, ◌⊎◌, List, [], ◌∷◌, reverse, ◌++◌, length, refl, sym, ◌∙◌, ap}
use Rattle.std.proofs.Common.{subst, inl, inr, arith, true, get_or}
use Rattle.std.proofs.Common.{take, drop, not, ◌&&◌, ◌||◌, nat_eq, nat_lt, nat_le}
use Rattle.std.proofs.lemmas.Bool.{and_parts, or_cases, cases_lt}
use Rattle.std.proofs.lemmas.List.{take_more, take-append-drop, get_or_append_left, get_or_push, length_push}
use Rattle.std.proofs.lemmas.Bool.Decides.{nat_tests}
use Rattle.clock_core.proofs.Paths.{more}
use Rattle.conflict_edge.specs.declared.TheConstants.{ACCESSES_MAX}
use Rattle.clock_core.specs.Order.{Among, previous}
use Rattle.clock_core.specs.declared.clock.Clock.{Clock}
use Rattle.conflict_edge.proofs.Clocks.{clock-older}
use Rattle.conflict_edge.proofs.History.{Pair, Rising, ends, older, reaches-no}
use Rattle.conflict_edge.proofs.CoveringPairs.{Cover, kept_covers, covers_kept}
use Rattle.conflict_edge.proofs.NewestFirst.{reverse-next, pair_back, pair_forth, stands_forth}
use Rattle.conflict_edge.proofs.ScanSteps.{stands_at}
use Rattle.conflict_edge.specs.Clocks.{clock}
use Rattle.conflict_edge.specs.Conflicts.{AreCores, StandsIn, ConflictPair, CountsRise, are_after, do_counts_rise}
use Rattle.conflict_edge.specs.Conflicts.{is_short_history}
use Rattle.conflict_edge.specs.Least.{Covering}
use Rattle.conflict_edge.specs.Scan.{AreExactClocks, AddsCoveringInto, AreCovering}
use Rattle.conflict_edge.specs.Times.{IsExactClock}
use Rattle.conflict_edge.proofs.Reach.{rising_next}
use Rattle.rtr_types.specs.declared.TheConstants.{CORES_MAX}
use Rattle.rtr_types.specs.declared.access.Access.{Access}
use Rattle.rtr_types.specs.declared.instr.Edge.{Edge}
use Rattle.rtr_types.specs.declared.instr.Instr.{Instr}
use Rattle.conflict_edge.proofs.AccessPlaces.{stands_left}

-- ---- one access more

pub rise-left : (xs ys : List Access) → CountsRise (xs ++ ys) → CountsRise xs
rise-left [] ys r = tt
rise-left (x ∷ xs) ys r = (r.0, (λ b s. r.1 b (stands_left xs ys b s)), rise-left xs ys r.2)

-- a pair of h is no pair into a
not_newest : (a : Access) (h : List Access) (x y : Instr) → Rising (a ∷ h) → Pair h x y → y ≢ a.at
not_newest a h x y r p e =
    let f = ends h x y p in
    let core : f.second.at.core ≡ a.at.core = ap (λ (v : Instr). v.core) (f.second_at ∙ e) in
    let count : f.second.at.count ≡ a.at.count = ap (λ (v : Instr). v.count) (f.second_at ∙ e) in
    let lt = r.1 f.second f.second_stands core in
    omega arith

old_pair : (a : Access) (h : List Access) (z y : Instr) → y ≢ a.at → Pair (a ∷ h) z y → Pair h z y
old_pair a h z y d (inl p) = absurd (d (sym p.0))
old_pair a h z y d (inr p) = p

old_previous : (a : Access) (h : List Access) (x y : Instr) (i : ℕ) → Rising (a ∷ h) → Pair h x y →
    clock (a ∷ h) (previous y) i ≡ clock h (previous y) i
old_previous a h x y i r p =
    let f = ends h x y p in
    clock-older a h (previous y) i (reaches-no a (previous y) (λ (s : a.at.core ≡ y.core).
    let core : f.second.at.core ≡ a.at.core = ap (λ (v : Instr). v.core) f.second_at ∙ sym s in
    let count : f.second.at.count ≡ y.count = ap (λ (v : Instr). v.count) f.second_at in
    let lt = r.1 f.second f.second_stands core in
    omega arith))

old_source : (a : Access) (h : List Access) (z y : Instr) (i : ℕ) → Rising (a ∷ h) → Pair h z y →
    clock (a ∷ h) z i ≡ clock h z i
old_source a h z y i r p = let f = ends h z y p in clock-older a h z i (older a h f.first z r f.first_stands f.first_at)

-- an old covering pair stays one
cover_widens : (a : Access) (h : List Access) (x y : Instr) → Rising (a ∷ h) → Cover h x y → Cover (a ∷ h) x y
cover_widens a h x y r c =
    let k = covers_kept h x y r.2 c in
    kept_covers (a ∷ h) x y r (record {
      pair = inr k.pair;
      own = let e = old_previous a h x y x.core r k.pair in let lt = k.own in omega arith;
      others = λ z p d. let q = old_pair a h z y (not_newest a h x y r k.pair) p in let e =
          old_source a h z y x.core r q in let lt = k.others z q d in
          omega arith;
    })

-- an old pair that covers now did so before
cover_narrows : (a : Access) (h : List Access) (x y : Instr) → Rising (a ∷ h) → Pair h x y → Cover (a ∷ h) x y →
    Cover h x y
cover_narrows a h x y r p c =
    let k = covers_kept (a ∷ h) x y r c in
    kept_covers h x y r.2 (record {
      pair = p;
      own = let e = old_previous a h x y x.core r p in let lt = k.own in omega arith;
      others = λ z q d. let e = old_source a h z y x.core r q in let lt = k.others z (inr q) d in omega arith;
    })

cover_cases : (a : Access) (h : List Access) (x y : Instr) → Rising (a ∷ h) → Cover (a ∷ h) x y →
    Cover h x y ⊎ ((y ≡ a.at) × Cover (a ∷ h) x a.at)
cover_cases a h x y r c = by c.0
  where
    by : Pair (a ∷ h) x y → Cover h x y ⊎ ((y ≡ a.at) × Cover (a ∷ h) x a.at)
    by (inl p) = inr (sym p.0, subst (λ (v : Instr). Cover (a ∷ h) x v) (sym p.0) c)
    by (inr p) = inl (cover_narrows a h x y r p c)

-- covering, over the list and with the newest first
to_cover : (l : List Access) (x y : Instr) → Covering l x y → Cover (reverse l) x y
to_cover l x y c = (
  pair_forth l x y c.0,
  λ z p q. c.1 z (more (Pair (reverse l)) (ConflictPair l) (pair_back l) x z p)
      (more (Pair (reverse l)) (ConflictPair l) (pair_back l) z y q),
)

from_cover : (l : List Access) (x y : Instr) → Cover (reverse l) x y → Covering l x y
from_cover l x y c = (
  pair_back l x y c.0,
  λ z p q. c.1 z (more (ConflictPair l) (Pair (reverse l)) (pair_forth l) x z p)
      (more (ConflictPair l) (Pair (reverse l)) (pair_forth l) z y q),
)

-- the covering pairs of the longer list
pub covering_next : (l : List Access) (a : Access) (old new : List Edge) → CountsRise (l ++ (a ∷ [])) →
    AreCovering l old →
    AddsCoveringInto (l ++ (a ∷ [])) a old new → AreCovering (l ++ (a ∷ [])) new
covering_next l a old new rise was adds x y = (
  λ s. to ((adds x y).0 s),
  λ c. (adds x y).1
      (back (cover_cases a (reverse l) x y r (in_next x y (to_cover (l ++ (a ∷ [])) x y c)))),
)
  where
    r : Rising (a ∷ reverse l)
    r = rising_next l a rise

    in_next : (x y : Instr) → Cover (reverse (l ++ (a ∷ []))) x y → Cover (a ∷ reverse l) x y
    in_next x y c = subst (λ (g : List Access). Cover g x y) (reverse-next l a) c

    from_next : (x y : Instr) → Cover (a ∷ reverse l) x y → Covering (l ++ (a ∷ [])) x y
    from_next x y c = from_cover (l ++ (a ∷ [])) x y (subst (λ (g : List Access). Cover g x y) (sym (reverse-next l a))
        c)

    to : Among old x y ⊎ ((y ≡ a.at) × Covering (l ++ (a ∷ [])) x a.at) → Covering (l ++ (a ∷ [])) x y
    to (inl s) = from_next x y (cover_widens a (reverse l) x y r (to_cover l x y ((was x y).0 s)))
    to (inr q) = subst (λ (v : Instr). Covering (l ++ (a ∷ [])) x v) (sym q.0) q.1

    back : Cover (reverse l) x y ⊎ ((y ≡ a.at) × Cover (a ∷ reverse l) x a.at) →
        Among old x y ⊎ ((y ≡ a.at) × Covering (l ++ (a ∷ [])) x a.at)
    back (inl c) = inl ((was x y).1 (from_cover l x y c))
    back (inr q) = inr (q.0, from_next x a.at q.1)

-- the exact clocks of the longer list
pub exact_next : (l : List Access) (a : Access) (clocks next : List Clock) (m : Clock) → CountsRise (l ++ (a ∷ [])) →
    length clocks ≡ length l →
    AreExactClocks l clocks → IsExactClock (l ++ (a ∷ [])) a.at m → next ≡ clocks ++ (m ∷ []) →
    AreExactClocks (l ++ (a ∷ [])) next
exact_next l a clocks next m rise len was now is s d e lt = by (cases_lt s (length l))
  where
    by : (s < length l) ⊎ (length l ≤ s) → IsExactClock (l ++ (a ∷ [])) (get_or (l ++ (a ∷ [])) s d).at
        (get_or next s e)
    by (inl below) i fits =
        let b = get_or_append_left l (a ∷ []) d s below in
        let c = get_or_append_left clocks (m ∷ []) e s (omega arith) in
        let old = was s d e below i fits in
        let stands = stands_forth l (get_or l s d) (stands_at l s d below) in
        let same = clock-older a (reverse l) (get_or l s d).at i (older a (reverse l) (get_or l s d) (get_or l s d).at
        (rising_next l a rise) stands refl) in
        rw (is, c, b, reverse-next l a) (old ∙ sym same)
    by (inr past) i fits =
        let at : length l ≡ s = omega (arith, length_push l a, lt) in
        rw (is, get_or_push clocks m e s (len ∙ at), get_or_push l a d s at) (now i fits)

-- ---- prefixes

next_is : (l : List Access) (t : ℕ) (d : Access) → t < length l →
    (take t l ++ (get_or l t d ∷ [])) ++ drop (t + 1) l ≡ l
next_is l t d lt = ap (λ (g : List Access). g ++ drop (t + 1) l) (sym (take_more l t d lt)) ∙ take-append-drop (t + 1) l

-- counts rise in the list up to place t and the access there
pub prefix_rise : (l : List Access) (t : ℕ) (d : Access) → t < length l → CountsRise l →
    CountsRise (take t l ++ (get_or l t d ∷ []))
prefix_rise l t d lt r = rise-left (take t l ++ (get_or l t d ∷ [])) (drop (t + 1) l)
    (subst CountsRise (sym (next_is l t d lt)) r)

pub prefix_cores : (l : List Access) (t : ℕ) (d : Access) → t < length l → AreCores l →
    AreCores (take t l ++ (get_or l t d ∷ []))
prefix_cores l t d lt r a s =
    r a (subst (λ (g : List Access). StandsIn g a) (next_is l t d lt) (stands_left (take t l ++ (get_or l t d ∷ []))
    (drop (t + 1) l) a s))

-- ---- the test of a list

after_each : (a : Access) (later : List Access) → are_after a later ≡ true → (b : Access) → StandsIn later b →
    a.at.core ≡ b.at.core → a.at.count < b.at.count
after_each a [] e b s same = absurd s
after_each a (c ∷ later) e b (inl f) same =
    let t = and_parts (not (nat_eq a.at.core c.at.core) || nat_lt a.at.count c.at.count) (are_after a later) e in
    subst (λ (d : Access). a.at.count < d.at.count) f
    (by (or_cases (not (nat_eq a.at.core c.at.core)) (nat_lt a.at.count c.at.count) t.0))
  where
    core : a.at.core ≡ c.at.core
    core = same ∙ ap (λ (d : Access). d.at.core) (sym f)

    by : (not (nat_eq a.at.core c.at.core) ≡ true) ⊎ (nat_lt a.at.count c.at.count ≡ true) → a.at.count < c.at.count
    by (inl p) = let q = core in absurd (grind (arith, nat_tests))
    by (inr p) = grind (arith, nat_tests)
after_each a (c ∷ later) e b (inr s) same =
    after_each a later (and_parts (not (nat_eq a.at.core c.at.core) || nat_lt a.at.count c.at.count) (are_after a later)
    e).1 b s same

-- the parts of the test at its first access
record Tested (a : Access) (later : List Access) : Type 0 where
  first : 1 ≤ a.at.count
  core : a.at.core < CORES_MAX
  after : are_after a later ≡ true
  rest : do_counts_rise later ≡ true

tested : (a : Access) (later : List Access) → do_counts_rise (a ∷ later) ≡ true → Tested a later
tested a later e =
    let both = and_parts (nat_le 1 a.at.count && nat_lt a.at.core CORES_MAX) (are_after a later && do_counts_rise later)
    e in
    let here = and_parts (nat_le 1 a.at.count) (nat_lt a.at.core CORES_MAX) both.0 in
    let there = and_parts (are_after a later) (do_counts_rise later) both.1 in
    let first : nat_le 1 a.at.count ≡ true = here.0 in
    let core : nat_lt a.at.core CORES_MAX ≡ true = here.1 in
    record { first = grind (arith, nat_tests); core = grind (arith, nat_tests); after = there.0; rest = there.1 }

rises : (list : List Access) → do_counts_rise list ≡ true → CountsRise list
rises [] e = tt
rises (a ∷ later) e = let t = tested a later e in (t.first, after_each a later t.after, rises later t.rest)

in_range : (list : List Access) → do_counts_rise list ≡ true → AreCores list
in_range [] e b s = absurd s
in_range (a ∷ later) e b (inl f) = subst (λ (d : Access). d.at.core < CORES_MAX) f (tested a later e).core
in_range (a ∷ later) e b (inr s) = in_range later (tested a later e).rest b s

pub history_rises : (list : List Access) → is_short_history list ≡ true → CountsRise list
history_rises list e = rises list (and_parts (nat_le (length list) ACCESSES_MAX) (do_counts_rise list) e).1

pub history_cores : (list : List Access) → is_short_history list ≡ true → AreCores list
history_cores list e = in_range list (and_parts (nat_le (length list) ACCESSES_MAX) (do_counts_rise list) e).1

-- no covering pair of the list leads into what comes next
pub no_old : (l : List Access) (a : Access) (x : Instr) → CountsRise (l ++ (a ∷ [])) → Covering l x a.at → ⊥
no_old l a x rise c = not_newest a (reverse l) x a.at (rising_next l a rise) (pair_forth l x a.at c.0) refl
