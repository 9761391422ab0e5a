-- One retirement with exact times: its edges are the covering pairs into it, and its clock is exact.
use Rattle.std.proofs.Common.{◌≡◌, ◌≢◌, ℕ, ◌<◌, ◌≤◌, ◌⊎◌, List, [], ◌∷◌, ◌++◌, reverse, sym, ap, subst, inl, inr}
use Rattle.std.proofs.Common.{arith, true}
use Rattle.std.proofs.lemmas.Bool.{cases_lt}
use Rattle.rtr_types.specs.declared.instr.Instr.{Instr}
use Rattle.rtr_types.specs.declared.access.Access.{Access}
use Rattle.clock_core.proofs.Paths.{joined}
use Rattle.clock_core.specs.Order.{Among, Before, previous}
use Rattle.access_times.specs.declared.times.Times.{Times}
use Rattle.conflict_edge.specs.Clocks.{clock, IsKept}
use Rattle.conflict_edge.specs.Conflicts.{StandsIn, CountsRise}
use Rattle.conflict_edge.specs.Least.{Covering}
use Rattle.conflict_edge.specs.Times.{IsExactClock}
use Rattle.conflict_edge.proofs.Clocks.{UpTo, clock-before, clock-up_to}
use Rattle.conflict_edge.proofs.History.{Pair, Rising}
use Rattle.conflict_edge.proofs.Independent.{cases_instr}
use Rattle.conflict_edge.proofs.Ranks.{no_cycle}
use Rattle.conflict_edge.proofs.Reach.{online_law}
use Rattle.conflict_edge.proofs.NewestFirst.{rising_back}
use Rattle.online_reduce.specs.declared.source.Source.{Source}
use Rattle.online_reduce.specs.Sources.{candidates}
use Rattle.online_reduce.specs.Rule.{is_kept, edges_into}
use Rattle.online_reduce.specs.Reduced.{Reduced, IsNext, clock_of, count_of, edges_of}
use Rattle.online_reduce.specs.Exact.{AreExactFor, IsExact, last_of, AreCoveringInto}
use Rattle.online_reduce.proofs.KeptCandidates.{Passes, all_others, others_all, ComesFrom, chosen_from, from_chosen}
use Rattle.online_reduce.proofs.Clocks.{rise_next, up_counts, up_joined}
use Rattle.online_reduce.proofs.CandidateLists.{candidates_rise}
use Rattle.online_reduce.proofs.Loops.{chosen}
use Rattle.online_reduce.proofs.ExactCandidates.{AreCandidates, IsLed, are_candidates}
use Rattle.online_reduce.proofs.Order.{chosen_rise}

-- ---- what is known where an access comes next

pub record Next (list : List Access) (r : Reduced) (a : Access) (t : Times) : Type 0 where
  pub exact : IsExact list r
  pub next : IsNext r a.at
  pub times : AreExactFor list a t
  pub rise : CountsRise (list ++ (a ∷ []))
  pub found : AreCandidates list (clock_of r a.at.core) a (candidates r.cores (clock_of r a.at.core) a t)
  pub before : IsExactClock list (previous a.at) (clock_of r a.at.core)

pub next_of : (list : List Access) (r : Reduced) (a : Access) (t : Times) → IsExact list r → IsNext r a.at
    → AreExactFor list a t → Next list r a t
next_of list r a t exact next times = record {
  exact = exact;
  next = next;
  times = times;
  rise = rise_next list a exact.rise (let e = next.count in omega arith) (λ b s core. later b s core);
  found = are_candidates r.cores list (clock_of r a.at.core) a t exact.few (rising_back list exact.rise) before
      (λ b s. (exact.within b s).0) times;
  before = before;
}
  where
    later : (b : Access) → StandsIn list b → b.at.core ≡ a.at.core → b.at.count < a.at.count
    later b s core = let le = (exact.within b s).1 in let same = ap (count_of r) core in let e = next.count in
        omega arith

    last : last_of r a.at.core ≡ previous a.at
    last = let e = next.count in ap (λ (n : ℕ). (let i : Instr = record { core = a.at.core; count = n } in i))
        (omega arith)

    before : IsExactClock list (previous a.at) (clock_of r a.at.core)
    before = subst (λ (y : Instr). IsExactClock list y (clock_of r a.at.core)) last (exact.clocks a.at.core next.core)

-- ---- the kept candidates

-- the candidates that are found
abbrev pub found_of : Reduced → Access → Times → List Source
found_of r a t = candidates r.cores (clock_of r a.at.core) a t

-- what is known of where x leads to is known of x, so that x is not kept
not_before : (list : List Access) (r : Reduced) (a : Access) (t : Times) → Next list r a t → (x : Instr) →
    clock (reverse list) (previous a.at) x.core < x.count → UpTo (reverse list) x (previous a.at) → ⊥
not_before list r a t n x own up = let le = up_counts (reverse list) x (previous a.at) (rising_back list n.exact.rise)
    up in omega arith

own_below : (list : List Access) (r : Reduced) (a : Access) (t : Times) → Next list r a t → (s : Source)
    → StandsIn (found_of r a t) s →
    clock (reverse list) (previous a.at) s.at.core < s.at.count
own_below list r a t n s one = let e = n.before s.at.core (n.found.fits s one) in let lt = n.found.above s one in
    omega arith

-- another candidate that is found does not know of one that is kept
passes_below : (list : List Access) (r : Reduced) (a : Access) (t : Times) → Next list r a t → (s q : Source)
    → StandsIn (found_of r a t) s →
    StandsIn (found_of r a t) q → Passes (found_of r a t) s.at → q.at ≢ s.at → clock (reverse list) q.at s.at.core <
    s.at.count
passes_below list r a t n s q one other passes apart =
    let e = n.found.exact q other s.at.core (n.found.fits s one) in let lt = passes q other apart in omega arith

-- a candidate that is found is kept exactly where the online rule keeps it
kept_rule : (list : List Access) (r : Reduced) (a : Access) (t : Times) → Next list r a t → (s : Source)
    → StandsIn (found_of r a t) s →
    is_kept (found_of r a t) s.at ≡ true → IsKept (reverse list) a s.at
kept_rule list r a t n s one kept = record {
  candidate = n.found.candidate s one;
  own = own_below list r a t n s one;
  others = λ z c apart. below z apart (n.found.all z c) (cases_lt (clock (reverse list) z s.at.core) s.at.count);
}
  where
    rising : Rising (reverse list)
    rising = rising_back list n.exact.rise

    passes : Passes (found_of r a t) s.at
    passes = all_others (found_of r a t) s.at kept

    turns : (z : Instr) → z ≢ s.at → UpTo (reverse list) s.at z → UpTo (reverse list) z s.at → ⊥
    turns z apart up (inl e) = apart e
    turns z apart (inl e) (inr p) = apart (sym e)
    turns z apart (inr q) (inr p) = no_cycle (reverse list) rising s.at (joined (Pair (reverse list)) s.at z s.at q p)

    led : (z : Instr) → z ≢ s.at → UpTo (reverse list) s.at z → (q : Source) → StandsIn (found_of r a t) q
        → UpTo (reverse list) z q.at →
        (q.at ≡ s.at) ⊎ (q.at ≢ s.at) → ⊥
    led z apart up q other on (inl e) = turns z apart up (subst (λ (v : Instr). UpTo (reverse list) z v) e on)
    led z apart up q other on (inr differ) =
        let le = up_counts (reverse list) s.at q.at rising (up_joined (reverse list) s.at z q.at up on) in
        let lt = passes_below list r a t n s q one other passes differ in
        omega arith

    not_known : (z : Instr) → z ≢ s.at → UpTo (reverse list) s.at z → IsLed (reverse list) a (found_of r a t) z → ⊥
    not_known z apart up (inl q) = led z apart up q.0 q.1 q.2 (cases_instr q.0.at s.at)
    not_known z apart up (inr on) =
        not_before list r a t n s.at (own_below list r a t n s one)
        (up_joined (reverse list) s.at z (previous a.at) up on)

    below : (z : Instr) → z ≢ s.at → IsLed (reverse list) a (found_of r a t) z →
        (clock (reverse list) z s.at.core < s.at.count) ⊎ (s.at.count ≤ clock (reverse list) z s.at.core)
        → clock (reverse list) z s.at.core < s.at.count
    below z apart led (inl lt) = lt
    below z apart led (inr le) =
        let above = n.found.above s one in
        absurd (not_known z apart (clock-up_to (reverse list) s.at z (omega arith) le) led)

rule_kept : (list : List Access) (r : Reduced) (a : Access) (t : Times) → Next list r a t → (s : Source)
    → StandsIn (found_of r a t) s →
    IsKept (reverse list) a s.at → is_kept (found_of r a t) s.at ≡ true
rule_kept list r a t n s one kept = others_all (found_of r a t) s.at (
    λ q other apart.
    let e = n.found.exact q other s.at.core (n.found.fits s one) in
    let lt = kept.others q.at (n.found.candidate q other) apart in omega arith
    )

-- what the online rule keeps is found
kept_found : (list : List Access) (r : Reduced) (a : Access) (t : Times) → Next list r a t → (x : Instr)
    → IsKept (reverse list) a x →
    (s : Source) × StandsIn (found_of r a t) s × (s.at ≡ x)
kept_found list r a t n x kept = by (n.found.all x kept.candidate)
  where
    rising : Rising (reverse list)
    rising = rising_back list n.exact.rise

    before : (q : Source) → StandsIn (found_of r a t) q → Before (Pair (reverse list)) x q.at → ⊥
    before q one p =
        let le = clock-before (reverse list) x q.at rising p in
        let lt = kept.others q.at (n.found.candidate q one)
        (λ e. no_cycle (reverse list) rising x (subst (λ (v : Instr). Before (Pair (reverse list)) x v) e p)) in
        omega arith

    by : IsLed (reverse list) a (found_of r a t) x → (s : Source) × StandsIn (found_of r a t) s × (s.at ≡ x)
    by (inl (q, one, inl e)) = (q, one, sym e)
    by (inl (q, one, inr p)) = absurd (before q one p)
    by (inr up) = absurd (not_before list r a t n x kept.own up)

-- ---- the edges

pub covering_into : (list : List Access) (r : Reduced) (a : Access) (t : Times) → Next list r a t
    → AreCoveringInto (list ++ (a ∷ [])) a.at (edges_of r a t)
unfolding edges_into
covering_into list r a t n = record {
  covering = λ x y. (λ e. to x y (chosen_from a.at (found_of r a t) (found_of r a t) x y e), λ q. back x y q.0 q.1);
  order = chosen_rise 0 a.at (found_of r a t) (found_of r a t) (candidates_rise r.cores (clock_of r a.at.core) a t);
}
  where
    to : (x y : Instr) → ComesFrom a.at (found_of r a t) (found_of r a t) x y → (y ≡ a.at)
        × Covering (list ++ (a ∷ [])) x a.at
    to x y q = (
      q.0,
      subst (λ (v : Instr). Covering (list ++ (a ∷ [])) v a.at) q.3
          ((online_law list a q.1.at n.rise).0 (kept_rule list r a t n q.1 q.2 q.4)),
    )

    back : (x y : Instr) → y ≡ a.at → Covering (list ++ (a ∷ [])) x a.at
        → Among (chosen a.at (found_of r a t) (found_of r a t)) x y
    back x y e c =
        let kept = (online_law list a x n.rise).1 c in
        let s = kept_found list r a t n x kept in
        let passes = rule_kept list r a t n s.0 s.1 (subst (λ (v : Instr). IsKept (reverse list) a v) (sym s.2) kept) in
        let edge = from_chosen a.at (found_of r a t) (found_of r a t) s.0 s.1 passes in
        subst (λ (v : Instr). Among (chosen a.at (found_of r a t) (found_of r a t)) x v) (sym e)
        (subst (λ (v : Instr). Among (chosen a.at (found_of r a t) (found_of r a t)) v a.at) s.2 edge)
