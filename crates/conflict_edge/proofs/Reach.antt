-- Clocks are reachability.
use Rattle.std.proofs.Common.{◌≡◌, ◌≢◌, ℕ, ◌≤◌, ◌⊎◌, ◌↔◌, List, [], ◌∷◌, reverse, ◌++◌, refl, sym, ◌∙◌, ap, subst, inl}
use Rattle.std.proofs.Common.{inr, arith}
use Rattle.clock_core.proofs.Paths.{joined, more, last_at}
use Rattle.clock_core.specs.Order.{Within, Step, Before, IsOrLeads, previous}
use Rattle.conflict_edge.proofs.Clocks.{UpTo, clock-older, own_clock, clock-before, clock-up_to, clock-own}
use Rattle.conflict_edge.proofs.Clocks.{clock-program, clock-pair}
use Rattle.conflict_edge.proofs.History.{Pair, Rising, reaches-no}
use Rattle.conflict_edge.proofs.CoveringPairs.{Cover}
use Rattle.conflict_edge.proofs.Online.{online_rule, Leads, itself, onward, by_own, source_leads, candidate_source}
use Rattle.conflict_edge.proofs.Online.{before_a, source_clock, pair_source}
use Rattle.conflict_edge.proofs.NewestFirst.{pair_back, pair_forth, rising_back, reverse-next}
use Rattle.conflict_edge.specs.Clocks.{clock, Candidate, IsKept, ClockLaw, OnlineLaw, OnlineClockLaw, KeptClockLaw}
use Rattle.conflict_edge.specs.Conflicts.{ConflictPair, CountsRise}
use Rattle.conflict_edge.specs.Least.{Covering}
use Rattle.rtr_types.specs.declared.access.Access.{Access}
use Rattle.rtr_types.specs.declared.instr.Instr.{Instr}

up_back : (list : List Access) (x y : Instr) → UpTo (reverse list) x y → IsOrLeads (ConflictPair list) x y
up_back list x y (inl e) = inl e
up_back list x y (inr p) = inr (more (Pair (reverse list)) (ConflictPair list) (pair_back list) x y p)

clock_up : (list : List Access) (x y : Instr) → CountsRise list → IsOrLeads (ConflictPair list) x y →
    x.count ≤ clock (reverse list) y x.core
clock_up list x y rise (inl e) = subst (λ (v : Instr). x.count ≤ clock (reverse list) v x.core) e
    (clock-own (reverse list) x)
clock_up list x y rise (inr p) =
    clock-before (reverse list) x y (rising_back list rise) (more (ConflictPair list) (Pair (reverse list))
    (pair_forth list) x y p)

pub clock_law : ClockLaw
clock_law list y rise x pos = (λ le. up_back list x y (clock-up_to (reverse list) x y pos le), clock_up list x y rise)

-- the list with the next access, newest first
pub rising_next : (list : List Access) (a : Access) → CountsRise (list ++ (a ∷ [])) → Rising (a ∷ reverse list)
rising_next list a rise = subst Rising (reverse-next list a) (rising_back (list ++ (a ∷ [])) rise)

-- with the next access newest first, the pairs that cover are those of the list with it at the end
pub cover_now : (list : List Access) (a : Access) (x : Instr) →
    Cover (a ∷ reverse list) x a.at ↔ Covering (list ++ (a ∷ [])) x a.at
cover_now list a x = (to, back)
  where
    now : List Access
    now = list ++ (a ∷ [])

    into : Within (Pair (a ∷ reverse list)) (ConflictPair now)
    into x y p = pair_back now x y (subst (λ (g : List Access). Pair g x y) (sym (reverse-next list a)) p)

    out : Within (ConflictPair now) (Pair (a ∷ reverse list))
    out x y p = subst (λ (g : List Access). Pair g x y) (reverse-next list a) (pair_forth now x y p)

    to : Cover (a ∷ reverse list) x a.at → Covering now x a.at
    to c = (
      into x a.at c.0,
      λ z p q.
          c.1 z (more (ConflictPair now) (Pair (a ∷ reverse list)) out x z p)
          (more (ConflictPair now) (Pair (a ∷ reverse list)) out z a.at q),
    )

    back : Covering now x a.at → Cover (a ∷ reverse list) x a.at
    back c = (
      out x a.at c.0,
      λ z p q. c.1 z (more (Pair (a ∷ reverse list)) (ConflictPair now) into x z p) (more (Pair (a ∷ reverse list))
          (ConflictPair now) into z a.at q),
    )

pub online_law : OnlineLaw
online_law list a x rise = (λ k. same.0 (rule.0 k), λ c. rule.1 (same.1 c))
  where
    same : Cover (a ∷ reverse list) x a.at ↔ Covering (list ++ (a ∷ [])) x a.at
    same = cover_now list a x

    rule : IsKept (reverse list) a x ↔ Cover (a ∷ reverse list) x a.at
    rule = online_rule (reverse list) a x (rising_next list a rise)

-- the clock of the newest access, by those of its candidates
pub newest_clock : (history : List Access) (access : Access) (i n : ℕ) → Rising (access ∷ history) →
    i ≢ access.at.core → 1 ≤ n →
    (n ≤ clock (access ∷ history) access.at i) ↔
    ((n ≤ clock history (previous access.at) i) ⊎ ((z : Instr) × Candidate history access z × (n ≤ clock history z i)))
newest_clock history access i n rising apart pos = (λ le. to (clock-up_to (access ∷ history) x access.at pos le), back)
  where
    x : Instr
    x = record { core = i; count = n }

    Right : Type 0
    Right = (n ≤ clock history (previous access.at) i)
        ⊎ ((z : Instr) × Candidate history access z × (n ≤ clock history z i))

    up : (h' : List Access) → Rising h' → (w : Instr) → UpTo h' x w → n ≤ clock h' w i
    up h' r w (inl e) = subst (λ (v : Instr). n ≤ clock h' v i) e (clock-own h' x)
    up h' r w (inr q) = clock-before h' x w r q

    leads : (w : Instr) → n ≤ clock history w i → Leads history access w →
        (n ≤ clock history (previous access.at) i)
        ⊎ ((z : Instr) × Candidate history access z × (n ≤ clock history z i))
    leads w le (itself c) = inr (w, c, le)
    leads w le (onward c cand p) = inr (c, cand, up history rising.2 c (joins (clock-up_to history x w pos le) p))
      where
        joins : UpTo history x w → Before (Pair history) w c → UpTo history x c
        joins (inl e) q = inr (subst (λ (v : Instr). Before (Pair history) v c) (sym e) q)
        joins (inr r) q = inr (joined (Pair history) x w c r q)
    leads w le (by_own u) = inl (up history rising.2 (previous access.at) (joins (clock-up_to history x w pos le) u))
      where
        joins : UpTo history x w → UpTo history w (previous access.at) → UpTo history x (previous access.at)
        joins (inl e) q = subst (λ (v : Instr). UpTo history v (previous access.at)) (sym e) q
        joins (inr r) (inl e) = inr (subst (λ (v : Instr). Before (Pair history) x v) e r)
        joins (inr r) (inr q) = inr (joined (Pair history) x w (previous access.at) r q)

    last : (w : Instr) → UpTo (access ∷ history) x w → Step (Pair (access ∷ history)) w access.at →
        (n ≤ clock history (previous access.at) i)
        ⊎ ((z : Instr) × Candidate history access z × (n ≤ clock history z i))
    last w u (inl s) =
        let le = up (access ∷ history) rising w u in
        let t = clock-program (access ∷ history) w (previous access.at) i s.0 (let lt = s.1 in omega arith) in
        let e = before_a access history i rising in
        inl (omega arith)
    last w u (inr s) =
        let src = pair_source access history w rising s in
        let le = up (access ∷ history) rising w u in
        let e = source_clock access history w i rising src in
        leads w (omega arith) (source_leads history access w rising src)

    to : UpTo (access ∷ history) x access.at → (n ≤ clock history (previous access.at) i)
        ⊎ ((z : Instr) × Candidate history access z × (n ≤ clock history z i))
    to (inl e) = absurd (apart (ap (λ (v : Instr). v.core) e))
    to (inr q) = let l = last_at (Pair (access ∷ history)) q.0 x access.at q.1 in last l.0 l.1 l.2

    back : (n ≤ clock history (previous access.at) i)
        ⊎ ((z : Instr) × Candidate history access z × (n ≤ clock history z i)) →
        n ≤ clock (access ∷ history) access.at i
    back (inl le) =
        let e = before_a access history i rising in
        let t = clock-program (access ∷ history) (previous access.at) access.at i refl (omega arith) in
        omega arith
    back (inr q) =
        let src = candidate_source history access q.0 q.1 in
        let e = source_clock access history q.0 i rising src in
        let t = clock-pair (access ∷ history) q.0 access.at i rising (inl (refl, src)) in
        let le = q.2 in
        omega arith

pub online_clock_law : OnlineClockLaw
online_clock_law list a rise = record {
  own = ap (λ (g : List Access). clock g a.at a.at.core) (reverse-next list a)
      ∙ own_clock (a ∷ reverse list) a.at (rising_next list a rise);
  others = λ i n d pos.
      subst (λ (g : List Access). (n ≤ clock g a.at i)
      ↔ ((n ≤ clock (reverse list) (previous a.at) i) ⊎ ((z : Instr) × Candidate (reverse list) a
      z × (n ≤ clock (reverse list) z i))))
      (sym (reverse-next list a)) (newest_clock (reverse list) a i n (rising_next list a rise) d pos);
}

pub kept_clock_law : KeptClockLaw
kept_clock_law list a y i rise later =
    ap (λ (g : List Access). clock g y i) (reverse-next list a)
    ∙ clock-older a (reverse list) y i (reaches-no a y (λ (same : a.at.core ≡ y.core). later (sym same)))
