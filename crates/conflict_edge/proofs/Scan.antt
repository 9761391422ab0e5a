-- One scan from the newest to the oldest finds the covering pairs into an access, and its clock.
use Rattle.std.proofs.Common.{◌≡◌, ◌≢◌, ℕ, zero, suc, ◌<◌, ◌≤◌, ◌⊎◌, ◌↔◌, List, [], ◌∷◌, ◌++◌, length, refl, sym, ◌∙◌}
use Rattle.std.proofs.Common.{ap, subst, inl, inr, arith, true, false}
use Rattle.std.proofs.Common.{max}
use Rattle.std.proofs.lemmas.Bool.{cases_eq, cases_lt}
use Rattle.std.proofs.lemmas.List.{length-append}
use Rattle.clock_core.proofs.Paths.{joined, one, last_at}
use Rattle.clock_core.specs.Order.{Step, Path, Before, Among, previous}
use Rattle.clock_core.proofs.Reach.{reached_by}
use Rattle.conflict_edge.proofs.Clocks.{UpTo, clock-before, clock-up_to, clock-own, clock-program, clock-pair}
use Rattle.conflict_edge.proofs.Clocks.{clock-older}
use Rattle.conflict_edge.proofs.History.{Source, Pair, Rising, ends, older, reaches-yes}
use Rattle.conflict_edge.proofs.CoveringPairs.{Kept, Cover, kept_covers, covers_kept, stands_pos}
use Rattle.conflict_edge.proofs.Online.{before_a, source_clock, pair_source}
use Rattle.conflict_edge.proofs.Ranks.{rank, rank-newest, rank-older, rank-le, rank-before, no_cycle}
use Rattle.conflict_edge.specs.Clocks.{reaches, clock}
use Rattle.conflict_edge.specs.Conflicts.{Conflicts, StandsIn}
use Rattle.rtr_types.specs.declared.TheConstants.{CORES_MAX}
use Rattle.rtr_types.specs.declared.access.Access.{Access}
use Rattle.rtr_types.specs.declared.instr.Edge.{Edge}
use Rattle.rtr_types.specs.declared.instr.Instr.{Instr}
use Rattle.conflict_edge.proofs.AccessPlaces.{stands_left, stands_right, stands_which}

-- b leads to a by one step, or along the core
abbrev pub Direct : Access → Access → Type 0
Direct b a = (b.at.core ≡ a.at.core) ⊎ Conflicts b a

pub rank-newer : (newer : List Access) (b : Access) (g : List Access) (r : Access) → Rising (newer ++ (b ∷ g)) →
    StandsIn newer r →
    suc (length g) < rank (newer ++ (b ∷ g)) r.at
rank-newer [] b g r rising s = absurd s
rank-newer (c ∷ newer) b g r rising (inl e) =
    let yes : reaches c r.at ≡ true = subst (λ (d : Access). reaches c d.at ≡ true) e
    (reaches-yes c c.at refl (omega arith)) in
    omega (arith, rank-newest c (newer ++ (b ∷ g)) r.at yes, length-append newer (b ∷ g))
rank-newer (c ∷ newer) b g r rising (inr s) =
    let no : reaches c r.at ≡ false = older c (newer ++ (b ∷ g)) r r.at rising (stands_left newer (b ∷ g) r s) refl in
    omega (arith, rank-older c (newer ++ (b ∷ g)) r.at no, rank-newer newer b g r rising.2 s)

pub rank-mid : (newer : List Access) (b : Access) (g : List Access) → Rising (newer ++ (b ∷ g)) →
    rank (newer ++ (b ∷ g)) b.at ≡ suc (length g)
rank-mid [] b g rising = rank-newest b g b.at (reaches-yes b b.at refl (omega arith))
rank-mid (c ∷ newer) b g rising =
    let no : reaches c b.at ≡ false = older c (newer ++ (b ∷ g)) b b.at rising (stands_right newer (b ∷ g) b (inl refl))
    refl in
    rank-older c (newer ++ (b ∷ g)) b.at no ∙ rank-mid newer b g rising.2

rank-below : (newer : List Access) (b : Access) (g : List Access) (r : Access) → Rising (newer ++ (b ∷ g)) →
    StandsIn g r →
    rank (newer ++ (b ∷ g)) r.at ≤ length g
rank-below [] b g r rising s =
    let no : reaches b r.at ≡ false = older b g r r.at rising s refl in
    omega (arith, rank-older b g r.at no, rank-le g r.at)
rank-below (c ∷ newer) b g r rising s =
    let no : reaches c r.at ≡ false = older c (newer ++ (b ∷ g)) r r.at rising (stands_right newer (b ∷ g) r (inr s))
    refl in
    omega (arith, rank-older c (newer ++ (b ∷ g)) r.at no, rank-below newer b g r rising.2 s)

-- what leads to another core leads to an access of it
pub record Arrives (h : List Access) (x y : Instr) : Type 0 where
  pub there : Access
  pub stands : StandsIn h there
  pub core_is : there.at.core ≡ y.core
  pub count_le : there.at.count ≤ y.count
  pub before : Before (Pair h) x there.at

arrived : (h : List Access) (x z y : Instr) → Pair h x z → z.core ≡ y.core → z.count ≤ y.count → Arrives h x y
arrived h x z y p same le =
    let e = ends h x z p in
    record {
      there = e.second;
      stands = e.second_stands;
      core_is = ap (λ (v : Instr). v.core) e.second_at ∙ same;
      count_le = let f : e.second.at.count
          ≡ z.count = ap (λ (v : Instr). v.count) e.second_at in
          omega arith;
      before = subst (λ (v : Instr). Before (Pair h) x v) (sym e.second_at) (one (Pair h) x z (inr p));
    }

arrives_at : (h : List Access) → Rising h → (n : ℕ) (x y : Instr) → Path (Pair h) n x y → x.core ≢ y.core →
    Arrives h x y
arrives_at h rising zero x y (inl s) d = absurd (d s.0)
arrives_at h rising zero x y (inr s) d = arrived h x y y s refl (omega arith)
arrives_at h rising (suc n) x y p d = by (cases_eq p.0.core y.core) (arrives_at h rising n p.0 y p.2) p.1
    (cases_lt y.count p.0.count)
  where
    later : p.0.core ≡ y.core → y.count < p.0.count → ⊥
    later e lt = no_cycle h rising y (joined (Pair h) y p.0 y (one (Pair h) y p.0 (inl (sym e, lt))) (n, p.2))

    by : (p.0.core ≡ y.core) ⊎ (p.0.core ≢ y.core) → (p.0.core ≢ y.core → Arrives h p.0 y) → Step (Pair h) x p.0 →
        (y.count < p.0.count)
        ⊎ (p.0.count ≤ y.count) → Arrives h x y
    by (inr e) ih s _ =
        let r = ih e in
        record {
          there = r.there;
          stands = r.stands;
          core_is = r.core_is;
          count_le = r.count_le;
          before = joined (Pair h) x p.0 r.there.at (one (Pair h) x p.0 s) r.before;
        }
    by (inl e) ih (inl s) _ = absurd (d (s.0 ∙ e))
    by (inl e) ih (inr s) (inr le) = arrived h x p.0 y s e le
    by (inl e) ih (inr s) (inl lt) = absurd (later e lt)

pub arrives : (h : List Access) → Rising h → (x y : Instr) → Before (Pair h) x y → x.core ≢ y.core → Arrives h x y
arrives h rising x y p d = arrives_at h rising p.0 x y p.1 d

-- ---- the rule of the scan

-- no newer access that leads to a has b in its clock
abbrev pub IsFree : List Access → List Access → Access → Access → Type 0
IsFree h newer a b = (r : Access) → StandsIn newer r → Direct r a → clock h r.at b.at.core < b.at.count

pub free_kept : (newer : List Access) (b : Access) (g : List Access) (a : Access) → Rising (a ∷ newer ++ (b ∷ g)) →
    Conflicts b a →
    IsFree (newer ++ (b ∷ g)) newer a b → Kept (a ∷ newer ++ (b ∷ g)) b.at a.at
free_kept newer b g a rising conflict free = record {
  pair = inl (refl, (b, stands_b, refl, conflict));
  own = let e = before_a a h b.at.core rising in let lt =
      own_below (cases_lt (clock h (previous a.at) b.at.core) b.at.count) in omega arith;
  others = λ z p d. let s = pair_source a h z rising p in let e = source_clock a h z b.at.core rising s in let lt =
      other_below s.0 s.1 s.2 s.3 z d in
      omega arith;
}
  where
    h : List Access
    h = newer ++ (b ∷ g)

    stands_b : StandsIn h b
    stands_b = stands_right newer (b ∷ g) b (inl refl)

    pos : 1 ≤ b.at.count
    pos = stands_pos h b rising.2 stands_b

    -- b leads only to newer ones
    newer_than : (r : Access) → StandsIn h r → Before (Pair h) b.at r.at → StandsIn newer r
    newer_than r s p = by (stands_which newer (b ∷ g) r s)
      where
        up : rank h b.at < rank h r.at
        up = rank-before h rising.2 r b.at r.at s refl p

        mid : rank h b.at ≡ suc (length g)
        mid = rank-mid newer b g rising.2

        by : StandsIn newer r ⊎ StandsIn (b ∷ g) r → StandsIn newer r
        by (inl t) = t
        by (inr (inl e)) = let f : rank h b.at ≡ rank h r.at = ap (λ (d : Access). rank h d.at) e in
            absurd (omega (arith, up, f))
        by (inr (inr t)) = absurd (omega (arith, rank-below newer b g r rising.2 t, up, mid))

    lt_of : (r : Access) → StandsIn h r → Direct r a → Before (Pair h) b.at r.at → clock h r.at b.at.core < b.at.count
    lt_of r s direct p = free r (newer_than r s p) direct

    through_own : UpTo h b.at (previous a.at) → ⊥
    through_own (inl e) = conflict.0 (ap (λ (v : Instr). v.core) e)
    through_own (inr p) =
        let r = arrives h rising.2 b.at (previous a.at) p conflict.0 in
        let lt = lt_of r.there r.stands (inl r.core_is) r.before in
        let le = clock-before h b.at r.there.at rising.2 r.before in
        omega arith

    own_below : (clock h (previous a.at) b.at.core < b.at.count) ⊎ (b.at.count ≤ clock h (previous a.at) b.at.core) →
        clock h (previous a.at) b.at.core < b.at.count
    own_below (inr le) = absurd (through_own (clock-up_to h b.at (previous a.at) pos le))
    own_below (inl lt) = lt

    other_up : (r : Access) → StandsIn h r → Direct r a → r.at ≢ b.at → UpTo h b.at r.at →
        clock h r.at b.at.core < b.at.count
    other_up r s direct d (inl e) = absurd (d (sym e))
    other_up r s direct d (inr p) = lt_of r s direct p

    other_cases : (r : Access) → StandsIn h r → Direct r a → r.at ≢ b.at →
        (clock h r.at b.at.core < b.at.count) ⊎ (b.at.count ≤ clock h r.at b.at.core) →
        clock h r.at b.at.core < b.at.count
    other_cases r s direct d (inr le) = other_up r s direct d (clock-up_to h b.at r.at pos le)
    other_cases r s direct d (inl lt) = lt

    other_below : (r : Access) → StandsIn h r → {z : Instr} → r.at ≡ z → Conflicts r a → (w : Instr) → z ≢ b.at →
        clock h z b.at.core < b.at.count
    other_below r s {z} e k w d =
        subst (λ (v : Instr). clock h v b.at.core < b.at.count) e (other_cases r s (inr k) (λ f. d (sym e ∙ f))
        (cases_lt (clock h r.at b.at.core) b.at.count))

pub kept_free : (newer : List Access) (b : Access) (g : List Access) (a : Access) → Rising (a ∷ newer ++ (b ∷ g)) →
    Kept (a ∷ newer ++ (b ∷ g)) b.at a.at →
    IsFree (newer ++ (b ∷ g)) newer a b
kept_free newer b g a rising k r s direct = by direct
  where
    h : List Access
    h = newer ++ (b ∷ g)

    stands_r : StandsIn h r
    stands_r = stands_left newer (b ∷ g) r s

    apart : r.at ≢ b.at
    apart e = let f : rank h r.at ≡ rank h b.at = ap (λ (v : Instr). rank h v) e in
        absurd (omega (arith, rank-newer newer b g r rising.2 s, rank-mid newer b g rising.2))

    by : Direct r a → clock h r.at b.at.core < b.at.count
    by (inl e) =
        let lt = rising.1 r stands_r e in
        let up = clock-program h r.at (previous a.at) b.at.core e (omega arith) in
        let f = before_a a h b.at.core rising in
        let below = k.own in
        omega arith
    by (inr c) =
        let src : Source h a r.at = (r, stands_r, refl, c) in
        let e = source_clock a h r.at b.at.core rising src in
        let below = k.others r.at (inl (refl, src)) apart in
        omega arith

-- ---- the clock of a, by what leads to it

pub direct_clock : (history : List Access) (access : Access) (i n : ℕ) → Rising (access ∷ history) →
    i ≢ access.at.core → 1 ≤ n →
    (n ≤ clock (access ∷ history) access.at i) ↔
    ((r : Access) × StandsIn history r × Direct r access × (n ≤ clock history r.at i))
direct_clock history access i n rising apart pos = (λ le. to (clock-up_to (access ∷ history) x access.at pos le), back)
  where
    x : Instr
    x = record { core = i; count = n }

    up : (h' : List Access) → Rising h' → (w : Instr) → UpTo h' x w → n ≤ clock h' w i
    up h' r w (inl e) = subst (λ (v : Instr). n ≤ clock h' v i) e (clock-own h' x)
    up h' r w (inr q) = clock-before h' x w r q

    on_core : UpTo history x (previous access.at) → (r : Access) × StandsIn history r × Direct r access
        × (n ≤ clock history r.at i)
    on_core (inl e) = absurd (apart (ap (λ (v : Instr). v.core) e))
    on_core (inr p) = let r = arrives history rising.2 x (previous access.at) p apart in
        (r.there, r.stands, inl r.core_is, clock-before history x r.there.at rising.2 r.before)

    last : (w : Instr) → UpTo (access ∷ history) x w → Step (Pair (access ∷ history)) w access.at →
        (r : Access) × StandsIn history r × Direct r access × (n ≤ clock history r.at i)
    last w u (inl s) =
        let le = up (access ∷ history) rising w u in
        let t = clock-program (access ∷ history) w (previous access.at) i s.0 (let lt = s.1 in omega arith) in
        let e = before_a access history i rising in
        on_core (clock-up_to history x (previous access.at) pos (omega arith))
    last w u (inr s) =
        let src = pair_source access history w rising s in
        let le = up (access ∷ history) rising w u in
        let e = source_clock access history w i rising src in
        let f : clock history src.0.at i ≡ clock history w i = ap (λ (v : Instr). clock history v i) src.2 in
        (src.0, src.1, inr src.3, omega arith)

    to : UpTo (access ∷ history) x access.at → (r : Access) × StandsIn history r × Direct r access
        × (n ≤ clock history r.at i)
    to (inl e) = absurd (apart (ap (λ (v : Instr). v.core) e))
    to (inr q) = let l = last_at (Pair (access ∷ history)) q.0 x access.at q.1 in last l.0 l.1 l.2

    old : (r : Access) → StandsIn history r → clock (access ∷ history) r.at i ≡ clock history r.at i
    old r s = clock-older access history r.at i (older access history r r.at rising s refl)

    back_by : (r : Access) → StandsIn history r → Direct r access → n ≤ clock history r.at i →
        n ≤ clock (access ∷ history) access.at i
    back_by r s (inl e) le =
        let lt = rising.1 r s e in
        omega (arith, old r s, clock-program (access ∷ history) r.at access.at i e (omega arith))
    back_by r s (inr c) le =
        omega (arith, old r s, clock-pair (access ∷ history) r.at access.at i rising (inl (refl, (r, s, refl, c))))

    back : (r : Access) × StandsIn history r × Direct r access × (n ≤ clock history r.at i) →
        n ≤ clock (access ∷ history) access.at i
    back q = back_by q.0 q.1 q.2 q.3

-- ---- the steps of the scan

-- what the clock m has, after the newer accesses
abbrev pub Reached : List Access → List Access → Access → (ℕ → ℕ) → Type 0
Reached h newer a m = (i n : ℕ) → i < CORES_MAX → 1 ≤ n →
    (n ≤ m i) ↔ ((r : Access) × StandsIn newer r × Direct r a × (n ≤ clock h r.at i))

-- the edges found from the newer accesses
abbrev pub FoundFrom : List Access → List Access → Access → List Edge → List Edge → Type 0
FoundFrom h newer a old new =
    (x y : Instr) → Among new x y ↔ (Among old x y ⊎ ((y ≡ a.at) × (r : Access) × StandsIn newer r × (r.at ≡ x) × Cover
    (a ∷ h) x a.at))

pub reached_skip : (h newer : List Access) (a b : Access) (m : ℕ → ℕ) → (Direct b a → ⊥) → Reached h newer a m →
    Reached h (newer ++ (b ∷ [])) a m
reached_skip h newer a b m not_direct reached i n lt pos = (
  λ le. let q = (reached i n lt pos).0 le in (q.0, stands_left newer (b ∷ []) q.0 q.1, q.2, q.3),
  λ q. (reached i n lt pos).1 (by q.0 (stands_which newer (b ∷ []) q.0 q.1) q.2 q.3),
)
  where
    by : (r : Access) → StandsIn newer r ⊎ StandsIn (b ∷ []) r → Direct r a → n ≤ clock h r.at i →
        (r : Access) × StandsIn newer r × Direct r a
        × (n ≤ clock h r.at i)
    by r (inl s) direct le = (r, s, direct, le)
    by r (inr (inl e)) direct le = absurd (not_direct (subst (λ (d : Access). Direct d a) (sym e) direct))
    by r (inr (inr s)) direct le = absurd s

pub reached_merge : (h newer : List Access) (a b : Access) (m c w : ℕ → ℕ) → Direct b a → Reached h newer a m →
    ((i : ℕ) → i < CORES_MAX → c i ≡ clock h b.at i) → ((i : ℕ) → w i ≡ max (m i) (c i)) →
    Reached h (newer ++ (b ∷ [])) a w
reached_merge h newer a b m c w direct reached exact merged i n lt pos = (
  λ le. to (reached_by n (m i) (c i) (let e = merged i in omega arith)),
  λ q. back q.0 (stands_which newer (b ∷ []) q.0 q.1) q.2 q.3,
)
  where
    to : (n ≤ m i) ⊎ (n ≤ c i) → (r : Access) × StandsIn (newer ++ (b ∷ [])) r × Direct r a × (n ≤ clock h r.at i)
    to (inl le) = let q = (reached i n lt pos).0 le in (q.0, stands_left newer (b ∷ []) q.0 q.1, q.2, q.3)
    to (inr le) = (b, stands_right newer (b ∷ []) b (inl refl), direct, omega (arith, exact i lt))

    back : (r : Access) → StandsIn newer r ⊎ StandsIn (b ∷ []) r → Direct r a → n ≤ clock h r.at i → n ≤ w i
    back r (inl s) d le = let q = (reached i n lt pos).1 (r, s, d, le) in let e = merged i in omega arith
    back r (inr (inl f)) d le = let e = merged i in let g : clock h b.at i ≡ clock h r.at i =
        ap (λ (v : Access). clock h v.at i) f in omega (arith, exact i lt)
    back r (inr (inr s)) d le = absurd s

pub found_skip : (h newer : List Access) (a b : Access) (old new : List Edge) → (Cover (a ∷ h) b.at a.at → ⊥) →
    FoundFrom h newer a old new →
    FoundFrom h (newer ++ (b ∷ [])) a old new
found_skip h newer a b old new not_cover found x y = (λ s. to ((found x y).0 s), λ q. (found x y).1 (back q))
  where
    Left : Type 0
    Left = Among old x y ⊎ ((y ≡ a.at) × (r : Access) × StandsIn newer r × (r.at ≡ x) × Cover (a ∷ h) x a.at)

    to : Among old x y ⊎ ((y ≡ a.at) × (r : Access) × StandsIn newer r × (r.at ≡ x) × Cover (a ∷ h) x a.at) →
        Among old x y
        ⊎ ((y ≡ a.at) × (r : Access) × StandsIn (newer ++ (b ∷ [])) r × (r.at ≡ x) × Cover (a ∷ h) x a.at)
    to (inl s) = inl s
    to (inr q) = inr (q.0, q.1, stands_left newer (b ∷ []) q.1 q.2, q.3, q.4)

    back_by : y ≡ a.at → (r : Access) → StandsIn newer r ⊎ StandsIn (b ∷ []) r → r.at ≡ x → Cover (a ∷ h) x a.at →
        Among old x y
        ⊎ ((y ≡ a.at) × (r : Access) × StandsIn newer r × (r.at ≡ x) × Cover (a ∷ h) x a.at)
    back_by e r (inl s) f c = inr (e, r, s, f, c)
    back_by e r (inr (inl g)) f c = absurd (not_cover (subst (λ (v : Instr). Cover (a ∷ h) v a.at)
        (sym (ap (λ (d : Access). d.at) g ∙ f)) c))
    back_by e r (inr (inr s)) f c = absurd s

    back : Among old x y ⊎ ((y ≡ a.at) × (r : Access) × StandsIn (newer ++ (b ∷ [])) r × (r.at ≡ x) × Cover (a ∷ h) x
        a.at) → Among old x y
        ⊎ ((y ≡ a.at) × (r : Access) × StandsIn newer r × (r.at ≡ x) × Cover (a ∷ h) x a.at)
    back (inl s) = inl s
    back (inr q) = back_by q.0 q.1 (stands_which newer (b ∷ []) q.1 q.2) q.3 q.4

pub among-push : (es : List Edge) (e : Edge) (x y : Instr) →
    Among (es ++ (e ∷ [])) x y ↔ (Among es x y ⊎ ((e.from ≡ x) × (e.to ≡ y)))
among-push es e x y = (to es, from es)
  where
    to : (es : List Edge) → Among (es ++ (e ∷ [])) x y → Among es x y ⊎ ((e.from ≡ x) × (e.to ≡ y))
    to [] (inl s) = inr s
    to [] (inr s) = absurd s
    to (f ∷ es) (inl s) = inl (inl s)
    to (f ∷ es) (inr s) = on (to es s)
      where
        on : Among es x y ⊎ ((e.from ≡ x) × (e.to ≡ y)) → Among (f ∷ es) x y ⊎ ((e.from ≡ x) × (e.to ≡ y))
        on (inl t) = inl (inr t)
        on (inr t) = inr t

    from : (es : List Edge) → Among es x y ⊎ ((e.from ≡ x) × (e.to ≡ y)) → Among (es ++ (e ∷ [])) x y
    from [] (inl s) = absurd s
    from [] (inr s) = inl s
    from (f ∷ es) (inl (inl s)) = inl s
    from (f ∷ es) (inl (inr s)) = inr (from es (inl s))
    from (f ∷ es) (inr s) = inr (from es (inr s))

pub found_push : (h newer : List Access) (a b : Access) (old new next : List Edge) (e : Edge) → e.from ≡ b.at →
    e.to ≡ a.at → next ≡ new ++ (e ∷ []) →
    Cover (a ∷ h) b.at a.at → FoundFrom h newer a old new → FoundFrom h (newer ++ (b ∷ [])) a old next
found_push h newer a b old new next e from_is to_is is cover found x y = (
  λ s. to ((among-push new e x y).0 (subst (λ (es : List Edge). Among es x y) is s)),
  λ q. subst (λ (es : List Edge). Among es x y) (sym is) ((among-push new e x y).1 (back q)),
)
  where
    old_to : Among old x y ⊎ ((y ≡ a.at) × (r : Access) × StandsIn newer r × (r.at ≡ x) × Cover (a ∷ h) x a.at) →
        Among old x y
        ⊎ ((y ≡ a.at) × (r : Access) × StandsIn (newer ++ (b ∷ [])) r × (r.at ≡ x) × Cover (a ∷ h) x a.at)
    old_to (inl s) = inl s
    old_to (inr q) = inr (q.0, q.1, stands_left newer (b ∷ []) q.1 q.2, q.3, q.4)

    to : Among new x y ⊎ ((e.from ≡ x) × (e.to ≡ y)) → Among old x y
        ⊎ ((y ≡ a.at) × (r : Access) × StandsIn (newer ++ (b ∷ [])) r × (r.at ≡ x) × Cover (a ∷ h) x a.at)
    to (inl s) = old_to ((found x y).0 s)
    to (inr s) = inr (
      sym s.1 ∙ to_is,
      b,
      stands_right newer (b ∷ []) b (inl refl),
      sym from_is
          ∙ s.0,
      subst (λ (v : Instr). Cover (a ∷ h) v a.at) (sym from_is ∙ s.0) cover,
    )

    back_by : y ≡ a.at → (r : Access) → StandsIn newer r ⊎ StandsIn (b ∷ []) r → r.at ≡ x → Cover (a ∷ h) x a.at →
        Among new x y ⊎ ((e.from ≡ x) × (e.to ≡ y))
    back_by g r (inl s) f c = inl ((found x y).1 (inr (g, r, s, f, c)))
    back_by g r (inr (inl k)) f c = inr (from_is ∙ ap (λ (d : Access). d.at) k ∙ f, to_is ∙ sym g)
    back_by g r (inr (inr s)) f c = absurd s

    back : Among old x y ⊎ ((y ≡ a.at) × (r : Access) × StandsIn (newer ++ (b ∷ [])) r × (r.at ≡ x) × Cover (a ∷ h) x
        a.at) → Among new x y
        ⊎ ((e.from ≡ x) × (e.to ≡ y))
    back (inl s) = inl ((found x y).1 (inl s))
    back (inr q) = back_by q.0 q.1 (stands_which newer (b ∷ []) q.1 q.2) q.3 q.4

-- m covers b: some newer one has it in its clock
pub covered_not : (newer : List Access) (b : Access) (g : List Access) (a : Access) (m : ℕ → ℕ) →
    Rising (a ∷ newer ++ (b ∷ g)) → b.at.core < CORES_MAX →
    Reached (newer ++ (b ∷ g)) newer a m → b.at.count ≤ m b.at.core → Cover (a ∷ newer ++ (b ∷ g)) b.at a.at → ⊥
covered_not newer b g a m rising fits reached le cover =
    let h : List Access = newer ++ (b ∷ g) in
    let pos = stands_pos h b rising.2 (stands_right newer (b ∷ g) b (inl refl)) in
    let q = (reached b.at.core b.at.count fits pos).0 le in
    let lt = kept_free newer b g a rising (covers_kept (a ∷ h) b.at a.at rising cover) q.0 q.1 q.2 in
    let le' = q.3 in
    omega arith

pub not_covered : (newer : List Access) (b : Access) (g : List Access) (a : Access) (m : ℕ → ℕ) →
    Rising (a ∷ newer ++ (b ∷ g)) → b.at.core < CORES_MAX →
    Conflicts b a → Reached (newer ++ (b ∷ g)) newer a m → m b.at.core < b.at.count →
    Cover (a ∷ newer ++ (b ∷ g)) b.at a.at
not_covered newer b g a m rising fits conflict reached lt = kept_covers (a ∷ newer ++ (b ∷ g)) b.at a.at rising
    (free_kept newer b g a rising conflict free)
  where
    pos : 1 ≤ b.at.count
    pos = stands_pos (newer ++ (b ∷ g)) b rising.2 (stands_right newer (b ∷ g) b (inl refl))

    by : (r : Access) → StandsIn newer r → Direct r a → (clock (newer ++ (b ∷ g)) r.at b.at.core < b.at.count)
        ⊎ (b.at.count ≤ clock (newer ++ (b ∷ g)) r.at b.at.core) → clock (newer ++ (b ∷ g)) r.at b.at.core < b.at.count
    by r s d (inr le) = let up = (reached b.at.core b.at.count fits pos).1 (r, s, d, le) in absurd (omega arith)
    by r s d (inl lt) = lt

    free : IsFree (newer ++ (b ∷ g)) newer a b
    free r s d = by r s d (cases_lt (clock (newer ++ (b ∷ g)) r.at b.at.core) b.at.count)
