-- The online rule keeps exactly the covering pairs.
use Rattle.std.proofs.Common.{◌≡◌, ◌≢◌, ℕ, ◌-◌, ◌<◌, ◌≤◌, ◌⊎◌, ◌↔◌, List, [], ◌∷◌, refl, sym, ◌∙◌, ap, subst, inl, inr}
use Rattle.std.proofs.Common.{arith, true, false, Some, None, nat_eq}
use Rattle.std.proofs.Common.{Bool}
use Rattle.std.proofs.Math.Nat.{eq-or-lt_of_le}
use Rattle.std.proofs.lemmas.Bool.{cases_eq, cases_lt}
use Rattle.std.proofs.lemmas.Bool.Decides.{nat_tests}
use Rattle.clock_core.proofs.Paths.{joined, one}
use Rattle.clock_core.specs.Order.{Before, previous}
use Rattle.conflict_edge.proofs.Clocks.{clock-before, clock-up_to, clock-older, clock-own, UpTo, widen_up}
use Rattle.conflict_edge.proofs.History.{Source, Pair, Rising, ends, older, reaches-no}
use Rattle.conflict_edge.proofs.CoveringPairs.{Kept, Cover, kept_covers, covers_kept, stands_pos}
use Rattle.conflict_edge.proofs.Ranks.{no_cycle}
use Rattle.conflict_edge.specs.Clocks.{clock, last_write, last_read, Candidate, IsKept}
use Rattle.conflict_edge.specs.Conflicts.{Conflicts, StandsIn}
use Rattle.rtr_types.specs.Accesses.{is_write}
use Rattle.rtr_types.specs.declared.access.Access.{Access}
use Rattle.rtr_types.specs.declared.access.Kind.{Kind}
use Rattle.rtr_types.specs.declared.instr.Instr.{Instr}
use Rattle.rtr_types.proofs.Instrs.{instr_eq}

pub cases_kind : (k : Kind) → (is_write k ≡ false) ⊎ (is_write k ≡ true)
cases_kind k = by (is_write k)
  where
    by : (b : Bool) → (b ≡ false) ⊎ (b ≡ true)
    by true = inr refl
    by false = inl refl

not_both : (k : Kind) → is_write k ≡ false → is_write k ≡ true → ⊥
not_both k e f = let g : false ≡ true = sym e ∙ f in cc

-- ---- what the times hold

pub last_write-at : (b : Access) (h : List Access) (word : ℕ) → b.word ≡ word → is_write b.kind ≡ true →
    last_write (b ∷ h) word ≡ Some b
unfolding last_write
last_write-at b h word p q = let e : nat_eq b.word word ≡ true = grind (arith, nat_tests) in rw (e, q) refl

pub last_write-word : (b : Access) (h : List Access) (word : ℕ) → b.word ≢ word →
    last_write (b ∷ h) word ≡ last_write h word
unfolding last_write
last_write-word b h word p = let e : nat_eq b.word word ≡ false = grind (arith, nat_tests) in rw e refl

pub last_write-load : (b : Access) (h : List Access) (word : ℕ) → b.word ≡ word → is_write b.kind ≡ false →
    last_write (b ∷ h) word ≡ last_write h word
unfolding last_write
last_write-load b h word p q = let e : nat_eq b.word word ≡ true = grind (arith, nat_tests) in rw (e, q) refl

pub last_read-word : (b : Access) (h : List Access) (word core : ℕ) → b.word ≢ word →
    last_read (b ∷ h) word core ≡ last_read h word core
unfolding last_read
last_read-word b h word core p = let e : nat_eq b.word word ≡ false = grind (arith, nat_tests) in rw e refl

pub last_read-store : (b : Access) (h : List Access) (word core : ℕ) → b.word ≡ word → is_write b.kind ≡ true →
    last_read (b ∷ h) word core ≡ None
unfolding last_read
last_read-store b h word core p q = let e : nat_eq b.word word ≡ true = grind (arith, nat_tests) in rw (e, q) refl

pub last_read-at : (b : Access) (h : List Access) (word core : ℕ) → b.word ≡ word → is_write b.kind ≡ false →
    b.at.core ≡ core → last_read (b ∷ h) word core
    ≡ Some b
unfolding last_read
last_read-at b h word core p q r = let e : nat_eq b.word word ≡ true = grind (arith, nat_tests) in
    let d : nat_eq b.at.core core ≡ true = grind (arith, nat_tests) in rw (e, q, d) refl

pub last_read-core : (b : Access) (h : List Access) (word core : ℕ) → b.word ≡ word → is_write b.kind ≡ false →
    b.at.core ≢ core → last_read (b ∷ h) word core
    ≡ last_read h word core
unfolding last_read
last_read-core b h word core p q r = let e : nat_eq b.word word ≡ true = grind (arith, nat_tests) in
    let d : nat_eq b.at.core core ≡ false = grind (arith, nat_tests) in rw (e, q, d) refl

pub some_is : (b c : Access) → Some b ≡ Some c → b ≡ c
some_is b c e = cc

pub none_some : (c : Access) → None ≡ Some c → ⊥
none_some c e = cc

-- the last write is a store of the word in h
pub record IsWrite (h : List Access) (word : ℕ) (b : Access) : Type 0 where
  pub stands : StandsIn h b
  pub word_is : b.word ≡ word
  pub kind_is : is_write b.kind ≡ true

pub last_write-is : (h : List Access) (word : ℕ) (b : Access) → last_write h word ≡ Some b → IsWrite h word b
unfolding last_write
last_write-is [] word b e = absurd (none_some b e)
last_write-is (c ∷ h) word b e = by (last_write-is h word b) (cases_eq c.word word) (cases_kind c.kind)
  where
    over : IsWrite h word b → IsWrite (c ∷ h) word b
    over w = record { stands = inr w.stands; word_is = w.word_is; kind_is = w.kind_is }

    by : (last_write h word ≡ Some b → IsWrite h word b) → (c.word ≡ word) ⊎ (c.word ≢ word) →
        (is_write c.kind ≡ false) ⊎ (is_write c.kind ≡ true) →
        IsWrite (c ∷ h) word b
    by rest (inr p) _ = over (rest (sym (last_write-word c h word p) ∙ e))
    by rest (inl p) (inl q) = over (rest (sym (last_write-load c h word p q) ∙ e))
    by rest (inl p) (inr q) =
        let same : c ≡ b = some_is c b (sym (last_write-at c h word p q) ∙ e) in
        record {
          stands = inl same;
          word_is = ap (λ (d : Access). d.word) (sym same) ∙ p;
          kind_is =
              ap (λ (d : Access). is_write d.kind) (sym same) ∙ q;
        }

pub record IsRead (h : List Access) (word core : ℕ) (b : Access) : Type 0 where
  pub stands : StandsIn h b
  pub word_is : b.word ≡ word
  pub core_is : b.at.core ≡ core

pub last_read-is : (h : List Access) (word core : ℕ) (b : Access) → last_read h word core ≡ Some b →
    IsRead h word core b
unfolding last_read
last_read-is [] word core b e = absurd (none_some b e)
last_read-is (c ∷ h) word core b e = by (last_read-is h word core b) (cases_eq c.word word) (cases_kind c.kind)
    (cases_eq c.at.core core)
  where
    over : IsRead h word core b → IsRead (c ∷ h) word core b
    over w = record { stands = inr w.stands; word_is = w.word_is; core_is = w.core_is }

    by : (last_read h word core ≡ Some b → IsRead h word core b) → (c.word ≡ word) ⊎ (c.word ≢ word) →
        (is_write c.kind ≡ false) ⊎ (is_write c.kind ≡ true) →
        (c.at.core ≡ core) ⊎ (c.at.core ≢ core) → IsRead (c ∷ h) word core b
    by rest (inr p) _ _ = over (rest (sym (last_read-word c h word core p) ∙ e))
    by rest (inl p) (inr q) _ = absurd (none_some b (sym (last_read-store c h word core p q) ∙ e))
    by rest (inl p) (inl q) (inr r) = over (rest (sym (last_read-core c h word core p q r) ∙ e))
    by rest (inl p) (inl q) (inl r) =
        let same : c ≡ b = some_is c b (sym (last_read-at c h word core p q r) ∙ e) in
        record {
          stands = inl same;
          word_is = ap (λ (d : Access). d.word) (sym same) ∙ p;
          core_is =
              ap (λ (d : Access). d.at.core) (sym same) ∙ r;
        }

-- an access of a word is the last write, the last read of its core, or before one of these
abbrev pub Found : List Access → Access → Type 0
Found h b = ((c : Access) × (last_write h b.word ≡ Some c) × UpTo h b.at c.at)
    ⊎ ((c : Access) × (last_read h b.word b.at.core ≡ Some c) × (is_write b.kind ≡ false) × UpTo h b.at c.at)

pub found : (h : List Access) (b : Access) → Rising h → StandsIn h b → Found h b
found [] b rising s = absurd s
found (c ∷ h) b rising (inl e) = subst (λ (d : Access). Found (c ∷ h) d) e (by (cases_kind c.kind))
  where
    by : (is_write c.kind ≡ false) ⊎ (is_write c.kind ≡ true) → Found (c ∷ h) c
    by (inl k) = inr (c, last_read-at c h c.word c.at.core refl k refl, k, inl refl)
    by (inr k) = inl (c, last_write-at c h c.word refl k, inl refl)
found (c ∷ h) b rising (inr s) = by (found h b rising.2 s) (cases_eq c.word b.word) (cases_kind c.kind)
    (cases_eq c.at.core b.at.core)
  where
    on_core : c.at.core ≡ b.at.core → Before (Pair (c ∷ h)) b.at c.at
    on_core e = one (Pair (c ∷ h)) b.at c.at (inl (sym e, rising.1 b s (sym e)))

    by : Found h b → (c.word ≡ b.word) ⊎ (c.word ≢ b.word) → (is_write c.kind ≡ false) ⊎ (is_write c.kind ≡ true) →
        (c.at.core ≡ b.at.core)
        ⊎ (c.at.core ≢ b.at.core) → Found (c ∷ h) b
    by (inl f) (inr p) _ _ = inl (f.0, last_write-word c h b.word p ∙ f.1, widen_up c h b.at f.0.at f.2)
    by (inr f) (inr p) _ _ = inr (f.0, last_read-word c h b.word b.at.core p ∙ f.1, f.2, widen_up c h b.at f.0.at f.3)
    by _ (inl p) (inr k) (inl e) = inl (c, last_write-at c h b.word p k, inr (on_core e))
    by _ (inl p) (inr k) (inr e) =
        inl (
          c,
          last_write-at c h b.word p k,
          inr (one (Pair (c ∷ h)) b.at c.at
              (inr (inl (refl, (b, s, refl, (λ g. e (sym g), sym p, inr k)))))),
        )
    by (inl f) (inl p) (inl k) _ = inl (f.0, last_write-load c h b.word p k ∙ f.1, widen_up c h b.at f.0.at f.2)
    by (inr f) (inl p) (inl k) (inl e) = inr (c, last_read-at c h b.word b.at.core p k e, f.2, inr (on_core e))
    by (inr f) (inl p) (inl k) (inr e) = inr (
      f.0,
      last_read-core c h b.word b.at.core p k e
          ∙ f.1,
      f.2,
      widen_up c h b.at f.0.at f.3,
    )

-- ---- candidates and sources

pub candidate_source : (h : List Access) (a : Access) (z : Instr) → Candidate h a z → Source h a z
candidate_source h a z c = by c.0 c.1 c.2 c.3
  where
    by : (b : Access) → (last_write h a.word ≡ Some b)
        ⊎ ((is_write a.kind ≡ true) × (last_read h a.word b.at.core ≡ Some b)) → b.at.core ≢ a.at.core →
        b.at ≡ z → Source h a z
    by b (inl w) d e = let i = last_write-is h a.word b w in (b, i.stands, e, (d, i.word_is, inl i.kind_is))
    by b (inr w) d e = let i = last_read-is h a.word b.at.core b w.1 in (b, i.stands, e, (d, i.word_is, inr w.0))

-- a source is a candidate, is before one, or is in the clock of the instruction before
pub data Leads (h : List Access) (a : Access) (z : Instr) : Type 0 where
  itself : Candidate h a z → Leads h a z
  onward : (c : Instr) → Candidate h a c → Before (Pair h) z c → Leads h a z
  by_own : UpTo h z (previous a.at) → Leads h a z

-- an access of a's core is at or before the instruction before a
up_previous : (a : Access) (h : List Access) (c : Access) (z : Instr) → Rising (a ∷ h) → StandsIn h c →
    c.at.core ≡ a.at.core → UpTo h z c.at →
    UpTo h z (previous a.at)
up_previous a h c z rising s e up = by (eq-or-lt_of_le {n = c.at.count} {m = a.at.count - 1} (let lt = rising.1 c s e in
    omega arith)) up
  where
    by : (c.at.count ≡ a.at.count - 1) ⊎ (c.at.count < a.at.count - 1) → UpTo h z c.at → UpTo h z (previous a.at)
    by (inl f) u = subst (λ (w : Instr). UpTo h z w) (instr_eq c.at (previous a.at) e f) u
    by (inr lt) (inl g) = inr (subst (λ (w : Instr). Before (Pair h) w (previous a.at)) (sym g)
        (one (Pair h) c.at (previous a.at) (inl (e, lt))))
    by (inr lt) (inr p) = inr (joined (Pair h) z c.at (previous a.at) p (one (Pair h) c.at (previous a.at)
        (inl (e, lt))))

pub source_leads : (h : List Access) (a : Access) (z : Instr) → Rising (a ∷ h) → Source h a z → Leads h a z
source_leads h a z rising s = by s.0 s.1 s.2 s.3 (found h s.0 rising.2 s.1)
  where
    to : (c : Access) → Candidate h a c.at → UpTo h z c.at → Leads h a z
    to c k (inl e) = itself (subst (λ (w : Instr). Candidate h a w) (sym e) k)
    to c k (inr p) = onward c.at k p

    write : (c : Access) → last_write h a.word ≡ Some c → UpTo h z c.at →
        (c.at.core ≡ a.at.core) ⊎ (c.at.core ≢ a.at.core) → Leads h a z
    write c w up (inl e) = by_own (up_previous a h c z rising (last_write-is h a.word c w).stands e up)
    write c w up (inr d) = to c (c, inl w, d, refl) up

    by : (b : Access) → StandsIn h b → b.at ≡ z → Conflicts b a → Found h b → Leads h a z
    by b stands e k (inl f) =
        let w : last_write h a.word ≡ Some f.0 = subst (λ (n : ℕ). last_write h n ≡ Some f.0) k.1 f.1 in
        let up : UpTo h z f.0.at = subst (λ (v : Instr). UpTo h v f.0.at) e f.2 in
        write f.0 w up (cases_eq f.0.at.core a.at.core)
    by b stands e k (inr f) =
        let r : last_read h a.word b.at.core ≡ Some f.0 = subst (λ (n : ℕ). last_read h n b.at.core ≡ Some f.0) k.1
        f.1 in
        let i = last_read-is h a.word b.at.core f.0 r in
        let r' : last_read h a.word f.0.at.core ≡ Some f.0 = subst (λ (n : ℕ). last_read h a.word n ≡ Some f.0)
        (sym i.core_is) r in
        let up : UpTo h z f.0.at = subst (λ (v : Instr). UpTo h v f.0.at) e f.3 in
        to f.0 (f.0, inr (stored f.2 k.2, r'), (λ g. k.0 (sym i.core_is ∙ g)), refl) up
      where
        stored : is_write b.kind ≡ false → (is_write b.kind ≡ true) ⊎ (is_write a.kind ≡ true) → is_write a.kind ≡ true
        stored l (inl t) = absurd (not_both b.kind l t)
        stored l (inr t) = t

-- ---- the rule

-- clocks of what is before a don't see a
pub before_a : (a : Access) (h : List Access) (i : ℕ) → Rising (a ∷ h) → clock (a ∷ h) (previous a.at) i ≡ clock h
    (previous a.at) i
before_a a h i rising = clock-older a h (previous a.at) i (reaches-no a (previous a.at) (λ _. let pos = rising.0 in
    omega arith))

pub source_clock : (a : Access) (h : List Access) (z : Instr) (i : ℕ) → Rising (a ∷ h) → Source h a z →
    clock (a ∷ h) z i ≡ clock h z i
source_clock a h z i rising s = clock-older a h z i (older a h s.0 z rising s.1 s.2)

-- a pair into the newest access is from a source
pub pair_source : (a : Access) (h : List Access) (z : Instr) → Rising (a ∷ h) → Pair (a ∷ h) z a.at → Source h a z
pair_source a h z rising (inl p) = p.1
pair_source a h z rising (inr p) =
    let e = ends h z a.at p in
    let lt = rising.1 e.second e.second_stands (ap (λ (v : Instr). v.core) e.second_at) in
    let same : e.second.at.count ≡ a.at.count = ap (λ (v : Instr). v.count) e.second_at in
    absurd (omega arith)

pub kept_online : (h : List Access) (a : Access) (x : Instr) → Rising (a ∷ h) → IsKept h a x → Kept (a ∷ h) x a.at
kept_online h a x rising k =
    record {
      pair = inl (refl, src);
      own = let e = before_a a h x.core rising in let lt = k.own in
          omega arith;
      others = λ z p d. let s = pair_source a h z rising p in let e = source_clock a h z x.core rising s in
          let lt = below z d (source_leads h a z rising s) in omega arith;
    }
  where
    src : Source h a x
    src = candidate_source h a x k.candidate

    pos : 1 ≤ x.count
    pos = subst (λ (v : Instr). 1 ≤ v.count) src.2 (stands_pos h src.0 rising.2 src.1)

    joins : (z c : Instr) → UpTo h x z → Before (Pair h) z c → Before (Pair h) x c
    joins z c (inl e) p = subst (λ (v : Instr). Before (Pair h) v c) (sym e) p
    joins z c (inr q) p = joined (Pair h) x z c q p

    not_through : (z c : Instr) → UpTo h x z → Candidate h a c → Before (Pair h) z c → ⊥
    not_through z c up cand p =
        let q = joins z c up p in
        let le = clock-before h x c rising.2 q in
        let lt = k.others c cand (λ e. no_cycle h rising.2 x (subst (λ (v : Instr). Before (Pair h) x v) e q)) in
        omega arith

    in_own : (z : Instr) → UpTo h x z → UpTo h z (previous a.at) → x.count ≤ clock h (previous a.at) x.core
    in_own z (inl e) (inl f) = subst (λ (v : Instr). x.count ≤ clock h v x.core) (e ∙ f) (clock-own h x)
    in_own z up (inr p) = clock-before h x (previous a.at) rising.2 (joins z (previous a.at) up p)
    in_own z (inr q) (inl f) = clock-before h x (previous a.at) rising.2 (subst (λ (v : Instr). Before (Pair h) x v) f
        q)

    below_by : (z : Instr) → (z ≢ x) → Leads h a z → (clock h z x.core < x.count) ⊎ (x.count ≤ clock h z x.core) →
        clock h z x.core < x.count
    below_by z d _ (inl lt) = lt
    below_by z d (itself c) (inr le) = k.others z c d
    below_by z d (onward c cand p) (inr le) = absurd (not_through z c (clock-up_to h x z pos le) cand p)
    below_by z d (by_own up) (inr le) = let l = in_own z (clock-up_to h x z pos le) up in let lt = k.own in
        absurd (omega arith)

    below : (z : Instr) → (z ≢ x) → Leads h a z → clock h z x.core < x.count
    below z d l = below_by z d l (cases_lt (clock h z x.core) x.count)

pub online_kept : (h : List Access) (a : Access) (x : Instr) → Rising (a ∷ h) → Kept (a ∷ h) x a.at → IsKept h a x
online_kept h a x rising k = record {
  candidate = cand (source_leads h a x rising src);
  own = own_below;
  others = λ z c d. let s = candidate_source h a z c in
      let e = source_clock a h z x.core rising s in let lt = k.others z (inl (refl, s)) d in omega arith;
}
  where
    src : Source h a x
    src = pair_source a h x rising k.pair

    pos : 1 ≤ x.count
    pos = subst (λ (v : Instr). 1 ≤ v.count) src.2 (stands_pos h src.0 rising.2 src.1)

    own_below : clock h (previous a.at) x.core < x.count
    own_below = let e = before_a a h x.core rising in let lt = k.own in omega arith

    cand : Leads h a x → Candidate h a x
    cand (itself c) = c
    cand (onward c c_is p) =
        let s = candidate_source h a c c_is in
        let le = clock-before h x c rising.2 p in
        let e = source_clock a h c x.core rising s in
        let lt = k.others c (inl (refl, s)) (λ g. no_cycle h rising.2 x (subst (λ (v : Instr). Before (Pair h) x v) g
        p)) in
        absurd (omega arith)
    cand (by_own (inl e)) = absurd (src.3.0 (ap (λ (v : Instr). v.core) (src.2 ∙ e)))
    cand (by_own (inr p)) = let le = clock-before h x (previous a.at) rising.2 p in let lt = own_below in
        absurd (omega arith)

-- the rule keeps exactly the covering pairs into the newest access
pub online_rule : (h : List Access) (a : Access) (x : Instr) → Rising (a ∷ h) → IsKept h a x ↔ Cover (a ∷ h) x a.at
online_rule h a x rising = (
  λ k. kept_covers (a ∷ h) x a.at rising (kept_online h a x rising k),
  λ c. online_kept h a x rising
      (covers_kept (a ∷ h) x a.at rising c),
)
