-- The candidates of an access: what they are, and how many.
use Rattle.std.proofs.Common.{◌≡◌, ◌≢◌, ℕ, zero, suc, ◌+◌, ◌%◌, ◌<◌, ◌≤◌, ◌⊎◌, List, [], ◌∷◌, ◌++◌, length, refl, sym}
use Rattle.std.proofs.Common.{◌∙◌, ap, subst, inl, inr, arith, true}
use Rattle.std.proofs.Common.{false, Bool, not, ◌&&◌, nat_eq, nat_lt, Option, Some, None, get_or}
use Rattle.std.proofs.lemmas.Bool.{and_parts}
use Rattle.std.specs.Prelude.{All, ⊤, if◌then◌else◌}
use Rattle.std.specs.Option.{option_to_list}
use Rattle.std.proofs.lemmas.List.{length-append}
use Rattle.std.proofs.lemmas.List.Elements.{All-nil, All-cons}
use Rattle.std.proofs.lemmas.Bool.Decides.{nat_tests}
use Rattle.rtr_types.specs.Accesses.{is_write}
use Rattle.rtr_types.specs.declared.instr.Instr.{Instr}
use Rattle.rtr_types.specs.declared.access.Access.{Access}
use Rattle.clock_core.specs.declared.clock.Clock.{Clock}
use Rattle.rtr_types.specs.declared.TheConstants.{BLOCK_WORDS, CORES_MAX}
use Rattle.access_times.specs.declared.times.Times.{Times}
use Rattle.access_times.specs.Times.{write_at, read_at}
use Rattle.online_reduce.specs.declared.TheConstants.{EDGES_MAX}
use Rattle.online_reduce.specs.declared.source.Source.{Source}
use Rattle.online_reduce.specs.Rule.{is_above}
use Rattle.online_reduce.specs.Sources.{is_live, write_from, read_from, reads_from, or_write, candidates}
use Rattle.conflict_edge.specs.Conflicts.{StandsIn}
use Rattle.conflict_edge.proofs.AccessPlaces.{stands_left, stands_right, stands_which}

-- ---- one of a list

pub all_from_one : (P : Source → Type 0) (xs : List Source) → ((s : Source) → StandsIn xs s → P s) → All P xs
all_from_one P [] f = All-nil P
all_from_one P (x ∷ xs) f = All-cons P x xs (f x (inl refl)) (all_from_one P xs (λ s o. f s (inr o)))

one_option : (o : Option Source) (s : Source) → StandsIn (option_to_list o) s → o ≡ Some s
one_option None s p = absurd p
one_option (Some r) s (inl e) = ap (λ (v : Source). Some v) e
one_option (Some r) s (inr p) = absurd p

option_one : (o : Option Source) (s : Source) → o ≡ Some s → StandsIn (option_to_list o) s
option_one None s e = absurd cc
option_one (Some r) s e = inl (same r s e)
  where
    same : (r s : Source) → Some r ≡ Some s → r ≡ s
    same r s e = cc

-- ---- live instructions

-- of another core, and above the clock before
pub record Lives (before : Clock) (a : Access) (at : Instr) : Type 0 where
  pub other : at.core ≢ a.at.core
  pub above : is_above before at ≡ true

pub live_is : (before : Clock) (a : Access) (at : Instr) → is_live before a at ≡ true → Lives before a at
live_is before a at e =
    let both = and_parts (not (nat_eq at.core a.at.core)) (is_above before at) e in
    let one : not (nat_eq at.core a.at.core) ≡ true = both.0 in
    record { other = grind (arith, nat_tests); above = both.1 }

pub is_live_of : (before : Clock) (a : Access) (at : Instr) → Lives before a at → is_live before a at ≡ true
is_live_of before a at l =
    let other = l.other in
    let one : not (nat_eq at.core a.at.core) ≡ true = grind (arith, nat_tests) in
    rw (one, l.above) refl

-- ---- the write

-- the write that is noted, where it is live and of one of the cores
pub record Wrote (cores : ℕ) (before : Clock) (a : Access) (w : Option (Instr × Clock)) (s : Source) : Type 0 where
  pub noted : w ≡ Some (s.at, s.clock)
  pub within : s.at.core < cores
  pub lives : Lives before a s.at

pub wrote : (cores : ℕ) (before : Clock) (a : Access) (w : Option (Instr × Clock)) (s : Source)
    → write_from cores before a w ≡ Some s →
    Wrote cores before a w s
wrote cores before a None s e = absurd cc
wrote cores before a (Some w) s e = by (nat_lt w.0.core cores && is_live before a w.0) refl e
  where
    by : (b : Bool) → nat_lt w.0.core cores && is_live before a w.0 ≡ b
        → (if b then Some (record { at = w.0; clock = w.1 }) else None) ≡ Some s →
        Wrote cores before a (Some w) s
    by true t f =
        let is : ◌≡◌ {A = Source} (record { at = w.0; clock = w.1 }) s = cc in
        let both = and_parts (nat_lt w.0.core cores) (is_live before a w.0) t in
        let one : nat_lt w.0.core cores ≡ true = both.0 in
        let within : w.0.core < cores = grind (arith, nat_tests) in
        record {
          noted = ap (λ (v : Source). (let n : Option (Instr × Clock) = Some (v.at, v.clock) in n)) is;
          within = subst (λ (v : Source). v.at.core < cores) is within;
          lives = subst (λ (v : Source). Lives before a v.at) is (live_is before a w.0 both.1);
        }
    by false t f = absurd cc

pub wrote_back : (cores : ℕ) (before : Clock) (a : Access) (s : Source) → s.at.core < cores → is_live before a s.at ≡
    true →
    write_from cores before a (Some (s.at, s.clock)) ≡ Some s
wrote_back cores before a s lt live =
    by (nat_lt s.at.core cores && is_live before a s.at)
    (let one : nat_lt s.at.core cores ≡ true = grind (arith, nat_tests) in rw (one, live) refl)
  where
    by : (b : Bool) → b ≡ true → (if b then Some (record { at = s.at; clock = s.clock }) else None) ≡ Some s
    by true t = refl
    by false t = absurd cc

-- a write of no core of these, or that is not live, gives none
pub no_write : (cores : ℕ) (before : Clock) (a : Access) (w : Instr × Clock)
    → (w.0.core < cores → is_live before a w.0 ≡ true → ⊥) →
    write_from cores before a (Some w) ≡ None
no_write cores before a w dead = by (nat_lt w.0.core cores && is_live before a w.0) refl
  where
    by : (b : Bool) → nat_lt w.0.core cores && is_live before a w.0 ≡ b
        → (if b then Some (let s : Source = record { at = w.0; clock = w.1 } in s) else None)
        ≡ None
    by false e = refl
    by true e =
        let both = and_parts (nat_lt w.0.core cores) (is_live before a w.0) e in
        let one : nat_lt w.0.core cores ≡ true = both.0 in
        absurd (dead (grind (arith, nat_tests)) both.1)

-- ---- the reads

-- the read that is noted, where a writes and it is live
pub record Read (before : Clock) (a : Access) (core : ℕ) (r : Option (ℕ × Clock)) (s : Source) : Type 0 where
  pub writes : is_write a.kind ≡ true
  pub noted : r ≡ Some (s.at.count, s.clock)
  pub core_is : s.at.core ≡ core
  pub lives : Lives before a s.at

did_read : (before : Clock) (a : Access) (core : ℕ) (r : Option (ℕ × Clock)) (s : Source) → read_from before a core r
    ≡ Some s → Read before a core r s
did_read before a core None s e = absurd cc
did_read before a core (Some r) s e = by (is_write a.kind && is_live before a at) refl e
  where
    at : Instr
    at = record { core = core; count = r.0 }

    by : (b : Bool) → is_write a.kind && is_live before a at ≡ b
        → (if b then Some (record { at = at; clock = r.1 }) else None) ≡ Some s →
        Read before a core (Some r) s
    by true t f =
        let is : ◌≡◌ {A = Source} (record { at = at; clock = r.1 }) s = cc in
        let both = and_parts (is_write a.kind) (is_live before a at) t in
        record {
          writes = both.0;
          noted = ap (λ (v : Source). (let n : Option (ℕ × Clock) = Some (v.at.count, v.clock) in n)) is;
          core_is = sym (ap (λ (v : Source). v.at.core) is);
          lives = subst (λ (v : Source). Lives before a v.at) is (live_is before a at both.1);
        }
    by false t f = absurd cc

read_back : (before : Clock) (a : Access) (s : Source) → is_write a.kind ≡ true → Lives before a s.at →
    read_from before a s.at.core (Some (s.at.count, s.clock)) ≡ Some s
read_back before a s w l = by (is_write a.kind && is_live before a s.at) (rw (w, is_live_of before a s.at l) refl)
  where
    by : (b : Bool) → b ≡ true
        → (if b then Some (record { at = record { core = s.at.core; count = s.at.count }; clock = s.clock }) else None)
        ≡ Some s
    by true t = refl
    by false t = absurd cc

-- s is noted in the times as a read, a writes, and s is live
pub record IsReadIn (before : Clock) (a : Access) (t : Times) (s : Source) : Type 0 where
  pub writes : is_write a.kind ≡ true
  pub noted : read_at t (a.word % BLOCK_WORDS) s.at.core ≡ Some (s.at.count, s.clock)
  pub lives : Lives before a s.at

pub reads_more : (n : ℕ) (before : Clock) (a : Access) (t : Times) → reads_from (n + 1) before a t
    ≡ reads_from n before a t ++ option_to_list (read_from before a n (read_at t (a.word % BLOCK_WORDS) n))
unfolding reads_from
reads_more n before a t = ap (λ (k : ℕ). reads_from k before a t) (let e : n + 1 ≡ suc n = omega arith in e)

pub one_read : (n : ℕ) (before : Clock) (a : Access) (t : Times) (s : Source) → StandsIn (reads_from n before a t) s →
    (s.at.core < n) × IsReadIn before a t s
unfolding reads_from
one_read zero before a t s o = absurd o
one_read (suc n) before a t s o =
    by (λ p. one_read n before a t s p)
    (stands_which (reads_from n before a t) (option_to_list (read_from before a n (read_at t (a.word % BLOCK_WORDS) n)))
    s o)
  where
    by : (StandsIn (reads_from n before a t) s → (s.at.core < n) × IsReadIn before a t s)
        → StandsIn (reads_from n before a t) s
        ⊎ StandsIn (option_to_list (read_from before a n (read_at t (a.word % BLOCK_WORDS) n))) s →
        (s.at.core < suc n) × IsReadIn before a t s
    by earlier (inl p) = let q = earlier p in let lt = q.0 in (omega arith, q.1)
    by earlier (inr p) =
        let r = did_read before a n (read_at t (a.word % BLOCK_WORDS) n) s
        (one_option (read_from before a n (read_at t (a.word % BLOCK_WORDS) n)) s p) in
        let e = r.core_is in (
          omega arith,
          record {
            writes = r.writes;
            noted = subst (λ (k : ℕ). read_at t (a.word % BLOCK_WORDS) k ≡ Some (s.at.count, s.clock)) (sym r.core_is)
                r.noted;
            lives = r.lives;
          },
        )

pub read_one : (n : ℕ) (before : Clock) (a : Access) (t : Times) (s : Source) → s.at.core < n → IsReadIn before a t s
    → StandsIn (reads_from n before a t) s
unfolding reads_from
read_one zero before a t s lt r = absurd (omega arith)
read_one (suc n) before a t s lt r = by (λ below. read_one n before a t s below r) (split s.at.core n)
  where
    split : (i j : ℕ) → (i < j) ⊎ (j ≤ i)
    split i j = grind arith

    by : (s.at.core < n → StandsIn (reads_from n before a t) s) → (s.at.core < n) ⊎ (n ≤ s.at.core)
        → StandsIn (reads_from n before a t
        ++ option_to_list (read_from before a n (read_at t (a.word % BLOCK_WORDS) n))) s
    by earlier (inl below) =
        stands_left (reads_from n before a t)
        (option_to_list (read_from before a n (read_at t (a.word % BLOCK_WORDS) n))) s (earlier below)
    by earlier (inr past) =
        let e : s.at.core ≡ n = omega arith in
        stands_right (reads_from n before a t)
        (option_to_list (read_from before a n (read_at t (a.word % BLOCK_WORDS) n))) s
        (subst (λ (k : ℕ). StandsIn (option_to_list (read_from before a k (read_at t (a.word % BLOCK_WORDS) k))) s) e
        (option_one (read_from before a s.at.core (read_at t (a.word % BLOCK_WORDS) s.at.core)) s
        (ap (read_from before a s.at.core) r.noted ∙ read_back before a s r.writes r.lives)))

-- ---- how many

one_at_most : (o : Option Source) → length (option_to_list o) ≤ 1
one_at_most None = omega arith
one_at_most (Some s) = omega arith

pub reads_few : (n : ℕ) (before : Clock) (a : Access) (t : Times) → length (reads_from n before a t) ≤ n
unfolding reads_from
reads_few zero before a t = omega arith
reads_few (suc n) before a t =
    omega (
      arith,
      length-append (reads_from n before a t)
          (option_to_list (read_from before a n (read_at t (a.word % BLOCK_WORDS) n))),
      reads_few n before a t,
      one_at_most (read_from before a n (read_at t (a.word % BLOCK_WORDS) n)),
    )

or_few : (reads : List Source) (write : Option Source) (n : ℕ) → 1 ≤ n → length reads ≤ n
    → length (or_write reads write) ≤ n
or_few [] write n pos le = omega (arith, one_at_most write)
or_few (r ∷ reads) write n pos le = le

pub found_few : (n : ℕ) (before : Clock) (a : Access) (t : Times) → n ≤ CORES_MAX → length (candidates n before a t) ≤
    EDGES_MAX
found_few n before a t le =
    or_few (reads_from n before a t) (write_from n before a (write_at t (a.word % BLOCK_WORDS))) EDGES_MAX (omega arith)
    (omega (arith, reads_few n before a t))

-- ---- no reads

loads_none : (before : Clock) (a : Access) (core : ℕ) (r : Option (ℕ × Clock)) → is_write a.kind ≡ false
    → read_from before a core r ≡ None
loads_none before a core None loads = refl
loads_none before a core (Some r) loads = rw loads refl

pub reads_none : (n : ℕ) (before : Clock) (a : Access) (t : Times) →
    ((k : ℕ) → k < n → read_from before a k (read_at t (a.word % BLOCK_WORDS) k) ≡ None) → reads_from n before a t ≡ []
unfolding reads_from
reads_none zero before a t none = refl
reads_none (suc n) before a t none =
    ap (λ (xs : List Source). xs ++ option_to_list (read_from before a n (read_at t (a.word % BLOCK_WORDS) n)))
    (reads_none n before a t (λ k lt. none k (omega arith)))
    ∙ ap (λ (v : Option Source). option_to_list v) (none n (omega arith))

-- a load has no read as a candidate
pub load_reads : (n : ℕ) (before : Clock) (a : Access) (t : Times) → is_write a.kind ≡ false → reads_from n before a t
    ≡ []
load_reads n before a t loads = reads_none n before a t
    (λ k lt. loads_none before a k (read_at t (a.word % BLOCK_WORDS) k) loads)

-- ---- the reads, or the write

-- where there are reads, they are the candidates
or_reads : (reads : List Source) (write : Option Source) (s : Source) → StandsIn reads s
    → StandsIn (or_write reads write) s
or_reads [] write s one = absurd one
or_reads (r ∷ reads) write s one = one

pub read_found : (n : ℕ) (before : Clock) (a : Access) (t : Times) (s : Source) → StandsIn (reads_from n before a t) s
    → StandsIn (candidates n before a t) s
read_found n before a t s one = or_reads (reads_from n before a t)
    (write_from n before a (write_at t (a.word % BLOCK_WORDS))) s one

-- the write is a candidate, or there is a read
or_other : (reads : List Source) (write : Option Source) (s : Source) → write ≡ Some s
    → StandsIn (or_write reads write) s ⊎ ((r : Source) × StandsIn reads r)
or_other [] write s e = inl (option_one write s e)
or_other (r ∷ reads) write s e = inr (r, inl refl)

pub write_or_read : (n : ℕ) (before : Clock) (a : Access) (t : Times) (s : Source) → write_from n before a
    (write_at t (a.word % BLOCK_WORDS)) ≡ Some s →
    StandsIn (candidates n before a t) s ⊎ ((r : Source) × StandsIn (reads_from n before a t) r)
write_or_read n before a t s e = or_other (reads_from n before a t)
    (write_from n before a (write_at t (a.word % BLOCK_WORDS))) s e

or_cases : (reads : List Source) (write : Option Source) (s : Source) → StandsIn (or_write reads write) s
    → StandsIn reads s ⊎ (write ≡ Some s)
or_cases [] write s one = inr (one_option write s one)
or_cases (r ∷ reads) write s one = inl one

-- s is noted in the times as a write or, where a writes, as a read, and is live
pub record IsNotedIn (before : Clock) (a : Access) (t : Times) (s : Source) : Type 0 where
  pub lives : Lives before a s.at
  pub noted : (write_at t (a.word % BLOCK_WORDS) ≡ Some (s.at, s.clock))
      ⊎ ((is_write a.kind ≡ true) × (read_at t (a.word % BLOCK_WORDS) s.at.core ≡ Some (s.at.count, s.clock)))

pub one_noted : (n : ℕ) (before : Clock) (a : Access) (t : Times) (s : Source) → StandsIn (candidates n before a t) s →
    (s.at.core < n) × IsNotedIn before a t s
one_noted n before a t s one = by
    (or_cases (reads_from n before a t) (write_from n before a (write_at t (a.word % BLOCK_WORDS))) s one)
  where
    by : StandsIn (reads_from n before a t) s ⊎ (write_from n before a (write_at t (a.word % BLOCK_WORDS)) ≡ Some s) →
        (s.at.core < n) × IsNotedIn before a t s
    by (inl p) = let q = one_read n before a t s p in
        (q.0, record { lives = q.1.lives; noted = inr (q.1.writes, q.1.noted) })
    by (inr e) =
        let w = wrote n before a (write_at t (a.word % BLOCK_WORDS)) s e in
        (w.within, record { lives = w.lives; noted = inl w.noted })

-- where there are no reads, the write is the only candidate
pub only_write : (n : ℕ) (before : Clock) (a : Access) (t : Times) (w : Option Source) → reads_from n before a t ≡ [] →
    write_from n before a (write_at t (a.word % BLOCK_WORDS)) ≡ w → candidates n before a t ≡ option_to_list w
only_write n before a t w none is =
    ap (λ (xs : List Source). or_write xs (write_from n before a (write_at t (a.word % BLOCK_WORDS)))) none
    ∙ ap (λ (v : Option Source). option_to_list v) is

-- where there are reads, they are the only candidates
pub only_reads : (n : ℕ) (before : Clock) (a : Access) (t : Times) (found : List Source) → found ≡ reads_from n before
    a t →
    nat_eq (length found) 0 ≡ false → found ≡ candidates n before a t
only_reads n before a t [] is some = absurd (grind (arith, nat_tests))
only_reads n before a t (s ∷ found) is some =
    ap (λ (xs : List Source). or_write xs (write_from n before a (write_at t (a.word % BLOCK_WORDS)))) is

-- ---- by rising core

-- the cores rise, from low on
abbrev pub CoresRise : ℕ → List Source → Type 0
CoresRise low [] = ⊤
CoresRise low (s ∷ found) = (low ≤ s.at.core) × CoresRise (s.at.core + 1) found

-- each is below n
abbrev CoresBelow : ℕ → List Source → Type 0
CoresBelow n [] = ⊤
CoresBelow n (s ∷ found) = (s.at.core < n) × CoresBelow n found

each_below : (n : ℕ) (found : List Source) → ((s : Source) → StandsIn found s → s.at.core < n) → CoresBelow n found
each_below n [] each = tt
each_below n (s ∷ found) each = (each s (inl refl), each_below n found (λ r o. each r (inr o)))

rise_one : (low n : ℕ) (found : List Source) (o : Option Source) → low ≤ n → CoresRise low found → CoresBelow n found →
    ((s : Source) → o ≡ Some s → s.at.core ≡ n) → CoresRise low (found ++ option_to_list o)
rise_one low n [] None le rise below is = tt
rise_one low n [] (Some s) le rise below is = let e = is s refl in (omega arith, tt)
rise_one low n (r ∷ found) o le rise below is = (
  rise.0,
  rise_one (r.at.core + 1) n found o (let lt = below.0 in
      omega arith) rise.1 below.1 is,
)

reads_rise : (n : ℕ) (before : Clock) (a : Access) (t : Times) → CoresRise 0 (reads_from n before a t)
unfolding reads_from
reads_rise zero before a t = tt
reads_rise (suc n) before a t =
    rise_one 0 n (reads_from n before a t) (read_from before a n (read_at t (a.word % BLOCK_WORDS) n)) (omega arith)
    (reads_rise n before a t)
    (each_below n (reads_from n before a t) (λ s o. (one_read n before a t s o).0))
    (λ s e. (did_read before a n (read_at t (a.word % BLOCK_WORDS) n) s e).core_is)

or_rise : (reads : List Source) (write : Option Source) → CoresRise 0 reads → CoresRise 0 (or_write reads write)
or_rise [] None rise = tt
or_rise [] (Some s) rise = (omega arith, tt)
or_rise (r ∷ reads) write rise = rise

pub candidates_rise : (n : ℕ) (before : Clock) (a : Access) (t : Times) → CoresRise 0 (candidates n before a t)
candidates_rise n before a t =
    or_rise (reads_from n before a t) (write_from n before a (write_at t (a.word % BLOCK_WORDS)))
    (reads_rise n before a t)

cores_above : (low : ℕ) (found : List Source) (k : ℕ) (d : Source) → CoresRise low found → k < length found
    → low ≤ (get_or found k d).at.core
cores_above low [] k d rise lt = absurd (omega arith)
cores_above low (s ∷ found) zero d rise lt = rise.0
cores_above low (s ∷ found) (suc k) d rise lt =
    let first = rise.0 in let rest = cores_above (s.at.core + 1) found k d rise.1 (omega arith) in omega arith

pub cores_rise_at : (low : ℕ) (found : List Source) (i j : ℕ) (d : Source) → CoresRise low found → i < j
    → j < length found →
    (get_or found i d).at.core < (get_or found j d).at.core
cores_rise_at low [] i j d rise earlier lt = absurd (omega arith)
cores_rise_at low (s ∷ found) i zero d rise earlier lt = absurd (omega arith)
cores_rise_at low (s ∷ found) zero (suc j) d rise earlier lt =
    let up = cores_above (s.at.core + 1) found j d rise.1 (omega arith) in omega arith
cores_rise_at low (s ∷ found) (suc i) (suc j) d rise earlier lt = cores_rise_at (s.at.core + 1) found i j d rise.1
    (omega arith) (omega arith)
