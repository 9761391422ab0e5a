-- The reads of a set of cores: they are gone through by taking the first core out, and those of the live cores are the
-- reads among an access's candidates.
use Rattle.std.proofs.Common.{◌≡◌, ◌≢◌, ◌∙◌, refl, sym, ap, ℕ, zero, suc, ◌+◌, ◌-◌, ◌%◌, ◌^◌, ◌<◌, ◌≤◌, ◌⊎◌, inl, inr}
use Rattle.std.proofs.Common.{List, [], ◌∷◌, ◌++◌, length}
use Rattle.std.proofs.Common.{Bool, true, false, not, ◌&&◌, nat_eq, nat_lt, Option, Some, None, arith, append_assoc}
use Rattle.std.specs.Prelude.{if◌then◌else◌}
use Rattle.std.specs.Int.{trailing_zeros}
use Rattle.std.specs.Option.{is_some, option_to_list}
use Rattle.std.proofs.lemmas.Bool.Decides.{nat_tests}
use Rattle.std.proofs.lemmas.List.{append-nil}
use Rattle.std.proofs.lemmas.Nat.Bits.{bit_at-trailing_zeros}
use Rattle.rtr_types.specs.CoreSets.{has, without_core, is_none, no_cores, set_width}
use Rattle.rtr_types.specs.Accesses.{is_write}
use Rattle.rtr_types.specs.declared.core_set.CoreSet.{CoreSet}
use Rattle.rtr_types.specs.declared.access.Access.{Access}
use Rattle.rtr_types.specs.declared.TheConstants.{BLOCK_WORDS, CORES_MAX}
use Rattle.rtr_types.proofs.Members.{has-without_same, has-without_other, has-none, has-no_cores}
use Rattle.clock_core.specs.declared.clock.Clock.{Clock}
use Rattle.access_times.specs.declared.times.Times.{Times}
use Rattle.access_times.specs.Times.{read_at}
use Rattle.access_times.proofs.KeptReads.{Filling, first_there, looked_at, stays}
use Rattle.online_reduce.specs.declared.source.Source.{Source}
use Rattle.online_reduce.specs.LiveReads.{AreNoted, is_live_read, read_of, reads_of, source_of}
use Rattle.online_reduce.specs.Sources.{is_live, read_from, reads_from}

-- below the core of a set's lowest bit there is none of the set
pub none_before : (s : CoreSet) → s.bits < 2 ^ CORES_MAX → is_none s ≡ false → (core : ℕ) → core < trailing_zeros
    set_width s.bits →
    has s core ≡ false
unfolding has
none_before s within some core lt =
    let more : 0 < s.bits = grind (arith, nat_tests) in
    rw ((bit_at-trailing_zeros set_width s.bits more within).2 core lt) refl

-- ---- one after the other

-- below a number where the set has no core there is no read
no_reads_below : (n : ℕ) (cores : CoreSet) (t : Times) (slot : ℕ) → ((k : ℕ) → k < n → has cores k ≡ false)
    → reads_of n cores t slot ≡ []
unfolding reads_of
no_reads_below zero cores t slot none = refl
no_reads_below (suc n) cores t slot none =
    ap (λ (xs : List Source). xs ++ read_of cores t slot n)
    (no_reads_below n cores t slot (λ k lt. none k (omega arith)))
    ∙ ap (λ (b : Bool). if b then option_to_list (source_of n (read_at t slot n)) else []) (none n (omega arith))

pub no_reads_of : (n : ℕ) (cores : CoreSet) (t : Times) (slot : ℕ) → is_none cores ≡ true → reads_of n cores t slot ≡ []
no_reads_of n cores t slot none = no_reads_below n cores t slot (λ k lt. has-none cores k none)

-- a core's read that the set without another core has is the one that the set has
other_read : (cores : CoreSet) (t : Times) (slot c k : ℕ) → c < CORES_MAX → k < CORES_MAX → k ≢ c →
    read_of cores t slot k ≡ read_of (without_core cores c) t slot k
other_read cores t slot c k lt within other =
    ap (λ (b : Bool). if b then option_to_list (source_of k (read_at t slot k)) else [])
    (sym (has-without_other cores c k lt within other))

-- the reads of a set are that of its first core and those of the set without it
pub first_off : (n c : ℕ) (cores : CoreSet) (t : Times) (slot : ℕ) → n ≤ CORES_MAX → c < n → has cores c ≡ true →
    ((k : ℕ) → k < c → has cores k ≡ false) →
    reads_of n cores t slot ≡ option_to_list (source_of c (read_at t slot c)) ++ reads_of n (without_core cores c) t
    slot
unfolding reads_of
first_off zero c cores t slot most lt is first = absurd (omega arith)
first_off (suc n) c cores t slot most lt is first = by
    (λ below. first_off n c cores t slot (omega arith) below is first) (split c n (omega arith))
  where
    split : (i j : ℕ) → i < suc j → (i < j) ⊎ (i ≡ j)
    split i j h = grind arith

    own : List Source
    own = option_to_list (source_of c (read_at t slot c))

    rest : CoreSet
    rest = without_core cores c

    by : (c < n → reads_of n cores t slot ≡ own ++ reads_of n rest t slot) → (c < n) ⊎ (c ≡ n) →
        reads_of n cores t slot ++ read_of cores t slot n ≡ own ++ (reads_of n rest t slot ++ read_of rest t slot n)
    by earlier (inl below) =
        ap (λ (xs : List Source). xs ++ read_of cores t slot n) (earlier below)
        ∙ append_assoc own (reads_of n rest t slot) (read_of cores t slot n)
        ∙ ap (λ (xs : List Source). own ++ (reads_of n rest t slot ++ xs))
        (other_read cores t slot c n (omega arith) (omega arith) (omega arith))
    by earlier (inr here) =
        let none_yet = no_reads_below n cores t slot (λ k h. first k (omega arith)) in
        let none_left = no_reads_below n rest t slot
        (λ k h. has-without_other cores c k (omega arith) (omega arith) (omega arith) ∙ first k (omega arith)) in
        let own_is : read_of cores t slot n ≡ own =
        ap (read_of cores t slot) (sym here)
        ∙ ap (λ (b : Bool). if b then option_to_list (source_of c (read_at t slot c)) else []) is in
        let gone : read_of rest t slot n ≡ [] =
        ap (read_of rest t slot) (sym here)
        ∙ ap (λ (b : Bool). if b then option_to_list (source_of c (read_at t slot c)) else [])
        (has-without_same cores c (omega arith)) in
        rw (none_yet, none_left, own_is, gone) (sym (append-nil own))

-- and that core has a read, where each has
pub noted_first : (n c : ℕ) (cores : CoreSet) (t : Times) (slot : ℕ) (count : ℕ) (clock : Clock) → n ≤ CORES_MAX
    → c < n → has cores c ≡ true →
    ((k : ℕ) → k < c → has cores k ≡ false) → read_at t slot c ≡ Some (count, clock) →
    reads_of n cores t slot ≡ record { at = record { core = c; count = count }; clock = clock } ∷ reads_of n
    (without_core cores c) t slot
noted_first n c cores t slot count clock most lt is first noted =
    first_off n c cores t slot most lt is first
    ∙ ap (λ (r : Option (ℕ × Clock)). option_to_list (source_of c r) ++ reads_of n (without_core cores c) t slot) noted

pub noted_without : (cores : CoreSet) (t : Times) (slot c : ℕ) → c < CORES_MAX → AreNoted cores t slot
    → AreNoted (without_core cores c) t slot
noted_without cores t slot c lt noted k within is = by (nat_eq k c) refl
  where
    by : (b : Bool) → nat_eq k c ≡ b → is_some (read_at t slot k) ≡ true
    by true e =
        let same : k ≡ c = grind (arith, nat_tests) in
        let out : has (without_core cores c) k ≡ false = ap (has (without_core cores c)) same ∙ has-without_same cores
        c lt in
        absurd (grind (arith, nat_tests))
    by false e =
        let other : k ≢ c = grind (arith, nat_tests) in
        noted k within (sym (has-without_other cores c k lt within other) ∙ is)

-- there are no reads exactly where there is no core
pub emptiness : (cores : CoreSet) (t : Times) (slot : ℕ) → cores.bits < 2 ^ CORES_MAX → AreNoted cores t slot →
    is_none cores ≡ nat_eq (length (reads_of CORES_MAX cores t slot)) 0
emptiness cores t slot fits noted = by (is_none cores) refl
  where
    some : (r : Option (ℕ × Clock)) → is_some r ≡ true → (c : ℕ) (rest : List Source) →
        nat_eq (length (option_to_list (source_of c r) ++ rest)) 0 ≡ false
    some None e c rest = absurd cc
    some (Some r) e c rest = grind (arith, nat_tests)

    by : (b : Bool) → is_none cores ≡ b → b ≡ nat_eq (length (reads_of CORES_MAX cores t slot)) 0
    by true e = sym (ap (λ (xs : List Source). nat_eq (length xs) 0) (no_reads_of CORES_MAX cores t slot e))
    by false e =
        let c = trailing_zeros set_width cores.bits in
        let more : 0 < cores.bits = grind (arith, nat_tests) in
        let lt : c < CORES_MAX = (bit_at-trailing_zeros set_width cores.bits more fits).0 in
        let is = first_there cores fits e in
        sym (ap (λ (xs : List Source). nat_eq (length xs) 0)
        (first_off CORES_MAX c cores t slot (omega arith) lt is (none_before cores fits e))
        ∙ some (read_at t slot c) (noted c lt is) c (reads_of CORES_MAX (without_core cores c) t slot))

-- ---- those of the live cores

-- the set has exactly the cores whose reads an access that writes may need an edge from
abbrev pub AreLive : ℕ → Clock → Access → Times → CoreSet → Type 0
AreLive cores before a t live = (k : ℕ) → k < CORES_MAX → has live k ≡ is_live_read cores before a k
    (read_at t (a.word % BLOCK_WORDS) k)

one_live : (cores k : ℕ) (before : Clock) (a : Access) (r : Option (ℕ × Clock)) → is_write a.kind ≡ true → k < cores →
    (if is_live_read cores before a k r then option_to_list (source_of k r) else []) ≡ option_to_list
    (read_from before a k r)
one_live cores k before a None writes lt = refl
one_live cores k before a (Some r) writes lt =
    let below : nat_lt k cores ≡ true = grind (arith, nat_tests) in
    rw (writes, below) (by (is_live before a (record { core = k; count = r.0 })))
  where
    s : Source
    s = record { at = record { core = k; count = r.0 }; clock = r.1 }

    by : (b : Bool) → (if true && b then option_to_list (Some s) else []) ≡ option_to_list
        (if true && b then Some s else None)
    by true = refl
    by false = refl

below_live : (n cores : ℕ) (before : Clock) (a : Access) (t : Times) (live : CoreSet) → cores ≤ CORES_MAX → n ≤ cores
    → is_write a.kind ≡ true →
    AreLive cores before a t live → reads_of n live t (a.word % BLOCK_WORDS) ≡ reads_from n before a t
unfolding reads_of reads_from
below_live zero cores before a t live most le writes are = refl
below_live (suc n) cores before a t live most le writes are =
    let slot = a.word % BLOCK_WORDS in
    let r = read_at t slot n in
    ap (λ (xs : List Source). xs ++ read_of live t slot n)
    (below_live n cores before a t live most (omega arith) writes are)
    ∙ ap (λ (b : Bool). reads_from n before a t ++ (if b then option_to_list (source_of n r) else []))
    (are n (omega arith))
    ∙ ap (λ (xs : List Source). reads_from n before a t ++ xs) (one_live cores n before a r writes (omega arith))

not_live : (cores k : ℕ) (before : Clock) (a : Access) (r : Option (ℕ × Clock)) → cores ≤ k → is_live_read cores
    before a k r ≡ false
not_live cores k before a None past = refl
not_live cores k before a (Some r) past = let beyond : nat_lt k cores ≡ false = grind (arith, nat_tests) in
    rw beyond refl

one_more : (m : ℕ) (live : CoreSet) (t : Times) (slot : ℕ) → reads_of (suc m) live t slot ≡ reads_of m live t slot
    ++ read_of live t slot m
unfolding reads_of
one_more m live t slot = refl

beyond_live : (n cores : ℕ) (before : Clock) (a : Access) (t : Times) (live : CoreSet) → cores + n ≤ CORES_MAX
    → AreLive cores before a t live →
    reads_of (cores + n) live t (a.word % BLOCK_WORDS) ≡ reads_of cores live t (a.word % BLOCK_WORDS)
beyond_live zero cores before a t live most are = ap (λ (k : ℕ). reads_of k live t (a.word % BLOCK_WORDS))
    (let e : cores + zero ≡ cores = omega arith in e)
beyond_live (suc n) cores before a t live most are =
    let slot = a.word % BLOCK_WORDS in
    let m = cores + n in
    let r = read_at t slot m in
    let next : cores + suc n ≡ suc m = omega arith in
    let gone : has live m ≡ false = are m (omega arith) ∙ not_live cores m before a r (omega arith) in
    ap (λ (k : ℕ). reads_of k live t slot) next
    ∙ one_more m live t slot
    ∙ ap (λ (b : Bool). reads_of m live t slot ++ (if b then option_to_list (source_of m r) else [])) gone
    ∙ append-nil (reads_of m live t slot)
    ∙ beyond_live n cores before a t live (omega arith) are

pub live_reads : (cores : ℕ) (before : Clock) (a : Access) (t : Times) (live : CoreSet) → cores ≤ CORES_MAX
    → is_write a.kind ≡ true →
    AreLive cores before a t live → reads_of CORES_MAX live t (a.word % BLOCK_WORDS) ≡ reads_from cores before a t
live_reads cores before a t live most writes are =
    let slot = a.word % BLOCK_WORDS in
    let whole : CORES_MAX ≡ cores + (CORES_MAX - cores) = omega arith in
    ap (λ (n : ℕ). reads_of n live t slot) whole ∙ beyond_live (CORES_MAX - cores) cores before a t live (omega arith)
    are
    ∙ below_live cores cores before a t live most (omega arith) writes are

pub live_noted : (cores : ℕ) (before : Clock) (a : Access) (t : Times) (live : CoreSet) → AreLive cores before a t
    live →
    AreNoted live t (a.word % BLOCK_WORDS)
live_noted cores before a t live are k lt is = by (read_at t (a.word % BLOCK_WORDS) k) (sym is ∙ are k lt)
  where
    by : (r : Option (ℕ × Clock)) → true ≡ is_live_read cores before a k r → is_some r ≡ true
    by None e = absurd cc
    by (Some r) e = refl

pub none_noted : (t : Times) (slot : ℕ) → AreNoted no_cores t slot
none_noted t slot k lt is = let isnt = has-no_cores k in absurd (grind (arith, nat_tests))

-- ---- finding them

-- the cores that are looked at are found out about, and the others are in the set still
abbrev pub Finding : ℕ → Clock → Access → Times → CoreSet → CoreSet → Type 0
Finding cores before a t live left =
    Filling left (λ k. k < CORES_MAX → has live k ≡ is_live_read cores before a k (read_at t (a.word % BLOCK_WORDS) k))
    (λ k. k < CORES_MAX → has live k ≡ true)

own_not : (cores k : ℕ) (before : Clock) (a : Access) (r : Option (ℕ × Clock)) → k ≡ a.at.core → is_live_read cores
    before a k r ≡ false
own_not cores k before a None same = refl
own_not cores k before a (Some r) same =
    let own : not (nat_eq k a.at.core) ≡ false = grind (arith, nat_tests) in rw own (and_not (nat_lt k cores))
  where
    and_not : (b : Bool) → b && false ≡ false
    and_not true = refl
    and_not false = refl

unread_not : (cores k : ℕ) (before : Clock) (a : Access) (r : Option (ℕ × Clock)) → is_some r ≡ false
    → is_live_read cores before a k r ≡ false
unread_not cores k before a None e = refl
unread_not cores k before a (Some r) e = absurd cc

pub start_finding : (cores : ℕ) (before : Clock) (a : Access) (t : Times) (readers : CoreSet) → a.at.core < CORES_MAX →
    ((k : ℕ) → k < CORES_MAX → has readers k ≡ is_some (read_at t (a.word % BLOCK_WORDS) k)) →
    Finding cores before a t (without_core readers a.at.core) (without_core readers a.at.core)
start_finding cores before a t readers own read =
    record {
      done = λ k lt isnt within. isnt ∙ sym (by k lt isnt (nat_eq k a.at.core) refl);
      rest = λ k lt is within.
          is;
    }
  where
    by : (k : ℕ) → k < CORES_MAX → has (without_core readers a.at.core) k ≡ false → (b : Bool) → nat_eq k a.at.core ≡
        b →
        is_live_read cores before a k (read_at t (a.word % BLOCK_WORDS) k) ≡ false
    by k lt isnt true e = own_not cores k before a (read_at t (a.word % BLOCK_WORDS) k) (grind (arith, nat_tests))
    by k lt isnt false e =
        let other : k ≢ a.at.core = grind (arith, nat_tests) in
        unread_not cores k before a (read_at t (a.word % BLOCK_WORDS) k)
        (sym (read k lt) ∙ sym (has-without_other readers a.at.core k own lt other) ∙ isnt)

pub find_live : (cores : ℕ) (before : Clock) (a : Access) (t : Times) (live left : CoreSet) (core : ℕ) (b : Bool)
    → core < CORES_MAX →
    has left core ≡ true → b ≡ is_live_read cores before a core (read_at t (a.word % BLOCK_WORDS) core) → b ≡ true →
    Finding cores before a t live left → Finding cores before a t live (without_core left core)
find_live cores before a t live left core b lt there test is f =
    stays (λ k. k < CORES_MAX → has live k ≡ is_live_read cores before a k (read_at t (a.word % BLOCK_WORDS) k))
    (λ k. k < CORES_MAX → has live k ≡ true) left core lt (λ within. f.rest core lt there lt ∙ sym is ∙ test) f

pub find_not : (cores : ℕ) (before : Clock) (a : Access) (t : Times) (live left : CoreSet) (core : ℕ) (b : Bool)
    → core < CORES_MAX →
    b ≡ is_live_read cores before a core (read_at t (a.word % BLOCK_WORDS) core) → b ≡ false →
    Finding cores before a t live left → Finding cores before a t (without_core live core) (without_core left core)
find_not cores before a t live left core b lt test isnt f =
    let slot = a.word % BLOCK_WORDS in
    let out = without_core live core in
    looked_at core (λ k. k < CORES_MAX → has out k ≡ is_live_read cores before a k (read_at t slot k))
    (λ k. k < CORES_MAX → has out k ≡ true) f lt (λ within. has-without_same live core lt ∙ sym isnt ∙ test)
    (λ k other d within. has-without_other live core k lt within other ∙ d within)
    (λ k other l within. has-without_other live core k lt within other ∙ l within)
