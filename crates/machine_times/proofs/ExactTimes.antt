-- Exact times in the words on clocks, and the order of the accesses that a machine stands for.
use Rattle.std.proofs.Common.{◌≡◌, ◌∙◌, ap, refl, sym, subst, ℕ, ◌+◌, ◌<◌, ◌≤◌, ◌%◌, Bool, true, false, List, [], ◌∷◌}
use Rattle.std.proofs.Common.{◌++◌, Option, Some, None, arith, inl}
use Rattle.std.proofs.Common.{inr}
use Rattle.std.specs.Prelude.{reverse, if◌then◌else◌, ◌&&◌, nat_eq}
use Rattle.std.proofs.lemmas.Bool.Decides.{nat_tests}
use Rattle.std.proofs.lemmas.List.{append-nil, reverse-append}
use Rattle.access_times.specs.Times.{read_note, write_at, read_at}
use Rattle.rtr_types.specs.declared.TheConstants.{BLOCK_WORDS, CORES_MAX}
use Rattle.clock_core.specs.declared.clock.Clock.{Clock}
use Rattle.rtr_types.specs.Accesses.{is_write}
use Rattle.rtr_types.specs.declared.access.Access.{Access}
use Rattle.rtr_types.specs.declared.instr.Instr.{Instr}
use Rattle.conflict_edge.proofs.History.{Rising}
use Rattle.conflict_edge.proofs.NewestFirst.{stands_forth, reverse-cons, stands_front, stands_last}
use Rattle.conflict_edge.specs.Clocks.{last_write as last_write_in, last_read as last_read_in}
use Rattle.conflict_edge.specs.Conflicts.{CountsRise, StandsIn}
use Rattle.conflict_edge.specs.Times.{IsExactClock, IsNoteOf}
use Rattle.machine_times.proofs.CoreCounts.{retired_more}
use Rattle.machine_times.specs.ExactTimes.{with_access, retired_accesses, IsClockOf, HaveExactClocks, ExactTimesLaw}
use Rattle.machine_times.specs.ExactTimes.{OrderedLaw}
use Rattle.machine_times.specs.History.{last_noted_write, last_noted_read}
use Rattle.machine_times.specs.Retirements.{Retirement, noted_accesses, noted_by, retired_by, IsAccessOf, AreInOrder}

-- ---- lists turned round

accesses-append : (list more : List Retirement) → retired_accesses (list ++ more) ≡ retired_accesses list
    ++ retired_accesses more
accesses-append [] more = refl
accesses-append (r ∷ list) more = by r.access (accesses-append list more)
  where
    by : (o : Option Access) → retired_accesses (list ++ more) ≡ retired_accesses list ++ retired_accesses more →
        with_access o (retired_accesses (list ++ more)) ≡ with_access o (retired_accesses list) ++ retired_accesses more
    by None e = e
    by (Some a) e = ap (λ (l : List Access). a ∷ l) e

reverse-front : (r : Retirement) (list : List Retirement) → reverse (r ∷ list) ≡ reverse list ++ (r ∷ [])
reverse-front r list = reverse-append (r ∷ []) list

accesses-reverse : (list : List Retirement) → reverse (retired_accesses list) ≡ retired_accesses (reverse list)
accesses-reverse [] = refl
accesses-reverse (r ∷ list) =
    by r.access (accesses-reverse list) ∙ (sym (accesses-append (reverse list) (r ∷ []))
    ∙ ap retired_accesses (sym (reverse-front r list)))
  where
    by : (o : Option Access) → reverse (retired_accesses list) ≡ retired_accesses (reverse list) →
        reverse (with_access o (retired_accesses list))
        ≡ retired_accesses (reverse list) ++ with_access o []
    by None e = e ∙ sym (append-nil (retired_accesses (reverse list)))
    by (Some a) e = reverse-cons a (retired_accesses list) ∙ ap (λ (l : List Access). l ++ (a ∷ [])) e

clocks-append : (all : List Access) (list more : List Retirement) → HaveExactClocks all list →
    HaveExactClocks all more → HaveExactClocks all (list ++ more)
clocks-append all [] more p q = q
clocks-append all (r ∷ list) more p q = (p.0, clocks-append all list more p.1 q)

clocks-reverse : (all : List Access) (list : List Retirement) → HaveExactClocks all list →
    HaveExactClocks all (reverse list)
clocks-reverse all [] p = tt
clocks-reverse all (r ∷ list) p =
    subst (HaveExactClocks all) (sym (reverse-front r list)) (clocks-append all (reverse list) (r ∷ [])
    (clocks-reverse all list p.1) (p.0, tt))

-- ---- notes of the last accesses

write_note : (all : List Access) (t : Bool) (a : Access) (clock : Clock) (old : Option Access)
    (found : Option (Instr × Clock)) → IsExactClock all a.at clock →
    IsNoteOf all old found → IsNoteOf all (if t then Some a else old) (if t then Some (a.at, clock) else found)
write_note all true a clock old found exact rest = (refl, exact)
write_note all false a clock old found exact rest = rest

write_by : (all : List Access) (h : List Retirement) (word : ℕ) (o : Option Access) (clock : Clock) →
    IsClockOf all o clock →
    IsNoteOf all (last_write_in (retired_accesses h) word) (last_noted_write (noted_accesses h) word) →
    IsNoteOf all (last_write_in (with_access o (retired_accesses h)) word)
    (last_noted_write (noted_by o clock (noted_accesses h)) word)
unfolding last_write_in
write_by all h word None clock exact rest = rest
write_by all h word (Some a) clock exact rest =
    write_note all (nat_eq a.word word && is_write a.kind) a clock (last_write_in (retired_accesses h) word)
    (last_noted_write (noted_accesses h) word) exact rest

write_noted : (all : List Access) (h : List Retirement) (word : ℕ) → HaveExactClocks all h →
    IsNoteOf all (last_write_in (retired_accesses h) word) (last_noted_write (noted_accesses h) word)
unfolding last_write_in
write_noted all [] word exact = tt
write_noted all (r ∷ h) word exact = write_by all h word r.access r.clock exact.0 (write_noted all h word exact.1)

read_core : (all : List Access) (a : Access) (core : ℕ) (clock : Clock) (t : Bool) → nat_eq a.at.core core ≡ t →
    (old : Option Access) (read : Option (ℕ × Clock)) → IsExactClock all a.at clock →
    IsNoteOf all old (read_note core read) →
    IsNoteOf all (if t then Some a else old) (read_note core (if t then Some (a.at.count, clock) else read))
read_core all a core clock true is old read exact rest = let same : core ≡ a.at.core = grind (arith, nat_tests) in
    (ap (λ (c : ℕ). (let i : Instr = record { core = c; count = a.at.count } in i)) same, exact)
read_core all a core clock false is old read exact rest = rest

read_kind : (all : List Access) (a : Access) (core : ℕ) (clock : Clock) (w : Bool) (old : Option Access)
    (read : Option (ℕ × Clock)) →
    IsExactClock all a.at clock → IsNoteOf all old (read_note core read) →
    IsNoteOf all (if w then None else (if nat_eq a.at.core core then Some a else old))
    (read_note core (if w then None else if nat_eq a.at.core core then Some (a.at.count, clock) else read))
read_kind all a core clock true old read exact rest = tt
read_kind all a core clock false old read exact rest = read_core all a core clock (nat_eq a.at.core core) refl old read
    exact rest

read_word : (all : List Access) (a : Access) (core : ℕ) (clock : Clock) (t : Bool) (old : Option Access)
    (read : Option (ℕ × Clock)) →
    IsExactClock all a.at clock → IsNoteOf all old (read_note core read) →
    IsNoteOf all (if t then (if is_write a.kind then None else (if nat_eq a.at.core core then Some a else old)) else
    old)
    (read_note core (if t then (if is_write a.kind then None else if nat_eq a.at.core core then Some (
      a.at.count,
      clock,
    ) else read) else read))
read_word all a core clock true old read exact rest = read_kind all a core clock (is_write a.kind) old read exact rest
read_word all a core clock false old read exact rest = rest

read_by : (all : List Access) (h : List Retirement) (word core : ℕ) (o : Option Access) (clock : Clock) →
    IsClockOf all o clock →
    IsNoteOf all (last_read_in (retired_accesses h) word core)
    (read_note core (last_noted_read (noted_accesses h) word core)) →
    IsNoteOf all (last_read_in (with_access o (retired_accesses h)) word core)
    (read_note core (last_noted_read (noted_by o clock (noted_accesses h)) word core))
unfolding last_read_in
read_by all h word core None clock exact rest = rest
read_by all h word core (Some a) clock exact rest =
    read_word all a core clock (nat_eq a.word word) (last_read_in (retired_accesses h) word core)
    (last_noted_read (noted_accesses h) word core) exact rest

read_noted : (all : List Access) (h : List Retirement) (word core : ℕ) → HaveExactClocks all h →
    IsNoteOf all (last_read_in (retired_accesses h) word core)
    (read_note core (last_noted_read (noted_accesses h) word core))
unfolding last_read_in
read_noted all [] word core exact = tt
read_noted all (r ∷ h) word core exact = read_by all h word core r.access r.clock exact.0
    (read_noted all h word core exact.1)

pub exact_times_law : ExactTimesLaw
exact_times_law list a rider exact finds =
    let all : List Access = retired_accesses list in
    let turned = clocks-reverse all list exact in
    let found : IsNoteOf all (last_write_in (reverse all) a.word) (write_at rider (a.word % BLOCK_WORDS)) =
    subst (λ (h : List Access). IsNoteOf all (last_write_in h a.word) (write_at rider (a.word % BLOCK_WORDS)))
    (sym (accesses-reverse list))
    (subst (λ (w : Option (Instr × Clock)). IsNoteOf all (last_write_in (retired_accesses (reverse list)) a.word) w)
    (sym finds.write)
    (write_noted all (reverse list) a.word turned)) in
    record {
      write = found;
      times = λ writes. record {
        write_is = found;
        read_is = λ core lc.
            subst (λ (h : List Access). IsNoteOf all (last_read_in h a.word core)
            (read_note core (read_at rider (a.word % BLOCK_WORDS) core)))
            (sym (accesses-reverse list))
            (subst (λ (r : Option (ℕ × Clock)). IsNoteOf all (last_read_in (retired_accesses (reverse list)) a.word
            core) (read_note core r))
            (sym (finds.reads writes core lc)) (read_noted all (reverse list) a.word core turned));
      };
    }

-- ---- the order of the accesses

below_next : (r : Retirement) (h : List Retirement) (b : Access) (o : Option Access) → r.at.core < CORES_MAX →
    r.at.count ≡ retired_by h r.at.core + 1 →
    IsAccessOf o r.at → (StandsIn (retired_accesses h) b →
    (b.at.core < CORES_MAX) × (b.at.count ≤ retired_by h b.at.core)) →
    StandsIn (with_access o (retired_accesses h)) b →
    (b.at.core < CORES_MAX) × (b.at.count ≤ retired_by (r ∷ h) b.at.core)
below_next r h b None core count is before stands = let k = before stands in let more = retired_more r h b.at.core in
    (k.0, omega arith)
below_next r h b (Some a) core count is before (inl e) =
    let at : b.at ≡ r.at = ap (λ (x : Access). x.at) (sym e) ∙ is in
    (rw at core, rw at (last r h count))
  where
    last : (r : Retirement) (h : List Retirement) → r.at.count ≡ retired_by h r.at.core + 1 →
        r.at.count ≤ retired_by (r ∷ h) r.at.core
    last r h count = grind (arith, nat_tests)
below_next r h b (Some a) core count is before (inr stands) = let k = before stands in let more =
    retired_more r h b.at.core in (k.0, omega arith)

-- an access among these is of a core that there may be, with a count of at most how many of its core retired
below : (h : List Retirement) (b : Access) → AreInOrder h → StandsIn (retired_accesses h) b →
    (b.at.core < CORES_MAX) × (b.at.count ≤ retired_by h b.at.core)
below [] b order stands = absurd stands
below (r ∷ h) b order stands =
    below_next r h b r.access order.0.core order.0.count order.0.access (λ (s : StandsIn (retired_accesses h) b).
    below h b order.1 s) stands

rising_next : (r : Retirement) (h : List Retirement) (o : Option Access) → r.at.count ≡ retired_by h r.at.core + 1 →
    IsAccessOf o r.at → AreInOrder h →
    Rising (retired_accesses h) → Rising (with_access o (retired_accesses h))
rising_next r h None count is order rising = rising
rising_next r h (Some a) count is order rising =
    let at : a.at.count ≡ retired_by h a.at.core + 1 = ap (λ (i : Instr). i.count) is
    ∙ (count ∙ ap (λ (i : Instr). retired_by h i.core + 1) (sym is)) in (
      omega arith,
      λ b stands core. let k = (below h b order stands).1 in let same =
          ap (λ (c : ℕ). retired_by h c) core in omega arith,
      rising,
    )

rising : (h : List Retirement) → AreInOrder h → Rising (retired_accesses h)
rising [] order = tt
rising (r ∷ h) order = rising_next r h r.access order.0.count order.0.access order.1 (rising h order.1)

-- where the oldest is last, the others rise above it
rising_split : (h : List Access) (a : Access) → Rising (h ++ (a ∷ [])) → Rising h × (1 ≤ a.at.count)
    × ((b : Access) → StandsIn h b → a.at.core ≡ b.at.core → a.at.count < b.at.count)
rising_split [] a r = (tt, r.0, λ b s e. absurd s)
rising_split (x ∷ h) a r = split (rising_split h a r.2)
  where
    split : Rising h × (1 ≤ a.at.count) × ((b : Access) → StandsIn h b → a.at.core ≡ b.at.core →
        a.at.count < b.at.count) → Rising (x ∷ h) × (1 ≤ a.at.count)
        × ((b : Access) → StandsIn (x ∷ h) b → a.at.core ≡ b.at.core → a.at.count < b.at.count)
    split rest = ((r.0, λ b s e. r.1 b (stands_front h a b s) e, rest.0), rest.1, above)
      where
        above : (b : Access) → StandsIn (x ∷ h) b → a.at.core ≡ b.at.core → a.at.count < b.at.count
        above b (inl same) e = subst (λ (y : Access). a.at.core ≡ y.at.core → a.at.count < y.at.count) same
            (λ f. r.1 a (stands_last h a) f) e
        above b (inr s) e = rest.2 b s e

rising_forth : (list : List Access) → Rising (reverse list) → CountsRise list
rising_forth [] r = tt
rising_forth (a ∷ list) r =
    let split = rising_split (reverse list) a (subst Rising (reverse-cons a list) r) in
    (split.1, λ b s e. split.2 b (stands_forth list b s) e, rising_forth list split.0)

pub ordered_law : OrderedLaw
ordered_law list order =
    record {
      rise = rising_forth (retired_accesses list) (subst Rising (sym (accesses-reverse list))
          (rising (reverse list) order));
      cores = λ a s. (below (reverse list) a order
          (subst (λ (h : List Access). StandsIn h a) (accesses-reverse list) (stands_forth (retired_accesses list) a
          s))).0;
    }
