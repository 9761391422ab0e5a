-- With exact times the candidates that are found are candidates, each with its exact clock, and no other one matters.
use Rattle.std.proofs.Common.{◌≡◌, ◌≢◌, ℕ, ◌%◌, ◌<◌, ◌≤◌, ◌⊎◌, List, [], ◌∷◌, reverse, refl, sym, ◌∙◌, ap, subst, inl}
use Rattle.std.proofs.Common.{inr, arith, true, false, Option, Some}
use Rattle.std.proofs.Common.{Bool, None, slice_index}
use Rattle.std.proofs.lemmas.Bool.{cases_eq}
use Rattle.std.proofs.lemmas.Bool.Decides.{nat_tests}
use Rattle.rtr_types.specs.Accesses.{is_write}
use Rattle.rtr_types.specs.declared.instr.Instr.{Instr}
use Rattle.rtr_types.specs.declared.access.Access.{Access}
use Rattle.clock_core.proofs.Paths.{one}
use Rattle.clock_core.specs.Order.{Before, previous}
use Rattle.clock_core.specs.declared.clock.Clock.{Clock}
use Rattle.rtr_types.specs.declared.TheConstants.{BLOCK_WORDS, CORES_MAX}
use Rattle.access_times.specs.declared.times.Times.{Times}
use Rattle.access_times.specs.Times.{read_note, write_at, read_at}
use Rattle.conflict_edge.specs.Clocks.{last_write, last_read, Candidate}
use Rattle.conflict_edge.specs.Conflicts.{StandsIn}
use Rattle.conflict_edge.specs.Times.{IsNoteOf, IsExactClock}
use Rattle.conflict_edge.proofs.Clocks.{UpTo, clock-up_to, widen}
use Rattle.conflict_edge.proofs.History.{Pair, Rising}
use Rattle.conflict_edge.proofs.CoveringPairs.{stands_pos}
use Rattle.conflict_edge.proofs.NewestFirst.{stands_back}
use Rattle.conflict_edge.proofs.Online.{cases_kind, none_some, some_is, last_write-word, last_write-load}
use Rattle.conflict_edge.proofs.Online.{last_read-word, last_read-store, last_read-at}
use Rattle.conflict_edge.proofs.Online.{IsWrite, last_read-core, last_write-is, last_read-is}
use Rattle.online_reduce.specs.declared.source.Source.{Source}
use Rattle.online_reduce.specs.Rule.{is_above}
use Rattle.online_reduce.specs.Sources.{write_from, reads_from, candidates}
use Rattle.online_reduce.specs.Exact.{AreExactFor}
use Rattle.online_reduce.proofs.CandidateLists.{IsNotedIn, Lives, is_live_of, one_noted, one_read, read_one, read_found}
use Rattle.online_reduce.proofs.CandidateLists.{write_or_read, wrote_back}

-- ---- notes

-- a note and the access that it is of
pub record NoteOf (list : List Access) (here : Option Access) (at : Instr) (clock : Clock) : Type 0 where
  pub access : Access
  pub here_is : here ≡ Some access
  pub at_is : at ≡ access.at
  pub exact : IsExactClock list access.at clock

pub note_of : (list : List Access) (here : Option Access) (note : Option (Instr × Clock)) (at : Instr) (clock : Clock)
    → IsNoteOf list here note →
    note ≡ Some (at, clock) → NoteOf list here at clock
note_of list None None at clock is e = absurd cc
note_of list None (Some n) at clock is e = absurd is
note_of list (Some b) None at clock is e = absurd cc
note_of list (Some b) (Some n) at clock is e =
    let same : ◌≡◌ {A = Instr × Clock} n (at, clock) = cc in
    record {
      access = b;
      here_is = refl;
      at_is = sym (ap (λ (m : Instr × Clock). m.0) same) ∙ is.0;
      exact = subst (λ (m : Instr × Clock). IsExactClock list b.at m.1) same is.1;
    }

-- an access that stands here has its note
noted_of : (list : List Access) (here : Option Access) (note : Option (Instr × Clock)) (b : Access)
    → IsNoteOf list here note → here ≡ Some b →
    (n : Instr × Clock) × (note ≡ Some n) × (n.0 ≡ b.at)
noted_of list None n b is e = absurd (none_some b e)
noted_of list (Some d) None b is e = absurd is
noted_of list (Some d) (Some n) b is e = (n, refl, is.0 ∙ ap (λ (v : Access). v.at) (some_is d b e))

-- a core's read that is noted
read_noted : (core : ℕ) (r : Option (ℕ × Clock)) (n : Instr × Clock) → read_note core r ≡ Some n
    → r ≡ Some (n.0.count, n.1)
read_noted core None n e = absurd cc
read_noted core (Some m) n e =
    let same : ◌≡◌ {A = Instr × Clock} ((let at : Instr = record { core = core; count = m.0 } in at), m.1) n = cc in
    ap (λ (v : Instr × Clock). (let o : Option (ℕ × Clock) = Some (v.0.count, v.1) in o)) same

-- ---- a read since the last write comes after it

pub read_later : (h : List Access) (word core : ℕ) (b c : Access) → Rising h → last_write h word ≡ Some b
    → last_read h word core ≡ Some c →
    Before (Pair h) b.at c.at
unfolding last_write last_read
read_later [] word core b c rising w r = absurd (none_some b w)
read_later (d ∷ h) word core b c rising w r =
    by (λ p q. widen d h b.at c.at (read_later h word core b c rising.2 p q)) (cases_eq d.word word)
    (cases_kind d.kind) (cases_eq d.at.core core)
  where
    onto : IsWrite h word b → d.word ≡ word → (b.at.core ≡ d.at.core) ⊎ (b.at.core ≢ d.at.core)
        → Before (Pair (d ∷ h)) b.at d.at
    onto is p (inl e) = one (Pair (d ∷ h)) b.at d.at (inl (e, rising.1 b is.stands e))
    onto is p (inr differ) = one (Pair (d ∷ h)) b.at d.at
        (inr (inl (refl, (b, is.stands, refl, (differ, is.word_is ∙ sym p, inl is.kind_is)))))

    by : (last_write h word ≡ Some b → last_read h word core ≡ Some c → Before (Pair (d ∷ h)) b.at c.at)
        → (d.word ≡ word) ⊎ (d.word ≢ word) →
        (is_write d.kind ≡ false) ⊎ (is_write d.kind ≡ true) → (d.at.core ≡ core) ⊎ (d.at.core ≢ core)
        → Before (Pair (d ∷ h)) b.at c.at
    by earlier (inr p) _ _ = earlier (sym (last_write-word d h word p) ∙ w) (sym (last_read-word d h word core p) ∙ r)
    by earlier (inl p) (inr q) _ = absurd (none_some c (sym (last_read-store d h word core p q) ∙ r))
    by earlier (inl p) (inl q) (inr o) = earlier (sym (last_write-load d h word p q) ∙ w)
        (sym (last_read-core d h word core p q o) ∙ r)
    by earlier (inl p) (inl q) (inl o) =
        let same : d ≡ c = some_is d c (sym (last_read-at d h word core p q o) ∙ r) in
        subst (λ (v : Access). Before (Pair (d ∷ h)) b.at v.at) same
        (onto (last_write-is h word b (sym (last_write-load d h word p q) ∙ w)) p (cases_eq b.at.core d.at.core))

-- ---- the candidates

-- z is one of these or leads to one, or leads to the instruction before a
abbrev pub IsLed : List Access → Access → List Source → Instr → Type 0
IsLed h a found z = ((s : Source) × StandsIn found s × UpTo h z s.at) ⊎ UpTo h z (previous a.at)

-- each of these is a candidate that the clock before does not know of, with its exact clock, and each candidate is one
-- of these or known by way of one, or by the clock before
pub record AreCandidates (list : List Access) (before : Clock) (a : Access) (found : List Source) : Type 0 where
  pub fits : (s : Source) → StandsIn found s → s.at.core < CORES_MAX
  pub candidate : (s : Source) → StandsIn found s → Candidate (reverse list) a s.at
  pub exact : (s : Source) → StandsIn found s → IsExactClock list s.at s.clock
  pub above : (s : Source) → StandsIn found s → slice_index before s.at.core < s.at.count
  pub all : (z : Instr) → Candidate (reverse list) a z → IsLed (reverse list) a found z

-- why a candidate that is found is one
record Stands (list : List Access) (a : Access) (s : Source) : Type 0 where
  candidate : Candidate (reverse list) a s.at
  exact : IsExactClock list s.at s.clock

noted_stands : (list : List Access) (before : Clock) (a : Access) (t : Times) (s : Source) → s.at.core < CORES_MAX
    → AreExactFor list a t →
    IsNotedIn before a t s → Stands list a s
noted_stands list before a t s fits exact noted = by noted.noted
  where
    exact_at : (b : Access) → s.at ≡ b.at → IsExactClock list b.at s.clock → IsExactClock list s.at s.clock
    exact_at b e x = subst (λ (v : Instr). IsExactClock list v s.clock) (sym e) x

    other_at : (b : Access) → s.at ≡ b.at → b.at.core ≢ a.at.core
    other_at b e = subst (λ (v : Instr). v.core ≢ a.at.core) e noted.lives.other

    by : (write_at t (a.word % BLOCK_WORDS) ≡ Some (s.at, s.clock))
        ⊎ ((is_write a.kind ≡ true) × (read_at t (a.word % BLOCK_WORDS) s.at.core ≡ Some (s.at.count, s.clock)))
        → Stands list a s
    by (inl w) =
        let n = note_of list (last_write (reverse list) a.word) (write_at t (a.word % BLOCK_WORDS)) s.at s.clock
        exact.write_is w in
        record {
          candidate = (n.access, inl n.here_is, other_at n.access n.at_is, sym n.at_is);
          exact = exact_at
              n.access n.at_is n.exact;
        }
    by (inr r) =
        let n = note_of list (last_read (reverse list) a.word s.at.core)
        (read_note s.at.core (read_at t (a.word % BLOCK_WORDS) s.at.core)) s.at s.clock
        (exact.read_is r.0 s.at.core fits) (ap (read_note s.at.core) r.1) in
        let here = subst (λ (k : ℕ). last_read (reverse list) a.word k ≡ Some n.access)
        (ap (λ (v : Instr). v.core) n.at_is) n.here_is in
        record {
          candidate = (n.access, inr (r.0, here), other_at n.access n.at_is, sym n.at_is);
          exact = exact_at
              n.access n.at_is n.exact;
        }

-- an instruction that the clock before knows of leads to the one before a
known_up : (list : List Access) (before : Clock) (a : Access) (at : Instr) → at.core < CORES_MAX → 1 ≤ at.count →
    IsExactClock list (previous a.at) before → is_above before at ≡ false → UpTo (reverse list) at (previous a.at)
known_up list before a at fits pos exact known =
    let e = exact at.core fits in
    let le : at.count ≤ slice_index before at.core = grind (arith, nat_tests) in
    clock-up_to (reverse list) at (previous a.at) pos (omega arith)

-- a candidate's note, whose core is another than a's, is live, or it leads to the instruction before a
live_or_known : (list : List Access) (before : Clock) (a : Access) (at : Instr) → at.core < CORES_MAX → 1 ≤ at.count →
    IsExactClock list (previous a.at) before → at.core ≢ a.at.core → Lives before a at ⊎ UpTo (reverse list) at
    (previous a.at)
live_or_known list before a at fits pos exact other = by (is_above before at) refl
  where
    by : (b : Bool) → is_above before at ≡ b → Lives before a at ⊎ UpTo (reverse list) at (previous a.at)
    by true e = inl (record { other = other; above = e })
    by false e = inr (known_up list before a at fits pos exact e)

pub are_candidates : (n : ℕ) (list : List Access) (before : Clock) (a : Access) (t : Times) → n ≤ CORES_MAX
    → Rising (reverse list) →
    IsExactClock list (previous a.at) before → ((b : Access) → StandsIn list b → b.at.core < n) →
    AreExactFor list a t → AreCandidates list before a (candidates n before a t)
are_candidates n list before a t few rising known within exact = record {
  fits = fits;
  candidate = λ s one. (stands s one).candidate;
  exact = λ s one. (stands s one).exact;
  above = λ s one. above s (one_noted n before a t s one).1.lives.above;
  all = λ z c. all z c.0 c.1 c.2 c.3;
}
  where
    fits : (s : Source) → StandsIn (candidates n before a t) s → s.at.core < CORES_MAX
    fits s one = let lt = (one_noted n before a t s one).0 in omega arith

    stands : (s : Source) → StandsIn (candidates n before a t) s → Stands list a s
    stands s one =
        noted_stands list before a t s (let lt = (one_noted n before a t s one).0 in omega arith) exact
        (one_noted n before a t s one).1

    above : (s : Source) → is_above before s.at ≡ true → slice_index before s.at.core < s.at.count
    above s e = grind (arith, nat_tests)

    -- a live read comes after the write
    through : (b : Access) → last_write (reverse list) a.word ≡ Some b → (r : Source)
        → StandsIn (reads_from n before a t) r →
        IsLed (reverse list) a (candidates n before a t) b.at
    through b w r one =
        let q = one_read n before a t r one in
        let lt = q.0 in
        let m = note_of list (last_read (reverse list) a.word r.at.core)
        (read_note r.at.core (read_at t (a.word % BLOCK_WORDS) r.at.core)) r.at r.clock
        (exact.read_is q.1.writes r.at.core (omega arith)) (ap (read_note r.at.core) q.1.noted) in
        let later = read_later (reverse list) a.word r.at.core b m.access rising w m.here_is in
        inl (
          r,
          read_found n before a t r one,
          inr
              (subst (λ (v : Instr). Before (Pair (reverse list)) b.at v) (sym m.at_is) later),
        )

    write : (z : Instr) (b : Access) → last_write (reverse list) a.word ≡ Some b → b.at ≡ z → (s : Source) →
        write_at t (a.word % BLOCK_WORDS) ≡ Some (s.at, s.clock) → s.at ≡ b.at → s.at.core < n →
        Lives before a s.at ⊎ UpTo (reverse list) s.at (previous a.at) → IsLed (reverse list) a
        (candidates n before a t) z
    write z b w e s noted is lt (inr up) = inr (subst (λ (v : Instr). UpTo (reverse list) v (previous a.at)) (is ∙ e)
        up)
    write z b w e s noted is lt (inl lives) =
        by (write_or_read n before a t s (ap (write_from n before a) noted ∙ wrote_back n before a s lt
        (is_live_of before a s.at lives)))
      where
        by : StandsIn (candidates n before a t) s ⊎ ((r : Source) × StandsIn (reads_from n before a t) r) →
            IsLed (reverse list) a (candidates n before a t) z
        by (inl one) = inl (s, one, inl (sym e ∙ sym is))
        by (inr q) = subst (λ (v : Instr). IsLed (reverse list) a (candidates n before a t) v) e (through b w q.0 q.1)

    read : (z : Instr) (s : Source) → is_write a.kind ≡ true → read_at t (a.word % BLOCK_WORDS) s.at.core ≡ Some
        (s.at.count, s.clock) → s.at ≡ z →
        s.at.core < n → Lives before a s.at ⊎ UpTo (reverse list) s.at (previous a.at) → IsLed (reverse list) a
        (candidates n before a t) z
    read z s writes noted is lt (inr up) = inr (subst (λ (v : Instr). UpTo (reverse list) v (previous a.at)) is up)
    read z s writes noted is lt (inl lives) =
        inl (
          s,
          read_found n before a t s
              (read_one n before a t s lt (record { writes = writes; noted = noted; lives = lives })),
          inl (sym is),
        )

    all : (z : Instr) (b : Access) → (last_write (reverse list) a.word ≡ Some b)
        ⊎ ((is_write a.kind ≡ true) × (last_read (reverse list) a.word b.at.core ≡ Some b)) → b.at.core ≢ a.at.core
        → b.at ≡ z →
        IsLed (reverse list) a (candidates n before a t) z
    all z b (inl w) other e =
        let stands_b = (last_write-is (reverse list) a.word b w).stands in
        let below = within b (stands_back list b stands_b) in
        let m = noted_of list (last_write (reverse list) a.word) (write_at t (a.word % BLOCK_WORDS)) b exact.write_is
        w in
        let s : Source = record { at = m.0.0; clock = m.0.1 } in
        let core : s.at.core ≡ b.at.core = ap (λ (v : Instr). v.core) m.2 in
        let count : s.at.count ≡ b.at.count = ap (λ (v : Instr). v.count) m.2 in
        let pos = stands_pos (reverse list) b rising stands_b in
        write z b w e s m.1 m.2 (omega arith) (live_or_known list before a s.at (omega arith) (omega arith) known
        (λ f. other (sym core ∙ f)))
    all z b (inr r) other e =
        let stands_b = (last_read-is (reverse list) a.word b.at.core b r.1).stands in
        let below = within b (stands_back list b stands_b) in
        let m = noted_of list (last_read (reverse list) a.word b.at.core)
        (read_note b.at.core (read_at t (a.word % BLOCK_WORDS) b.at.core)) b
        (exact.read_is r.0 b.at.core (omega arith)) r.1 in
        let s : Source = record { at = m.0.0; clock = m.0.1 } in
        let core : s.at.core ≡ b.at.core = ap (λ (v : Instr). v.core) m.2 in
        let count : s.at.count ≡ b.at.count = ap (λ (v : Instr). v.count) m.2 in
        let pos = stands_pos (reverse list) b rising stands_b in
        let here = subst (λ (k : ℕ). read_at t (a.word % BLOCK_WORDS) k ≡ Some (s.at.count, s.clock)) (sym core)
        (read_noted b.at.core (read_at t (a.word % BLOCK_WORDS) b.at.core) m.0 m.1) in
        read z s r.0 here (m.2 ∙ e) (omega arith) (live_or_known list before a s.at (omega arith) (omega arith) known
        (λ f. other (sym core ∙ f)))
