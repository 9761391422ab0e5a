-- Each move and each access keeps the block's riders right, and a store finds exact times.
use Rattle.std.proofs.Common.{◌≡◌, ◌≢◌, ◌∙◌, ◌⊎◌, inl, inr, ap, refl, sym, subst, ℕ, ◌<◌, ◌≤◌, ◌==◌, Bool, true, false}
use Rattle.std.proofs.Common.{Option, List, ◌∷◌, arith}
use Rattle.clock_core.specs.declared.clock.Clock.{Clock}
use Rattle.rtr_types.specs.declared.TheConstants.{CORES_MAX}
use Rattle.std.proofs.lemmas.Bool.Decides.{nat_tests}
use Rattle.msi_directory.specs.declared.entry.Stage.{Stage}
use Rattle.rtr_types.specs.declared.access.Kind.{Kind}
use Rattle.msi_protocol.specs.Phases.{Phase, role, role_in}
use Rattle.msi_protocol.specs.Seats.{Seat, seat_accessed, reads_in, writes_in, FullBlock, seat_if, main, main_of}
use Rattle.msi_protocol.specs.Seats.{main_in, main_at, place, count_at, own_count}
use Rattle.msi_protocol.specs.Seats.{accessing, PhasesFit, HoldersHave, Found, is_main, is_away}
use Rattle.machine_times.specs.History.{NotedAccess, core_of, read_after, last_noted_read, last_noted_write, rank}
use Rattle.machine_times.specs.History.{WordTimes, AbsorbsWell, HasNoted}
use Rattle.machine_times.specs.History.{FitsLast, IsPast, read_rank, Exact, IsExactFor, MayAccess}
use Rattle.msi_protocol.specs.Seats.{allows}
use Rattle.rtr_types.specs.Accesses.{is_write}
use Rattle.msi_protocol.proofs.NewestReads.{main_core, at_core, found_in, found_request, found_response, found_message}
use Rattle.msi_protocol.proofs.NewestReads.{found_wish}
use Rattle.machine_times.proofs.Past.{absorbed_past, absorbed_grows, noted_past, others_past, read_cases}
use Rattle.msi_protocol.specs.Showing.{KeptBy}
use Rattle.msi_protocol.proofs.CopiesKept.{holders_kept}
use Rattle.msi_protocol.proofs.PhaseMoves.{stands_request, stands_response, stands_message, stands_wish, stands_access}
use Rattle.msi_protocol.proofs.PhaseMoves.{has_load, has_store, still_has}
use Rattle.msi_protocol.proofs.PhaseMoves.{allows_read, reads_line, writer_away}
use Rattle.machine_times.proofs.DeadCopies.{found_rehomed, found_relined}

-- each move of a block keeps its riders right
pub exact_kept : {X : Type 0} (t : WordTimes X) → AbsorbsWell t → (h : List NotedAccess) (word : ℕ) →
    KeptBy t.absorbed (Exact t h word)
exact_kept {X} t well h word =
    record {
      request = λ c a rest b lc free asks st e. record {
        stands = stands_request t.absorbed c a rest b lc free asks st;
        holders = holders.request c a rest b lc free asks st e.holders;
        found = λ d ld. found_request (IsPast t h word) t.absorbed (read_rank t d) (absorbed_grows t well h word d ld)
            (rank (last_noted_read h word d)) d c a rest b lc ld free asks st e.holders (e.found d ld);
      };
      response = λ c a rest b lc asks st e. record {
        stands = stands_response t.absorbed c a rest b lc asks st;
        holders = holders.response c a rest b lc asks st e.holders;
        found = λ d ld. found_response (IsPast t h word) t.absorbed (read_rank t d) (absorbed_grows t well h word d ld)
            (rank (last_noted_read h word d)) d c a rest b lc ld asks st e.holders (e.found d ld);
      };
      message = λ c m rest b lc asks st e. record {
        stands = stands_message t.absorbed c m rest b asks st;
        holders = holders.message c m rest b lc asks st e.holders;
        found = λ d ld. found_message (IsPast t h word) t.absorbed (read_rank t d) (absorbed_grows t well h word d ld)
            (rank (last_noted_read h word d)) d c m rest b lc ld asks st e.holders (e.found d ld);
      };
      wish = λ c w b st e. record {
        stands = stands_wish c w b st;
        holders = holders.wish c w b st e.holders;
        found = λ d ld. found_wish (read_rank t d) (rank (last_noted_read h word d)) d c w b (e.found d ld);
      };
      reline = λ b lines same st e. record {
        stands = record { fits = st.fits; roles = st.roles };
        holders = holders.reline b lines same st e.holders;
        found = λ d ld. found_relined (read_rank t d) (rank (last_noted_read h word d)) d b lines ld same st
            (e.found d ld);
      };
      rehome = λ b home same st e. record {
        stands = record { fits = st.fits; roles = st.roles };
        holders = holders.rehome b home same st e.holders;
        found = λ d ld. found_rehomed (read_rank t d) (rank (last_noted_read h word d)) d b home same (e.found d ld);
      };
    }
  where
    holders : KeptBy t.absorbed (HoldersHave (IsPast t h word))
    holders = holders_kept (IsPast t h word) t.absorbed (absorbed_past t well h word)

-- ---- an access

-- the line has a read of the count
read_main : {X : Type 0} (r : X → ℕ) (p : Phase) (line sent reply : X) → reads_in p ≡ true →
    is_main (role_in p) ≡ false → count_at r (place p) line reply
    ≡ r line
read_main r p line sent reply may e = grind arith

read_place : {X : Type 0} (r : X → ℕ) (p : Phase) (line sent reply : X) → reads_in p ≡ true →
    (main_in p line sent reply ≡ line)
    ⊎ (count_at r (place p) line reply ≡ r line)
read_place r p line sent reply may = grind arith

found_mine : {X : Type 0} (r : X → ℕ) (c : ℕ) (line : X) (b : FullBlock X) → c < CORES_MAX →
    reads_in (b.seats c).phase ≡ true → PhasesFit b →
    Found r (r line) c (accessing c line b)
found_mine {X} r c line b lc may st lt = by (is_main (role_in p)) refl (read_place r p line s.sent s.reply may) lt
  where
    s : Seat X
    s = b.seats c

    p : Phase
    p = s.phase

    same : (accessing c line b).seats c ≡ seat_accessed line s
    same = let e : (c == c) ≡ true = grind (arith, nat_tests) in ap (λ (k : Bool). seat_if k (seat_accessed line s) s) e

    by : (is : Bool) → is_main (role_in p) ≡ is →
        (main_in p line s.sent s.reply ≡ line) ⊎ (count_at r (place p) line s.reply ≡ r line) →
        r (main (accessing c line b)) < r line → r line ≤ own_count r ((accessing c line b).seats c)
    by is e (inr own) lt = let k = ap (own_count r) same in omega arith
    by true e (inl in_main) lt =
        let k : main (accessing c line b) ≡ main_of ((accessing c line b).seats c) =
        main_core b.stage c b.home (accessing c line b).seats (ap is_main (sym (st.roles c lc)) ∙ e) in
        let m : main (accessing c line b) ≡ line = k ∙ ap main_of same ∙ in_main in
        let n = ap r m in
        absurd (omega arith)
    by false e (inl in_main) lt = let k = ap (own_count r) same in let o = read_main r p line s.sent s.reply may e in
        omega arith

-- the rider of the line has the read that it had
main_still : {X : Type 0} (r : X → ℕ) (stage : Stage) (c : ℕ) (line home : X) (seats : ℕ → Seat X) →
    ((o : ℕ) → r (main_of (seat_if (o == c) (seat_accessed line (seats o)) (seats o))) ≡ r (main_of (seats o))) →
    r (main_at stage home (λ d. seat_if (d == c) (seat_accessed line (seats d)) (seats d))) ≡ r
    (main_at stage home seats)
main_still r stage c line home seats each = grind arith

accessed_main : {X : Type 0} (r : X → ℕ) (p : Phase) (line new sent reply : X) → r new ≡ r line →
    r (main_in p new sent reply) ≡ r (main_in p line sent reply)
accessed_main r p line new sent reply e = grind arith

accessed_own : {X : Type 0} (r : X → ℕ) (p : Phase) (line new reply : X) → r new ≡ r line →
    count_at r (place p) new reply ≡ count_at r (place p) line reply
accessed_own r p line new reply e = grind arith

found_still : {X : Type 0} (r : X → ℕ) (n d c : ℕ) (line : X) (b : FullBlock X) → r line ≡ r (b.seats c).line →
    Found r n d b → Found r n d (accessing c line b)
found_still {X} r n d c line b e f =
    let at : (o : ℕ) → o ≡ c → r line ≡ r (b.seats o).line =
    λ (o : ℕ) (k : o ≡ c). subst (λ (x : ℕ). r line ≡ r (b.seats x).line) (sym k) e in
    let main_same = main_still r b.stage c line b.home b.seats
    (λ (o : ℕ). at_core (λ (t : Seat X). r (main_of t) ≡ r (main_of (b.seats o))) c o (seat_accessed line (b.seats o))
    (b.seats o) (λ (k : o ≡ c). let s =
    b.seats o in accessed_main r s.phase s.line line s.sent s.reply (at o k)) (λ (k : o ≢ c). refl)) in
    let own_same = at_core (λ (t : Seat X). own_count r t ≡ own_count r (b.seats d)) c d
    (seat_accessed line (b.seats d)) (b.seats d)
    (λ (k : d ≡ c). let s = b.seats d in accessed_own r s.phase s.line line s.reply (at d k)) (λ (k : d ≢ c). refl) in
    found_in r n (main b) (main (accessing c line b)) (b.seats d) ((accessing c line b).seats d) (omega arith)
    (inl (omega arith)) f

allows_write : (k : Kind) (p : Phase) → allows k p ≡ true → is_write k ≡ true → writes_in p ≡ true
allows_write k p e w = grind arith

pub exact_access : {X : Type 0} (times : WordTimes X) (history : List NotedAccess) (word : ℕ) (n : NotedAccess)
    (line : X)
    (block : FullBlock X) → MayAccess history word block n →
    HasNoted times n word (block.seats (core_of n)).line line → Exact times history word block →
    Exact times (n ∷ history) word (accessing (core_of n) line block)
exact_access {X} times history word n line block may noted exact =
    record {
      stands = stands_access c line block exact.stands;
      holders = by (is_write n.access.kind) refl;
      found = λ d ld. found d ld (read_cases n word d (times.read s.line d) (last_noted_read history word d));
    }
  where
    c : ℕ
    c = core_of n

    s : Seat X
    s = block.seats c

    reads : reads_in s.phase ≡ true
    reads = allows_read n.access.kind s.phase may.allowed

    old : IsPast times history word s.line
    old = (exact.holders.seats c may.core).line (reads_line s.phase reads)

    new : IsPast times (n ∷ history) word line
    new = noted_past times n history word s.line line noted old

    by : (w : Bool) → is_write n.access.kind ≡ w →
        HoldersHave (IsPast times (n ∷ history) word) (accessing c line block)
    by true w = has_store (IsPast times (n ∷ history) word) c line block may.core
        (allows_write n.access.kind s.phase may.allowed w)
        new exact.stands
    by false w = has_load (IsPast times history word) (IsPast times (n ∷ history) word) c line block reads
        (λ (x : X) (p : IsPast times history word x). others_past times n history word x w may.later p) new
        exact.holders

    found : (d : ℕ) → d < CORES_MAX → (rank (last_noted_read (n ∷ history) word d) ≡ 0)
        ⊎ (((rank (last_noted_read (n ∷ history) word d) ≡ rank (last_noted_read history word d))
        × (rank (read_after n word d (times.read s.line d)) ≡ rank (times.read s.line d)))
        ⊎ ((d ≡ c) × (rank (read_after n word d (times.read s.line d)) ≡ rank (last_noted_read (n ∷ history) word d))))
        →
        Found (read_rank times d) (rank (last_noted_read (n ∷ history) word d)) d (accessing c line block)
    found d ld (inl none) lt = absurd (omega arith)
    found d ld (inr (inl same)) lt =
        let k = ap rank (noted.read d ld) ∙ same.1 in
        subst (λ (m : ℕ). Found (read_rank times d) m d (accessing c line block)) (sym same.0)
        (found_still (read_rank times d) (rank (last_noted_read history word d)) d c line block k (exact.found d ld)) lt
    found d ld (inr (inr mine)) lt =
        let k : read_rank times d line ≡ rank (last_noted_read (n ∷ history) word d) =
        ap rank (noted.read d ld) ∙ mine.1 in
        let at_c : Found (read_rank times d) (read_rank times d line) c (accessing c line block) =
        found_mine (read_rank times d) c line block may.core reads exact.stands in
        subst (λ (m : ℕ). Found (read_rank times d) m d (accessing c line block)) k
        (subst (λ (x : ℕ). Found (read_rank times d) (read_rank times d line) x (accessing c line block))
        (sym mine.0) at_c) lt

-- ---- what an access finds

writer_main : {X : Type 0} (stage : Stage) (c : ℕ) (home : X) (seats : ℕ → Seat X) → writes_in (seats c).phase ≡ true →
    role_in (seats c).phase ≡ role stage c → main_at stage home seats ≡ (seats c).line
writer_main stage c home seats may is = grind (arith, nat_tests)

writer_place : {X : Type 0} (r : X → ℕ) (p : Phase) (line reply : X) → writes_in p ≡ true →
    count_at r (place p) line reply ≡ 0
writer_place r p line reply may = grind arith

away_place : {X : Type 0} (r : X → ℕ) (p : Phase) (line reply : X) → is_away (role_in p) ≡ true →
    count_at r (place p) line reply ≡ 0
away_place r p line reply away = grind arith

not_behind : (a n own : ℕ) → (a < n → n ≤ own) → own ≡ 0 → n ≤ a
not_behind a n own f e = grind arith

pub exact_for : {X : Type 0} (t : WordTimes X) (h : List NotedAccess) (word c : ℕ) (k : Kind) (b : FullBlock X) →
    c < CORES_MAX → allows k (b.seats c).phase
    ≡ true → Exact t h word b → IsExactFor t h word k (b.seats c).line
exact_for {X} t h word c k b lc may e = record { write = past.write; reads = reads }
  where
    s : Seat X
    s = b.seats c

    past : IsPast t h word s.line
    past = (e.holders.seats c lc).line (reads_line s.phase (allows_read k s.phase may))

    own : writes_in s.phase ≡ true → (d : ℕ) → d < CORES_MAX → own_count (read_rank t d) (b.seats d) ≡ 0
    own writes d ld = at_core (λ (u : Seat X). own_count (read_rank t d) (b.seats d) ≡ 0) c d s s
        (λ (q : d ≡ c). let u = b.seats d in writer_place (read_rank t d) u.phase u.line u.reply
        (ap (λ (x : ℕ). writes_in (b.seats x).phase) q ∙ writes))
        (λ (q : d ≢ c). let u = b.seats d in
        away_place (read_rank t d) u.phase u.line u.reply (ap is_away (e.stands.roles d ld)
        ∙ writer_away b.stage c d s.phase q writes (e.stands.roles c lc)))

    reads : is_write k ≡ true → (d : ℕ) → d < CORES_MAX → t.read s.line d ≡ last_noted_read h word d
    reads w d ld =
        let writes = allows_write k s.phase may w in
        let m = ap (read_rank t d) (writer_main b.stage c b.home b.seats writes (e.stands.roles c lc)) in
        let le = not_behind (read_rank t d (main b)) (rank (last_noted_read h word d)) (own_count (read_rank t d)
        (b.seats d)) (e.found d ld)
        (own writes d ld) in
        (past.reads d ld).same (subst (λ (x : ℕ). rank (last_noted_read h word d) ≤ x) m le)

-- ---- an access of another block's word

elsewhere_write : (n : NotedAccess) (h : List NotedAccess) (word : ℕ) → n.access.word ≢ word →
    last_noted_write (n ∷ h) word ≡ last_noted_write h word
elsewhere_write n h word other = grind (arith, nat_tests)

elsewhere_read : (n : NotedAccess) (h : List NotedAccess) (word d : ℕ) → n.access.word ≢ word →
    last_noted_read (n ∷ h) word d ≡ last_noted_read h word d
elsewhere_read n h word d other = grind (arith, nat_tests)

past_elsewhere : {X : Type 0} (t : WordTimes X) (n : NotedAccess) (h : List NotedAccess) (word : ℕ) (x : X) →
    n.access.word ≢ word → IsPast t h word x →
    IsPast t (n ∷ h) word x
past_elsewhere t n h word x other p =
    record {
      write = p.write ∙ sym (elsewhere_write n h word other);
      reads = λ d ld. subst (λ (l : Option (ℕ × Clock)). FitsLast (t.read x d) l)
          (sym (elsewhere_read n h word d other)) (p.reads d ld);
    }

pub exact_elsewhere : {X : Type 0} (t : WordTimes X) (n : NotedAccess) (h : List NotedAccess) (word : ℕ)
    (b : FullBlock X) → n.access.word ≢ word →
    Exact t h word b → Exact t (n ∷ h) word b
exact_elsewhere {X} t n h word b other e =
    record {
      stands = e.stands;
      holders = record {
        home = λ counts. past_elsewhere t n h word b.home other (e.holders.home counts);
        seats = λ d ld. still_has (IsPast t h word) (IsPast t (n ∷ h) word) (b.seats d)
            (λ (x : X) (p : IsPast t h word x). past_elsewhere t n h word x other p) (e.holders.seats d ld);
      };
      found = λ d ld. subst (λ (k : ℕ). Found (read_rank t d) k d b) (ap rank (sym (elsewhere_read n h word d other)))
          (e.found d ld);
    }
