-- What holds of a holder's rider after an access, and after one absorbs another.
use Rattle.std.proofs.Common.{◌≡◌, ◌∙◌, ◌⊎◌, ap, sym, subst, ℕ, ◌<◌, ◌≤◌, false, Option, List, ◌∷◌, arith}
use Rattle.rtr_types.specs.declared.TheConstants.{CORES_MAX}
use Rattle.std.proofs.lemmas.Bool.Decides.{nat_tests}
use Rattle.rtr_types.specs.declared.instr.Instr.{Instr}
use Rattle.msi_protocol.proofs.Newest.{Grows}
use Rattle.clock_core.specs.declared.clock.Clock.{Clock}
use Rattle.machine_times.specs.History.{NotedAccess, core_of, write_after, read_after, last_noted_write}
use Rattle.machine_times.specs.History.{last_noted_read, rank, WordTimes, AbsorbsWell}
use Rattle.machine_times.specs.History.{HasNoted, FitsLast, IsPast, read_rank}
use Rattle.rtr_types.specs.Accesses.{is_write}
use Rattle.access_times.specs.Times.{newer_read}

newer_below : (a b : Option (ℕ × Clock)) (n : ℕ) → rank a ≤ n → rank b ≤ n → rank (newer_read a b) ≤ n
newer_below a b n p q = grind (arith, nat_tests)

newer_left : (a b : Option (ℕ × Clock)) → rank a ≤ rank (newer_read a b)
newer_left a b = grind (arith, nat_tests)

newer_right : (a b : Option (ℕ × Clock)) → rank b ≤ rank (newer_read a b)
newer_right a b = grind (arith, nat_tests)

newer_same : (a b last : Option (ℕ × Clock)) → (rank last ≤ rank a → a ≡ last) → (rank last ≤ rank b → b ≡ last) →
    rank last ≤ rank (newer_read a b) →
    newer_read a b ≡ last
newer_same a b last p q le = grind (arith, nat_tests)

pub newer_fits : (a b last : Option (ℕ × Clock)) → FitsLast a last → FitsLast b last → FitsLast (newer_read a b) last
newer_fits a b last p q = record {
  below = newer_below a b (rank last) p.below q.below;
  same =
      λ le. newer_same a b last p.same q.same le;
}

pub absorbed_past : {X : Type 0} (t : WordTimes X) → AbsorbsWell t → (h : List NotedAccess) (word : ℕ) (x y : X) →
    IsPast t h word x → IsPast t h word y →
    IsPast t h word (t.absorbed x y)
absorbed_past t well h word x y p q =
    let e : t.write x ≡ t.write y = p.write ∙ sym q.write in
    record {
      write = well.write x y e ∙ p.write;
      reads = λ d ld. rw (well.read x y d ld e) (newer_fits (t.read x d) (t.read y d) (last_noted_read h word d)
          (p.reads d ld) (q.reads d ld));
    }

pub absorbed_grows : {X : Type 0} (t : WordTimes X) → AbsorbsWell t → (h : List NotedAccess) (word d : ℕ) →
    d < CORES_MAX →
    Grows (IsPast t h word) t.absorbed (read_rank t d)
absorbed_grows {X} t well h word d ld = record { left = left; right = right }
  where
    left : (x y : X) → IsPast t h word x → IsPast t h word y → read_rank t d x ≤ read_rank t d (t.absorbed x y)
    left x y p q = rw (well.read x y d ld (p.write ∙ sym q.write)) (newer_left (t.read x d) (t.read y d))

    right : (x y : X) → IsPast t h word x → IsPast t h word y → read_rank t d y ≤ read_rank t d (t.absorbed x y)
    right x y p q = rw (well.read x y d ld (p.write ∙ sym q.write)) (newer_right (t.read x d) (t.read y d))

-- the rider that the access is noted in
after_below : (n : NotedAccess) (word d : ℕ) (read last : Option (ℕ × Clock)) → rank read ≤ rank last →
    rank (read_after n word d read) ≤ rank (read_after n word d last)
after_below n word d read last le = grind (arith, nat_tests)

after_same : (n : NotedAccess) (word d : ℕ) (read last : Option (ℕ × Clock)) → (rank last ≤ rank read → read ≡ last) →
    rank (read_after n word d last) ≤ rank (read_after n word d read) →
    read_after n word d read ≡ read_after n word d last
after_same n word d read last same le = grind (arith, nat_tests)

pub noted_past : {X : Type 0} (t : WordTimes X) (n : NotedAccess) (h : List NotedAccess) (word : ℕ) (x y : X) →
    HasNoted t n word x y → IsPast t h word x →
    IsPast t (n ∷ h) word y
noted_past t n h word x y noted p =
    record {
      write = noted.write ∙ ap (write_after n word) p.write;
      reads = λ d ld. let f = p.reads d ld in
          rw (noted.read d ld)
          (record {
            below = after_below n word d (t.read x d) (last_noted_read h word d) f.below;
            same = λ le. after_same n word d (t.read x d) (last_noted_read h word d) f.same le;
          });
    }

-- the others after a load
load_below : (n : NotedAccess) (word d : ℕ) (read last : Option (ℕ × Clock)) → is_write n.access.kind ≡ false →
    (d ≡ core_of n → rank last < n.access.at.count) → rank read ≤ rank last →
    rank read ≤ rank (read_after n word d last)
load_below n word d read last load later le = grind (arith, nat_tests)

load_same : (n : NotedAccess) (word d : ℕ) (read last : Option (ℕ × Clock)) → is_write n.access.kind ≡ false →
    (d ≡ core_of n → rank last < n.access.at.count) → rank read ≤ rank last → (rank last ≤ rank read → read ≡ last) →
    rank (read_after n word d last) ≤ rank read → read ≡ read_after n word d last
load_same n word d read last load later below same le = grind (arith, nat_tests)

load_write : (n : NotedAccess) (word : ℕ) (old : Option (Instr × Clock)) → is_write n.access.kind ≡ false →
    write_after n word old ≡ old
load_write n word old load = grind (arith, nat_tests)

pub others_past : {X : Type 0} (t : WordTimes X) (n : NotedAccess) (h : List NotedAccess) (word : ℕ) (x : X) →
    is_write n.access.kind ≡ false →
    rank (last_noted_read h word (core_of n)) < n.access.at.count → IsPast t h word x → IsPast t (n ∷ h) word x
others_past t n h word x load later p =
    record {
      write = p.write ∙ sym (load_write n word (last_noted_write h word) load);
      reads = λ d ld.
          let f = p.reads d ld in
          let at : d ≡ core_of n → rank (last_noted_read h word d) < n.access.at.count =
          λ (e : d ≡ core_of n). subst (λ (c : ℕ). rank (last_noted_read h word c) < n.access.at.count) (sym e) later in
          record {
            below = load_below n word d (t.read x d) (last_noted_read h word d) load at f.below;
            same = λ le. load_same n word d (t.read x d) (last_noted_read h word d) load at f.below f.same le;
          };
    }

-- the counts of a core's last read, and in the rider that the access is noted in
pub read_cases : (n : NotedAccess) (word d : ℕ) (read last : Option (ℕ × Clock)) → (rank (read_after n word d last) ≡ 0)
    ⊎ (((rank (read_after n word d last) ≡ rank last) × (rank (read_after n word d read) ≡ rank read))
    ⊎ ((d ≡ core_of n) × (rank (read_after n word d read) ≡ rank (read_after n word d last))))
read_cases n word d read last = grind (arith, nat_tests)
