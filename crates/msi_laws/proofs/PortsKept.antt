-- Each act keeps the ports as the invariant has them, and there are as many after it as before.
use Rattle.std.proofs.Common.{◌≡◌, ap, refl, sym, subst, ℕ, ◌<◌, ◌≤◌, ◌==◌, Bool, true, false, nat_lt, not, ◌&&◌}
use Rattle.std.proofs.Common.{List, [], ◌∷◌, length, Option, Some}
use Rattle.std.proofs.Common.{None, arith, IsTrue}
use Rattle.std.specs.Prelude.{if◌then◌else◌, slice_set}
use Rattle.std.proofs.lemmas.List.{length-set}
use Rattle.std.proofs.lemmas.Bool.{ltb-true}
use Rattle.access_times.specs.Riding.{Riding, Carrying}
use Rattle.rtr_types.proofs.Truths.{true_is, first_true, second_true}
use Rattle.rtr_types.specs.CoreSets.{has}
use Rattle.rtr_types.specs.declared.TheConstants.{CORES_MAX}
use Rattle.rtr_types.specs.declared.access.Kind.{Kind}
use Rattle.msi_cache.specs.Lines.{waits}
use Rattle.msi_cache.specs.declared.messages.FromHome.{FromHome}
use Rattle.msi_cache.specs.declared.messages.FromHome.TheVariants.{Inv}
use Rattle.msi_directory.specs.declared.entry.HomeAnswer.{HomeAnswer}
use Rattle.msi_memory.specs.declared.port.Mail.{Mail}
use Rattle.msi_memory.specs.declared.port.Port.{Port}
use Rattle.msi_memory.specs.Memories.{Memory, port_at}
use Rattle.msi_memory.specs.Acts.{Act, Want, Touch, Retire, TakeRequest, TakeResponse, TakeMessage, port_of, can}
use Rattle.msi_memory.specs.Acts.{can_at, after_act, allows, with_port}
use Rattle.msi_memory.specs.Acts.{delivered, delivered_in, port_asking, port_touched}
use Rattle.msi_memory.specs.Acts.{port_retiring, port_hearing}
use Rattle.msi_memory.specs.Acts.{port_taking, port_sent, answer_to}
use Rattle.msi_laws.specs.Holds.{PortHolds, MemoryHolds}
use Rattle.msi_laws.proofs.Views.{port_at-set, port_at-sent, port_at-told}
use Rattle.msi_laws.proofs.Sends.{IsTaken, by_request, by_response}
use Rattle.msi_laws.proofs.HomeMessages.{Taken, after_taken, each_request, each_response, length_taken}
use Rattle.msi_laws.proofs.Lines.{PortStill, SameLines, same_lines_fit, fits_still, asking_fits, taking_fits}
use Rattle.msi_laws.proofs.Lines.{answering_same, touched_same, length_touched}
use Rattle.msi_laws.proofs.PortsAndBlocks.{message_row}

module _ {R K : Type 0} where
  -- ---- what the home sends

  -- the answer changes nothing of a port but its messages, so a fact that these don't touch stays
  pub delivered_keeps : (P : Port R K → Type 0) (carrying : Carrying K) (answer : HomeAnswer R) (block : ℕ) (k : K)
      (ports : List (Port R K)) →
      ((p : Port R K) (m : FromHome R) → P p → P (port_sent p m k)) →
      ((to : ℕ) (m : FromHome R) → answer.send ≡ Some (to, m) → to < length ports) →
      (d : ℕ) → P (port_at carrying ports d) → P (port_at carrying (delivered carrying answer block k ports) d)
  delivered_keeps P carrying answer block k ports keeps sends d h = by_send answer.send refl
    where
      sent_if : (t : Bool) (m : FromHome R) → P (if t then port_sent (port_at carrying ports d) m k else port_at
          carrying ports d)
      sent_if true m = keeps (port_at carrying ports d) m h
      sent_if false m = h

      by_send : (send : Option (ℕ × FromHome R)) → answer.send ≡ send →
          P (port_at carrying (delivered_in send carrying answer.invalidate block k ports) d)
      by_send None e = subst P (sym (port_at-told carrying answer.invalidate (Inv block) k (length ports) ports d
          (omega arith)))
          (sent_if (nat_lt d (length ports) && has answer.invalidate d) (Inv block))
      by_send (Some (to, m)) e = subst P (sym (port_at-sent carrying ports to m k d (sends to m e)))
          (sent_if (d == to) m)

  -- ---- what it is that an act can be made

  pub there_of : (riding : Riding R) (carrying : Carrying K) (m : Memory R K) (act : Act R) →
      IsTrue (can riding carrying m act) →
      port_of act < length m.ports
  there_of riding carrying m act e =
      ltb-true (port_of act) (length m.ports)
      (true_is (nat_lt (port_of act) (length m.ports))
      (first_true (nat_lt (port_of act) (length m.ports)) (can_at riding m.home (port_at carrying m.ports (port_of act))
      act) e))

  pub can_of : (riding : Riding R) (carrying : Carrying K) (m : Memory R K) (act : Act R) →
      IsTrue (can riding carrying m act) →
      can_at riding m.home (port_at carrying m.ports (port_of act)) act ≡ true
  can_of riding carrying m act e =
      true_is (can_at riding m.home (port_at carrying m.ports (port_of act)) act)
      (second_true (nat_lt (port_of act) (length m.ports))
      (can_at riding m.home (port_at carrying m.ports (port_of act)) act) e)

  -- a port is asked where it doesn't wait, for what it doesn't allow of a block that is there
  pub record CanWant (riding : Riding R) (blocks : ℕ) (p : Port R K) (block : ℕ) (kind : Kind) : Type 0 where
    pub still : waits p.cache ≡ false
    pub within : block < blocks
    pub needed : allows riding p block kind ≡ false

  pub can_want : (riding : Riding R) (carrying : Carrying K) (m : Memory R K) (c block : ℕ) (kind : Kind) →
      IsTrue (can riding carrying m (Want c block kind)) → CanWant riding (length m.home) (port_at carrying m.ports c)
      block kind
  can_want riding carrying m c block kind e =
      by_tests (waits (port_at carrying m.ports c).cache) refl (nat_lt block (length m.home)) refl
      (allows riding (port_at carrying m.ports c) block kind) refl
      (can_of riding carrying m (Want c block kind) e)
    where
      by_tests : (w : Bool) → waits (port_at carrying m.ports c).cache ≡ w → (n : Bool) →
          nat_lt block (length m.home) ≡ n → (a : Bool) →
          allows riding (port_at carrying m.ports c) block kind ≡ a → (not w && (n && not a)) ≡ true →
          CanWant riding (length m.home) (port_at carrying m.ports c) block kind
      by_tests false e true f false g h = record { still = e; within = ltb-true block (length m.home) f; needed = g }
      by_tests true e n f a g h = absurd (cc)
      by_tests false e false f a g h = absurd (cc)
      by_tests false e true f true g h = absurd (cc)

  -- ---- how many there are

  -- no port comes or goes
  pub length_act : (riding : Riding R) (carrying : Carrying K) (m : Memory R K) (act : Act R) →
      length (after_act riding carrying m act).ports ≡ length m.ports
  length_act riding carrying m (Want c block kind) = length-set m.ports c _
  length_act riding carrying m (Touch c block slot kind value rider) = length-set m.ports c _
  length_act riding carrying m (Retire c at) = length-set m.ports c _
  length_act riding carrying m (TakeRequest c) =
      each_request (λ (n : Memory R K). length n.ports ≡ length m.ports) riding carrying m c
      (port_at carrying m.ports c).requests.items refl (length_taken carrying m c)
  length_act riding carrying m (TakeResponse c) =
      each_response (λ (n : Memory R K). length n.ports ≡ length m.ports) riding carrying m c
      (port_at carrying m.ports c).responses.items refl (length_taken carrying m c)
  length_act riding carrying m (TakeMessage c) = length-set m.ports c _

  -- ---- the ports hold

  pub record PortsHold (riding : Riding R) (carrying : Carrying K) (m : Memory R K) : Type 0 where
    pub cores : length m.ports ≤ CORES_MAX
    pub ports : (c : ℕ) → c < length m.ports → PortHolds riding (length m.home) (port_at carrying m.ports c)

  -- a port with the same lines and rooms, and whatever is on its links
  pub relinked : (riding : Riding R) (blocks : ℕ) (p q : Port R K) → q.cache ≡ p.cache →
      q.requests.room ≡ p.requests.room →
      q.responses.room ≡ p.responses.room → q.messages.room ≡ p.messages.room → PortHolds riding blocks p →
      PortHolds riding blocks q
  relinked riding blocks p q lines a b c h =
      same_lines_fit riding blocks p q
      (record {
        long = ap length lines;
        same = λ i. rw lines (record { state = refl; block = refl });
        requests =
            a;
        responses = b;
        messages = c;
      }) h

  -- a port after a touch has the same lines but for words and rider
  pub touched_lines : (riding : Riding R) (blocks : ℕ) (p : Port R K) (block slot : ℕ) (kind : Kind) (value : ℕ)
      (r : R) → PortHolds riding blocks p →
      SameLines riding p (port_touched riding p block slot kind value r)
  touched_lines riding blocks p block slot kind value r h =
      record {
        long = length_touched riding p.cache block slot kind value r;
        same = λ i. touched_same riding p.cache block slot kind value r h.all_lines i;
        requests = refl;
        responses = refl;
        messages = refl;
      }

  set_holds : (riding : Riding R) (carrying : Carrying K) (blocks : ℕ) (ports : List (Port R K)) (c : ℕ)
      (q : Port R K) → c < length ports →
      PortHolds riding blocks q → ((d : ℕ) → d < length ports → PortHolds riding blocks (port_at carrying ports d)) →
      (d : ℕ) → d < length ports →
      PortHolds riding blocks (port_at carrying (slice_set ports c q) d)
  set_holds riding carrying blocks ports c q lc holds h d ld =
      subst (λ (p : Port R K). PortHolds riding blocks p) (sym (port_at-set carrying ports c q d lc)) (by_test (d == c))
    where
      by_test : (t : Bool) → PortHolds riding blocks (if t then q else port_at carrying ports d)
      by_test true = holds
      by_test false = h d ld

  port_set : (riding : Riding R) (carrying : Carrying K) (m : Memory R K) (c : ℕ) (q : Port R K) → c < length m.ports →
      PortHolds riding (length m.home) q → MemoryHolds riding carrying m → PortsHold riding carrying (with_port m c q)
  port_set riding carrying m c q lc holds h =
      record {
        cores = rw (length-set m.ports c q) h.cores;
        ports = λ d ld. set_holds riding carrying (length m.home) m.ports c q lc holds h.ports d
            (subst (λ (n : ℕ). d < n) (length-set m.ports c q) ld);
      }

  -- what the home takes
  taken_ports : (riding : Riding R) (carrying : Carrying K) (m : Memory R K) (c : ℕ) → c < length m.ports →
      MemoryHolds riding carrying m → (t : Taken R K) → IsTaken carrying m c t →
      PortsHold riding carrying (after_taken carrying m c t)
  taken_ports riding carrying m c lc h t is =
      record {
        cores = rw (length_taken carrying m c t) h.cores;
        ports = λ x lx. rw (length-set m.home t.block t.entry) (delivered_keeps (λ (p : Port R K). PortHolds riding
            (length m.home) p) carrying t.answer t.block t.carry (slice_set m.ports c t.left)
            (λ p sent f. relinked riding (length m.home) p (port_sent p sent t.carry) refl refl refl refl f)
            (λ to sent e. rw length-set (is.there to sent e)) x
            (set_holds riding carrying (length m.home) m.ports c t.left lc holds h.ports x
            (subst (λ (n : ℕ). x < n) (length_taken carrying m c t) lx)));
      }
    where
      holds : PortHolds riding (length m.home) t.left
      holds = relinked riding (length m.home) (port_at carrying m.ports c) t.left is.cache is.requests is.responses
          is.messages (h.ports c lc)

  message_port : (riding : Riding R) (carrying : Carrying K) (m : Memory R K) (c : ℕ) (q : List (Mail (FromHome R) K)) →
      c < length m.ports →
      (port_at carrying m.ports c).messages.items ≡ q → MemoryHolds riding carrying m →
      PortHolds riding (length m.home) (port_taking riding carrying (port_at carrying m.ports c) q)
  message_port riding carrying m c [] lc is h = h.ports c lc
  message_port riding carrying m c (mail ∷ rest) lc is h =
      let p : Port R K = port_at carrying m.ports c in
      same_lines_fit riding (length m.home) (port_hearing riding carrying p mail rest) (port_taking riding carrying p
      (mail ∷ rest))
      (answering_same riding (port_hearing riding carrying p mail rest) (answer_to riding p mail.item))
      (taking_fits riding carrying (length m.home) p mail rest (message_row riding carrying m c mail rest lc is h).there
      (h.ports c lc))

  pub ports_kept : (riding : Riding R) (carrying : Carrying K) (m : Memory R K) (act : Act R) →
      IsTrue (can riding carrying m act) →
      MemoryHolds riding carrying m → PortsHold riding carrying (after_act riding carrying m act)
  ports_kept riding carrying m (Want c block kind) e h =
      let p : Port R K = port_at carrying m.ports c in
      let lc = there_of riding carrying m (Want c block kind) e in
      let asks = can_want riding carrying m c block kind e in
      let still : PortStill riding (length m.home) p = fits_still riding (length m.home) p asks.still (h.ports c lc) in
      port_set riding carrying m c (port_asking riding p block kind) lc (asking_fits riding (length m.home) p block kind
      asks.within asks.needed still) h
  ports_kept riding carrying m (Touch c block slot kind value rider) e h =
      let lc = there_of riding carrying m (Touch c block slot kind value rider) e in
      let p : Port R K = port_at carrying m.ports c in
      port_set riding carrying m c (port_touched riding p block slot kind value rider) lc
      (same_lines_fit riding (length m.home) p (port_touched riding p block slot kind value rider)
      (touched_lines riding (length m.home) p block slot kind value rider (h.ports c lc)) (h.ports c lc)) h
  ports_kept riding carrying m (Retire c at) e h =
      let lc = there_of riding carrying m (Retire c at) e in
      let p : Port R K = port_at carrying m.ports c in
      port_set riding carrying m c (port_retiring carrying p at) lc
      (relinked riding (length m.home) p (port_retiring carrying p at) refl refl refl refl (h.ports c lc)) h
  ports_kept riding carrying m (TakeRequest c) e h =
      let lc = there_of riding carrying m (TakeRequest c) e in
      by_request (λ (n : Memory R K). PortsHold riding carrying n) riding carrying m c
      (port_at carrying m.ports c).requests.items h lc (record { cores = h.cores; ports = h.ports })
      (taken_ports riding carrying m c lc h)
  ports_kept riding carrying m (TakeResponse c) e h =
      by_response (λ (n : Memory R K). PortsHold riding carrying n) riding carrying m c
      (port_at carrying m.ports c).responses.items h (record { cores = h.cores; ports = h.ports })
      (taken_ports riding carrying m c (there_of riding carrying m (TakeResponse c) e) h)
  ports_kept riding carrying m (TakeMessage c) e h =
      let lc = there_of riding carrying m (TakeMessage c) e in
      port_set riding carrying m c (port_taking riding carrying (port_at carrying m.ports c)
      (port_at carrying m.ports c).messages.items) lc
      (message_port riding carrying m c (port_at carrying m.ports c).messages.items lc refl h) h
