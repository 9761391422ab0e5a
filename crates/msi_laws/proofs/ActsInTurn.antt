-- Acts of the memory system, one after the other: a fact that each of them keeps is kept by all, and no act makes a
-- port or a block, or takes one away.
use Rattle.std.proofs.Common.{◌≡◌, ◌∙◌, refl, sym, ap, subst, ℕ, ◌<◌, ◌==◌, Bool, true, false, List, [], ◌∷◌, length}
use Rattle.std.proofs.Common.{IsTrue, nat_lt, ◌&&◌}
use Rattle.std.specs.Prelude.{if◌then◌else◌}
use Rattle.std.specs.List.{list_all}
use Rattle.std.proofs.lemmas.Bool.{lt-ltb}
use Rattle.std.proofs.lemmas.List.{length-set, set-set, set-get_or}
use Rattle.access_times.specs.Riding.{Riding, Carrying}
use Rattle.rtr_types.proofs.Truths.{both_true, first_true, second_true}
use Rattle.rtr_types.specs.declared.access.Kind.{Kind}
use Rattle.rtr_types.specs.declared.instr.Instr.{Instr}
use Rattle.msi_cache.specs.declared.messages.Request.{Request}
use Rattle.msi_cache.specs.declared.messages.Response.{Response}
use Rattle.msi_cache.specs.Messages.{request_block, response_block}
use Rattle.msi_memory.specs.declared.port.Mail.{Mail}
use Rattle.msi_memory.specs.declared.port.Port.{Port}
use Rattle.msi_memory.specs.Acts.{Act, Want, Touch, Retire, TakeRequest, TakeResponse, TakeMessage, can, can_all}
use Rattle.msi_memory.specs.Acts.{after_act, after_acts, allows, port_retiring, with_port}
use Rattle.msi_memory.specs.Acts.{take_request_in, take_response_in}
use Rattle.msi_memory.specs.Memories.{Memory, port_at, no_port}
use Rattle.msi_laws.specs.Holds.{MemoryHolds}
use Rattle.msi_laws.proofs.ActInvariant.{memory_kept}
use Rattle.msi_laws.proofs.PortsKept.{length_act}
use Rattle.msi_laws.proofs.Views.{port_at-set}
use Rattle.msi_laws.proofs.Waits.{port_there}

-- what acts make of a value that each of them changes
abbrev pub folded : {R X : Type 0} → (Act R → X → X) → List (Act R) → X → X
folded next [] x = x
folded next (act ∷ later) x = folded next later (next act x)

module _ {R K : Type 0} where
  -- ---- what each act keeps

  -- acts that can be made keep the invariant
  pub acts_hold : (riding : Riding R) (carrying : Carrying K) (m : Memory R K) (todo : List (Act R)) →
      IsTrue (can_all riding carrying m todo) →
      MemoryHolds riding carrying m → MemoryHolds riding carrying (after_acts riding carrying m todo)
  acts_hold riding carrying m [] can_them holds = holds
  acts_hold riding carrying m (act ∷ later) can_them holds =
      acts_hold riding carrying (after_act riding carrying m act) later
      (second_true (can riding carrying m act)
      (can_all riding carrying (after_act riding carrying m act) later) can_them)
      (memory_kept riding carrying m act
      (first_true (can riding carrying m act) (can_all riding carrying (after_act riding carrying m act) later)
      can_them) holds)

  -- and a fact that each act keeps which can be made and passes a test
  pub acts_keep : (riding : Riding R) (carrying : Carrying K) (P : Memory R K → Type 0) (test : Act R → Bool) →
      ((m : Memory R K) (act : Act R) → IsTrue (can riding carrying m act) → test act ≡ true →
      MemoryHolds riding carrying m → P m →
      P (after_act riding carrying m act)) → (m : Memory R K) (todo : List (Act R)) →
      IsTrue (can_all riding carrying m todo) →
      list_all test todo ≡ true → MemoryHolds riding carrying m → P m → P (after_acts riding carrying m todo)
  acts_keep riding carrying P test each m [] can_them pass holds h = h
  acts_keep riding carrying P test each m (act ∷ later) can_them pass holds h =
      let first = first_true (can riding carrying m act)
      (can_all riding carrying (after_act riding carrying m act) later) can_them in
      acts_keep riding carrying P test each (after_act riding carrying m act) later
      (second_true (can riding carrying m act)
      (can_all riding carrying (after_act riding carrying m act) later) can_them)
      (second_true (test act) (list_all test later) pass) (memory_kept riding carrying m act first holds)
      (each m act first (first_true (test act) (list_all test later) pass) holds h)

  -- and one that speaks of a value beside, which each act changes
  pub acts_carry : {X : Type 0} (riding : Riding R) (carrying : Carrying K) (next : Act R → X → X)
      (P : X → Memory R K → Type 0) →
      ((x : X) (m : Memory R K) (act : Act R) → IsTrue (can riding carrying m act) → MemoryHolds
      riding carrying m → P x m →
      P (next act x) (after_act riding carrying m act)) → (x : X) (m : Memory R K) (todo : List (Act R)) →
      IsTrue (can_all riding carrying m todo) →
      MemoryHolds riding carrying m → P x m → P (folded next todo x) (after_acts riding carrying m todo)
  acts_carry riding carrying next P each x m [] can_them holds h = h
  acts_carry riding carrying next P each x m (act ∷ later) can_them holds h =
      let first = first_true (can riding carrying m act)
      (can_all riding carrying (after_act riding carrying m act) later) can_them in
      acts_carry riding carrying next P each (next act x) (after_act riding carrying m act) later
      (second_true (can riding carrying m act)
      (can_all riding carrying (after_act riding carrying m act) later) can_them)
      (memory_kept riding carrying m act first holds) (each x m act first holds h)

  -- ---- what no act changes

  -- how many ports there are
  pub ports_after_acts : (riding : Riding R) (carrying : Carrying K) (m : Memory R K) (todo : List (Act R)) →
      length (after_acts riding carrying m todo).ports ≡ length m.ports
  ports_after_acts riding carrying m [] = refl
  ports_after_acts riding carrying m (act ∷ later) =
      ports_after_acts riding carrying (after_act riding carrying m act) later ∙ length_act riding carrying m act

  home-requesting : (riding : Riding R) (carrying : Carrying K) (m : Memory R K) (c : ℕ)
      (q : List (Mail (Request R) K)) →
      length (take_request_in q riding carrying m c).home ≡ length m.home
  home-requesting riding carrying m c [] = refl
  home-requesting riding carrying m c (mail ∷ rest) = length-set m.home (request_block mail.item) _

  home-responding : (riding : Riding R) (carrying : Carrying K) (m : Memory R K) (c : ℕ)
      (q : List (Mail (Response R) K)) →
      length (take_response_in q riding carrying m c).home ≡ length m.home
  home-responding riding carrying m c [] = refl
  home-responding riding carrying m c (mail ∷ rest) = length-set m.home (response_block mail.item) _

  -- and blocks
  pub home_after_act : (riding : Riding R) (carrying : Carrying K) (m : Memory R K) (act : Act R) →
      length (after_act riding carrying m act).home ≡ length m.home
  home_after_act riding carrying m (Want c block kind) = refl
  home_after_act riding carrying m (Touch c block slot kind value rider) = refl
  home_after_act riding carrying m (Retire c at) = refl
  home_after_act riding carrying m (TakeRequest c) =
      home-requesting riding carrying m c (port_at carrying m.ports c).requests.items
  home_after_act riding carrying m (TakeResponse c) =
      home-responding riding carrying m c (port_at carrying m.ports c).responses.items
  home_after_act riding carrying m (TakeMessage c) = refl

  pub home_after_acts : (riding : Riding R) (carrying : Carrying K) (m : Memory R K) (todo : List (Act R)) →
      length (after_acts riding carrying m todo).home ≡ length m.home
  home_after_acts riding carrying m [] = refl
  home_after_acts riding carrying m (act ∷ later) =
      home_after_acts riding carrying (after_act riding carrying m act) later ∙ home_after_act riding carrying m act

  -- ---- one port

  -- every port but the one that was set
  pub port_elsewhere : (carrying : Carrying K) (m : Memory R K) (c : ℕ) (p : Port R K) (d : ℕ) → (d == c) ≡ false →
      c < length m.ports →
      port_at carrying (with_port m c p).ports d ≡ port_at carrying m.ports d
  port_elsewhere carrying m c p d other within = port_at-set carrying m.ports c p d within ∙ there (d == c) other
    where
      there : (t : Bool) → t ≡ false → (if t then p else port_at carrying m.ports d) ≡ port_at carrying m.ports d
      there true e = absurd (cc)
      there false e = refl

  -- a port that is set twice
  pub port_again : (m : Memory R K) (c : ℕ) (p q : Port R K) → with_port (with_port m c p) c q ≡ with_port m c q
  port_again m c p q = ap (λ (ports : List (Port R K)). record m { ports = ports }) (set-set m.ports c p q)

  -- a port that is set to what it was
  pub port_same : (carrying : Carrying K) (m : Memory R K) (c : ℕ) → with_port m c (port_at carrying m.ports c) ≡ m
  port_same carrying m c = ap (λ (ports : List (Port R K)). record m { ports = ports })
      (set-get_or m.ports c (no_port carrying))

module _ {R K : Type 0} where
  -- ---- what a core does at its port can be done

  pub retire_can : (riding : Riding R) (carrying : Carrying K) (m : Memory R K) (c : ℕ) (at : Instr) →
      c < length m.ports →
      IsTrue (can_all riding carrying m (Retire c at ∷ []))
  retire_can riding carrying m c at within =
      both_true (nat_lt c (length m.ports) && true) true
      (both_true (nat_lt c (length m.ports)) true (lt-ltb c (length m.ports) within) refl) refl

  -- an instruction retires, and then touches its word where the port allows it
  pub touch_can : (riding : Riding R) (carrying : Carrying K) (rider : R) (m : Memory R K) (c : ℕ) (at : Instr)
      (block slot : ℕ) (kind : Kind) (value : ℕ) → c < length m.ports →
      allows riding (port_at carrying m.ports c) block kind ≡ true →
      IsTrue (can_all riding carrying m (Retire c at ∷ Touch c block slot kind value rider ∷ []))
  touch_can riding carrying rider m c at block slot kind value within allowed =
      let left : Memory R K = after_act riding carrying m (Retire c at) in
      let touch : Act R = Touch c block slot kind value rider in
      let there : c < length left.ports =
      subst (λ (n : ℕ). c < n) (sym (length_act riding carrying m (Retire c at))) within in
      let leave : allows riding (port_at carrying left.ports c) block kind ≡ true =
      ap (λ (p : Port R K). allows riding p block kind)
      (port_there carrying m c (port_retiring carrying (port_at carrying m.ports c) at) within) ∙ allowed in
      both_true (can riding carrying m (Retire c at)) (can_all riding carrying left (touch ∷ []))
      (both_true (nat_lt c (length m.ports)) true (lt-ltb c (length m.ports) within) refl)
      (both_true (can riding carrying left touch) true
      (both_true (nat_lt c (length left.ports)) (allows riding (port_at carrying left.ports c) block kind)
      (lt-ltb c (length left.ports) there) leave) refl)
