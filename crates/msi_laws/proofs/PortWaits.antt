-- What acts of the memory system leave of a port that may wait. A port is left well by acts that don't change what it
-- waits for; asking makes it wait for what was asked, which it isn't allowed yet; and what it awaits it isn't allowed.
use Rattle.std.proofs.Common.{◌≡◌, ◌≢◌, ◌∙◌, ap, refl, sym, ℕ, ◌==◌, ◌%◌, Bool, true, false, ◌&&◌, List, [], ◌∷◌}
use Rattle.std.proofs.Common.{◌++◌, length}
use Rattle.std.proofs.Common.{IsTrue, arith}
use Rattle.std.proofs.lemmas.Bool.Decides.{nat_tests}
use Rattle.std.proofs.lemmas.List.{get_or-set_same}
use Rattle.access_times.specs.Riding.{Riding, Carrying}
use Rattle.rtr_types.specs.Accesses.{is_write}
use Rattle.rtr_types.specs.declared.access.Kind.{Kind}
use Rattle.msi_cache.specs.declared.line.Line.{Line}
use Rattle.msi_cache.specs.declared.line.State.{State as LineState}
use Rattle.msi_cache.specs.declared.line.State.TheVariants.{I}
use Rattle.rtr_types.specs.declared.TheConstants.{LINES}
use Rattle.msi_cache.specs.Lines.{waits, is_allowed, line_for, line_asking, empty_line}
use Rattle.msi_cache.specs.Table.{is_transient}
use Rattle.msi_memory.specs.declared.port.Port.{Port}
use Rattle.msi_memory.specs.Acts.{Act, Want, Touch, Retire, TakeRequest, TakeResponse, TakeMessage, can, can_all}
use Rattle.msi_memory.specs.Acts.{after_act, after_acts, allows}
use Rattle.msi_memory.specs.Acts.{port_asking, port_retiring, port_taking}
use Rattle.msi_memory.specs.Acts.{port_touched}
use Rattle.msi_memory.specs.Memories.{Memory, port_at}
use Rattle.msi_laws.specs.Holds.{MemoryHolds, PortHolds, place_at}
use Rattle.msi_laws.specs.Waits.{WaitsFor, is_want, serves}
use Rattle.msi_laws.proofs.Lines.{SameLines, none_waits, waits_at, waits_none, waits_some}
use Rattle.msi_laws.proofs.PortsKept.{there_of, touched_lines}
use Rattle.msi_laws.proofs.Sends.{by_request, by_response}
use Rattle.msi_laws.proofs.Waits.{port_keeps, taken_keeps}

-- the act may change for what port d waits
abbrev pub may_change : {R : Type 0} → Act R → ℕ → Bool
may_change (Want c block kind) d = d == c
may_change (TakeMessage c) d = d == c
may_change _ d = false

pub change_wants : {R : Type 0} (act : Act R) (d : ℕ) → may_change act d ≡ false → is_want act d ≡ false
change_wants (Want c block kind) d e = e
change_wants (Touch c block slot kind value rider) d e = refl
change_wants (Retire c at) d e = refl
change_wants (TakeRequest c) d e = refl
change_wants (TakeResponse c) d e = refl
change_wants (TakeMessage c) d e = refl

asked_transient : {R : Type 0} (l : Line R) (block : ℕ) (kind : Kind) → is_transient l.state ≡ false →
    is_allowed l block kind ≡ false →
    is_transient (line_asking l block kind).state ≡ true
asked_transient l block kind still needed = grind (arith, nat_tests)

-- a line that waits for an access is at the place of its block, and doesn't allow the access yet
pub waiting_place : (s : LineState) (writes : Bool) (l i b : ℕ) → serves s writes l i b ≡ true → is_transient s ≡ true →
    (s ≢ I → l % LINES ≡ i) →
    i ≡ b % LINES
waiting_place s writes l i b is waits place = grind (arith, nat_tests, place)

line_denied : {R : Type 0} (l : Line R) (i b : ℕ) (kind : Kind) → serves l.state (is_write kind) l.block i b ≡ true →
    is_transient l.state ≡ true →
    is_allowed l b kind ≡ false
line_denied l i b kind is waits = grind (arith, nat_tests)

module _ {R K : Type 0} where
  same_waits : (riding : Riding R) (p q : Port R K) → SameLines riding p q → waits q.cache ≡ waits p.cache
  same_waits riding p q s = by_test (waits p.cache) refl
    where
      by_test : (t : Bool) → waits p.cache ≡ t → waits q.cache ≡ t
      by_test false e = none_waits q.cache riding.fresh (λ i. ap is_transient (s.same i).state
          ∙ waits_none p.cache riding.fresh e i)
      by_test true e =
          let some = waits_some p.cache riding.fresh e in
          waits_at q.cache riding.fresh some.0 (ap is_transient (s.same some.0).state ∙ some.1)

  -- an act that may not change it leaves a port waiting or not
  pub waits_kept : (riding : Riding R) (carrying : Carrying K) (m : Memory R K) (act : Act R) (d : ℕ) →
      MemoryHolds riding carrying m →
      IsTrue (can riding carrying m act) → may_change act d ≡ false →
      waits (port_at carrying (after_act riding carrying m act).ports d).cache ≡ waits
      (port_at carrying m.ports d).cache
  waits_kept riding carrying m (Want c block kind) d h e other =
      let old : Bool = waits (port_at carrying m.ports d).cache in
      port_keeps (λ (p : Port R K). waits p.cache ≡ old) carrying m c
      (port_asking riding (port_at carrying m.ports c) block kind) d
      (there_of riding carrying m (Want c block kind) e) (λ here g. absurd (grind (arith, nat_tests))) refl
  waits_kept riding carrying m (Touch c block slot kind value rider) d h e other =
      let old : Bool = waits (port_at carrying m.ports d).cache in
      let lc = there_of riding carrying m (Touch c block slot kind value rider) e in
      let p : Port R K = port_at carrying m.ports c in
      let q : Port R K = port_touched riding p block slot kind value rider in
      port_keeps (λ (x : Port R K). waits x.cache ≡ old) carrying m c q d lc
      (λ here g. same_waits riding p q
      (touched_lines riding (length m.home) p block slot kind value rider (h.ports c lc)) ∙ g) refl
  waits_kept riding carrying m (Retire c at) d h e other =
      let old : Bool = waits (port_at carrying m.ports d).cache in
      port_keeps (λ (x : Port R K). waits x.cache ≡ old) carrying m c
      (port_retiring carrying (port_at carrying m.ports c) at) d
      (there_of riding carrying m (Retire c at) e) (λ here g. g) refl
  waits_kept riding carrying m (TakeRequest c) d h e other =
      let old : Bool = waits (port_at carrying m.ports d).cache in
      let lc = there_of riding carrying m (TakeRequest c) e in
      by_request (λ (n : Memory R K). waits (port_at carrying n.ports d).cache ≡ old) riding carrying m c
      (port_at carrying m.ports c).requests.items h lc refl (taken_keeps (λ (p : Port R K). waits p.cache ≡ old)
      (λ p q same g. ap waits same ∙ g) carrying m c d lc refl)
  waits_kept riding carrying m (TakeResponse c) d h e other =
      let old : Bool = waits (port_at carrying m.ports d).cache in
      by_response (λ (n : Memory R K). waits (port_at carrying n.ports d).cache ≡ old) riding carrying m c
      (port_at carrying m.ports c).responses.items h refl (taken_keeps (λ (p : Port R K). waits p.cache ≡ old)
      (λ p q same g. ap waits same ∙ g) carrying m c d (there_of riding carrying m (TakeResponse c) e) refl)
  waits_kept riding carrying m (TakeMessage c) d h e other =
      let old : Bool = waits (port_at carrying m.ports d).cache in
      let p : Port R K = port_at carrying m.ports c in
      port_keeps (λ (x : Port R K). waits x.cache ≡ old) carrying m c (port_taking riding carrying p p.messages.items) d
      (there_of riding carrying m (TakeMessage c) e) (λ here g. absurd (grind (arith, nat_tests))) refl

  -- a port that was asked waits
  pub asking_waits_now : (riding : Riding R) (p : Port R K) (block : ℕ) (kind : Kind) → length p.cache ≡ LINES →
      waits p.cache ≡ false →
      allows riding p block kind ≡ false → waits (port_asking riding p block kind).cache ≡ true
  asking_waits_now riding p block kind long still needed =
      let l : Line R = line_for riding.fresh p.cache block in
      let here : place_at riding (port_asking riding p block kind) (block % LINES) ≡ line_asking l block kind =
      get_or-set_same p.cache (block % LINES) (line_asking l block kind) (empty_line riding.fresh)
      (rw long (omega arith)) in
      waits_at (port_asking riding p block kind).cache riding.fresh (block % LINES)
      (ap (λ (x : Line R). is_transient x.state) here
      ∙ asked_transient l block kind (waits_none p.cache riding.fresh still (block % LINES)) needed)

  -- what a port waits for it doesn't allow yet
  pub awaited_denied : (riding : Riding R) (blocks : ℕ) (p : Port R K) (block : ℕ) (kind : Kind) →
      PortHolds riding blocks p →
      WaitsFor riding p block kind → waits p.cache ≡ true → allows riding p block kind ≡ false
  awaited_denied riding blocks p block kind h awaited w =
      let some = waits_some p.cache riding.fresh w in
      let l : Line R = place_at riding p some.0 in
      let place : some.0 ≡ block % LINES =
      waiting_place l.state (is_write kind) l.block some.0 block (awaited some.0) some.1 (h.lines some.0).place in
      ap (λ (i : ℕ). is_allowed (place_at riding p i) block kind) (sym place)
      ∙ line_denied l some.0 block kind (awaited some.0) some.1

  -- ---- acts, one after the other

  pub can_append : (riding : Riding R) (carrying : Carrying K) (m : Memory R K) (xs ys : List (Act R)) →
      can_all riding carrying m xs ≡ true →
      can_all riding carrying (after_acts riding carrying m xs) ys ≡ true → can_all riding carrying m (xs ++ ys) ≡ true
  can_append riding carrying m [] ys e f = f
  can_append riding carrying m (x ∷ xs) ys e f =
      by_test (can riding carrying m x) (can_all riding carrying (after_act riding carrying m x) xs) e
      (λ g. can_append riding carrying (after_act riding carrying m x) xs ys g f)
    where
      by_test : (a b : Bool) → (a && b) ≡ true →
          (b ≡ true → can_all riding carrying (after_act riding carrying m x) (xs ++ ys) ≡ true) →
          (a && can_all riding carrying (after_act riding carrying m x) (xs ++ ys)) ≡ true
      by_test true true g k = k refl
      by_test true false g k = absurd (cc)
      by_test false b g k = absurd (cc)

  pub after_append : (riding : Riding R) (carrying : Carrying K) (m : Memory R K) (xs ys : List (Act R)) →
      after_acts riding carrying m (xs ++ ys) ≡ after_acts riding carrying (after_acts riding carrying m xs) ys
  after_append riding carrying m [] ys = refl
  after_append riding carrying m (x ∷ xs) ys = after_append riding carrying (after_act riding carrying m x) xs ys
