-- What is told of a core's instructions, and what it asks for, can be done at its port, and leaves what the port
-- awaits. One record says of a list of acts at a core that they can be made, change no other port's wait, and leave the
-- core well (`Turned`). It is proved for what is told (`told_turn`), of which the first alone may touch data, and for
-- asking (`asking_turn`).
use Rattle.std.proofs.Common.{◌≡◌, ◌∙◌, ap, refl, sym, subst, ℕ, ◌+◌, ◌-◌, ◌<◌, ◌==◌, ◌/◌, ◌%◌, Bool, true, false, not}
use Rattle.std.proofs.Common.{nat_lt, ◌&&◌, List, [], ◌∷◌, length}
use Rattle.std.proofs.Common.{Option, Some, IsTrue}
use Rattle.std.specs.Prelude.{map}
use Rattle.std.specs.List.{list_all, range_with_len}
use Rattle.std.proofs.lemmas.Bool.{and_parts, lt-ltb, not-true}
use Rattle.access_times.specs.Riding.{Riding, Carrying}
use Rattle.image_mem.specs.Contents.{Contents}
use Rattle.rtr_types.specs.declared.TheConstants.{BLOCK_WORDS}
use Rattle.rtr_types.specs.declared.access.Kind.{Kind}
use Rattle.rv_core.specs.declared.core_state.Core.{Core}
use Rattle.rv_core.specs.Steps.{need}
use Rattle.msi_cache.specs.Lines.{waits}
use Rattle.msi_memory.specs.declared.port.Port.{Port}
use Rattle.msi_memory.specs.Acts.{Act, Want, can, can_all, after_act, after_acts, allows, port_asking}
use Rattle.msi_memory.specs.Memories.{Memory, port_at}
use Rattle.msi_laws.specs.Holds.{MemoryHolds}
use Rattle.msi_laws.proofs.PortsKept.{length_act}
use Rattle.msi_laws.proofs.Waits.{port_there, wants_law}
use Rattle.msi_laws.specs.Waits.{Awaited}
use Rattle.msi_laws.proofs.ActsInTurn.{acts_keep, ports_after_acts, retire_can, touch_can}
use Rattle.msi_laws.proofs.Awaits.{awaited_kept}
use Rattle.msi_state.specs.Steps.{acts_of}
use Rattle.tso_state.specs.declared.pending.Pending.{Pending}
use Rattle.tso_state.specs.Events.{Told, Alone, Ordered, Logged, clerk_event, count_before, locals_behind}
use Rattle.tso_state.specs.States.{BufferedCore}
use Rattle.tso_state.specs.Steps.{acts_told}
use Rattle.tso_invariant.specs.Holds.{BufferedFits, BufferedHolds, is_asking, wish_by}
use Rattle.msi_laws.proofs.PortWaits.{may_change, change_wants, waits_kept, asking_waits_now, can_append}

-- ---- what is told

-- an instruction that touches no data
abbrev pub is_alone : Told → Bool
is_alone (Ordered a) = false
is_alone _ = true

pub locals_alone : (core : Core) (count : ℕ) (queue : List Pending) →
    list_all is_alone (locals_behind core count queue) ≡ true
locals_alone core count queue = each (range_with_len (count + 1) (count_before core queue - count))
  where
    each : (ns : List ℕ) → list_all is_alone (map (λ n. Alone (record { core = core.id; count = n })) ns) ≡ true
    each [] = refl
    each (n ∷ ns) = each ns

module _ {R K : Type 0} where
  -- the port allows what is told
  abbrev pub may_tell : Riding R → Port R K → Told → Bool
  may_tell riding p (Ordered a) = allows riding p (a.word / BLOCK_WORDS) a.kind
  may_tell riding p _ = true

  -- at most the first of them touches data, as the port allows
  abbrev pub tellable : Riding R → Port R K → List Told → Bool
  tellable riding p [] = true
  tellable riding p (e ∷ later) = may_tell riding p e && list_all is_alone later

  pub first_tellable : (riding : Riding R) (p : Port R K) (e : Told) (later : List Told) → may_tell riding p e ≡ true →
      list_all is_alone later ≡ true →
      tellable riding p (e ∷ later) ≡ true
  first_tellable riding p e later allowed alone = rw (allowed, alone) refl

module _ {R : Type 0} where
  pub told_apart : (c d : ℕ) (rider : R) (es : List Told) →
      list_all (λ act. not (may_change act d)) (acts_told c rider es) ≡ true
  told_apart c d rider [] = refl
  told_apart c d rider (Alone at ∷ later) = told_apart c d rider later
  told_apart c d rider (Ordered a ∷ later) = told_apart c d rider later
  told_apart c d rider (Logged at word value ∷ later) = told_apart c d rider later

module _ {R K : Type 0} where
  one_can : (riding : Riding R) (carrying : Carrying K) (rider : R) (m : Memory R K) (c : ℕ) (e : Told) →
      c < length m.ports →
      may_tell riding (port_at carrying m.ports c) e ≡ true →
      can_all riding carrying m (acts_of c rider (clerk_event e)) ≡ true
  one_can riding carrying rider m c (Alone at) within may = retire_can riding carrying m c at within
  one_can riding carrying rider m c (Ordered a) within may =
      touch_can riding carrying rider m c a.at (a.word / BLOCK_WORDS) (a.word % BLOCK_WORDS) a.kind a.after within may
  one_can riding carrying rider m c (Logged at word value) within may = retire_can riding carrying m c at within

  alone_may : (riding : Riding R) (p : Port R K) (e : Told) → is_alone e ≡ true → may_tell riding p e ≡ true
  alone_may riding p (Alone at) e = refl
  alone_may riding p (Ordered a) e = absurd (cc)
  alone_may riding p (Logged at word value) e = refl

  more_there : (riding : Riding R) (carrying : Carrying K) (m : Memory R K) (todo : List (Act R)) (c : ℕ) →
      c < length m.ports →
      c < length (after_acts riding carrying m todo).ports
  more_there riding carrying m todo c within = subst (λ (n : ℕ). c < n)
      (sym (ports_after_acts riding carrying m todo)) within

  alone_can : (riding : Riding R) (carrying : Carrying K) (rider : R) (m : Memory R K) (c : ℕ) (es : List Told) →
      c < length m.ports →
      list_all is_alone es ≡ true → can_all riding carrying m (acts_told c rider es) ≡ true
  alone_can riding carrying rider m c [] within alone = refl
  alone_can riding carrying rider m c (e ∷ later) within alone =
      let parts = and_parts (is_alone e) (list_all is_alone later) alone in
      can_append riding carrying m (acts_of c rider (clerk_event e)) (acts_told c rider later)
      (one_can riding carrying rider m c e within (alone_may riding (port_at carrying m.ports c) e parts.0))
      (alone_can riding carrying rider (after_acts riding carrying m (acts_of c rider (clerk_event e))) c later
      (more_there riding carrying m (acts_of c rider (clerk_event e)) c within) parts.1)

  told_can : (riding : Riding R) (carrying : Carrying K) (rider : R) (m : Memory R K) (c : ℕ) (es : List Told) →
      c < length m.ports →
      tellable riding (port_at carrying m.ports c) es ≡ true → can_all riding carrying m (acts_told c rider es) ≡ true
  told_can riding carrying rider m c [] within may = refl
  told_can riding carrying rider m c (e ∷ later) within may =
      let parts = and_parts (may_tell riding (port_at carrying m.ports c) e) (list_all is_alone later) may in
      can_append riding carrying m (acts_of c rider (clerk_event e)) (acts_told c rider later)
      (one_can riding carrying rider m c e within parts.0)
      (alone_can riding carrying rider (after_acts riding carrying m (acts_of c rider (clerk_event e))) c later
      (more_there riding carrying m (acts_of c rider (clerk_event e)) c within) parts.1)

-- ---- what acts leave

-- port d is there, and core d is well at it
record At {R K : Type 0} (image : Contents) (riding : Riding R) (carrying : Carrying K) (d : ℕ) (t : BufferedCore)
    (m : Memory R K) : Type 0 where
  there : d < length m.ports
  holds : BufferedHolds image riding d t (port_at carrying m.ports d)

-- acts that can be made, change no other port's wait, and leave core c well
pub record Turned {R K : Type 0} (image : Contents) (riding : Riding R) (carrying : Carrying K) (m : Memory R K) (c : ℕ)
    (todo : List (Act R))
    (t : BufferedCore) : Type 0 where
  pub can : can_all riding carrying m todo ≡ true
  pub apart : (d : ℕ) → (d == c) ≡ false → list_all (λ act. not (may_change act d)) todo ≡ true
  pub holds : BufferedHolds image riding c t (port_at carrying (after_acts riding carrying m todo).ports c)

module _ {R K : Type 0} where
  -- an act that may not change the port's wait leaves its core well
  pub well_kept : (image : Contents) (riding : Riding R) (carrying : Carrying K) (m : Memory R K) (act : Act R) (d : ℕ)
      (t : BufferedCore) →
      MemoryHolds riding carrying m → IsTrue (can riding carrying m act) → may_change act d ≡ false →
      d < length m.ports →
      BufferedHolds image riding d t (port_at carrying m.ports d) →
      BufferedHolds image riding d t (port_at carrying (after_act riding carrying m act).ports d)
  well_kept image riding carrying m act d t holds can_it other within h =
      record {
        fits = h.fits;
        awaited = awaited_kept riding carrying m act d (wish_by t.asker (need image t.core) t.queue) holds can_it
            (change_wants act d other) within h.awaited;
        waiting = waits_kept riding carrying m act d holds can_it other ∙ h.waiting;
      }

  -- and so do acts
  pub port_kept : (image : Contents) (riding : Riding R) (carrying : Carrying K) (m : Memory R K) (todo : List (Act R))
      (d : ℕ) (t : BufferedCore) →
      MemoryHolds riding carrying m → can_all riding carrying m todo ≡ true →
      list_all (λ act. not (may_change act d)) todo ≡ true → d < length m.ports →
      BufferedHolds image riding d t (port_at carrying m.ports d) →
      BufferedHolds image riding d t (port_at carrying (after_acts riding carrying m todo).ports d)
  port_kept image riding carrying m todo d t holds can_them apart within h =
      (acts_keep riding carrying (λ (x : Memory R K). At image riding carrying d t x)
      (λ (act : Act R). not (may_change act d))
      (λ x act can_it other held at. record {
        there = subst (λ (n : ℕ). d < n) (sym (length_act riding carrying x act)) at.there;
        holds = well_kept image riding carrying x act d t held can_it
            (not-true (may_change act d) other) at.there at.holds;
      }) m todo can_them apart holds (record { there = within; holds = h })).holds

  -- what is told leaves a core well that was
  pub told_turn : (image : Contents) (riding : Riding R) (carrying : Carrying K) (rider : R) (m : Memory R K) (c : ℕ)
      (es : List Told) (t : BufferedCore) →
      MemoryHolds riding carrying m → c < length m.ports → tellable riding (port_at carrying m.ports c) es ≡ true →
      BufferedHolds image riding c t (port_at carrying m.ports c) →
      Turned image riding carrying m c (acts_told c rider es) t
  told_turn image riding carrying rider m c es t holds within may h =
      let can_them = told_can riding carrying rider m c es within may in
      record {
        can = can_them;
        apart = λ d other. told_apart c d rider es;
        holds = port_kept image riding carrying m (acts_told c rider es) c t holds can_them
            (told_apart c c rider es) within h;
      }

  -- a port that is asked waits for what it was asked for
  pub asking_turn : (image : Contents) (riding : Riding R) (carrying : Carrying K) (m : Memory R K) (c : ℕ)
      (kind : Kind) (word : ℕ) (t : BufferedCore) →
      MemoryHolds riding carrying m → c < length m.ports → word / BLOCK_WORDS < length m.home →
      waits (port_at carrying m.ports c).cache ≡ false →
      allows riding (port_at carrying m.ports c) (word / BLOCK_WORDS) kind ≡ false → BufferedFits image c t →
      wish_by t.asker (need image t.core) t.queue ≡ Some (kind, word) → is_asking t.asker ≡ true →
      Turned image riding carrying m c (Want c (word / BLOCK_WORDS) kind ∷ []) t
  asking_turn image riding carrying m c kind word t holds within below still refused fits wish asks =
      let block : ℕ = word / BLOCK_WORDS in
      let can_it : can riding carrying m (Want c block kind) ≡ true =
      all_of (nat_lt c (length m.ports)) (waits (port_at carrying m.ports c).cache) (nat_lt block (length m.home))
      (allows riding (port_at carrying m.ports c) block kind)
      (lt-ltb c (length m.ports) within) still
      (lt-ltb block (length m.home) below) refused in record {
        can = rw can_it refl;
        apart = λ d other. ap (λ (b : Bool). not b && true) other;
        holds = record {
          fits = fits;
          awaited = subst (λ (wanted : Option (Kind × ℕ)). Awaited wanted riding
              (port_at carrying (after_act riding carrying m (Want c block kind)).ports c)) (sym wish)
              (wants_law riding carrying m c block kind holds can_it);
          waiting = ap (λ (p : Port R K). waits p.cache)
              (port_there carrying m c (port_asking riding (port_at carrying m.ports c) block kind) within)
              ∙ (asking_waits_now riding (port_at carrying m.ports c) block kind (holds.ports c within).all_lines still
              refused ∙ sym asks);
        };
      }
    where
      all_of : (a b c d : Bool) → a ≡ true → b ≡ false → c ≡ true → d ≡ false → (a && (not b && (c && not d))) ≡ true
      all_of a b c d e f g h = rw (e, f, g, h) refl
