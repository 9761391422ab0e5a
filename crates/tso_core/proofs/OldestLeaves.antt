-- The oldest pending access leaves: with what is told behind it that is the whole event.
use Rattle.std.proofs.Common.{◌≡◌, ◌∙◌, refl, sym, subst, ap, ℕ, ◌+◌, ◌-◌, ◌<◌, List, [], ◌∷◌, length}
use Rattle.std.specs.Prelude.{drop, map}
use Rattle.std.specs.List.{range_with_len}
use Rattle.std.proofs.lemmas.List.{get_or-set_same}
use Rattle.access_times.specs.Riding.{Riding, Carrying}
use Rattle.rtr_types.specs.declared.access.Access.{Access}
use Rattle.rtr_types.specs.declared.instr.Instr.{Instr}
use Rattle.msi_cache.specs.declared.line.Line.{Line}
use Rattle.msi_memory.specs.declared.port.Port.{Port}
use Rattle.msi_memory.specs.Acts.{after_acts, port_retiring}
use Rattle.msi_memory.specs.Memories.{Memory, port_at, rider_at}
use Rattle.msi_laws.proofs.ActsInTurn.{ports_after_acts}
use Rattle.msi_laws.proofs.Waits.{port_there}
use Rattle.tso_clerk.specs.Telling.{AcceptsAll, TellsAll, TellsOne}
use Rattle.tso_state.specs.Events.{Drains, Logs, Told, Alone, Ordered, Logged, count_before, instr_told, locals_behind}
use Rattle.tso_state.specs.States.{BufferedCore, State, buffered_start, core_at}
use Rattle.tso_state.specs.Steps.{acts_told}
use Rattle.tso_core.specs.Machineries.{IsThere}
use Rattle.tso_core.specs.Workings.{HasDone, HasLeft, HasTold, locals_of, popped, rider_in}
use Rattle.tso_core.proofs.AtPort.{acts_here, port_acts, telling_here}

module _ {R K : Type 0} where
  -- ---- instructions without data leave what the cache holds
  alone_cache : (riding : Riding R) (carrying : Carrying K) (c core : ℕ) (rider : R) (ns : List ℕ) (p : Port R K) →
      (port_acts riding carrying (acts_told c rider (map (λ n. Alone (record { core = core; count = n })) ns))
      p).cache ≡ p.cache
  alone_cache riding carrying c core rider [] p = refl
  alone_cache riding carrying c core rider (n ∷ ns) p =
      alone_cache riding carrying c core rider ns (port_retiring carrying p (record { core = core; count = n }))

  locals_cache : (riding : Riding R) (carrying : Carrying K) (m : Memory R K) (c : ℕ) (rider : R)
      (core count many : ℕ) → c < length m.ports →
      (port_at carrying (after_acts riding carrying m (acts_told c rider (locals_of core count many))).ports
      c).cache ≡ (port_at carrying m.ports c).cache
  locals_cache riding carrying m c rider core count many within =
      let list = locals_of core count many in
      let p : Port R K = port_acts riding carrying (acts_told c rider list) (port_at carrying m.ports c) in
      ap (λ (n : Memory R K). (port_at carrying n.ports c).cache) (acts_here riding carrying m c
      (acts_told c rider list) (telling_here c rider list) within)
      ∙ ap (λ (q : Port R K). q.cache) (port_there carrying m c p within)
      ∙ alone_cache riding carrying c core rider (range_with_len (count + 1) many) (port_at carrying m.ports c)

  -- ---- the core once its oldest access left
  pub left_core : (old now : State R K) (c : ℕ) → HasLeft old now c → c < length old.cores →
      core_at now.cores c ≡ popped (core_at old.cores c)
  left_core old now c is here =
      ap (λ (s : State R K). core_at s.cores c) is ∙ get_or-set_same old.cores c (popped (core_at old.cores c))
      (buffered_start 0 0) here

  -- what is told behind it
  behind_is : (old first next : State R K) (c count : ℕ) → HasLeft old first c → next.cores ≡ first.cores →
      c < length old.cores →
      let t = core_at next.cores c in let u = core_at old.cores c in
      locals_behind t.core count t.queue ≡ locals_behind u.core count (drop 1 u.queue)
  behind_is old first next c count left same here =
      ap (λ (t : BufferedCore). locals_behind t.core count t.queue)
      (ap (λ (cores : List BufferedCore). core_at cores c) same ∙ left_core old first c left here)

  -- ---- an ordered access
  module _ (riding : Riding R) (carrying : Carrying K) (old first next last : State R K) (c : ℕ) (a : Access)
      (left : HasLeft old first c)
      (told : HasTold riding carrying first next c (rider_at riding (port_at carrying next.memory.ports c) a.word)
      (Ordered a ∷ []))
      (behind : let t = core_at next.cores c in
      (rider : R) → HasTold riding carrying next last c rider (locals_behind t.core a.at.count t.queue))
      (here : c < length old.cores) (port : c < length old.memory.ports) where
    cores_same : next.cores ≡ first.cores
    cores_same = ap (λ (s : State R K). s.cores) told

    memory_first : first.memory ≡ old.memory
    memory_first = ap (λ (s : State R K). s.memory) left

    there : c < length next.memory.ports
    there = subst (λ (n : ℕ). c < n)
        (sym (ap (λ (s : State R K). length s.memory.ports) told
        ∙ ports_after_acts riding carrying first.memory
        (acts_told c (rider_at riding (port_at carrying next.memory.ports c) a.word) (Ordered a ∷ []))
        ∙ ap (λ (m : Memory R K). length m.ports) memory_first)) port

    pub rider_stays : rider_at riding (port_at carrying last.memory.ports c) a.word ≡ rider_at riding
        (port_at carrying next.memory.ports c) a.word
    rider_stays =
        let t = core_at next.cores c in
        ap (λ (cache : List (Line R)). rider_at riding (record (port_at carrying next.memory.ports c) { cache = cache })
        a.word)
        (ap (λ (s : State R K). (port_at carrying s.memory.ports c).cache) (behind riding.fresh)
        ∙ locals_cache riding carrying next.memory c riding.fresh t.core.id a.at.count
        (count_before t.core t.queue - a.at.count) there)

    -- the memory system after the access, by the rider left at the end
    access_made : next ≡ record first {
      memory =
          after_acts riding carrying old.memory (acts_told c (rider_in riding carrying last c (Drains a))
          (Ordered a ∷ []));
    }
    access_made =
        told ∙ (λ i. record first {
          memory = after_acts riding carrying (memory_first i)
              (acts_told c (sym rider_stays i) (Ordered a ∷ []));
        })

    pub drained_state : HasDone riding carrying old last c (Drains a)
    drained_state =
        let u = core_at old.cores c in
        let rider : R = rider_in riding carrying last c (Drains a) in
        behind rider
        ∙ ap (λ (list : List Told). record next {
          memory =
              after_acts riding carrying next.memory (acts_told c rider list);
        })
        (behind_is old first next c a.at.count left cores_same here)
        ∙ ap (λ (s : State R K). record s {
          memory =
              after_acts riding carrying s.memory
              (acts_told c rider (locals_behind u.core a.at.count (drop 1 u.queue)));
        })
        access_made
        ∙ ap (λ (s : State R K). record s {
          memory = after_acts riding carrying old.memory (acts_told c rider (Ordered a ∷ locals_behind u.core a.at.count
              (drop 1 u.queue)));
        }) left

  -- ---- what the clerk is told
  told_carry : (riding : Riding R) (carrying : Carrying K) (c : ℕ) (rider : R) (e : Told) (p : Port R K) →
      (port_acts riding carrying (acts_told c rider (e ∷ [])) p).carry ≡ carrying.retired p.carry (instr_told e)
  told_carry riding carrying c rider (Alone at) p = refl
  told_carry riding carrying c rider (Ordered a) p = refl
  told_carry riding carrying c rider (Logged at word value) p = refl

  carry_told : (riding : Riding R) (carrying : Carrying K) (old first next : State R K) (c : ℕ) (rider : R)
      (e : Told) → HasLeft old first c →
      HasTold riding carrying first next c rider (e ∷ []) → c < length old.memory.ports →
      (port_at carrying next.memory.ports c).carry ≡ carrying.retired (port_at carrying old.memory.ports c).carry
      (instr_told e)
  carry_told riding carrying old first next c rider e left told port =
      let m : Memory R K = first.memory in
      let same : first.memory ≡ old.memory = ap (λ (s : State R K). s.memory) left in
      let there : c < length m.ports = subst (λ (n : Memory R K). c < length n.ports) (sym same) port in
      let p : Port R K = port_acts riding carrying (acts_told c rider (e ∷ [])) (port_at carrying m.ports c) in
      ap (λ (s : State R K). (port_at carrying s.memory.ports c).carry) told
      ∙ ap (λ (n : Memory R K). (port_at carrying n.ports c).carry) (acts_here riding carrying m c
      (acts_told c rider (e ∷ [])) (telling_here c rider (e ∷ [])) there)
      ∙ ap (λ (q : Port R K). q.carry) (port_there carrying m c p there)
      ∙ told_carry riding carrying c rider e (port_at carrying m.ports c)
      ∙ ap (λ (n : Memory R K). carrying.retired (port_at carrying n.ports c).carry (instr_told e)) same

  -- ---- what it is told behind the access that left
  module _ {C : Type 0} (accepts accepts_alone : C → Instr → Type 0) (local : C → Instr → K → C → Type 0)
      (touch : C → R → Access → K → C → R → Type 0) (logged : C → Instr → ℕ → ℕ → K → C → Type 0)
      (riding : Riding R) (carrying : Carrying K) (old first next : State R K) (c count : ℕ) (rider : R) (e : Told)
      (found : Memory R K → R) (before between : C) (left : HasLeft old first c)
      (made : HasTold riding carrying first next c rider (e ∷ [])) (there : IsThere old c) where
    abbrev behind : List Told
    behind = let u = core_at old.cores c in locals_behind u.core count (drop 1 u.queue)

    abbrev One : Memory R K → R → Type 0
    One m after = TellsOne local touch logged e (carrying.retired (port_at carrying m.ports c).carry (instr_told e))
        before (found m) between after

    first_told : (after : R) → One first.memory after → One old.memory after
    first_told after = subst (λ (m : Memory R K). One m after) (ap (λ (s : State R K). s.memory) left)

    list_is : let t = core_at next.cores c in locals_behind t.core count t.queue ≡ behind
    list_is = behind_is old first next c count left (ap (λ (s : State R K). s.cores) made) there.core

    carry_is : (port_at carrying next.memory.ports c).carry ≡ carrying.retired
        (port_at carrying old.memory.ports c).carry (instr_told e)
    carry_is = carry_told riding carrying old first next c rider e left made there.port

    pub accepts_behind : AcceptsAll accepts accepts_alone local touch logged carrying (e ∷ behind)
        (port_at carrying old.memory.ports c).carry before (found old.memory) → (after : R) → One first.memory after →
        let t = core_at next.cores c in
        AcceptsAll accepts accepts_alone local touch logged carrying (locals_behind t.core count t.queue)
        (port_at carrying next.memory.ports c).carry between (found old.memory)
    accepts_behind all after one = rw (list_is, carry_is) (all.1 between after (first_told after one))

    pub tells_behind : (last : C) (after : R) → One first.memory after →
        (let t = core_at next.cores c in
        TellsAll local touch logged carrying (locals_behind t.core count t.queue)
        (port_at carrying next.memory.ports c).carry between (found old.memory) last after) →
        TellsAll local touch logged carrying (e ∷ behind) (port_at carrying old.memory.ports c).carry before
        (found old.memory) last after
    tells_behind last after one rest = (between, first_told after one, rw (list_is, carry_is) at rest)

  -- ---- a logged load
  pub logged_state : (riding : Riding R) (carrying : Carrying K) (old first next last : State R K) (c : ℕ) (at : Instr)
      (word value : ℕ) →
      HasLeft old first c → ((rider : R) → HasTold riding carrying first next c rider (Logged at word value ∷ [])) →
      (let t = core_at next.cores c in (rider : R) → HasTold riding carrying next last c rider
      (locals_behind t.core at.count t.queue)) →
      c < length old.cores → HasDone riding carrying old last c (Logs at word value)
  logged_state riding carrying old first next last c at word value left told behind here =
      let u = core_at old.cores c in
      let rider : R = riding.fresh in
      let cores_same : next.cores ≡ first.cores = ap (λ (s : State R K). s.cores) (told rider) in
      behind rider
      ∙ ap (λ (list : List Told). record next {
        memory = after_acts riding carrying next.memory (acts_told c rider list);
      })
      (behind_is old first next c at.count left cores_same here)
      ∙ ap (λ (s : State R K). record s {
        memory =
            after_acts riding carrying s.memory (acts_told c rider (locals_behind u.core at.count (drop 1 u.queue)));
      })
      (told rider)
      ∙ ap (λ (s : State R K). record s {
        memory = after_acts riding carrying s.memory (acts_told c rider (Logged at word value ∷ locals_behind u.core
            at.count (drop 1 u.queue)));
      }) left
