-- Every move of the machine, act by act, and what an ordered access finds. An act that is no access keeps what the
-- riders say of the accesses so far, and an access appends itself: so does then each move, whose acts hold at most one
-- access.
use Rattle.std.proofs.Common.{◌≡◌, ◌∙◌, ap, refl, sym, subst, ℕ, ◌<◌, ◌≤◌, ◌==◌, ◌%◌, ◌/◌, Bool, true, false, not}
use Rattle.std.proofs.Common.{List, [], ◌∷◌, ◌++◌, length, Option, Some}
use Rattle.std.proofs.Common.{None, arith, inl, inr, ◌⊎◌}
use Rattle.std.specs.Prelude.{drop, if◌then◌else◌}
use Rattle.std.specs.List.{list_all}
use Rattle.std.proofs.lemmas.Bool.{and_parts}
use Rattle.std.proofs.lemmas.Bool.Decides.{nat_tests}
use Rattle.access_times.specs.Riding.{Carrying, Riding}
use Rattle.rtr_types.specs.declared.TheConstants.{BLOCK_WORDS, CORES_MAX}
use Rattle.rtr_types.specs.declared.access.Access.{Access}
use Rattle.rtr_types.specs.declared.access.Kind.{Kind}
use Rattle.clock_core.specs.declared.clock.Clock.{Clock}
use Rattle.link_order.specs.Queue.{is_nil}
use Rattle.rv_core.specs.declared.core_state.Need.{Need}
use Rattle.rv_core.specs.declared.core_state.Need.TheVariants.{Amo}
use Rattle.rv_core.specs.Steps.{need, access_of as need_access}
use Rattle.msi_memory.specs.declared.port.Port.{Port}
use Rattle.msi_memory.specs.Acts.{Act, Want, Touch, Retire, TakeRequest, TakeResponse, TakeMessage, can, can_all}
use Rattle.msi_memory.specs.Acts.{after_act, after_acts, data_next}
use Rattle.msi_memory.specs.Acts.{port_retiring}
use Rattle.msi_memory.specs.Memories.{Memory, port_at, rider_at}
use Rattle.msi_laws.specs.Holds.{MemoryHolds}
use Rattle.msi_laws.proofs.ActInvariant.{memory_kept}
use Rattle.msi_laws.proofs.LinksKept.{is_touch}
use Rattle.msi_laws.proofs.PortsKept.{length_act}
use Rattle.msi_laws.proofs.PortsAndBlocks.{core_below}
use Rattle.msi_laws.proofs.Waits.{port_there}
use Rattle.msi_laws.proofs.Awaits.{taken_there}
use Rattle.machine_times.specs.History.{NotedAccess, core_of as noted_core, last_noted_read, rank, read_after}
use Rattle.machine_times.specs.Retirements.{IsExactRider, RiderNotes, noted_after}
use Rattle.machine_times.specs.StandsFor.{AbsorbsAll, HaveTimes, TimesParts}
use Rattle.machine_times.proofs.Times.{port_finds}
use Rattle.msi_state.specs.Events.{Accesses, port_taken}
use Rattle.tso_state.specs.declared.moves.Move.{Move}
use Rattle.tso_state.specs.declared.moves.Move.TheVariants.{Core as CoreMove, Order as OrderMove}
use Rattle.tso_state.specs.declared.moves.Move.TheVariants.{Request as RequestMove, Response as ResponseMove}
use Rattle.tso_state.specs.declared.moves.Move.TheVariants.{FromHome as MessageMove}
use Rattle.tso_state.specs.declared.pending.Asker.{Asker}
use Rattle.tso_state.specs.declared.pending.Asker.TheVariants.{Next}
use Rattle.tso_state.specs.Moves.{core_of}
use Rattle.tso_state.specs.States.{State, BufferedCore, core_at}
use Rattle.tso_state.specs.Events.{Event, Nothing, Executes, Buffers, Performs, Drains, Logs, Told, Alone, Ordered}
use Rattle.tso_state.specs.Events.{Logged, count_before, event_granted, locals_behind, tellings}
use Rattle.tso_state.specs.Events.{core_after, queue_after}
use Rattle.tso_state.specs.Steps.{acts_asking, acts_told, case_holds, cores_after, enabled, event}
use Rattle.tso_state.specs.Steps.{head_access, is_fence, is_next, step}
use Rattle.tso_invariant.specs.Holds.{TsoHolds, may_ask, next_may_ask}
use Rattle.tso_invariant.proofs.MoveInvariant.{acts_can, core_can, core_elsewhere, core_port, core_there, enabled_core}
use Rattle.tso_invariant.proofs.MoveInvariant.{step_cores}
use Rattle.tso_invariant.proofs.ToldAtPorts.{is_alone, locals_alone}
use Rattle.tso_invariant.proofs.MoveGrounds.{amo_alone}
use Rattle.tso_data.specs.Orders.{ordering_of}
use Rattle.tso_times.specs.Timed.{FindsTimes, RiderFits, StandsAfter, TimedStep, ordering_port, told_count}
use Rattle.machine_times.proofs.TimedActs.{other_times, others_times, touch_times}
use Rattle.tso_times.proofs.Orders.{OrderedComes, Tells, executed_tells, granted_tells, ordered_tells}
use Rattle.tso_times.proofs.Orders.{quiet_tells}

same_access : (a b : Access) → Accesses a ≡ Accesses b → a ≡ b
same_access a b is = cc

alone_touch : {R : Type 0} (c : ℕ) (rider : R) (es : List Told) → list_all is_alone es ≡ true →
    list_all (λ act. not (is_touch act)) (acts_told c rider es) ≡ true
alone_touch c rider [] e = refl
alone_touch c rider (Alone at ∷ later) e = alone_touch c rider later e
alone_touch c rider (Ordered a ∷ later) e = absurd (cc)
alone_touch c rider (Logged at word value ∷ later) e = alone_touch c rider later e

module _ {R K : Type 0} where
  -- an ordered access, and behind it instructions that touch no data
  access_times : (parts : TimesParts R) (carrying : Carrying K) → AbsorbsAll parts →
      (history : List NotedAccess) (memory : Memory R K) (c : ℕ) (rider : R)
      (clock : Clock) (a : Access) (later : List Told) → c < length memory.ports → a.at.core ≡ c →
      ((w : ℕ) → rank (last_noted_read history w c) < a.at.count) →
      RiderNotes parts (record { access = a; clock = clock })
      (rider_at parts.riding (port_at carrying memory.ports c) a.word) rider →
      list_all is_alone later ≡ true → can_all parts.riding carrying memory (acts_told c rider (Ordered a ∷ later))
      ≡ true →
      MemoryHolds parts.riding carrying memory → HaveTimes parts carrying history memory →
      HaveTimes parts carrying (record { access = a; clock = clock } ∷ history)
      (after_acts parts.riding carrying memory (acts_told c rider (Ordered a ∷ later)))
  access_times parts carrying well history memory c rider clock a later lc own comes notes alone can_them holds times =
      others_times parts carrying well (record { access = a; clock = clock } ∷ history) touched
      (acts_told c rider later) rest.1
      (alone_touch c rider later alone) (memory_kept parts.riding carrying retired touching rest.0 held)
      (touch_times parts carrying well history retired c (record { access = a; clock = clock }) rider own comes
      (subst (λ (p : Port R K). RiderNotes parts (record { access = a; clock = clock })
      (rider_at parts.riding p a.word) rider) (sym there) notes)
      rest.0 held (other_times parts carrying well history memory (Retire c a.at) first.0 refl holds times))
    where
      touching : Act R
      touching = Touch c (a.word / BLOCK_WORDS) (a.word % BLOCK_WORDS) a.kind a.after rider

      retired : Memory R K
      retired = after_act parts.riding carrying memory (Retire c a.at)

      touched : Memory R K
      touched = after_act parts.riding carrying retired touching

      first : (can parts.riding carrying memory (Retire c a.at) ≡ true)
          × (can_all parts.riding carrying retired (touching ∷ acts_told c rider later) ≡ true)
      first = and_parts (can parts.riding carrying memory (Retire c a.at))
          (can_all parts.riding carrying retired (touching ∷ acts_told c rider later)) can_them

      rest : (can parts.riding carrying retired touching ≡ true)
          × (can_all parts.riding carrying touched (acts_told c rider later) ≡ true)
      rest = and_parts (can parts.riding carrying retired touching)
          (can_all parts.riding carrying touched (acts_told c rider later)) first.1

      held : MemoryHolds parts.riding carrying retired
      held = memory_kept parts.riding carrying memory (Retire c a.at) first.0 holds

      there : port_at carrying retired.ports c ≡ port_retiring carrying (port_at carrying memory.ports c) a.at
      there = port_there carrying memory c (port_retiring carrying (port_at carrying memory.ports c) a.at) lc

  -- what is told of an event, where its access comes next
  told_times : (parts : TimesParts R) (carrying : Carrying K) → AbsorbsAll parts →
      (h : List NotedAccess) (m : Memory R K) (c : ℕ) (t : BufferedCore)
      (rider : R) (clock : Clock) (e : Event) (before now : ℕ) → c < length m.ports → t.core.id ≡ c →
      ((w : ℕ) → rank (last_noted_read h w c) ≤ before) →
      OrderedComes parts.riding (port_at carrying m.ports c) t.core.id before now e →
      RiderFits parts clock rider (ordering_of e) (port_at carrying m.ports c) →
      can_all parts.riding carrying m (acts_told c rider (tellings t e)) ≡ true → MemoryHolds parts.riding carrying m →
      HaveTimes parts carrying h m →
      HaveTimes parts carrying (noted_after (ordering_of e) clock h)
      (after_acts parts.riding carrying m (acts_told c rider (tellings t e)))
  told_times parts carrying well h m c t rider clock Nothing before now lc id ranks comes notes can_them holds f = f
  told_times parts carrying well h m c t rider clock (Executes at) before now lc id ranks comes notes can_them holds f =
      by_nil (is_nil t.queue) can_them
    where
      by_nil : (b : Bool) →
          can_all parts.riding carrying m (acts_told c rider (if b then Alone at ∷ [] else [])) ≡ true →
          HaveTimes parts carrying h
          (after_acts parts.riding carrying m (acts_told c rider (if b then Alone at ∷ [] else [])))
      by_nil true e = others_times parts carrying well h m (Retire c at ∷ []) e refl holds f
      by_nil false e = f
  told_times parts carrying well h m c t rider clock (Buffers at x) before now lc id ranks comes
      notes can_them holds f = f
  told_times parts carrying well h m c t rider clock (Performs a) before now lc id ranks comes notes can_them holds f =
      access_times parts carrying well h m c rider clock a [] lc (comes.own ∙ id)
      (λ w. let r = ranks w in let l = comes.later in omega arith) (notes a refl) refl
      can_them holds f
  told_times parts carrying well h m c t rider clock (Drains a) before now lc id ranks comes notes can_them holds f =
      access_times parts carrying well h m c rider clock a (locals_behind t.core a.at.count (drop 1 t.queue)) lc
      (comes.own ∙ id)
      (λ w. let r = ranks w in let l = comes.later in omega arith) (notes a refl)
      (locals_alone t.core a.at.count (drop 1 t.queue)) can_them holds f
  told_times parts carrying well h m c t rider clock (Logs at word value) before now lc id ranks comes
      notes can_them holds f =
      others_times parts carrying well h m
      (acts_told c rider (Logged at word value ∷ locals_behind t.core at.count (drop 1 t.queue))) can_them
      (alone_touch c rider (Logged at word value ∷ locals_behind t.core at.count (drop 1 t.queue))
      (locals_alone t.core at.count (drop 1 t.queue))) holds f

  -- what a core tells, or asks
  turn_times : (parts : TimesParts R) (carrying : Carrying K) → AbsorbsAll parts →
      (h : List NotedAccess) (m : Memory R K) (c : ℕ) (t : BufferedCore)
      (rider : R) (clock : Clock) (wanted : Option (Kind × ℕ)) (e : Event) (before now : ℕ) → c < length m.ports →
      t.core.id ≡ c →
      ((w : ℕ) → rank (last_noted_read h w c) ≤ before) →
      OrderedComes parts.riding (port_at carrying m.ports c) t.core.id before now e →
      RiderFits parts clock rider (ordering_of e) (port_at carrying m.ports c) →
      can_all parts.riding carrying m (acts_asking c wanted e ++ acts_told c rider (tellings t e)) ≡ true →
      MemoryHolds parts.riding carrying m →
      HaveTimes parts carrying h m → HaveTimes parts carrying (noted_after (ordering_of e) clock h)
      (after_acts parts.riding carrying m (acts_asking c wanted e ++ acts_told c rider (tellings t e)))
  turn_times parts carrying well h m c t rider clock None Nothing before now lc id ranks comes
      notes can_them holds f = f
  turn_times parts carrying well h m c t rider clock (Some (kind, word)) Nothing before now lc id ranks comes notes
      can_them holds f =
      others_times parts carrying well h m (Want c (word / BLOCK_WORDS) kind ∷ []) can_them refl holds f
  turn_times parts carrying well h m c t rider clock wanted (Executes at) before now lc id ranks comes
      notes can_them holds f =
      told_times parts carrying well h m c t rider clock (Executes at) before now lc id ranks
      comes notes can_them holds f
  turn_times parts carrying well h m c t rider clock wanted (Buffers at x) before now lc id ranks comes
      notes can_them holds f = f
  turn_times parts carrying well h m c t rider clock wanted (Performs a) before now lc id ranks comes
      notes can_them holds f =
      told_times parts carrying well h m c t rider clock (Performs a) before now lc id ranks
      comes notes can_them holds f
  turn_times parts carrying well h m c t rider clock wanted (Drains a) before now lc id ranks comes
      notes can_them holds f =
      told_times parts carrying well h m c t rider clock (Drains a) before now lc id ranks comes notes can_them holds f
  turn_times parts carrying well h m c t rider clock wanted (Logs at word value) before now lc id ranks comes notes
      can_them holds f =
      told_times parts carrying well h m c t rider clock (Logs at word value) before now lc id ranks comes notes
      can_them holds f

  -- ---- a move

  move_tells : (parts : TimesParts R) (carrying : Carrying K) (s : State R K) (m : Move) →
      TsoHolds parts.riding carrying s →
      enabled parts.riding carrying s m ≡ true →
      Tells s.image parts.riding (ordering_port parts.riding carrying s m) (core_at s.cores (core_of m))
      (event parts.riding carrying s m)
  move_tells parts carrying s (CoreMove c) holds e =
      let t : BufferedCore = core_at s.cores c in
      let p : Port R K = port_at carrying s.memory.ports c in
      let w = core_can parts.riding carrying s c e in
      executed_tells s.image parts.riding p t
      (amo_alone s.image parts.riding t p (need s.image t.core) (is_fence s.image t.core)
      (and_parts (not (is_next t.asker))
      (case_holds (need s.image t.core) (is_fence s.image t.core) parts.riding t.queue p) w.1).1)
  move_tells parts carrying s (OrderMove c) holds e =
      ordered_tells s.image parts.riding (port_at carrying s.memory.ports c) (core_at s.cores c)
      (holds.cores c (enabled_core parts.riding carrying s (OrderMove c) e holds)).fits.queue.ordered
  move_tells parts carrying s (RequestMove c) holds e =
      quiet_tells s.image parts.riding (port_at carrying s.memory.ports c) (core_at s.cores c)
  move_tells parts carrying s (ResponseMove c) holds e =
      quiet_tells s.image parts.riding (port_at carrying s.memory.ports c) (core_at s.cores c)
  move_tells parts carrying s (MessageMove c) holds e =
      by_data (data_next (port_at carrying s.memory.ports c).messages.items)
    where
      t : BufferedCore
      t = core_at s.cores c

      q : Port R K
      q = port_taken parts.riding carrying (port_at carrying s.memory.ports c)

      within : c < length s.cores
      within = enabled_core parts.riding carrying s (MessageMove c) e holds

      alone : t.asker ≡ Next → (word : ℕ) → need s.image t.core ≡ Amo word → is_nil t.queue ≡ true
      alone next word is =
          ap (λ (n : Need). next_may_ask n t.queue) (sym is)
          ∙ (ap (λ (x : Asker). may_ask x (need s.image t.core) t.queue) (sym next)
          ∙ (holds.cores c within).fits.asks)

      by_data : (d : Bool) →
          Tells s.image parts.riding q t (if d then event_granted t.asker s.image parts.riding t q else Nothing)
      by_data true = granted_tells s.image parts.riding q t t.asker alone (holds.cores c within).fits.queue.ordered
      by_data false = quiet_tells s.image parts.riding q t

  -- a core's own turn, in which it may ask for what an access needs
  own_times : (parts : TimesParts R) (carrying : Carrying K) → AbsorbsAll parts → (h : List NotedAccess)
      (s : State R K) (c : ℕ) (rider : R) (clock : Clock) (wanted : Option (Kind × ℕ)) (e : Event) →
      c < length s.cores → TsoHolds parts.riding carrying s → StandsAfter parts carrying h s →
      OrderedComes parts.riding (port_at carrying s.memory.ports c) (core_at s.cores c).core.id
      (count_before (core_at s.cores c).core (core_at s.cores c).queue)
      (count_before (core_after s.image (core_at s.cores c).core e) (queue_after (core_at s.cores c).queue e)) e →
      RiderFits parts clock rider (ordering_of e) (port_at carrying s.memory.ports c) →
      can_all parts.riding carrying s.memory
      (acts_asking c wanted e ++ acts_told c rider (tellings (core_at s.cores c) e)) ≡ true →
      HaveTimes parts carrying (noted_after (ordering_of e) clock h) (after_acts parts.riding carrying s.memory
      (acts_asking c wanted e ++ acts_told c rider (tellings (core_at s.cores c) e)))
  own_times parts carrying well h s c rider clock wanted e lc holds f comes notes can_them =
      let t : BufferedCore = core_at s.cores c in
      turn_times parts carrying well h s.memory c t rider clock wanted e (count_before t.core t.queue)
      (count_before (core_after s.image t.core e) (queue_after t.queue e))
      (core_port parts.riding carrying s c holds lc) (holds.cores c lc).fits.number (λ w. f.told c w lc) comes notes
      can_them holds.memory f.all

  step_times : (parts : TimesParts R) (carrying : Carrying K) → AbsorbsAll parts →
      (history : List NotedAccess) (state : State R K) (m : Move) (rider : R)
      (clock : Clock) → TsoHolds parts.riding carrying state → enabled parts.riding carrying state m ≡ true →
      RiderFits parts clock rider (ordering_of (event parts.riding carrying state m))
      (ordering_port parts.riding carrying state m) → StandsAfter parts carrying history state →
      HaveTimes parts carrying (noted_after (ordering_of (event parts.riding carrying state m)) clock history)
      (step parts.riding carrying rider state m).memory
  step_times parts carrying well history state (CoreMove c) rider clock holds allowed notes times =
      own_times parts carrying well history state c rider clock
      (need_access (need state.image (core_at state.cores c).core))
      (event parts.riding carrying state (CoreMove c))
      (enabled_core parts.riding carrying state (CoreMove c) allowed holds) holds times
      (move_tells parts carrying state (CoreMove c) holds allowed).comes notes
      (acts_can parts.riding carrying state (CoreMove c) rider allowed holds)
  step_times parts carrying well history state (OrderMove c) rider clock holds allowed notes times =
      own_times parts carrying well history state c rider clock (head_access (core_at state.cores c).queue)
      (event parts.riding carrying state (OrderMove c))
      (enabled_core parts.riding carrying state (OrderMove c) allowed holds) holds times
      (move_tells parts carrying state (OrderMove c) holds allowed).comes notes
      (acts_can parts.riding carrying state (OrderMove c) rider allowed holds)
  step_times parts carrying well history state (RequestMove c) rider clock holds allowed notes times =
      other_times parts carrying well history state.memory (TakeRequest c) allowed refl holds.memory times.all
  step_times parts carrying well history state (ResponseMove c) rider clock holds allowed notes times =
      other_times parts carrying well history state.memory (TakeResponse c) allowed refl holds.memory times.all
  step_times parts carrying well history state (MessageMove c) rider clock holds allowed notes times =
      told_times parts carrying well history taken c t rider clock now (count_before t.core t.queue)
      (count_before (core_after state.image t.core now) (queue_after t.queue now))
      (subst (λ (n : ℕ). c < n) (sym (length_act parts.riding carrying state.memory (TakeMessage c))) lp)
      (holds.cores c lc).fits.number (λ w. times.told c w lc)
      (subst (λ (p : Port R K). OrderedComes parts.riding p t.core.id (count_before t.core t.queue)
      (count_before (core_after state.image t.core now) (queue_after t.queue now)) now) (sym here)
      (move_tells parts carrying state (MessageMove c) holds allowed).comes)
      (subst (λ (p : Port R K). RiderFits parts clock rider (ordering_of now) p) (sym here) notes)
      (and_parts (can parts.riding carrying state.memory (TakeMessage c))
      (can_all parts.riding carrying taken (acts_told c rider (tellings t now)))
      (acts_can parts.riding carrying state (MessageMove c) rider allowed holds)).1
      (memory_kept parts.riding carrying state.memory (TakeMessage c) allowed holds.memory)
      (other_times parts carrying well history state.memory (TakeMessage c) allowed refl holds.memory times.all)
    where
      t : BufferedCore
      t = core_at state.cores c

      now : Event
      now = event parts.riding carrying state (MessageMove c)

      taken : Memory R K
      taken = after_act parts.riding carrying state.memory (TakeMessage c)

      lc : c < length state.cores
      lc = enabled_core parts.riding carrying state (MessageMove c) allowed holds

      lp : c < length state.memory.ports
      lp = core_port parts.riding carrying state c holds lc

      here : port_at carrying taken.ports c ≡ port_taken parts.riding carrying (port_at carrying state.memory.ports c)
      here = taken_there parts.riding carrying state.memory c lp

-- ---- what was told of each core

rank_after : (n : NotedAccess) (w d : ℕ) (last : Option (ℕ × Clock)) → (rank (read_after n w d last) ≤ rank last)
    ⊎ ((d ≡ noted_core n) × (rank (read_after n w d last) ≡ n.access.at.count))
rank_after n w d last = grind (arith, nat_tests)

module _ {R K : Type 0} where
  -- the core that moved
  own_told : (riding : Riding R) (p : Port R K) (core before now : ℕ) (e : Event) (clock : Clock)
      (h : List NotedAccess) (w c : ℕ) →
      OrderedComes riding p core before now e → before ≤ now → rank (last_noted_read h w c) ≤ before →
      rank (last_noted_read (noted_after (ordering_of e) clock h) w c) ≤ now
  own_told riding p core before now Nothing clock h w c comes le r = omega arith
  own_told riding p core before now (Executes at) clock h w c comes le r = omega arith
  own_told riding p core before now (Buffers at x) clock h w c comes le r = omega arith
  own_told riding p core before now (Logs at word value) clock h w c comes le r = omega arith
  own_told riding p core before now (Performs a) clock h w c comes le r =
      elim (rank_after (record { access = a; clock = clock }) w c (last_noted_read h w c)) [
        | inl k ↦ omega arith
        | inr k ↦ let told = comes.told in let same = k.1 in omega arith
      ]
  own_told riding p core before now (Drains a) clock h w c comes le r =
      elim (rank_after (record { access = a; clock = clock }) w c (last_noted_read h w c)) [
        | inl k ↦ omega arith
        | inr k ↦ let told = comes.told in let same = k.1 in omega arith
      ]

  -- the others
  others_told : (riding : Riding R) (p : Port R K) (core before now : ℕ) (e : Event) (clock : Clock)
      (h : List NotedAccess) (w d : ℕ) →
      OrderedComes riding p core before now e → (d == core) ≡ false →
      rank (last_noted_read (noted_after (ordering_of e) clock h) w d) ≤ rank (last_noted_read h w d)
  others_told riding p core before now Nothing clock h w d comes other = omega arith
  others_told riding p core before now (Executes at) clock h w d comes other = omega arith
  others_told riding p core before now (Buffers at x) clock h w d comes other = omega arith
  others_told riding p core before now (Logs at word value) clock h w d comes other = omega arith
  others_told riding p core before now (Performs a) clock h w d comes other =
      elim (rank_after (record { access = a; clock = clock }) w d
      (last_noted_read h w d)) [
        | inl k ↦ k
        | inr k ↦ let at : d ≡ core = k.0 ∙ comes.own in absurd (grind (arith, nat_tests))
      ]
  others_told riding p core before now (Drains a) clock h w d comes other =
      elim (rank_after (record { access = a; clock = clock }) w d
      (last_noted_read h w d)) [
        | inl k ↦ k
        | inr k ↦ let at : d ≡ core = k.0 ∙ comes.own in absurd (grind (arith, nat_tests))
      ]

  pub timed_step : (parts : TimesParts R) (carrying : Carrying K) → AbsorbsAll parts → TimedStep parts carrying
  timed_step parts carrying well history state move rider clock holds can notes times =
      record {
        all = step_times parts carrying well history state move rider clock holds can notes times;
        told = λ d w ld. by_core d w (subst (λ (n : ℕ). d < n) (step_cores parts.riding carrying rider state move) ld)
            (d == core_of move) refl;
      }
    where
      c : ℕ
      c = core_of move

      t : BufferedCore
      t = core_at state.cores c

      now : Event
      now = event parts.riding carrying state move

      lc : c < length state.cores
      lc = enabled_core parts.riding carrying state move can holds

      id : t.core.id ≡ c
      id = (holds.cores c lc).fits.number

      tells : Tells state.image parts.riding (ordering_port parts.riding carrying state move) t now
      tells = move_tells parts carrying state move holds can

      by_core : (d w : ℕ) → d < length state.cores → (b : Bool) → (d == core_of move) ≡ b →
          rank (last_noted_read (noted_after (ordering_of now) clock history) w d) ≤ told_count
          (core_at (cores_after parts.riding carrying state move) d)
      by_core d w ld true is =
          let same : c ≡ d = grind (arith, nat_tests) in
          subst (λ (x : ℕ). rank (last_noted_read (noted_after (ordering_of now) clock history) w x) ≤ told_count
          (core_at (cores_after parts.riding carrying state move) x)) same
          (subst (λ (x : BufferedCore). rank
          (last_noted_read (noted_after (ordering_of now) clock history) w c) ≤ told_count x)
          (sym (core_there parts.riding carrying state move lc))
          (own_told parts.riding (ordering_port parts.riding carrying state move) t.core.id
          (count_before t.core t.queue)
          (count_before (core_after state.image t.core now) (queue_after t.queue now)) now clock history w c tells.comes
          tells.grows (times.told c w lc)))
      by_core d w ld false is =
          let before = times.told d w ld in
          let le = others_told parts.riding (ordering_port parts.riding carrying state move) t.core.id
          (count_before t.core t.queue)
          (count_before (core_after state.image t.core now) (queue_after t.queue now)) now clock history w d tells.comes
          (ap (λ (x : ℕ). d == x) id ∙ is) in
          let kept : told_count (core_at (cores_after parts.riding carrying state move) d)
          ≡ told_count (core_at state.cores d) =
          ap told_count (core_elsewhere parts.riding carrying state move d is) in
          omega arith

  -- ---- what an ordered access finds

  allowed_by : (parts : TimesParts R) (carrying : Carrying K) (h : List NotedAccess) (m : Memory R K)
      (c core before now : ℕ) (e : Event) (a : Access) →
      c < CORES_MAX → OrderedComes parts.riding (port_at carrying m.ports c) core before now e →
      ordering_of e ≡ Accesses a → HaveTimes parts carrying h m →
      IsExactRider parts h a (rider_at parts.riding (port_at carrying m.ports c) a.word)
  allowed_by parts carrying h m c core before now Nothing a lc comes is f = absurd (cc)
  allowed_by parts carrying h m c core before now (Executes at) a lc comes is f = absurd (cc)
  allowed_by parts carrying h m c core before now (Buffers at x) a lc comes is f = absurd (cc)
  allowed_by parts carrying h m c core before now (Logs at word value) a lc comes is f = absurd (cc)
  allowed_by parts carrying h m c core before now (Performs b) a lc comes is f =
      subst (λ (x : Access). IsExactRider parts h x (rider_at parts.riding (port_at carrying m.ports c) x.word))
      (same_access b a is)
      (port_finds parts carrying h m c b.word b.kind lc comes.allowed f)
  allowed_by parts carrying h m c core before now (Drains b) a lc comes is f =
      subst (λ (x : Access). IsExactRider parts h x (rider_at parts.riding (port_at carrying m.ports c) x.word))
      (same_access b a is)
      (port_finds parts carrying h m c b.word b.kind lc comes.allowed f)

  below : (parts : TimesParts R) (carrying : Carrying K) (s : State R K) (m : Move) → TsoHolds parts.riding carrying s →
      enabled parts.riding carrying s m ≡ true → core_of m < CORES_MAX
  below parts carrying s m holds e =
      core_below parts.riding carrying s.memory (core_of m) holds.memory
      (core_port parts.riding carrying s (core_of m) holds (enabled_core parts.riding carrying s m e holds))

  pub finds_exact : (parts : TimesParts R) (carrying : Carrying K) → AbsorbsAll parts → FindsTimes parts carrying
  finds_exact parts carrying well h s (CoreMove c) a holds e is f =
      allowed_by parts carrying h s.memory c (core_at s.cores c).core.id _ _
      (event parts.riding carrying s (CoreMove c)) a
      (below parts carrying s (CoreMove c) holds e) (move_tells parts carrying s (CoreMove c) holds e).comes is f.all
  finds_exact parts carrying well h s (OrderMove c) a holds e is f =
      allowed_by parts carrying h s.memory c (core_at s.cores c).core.id _ _
      (event parts.riding carrying s (OrderMove c)) a
      (below parts carrying s (OrderMove c) holds e) (move_tells parts carrying s (OrderMove c) holds e).comes is f.all
  finds_exact parts carrying well h s (RequestMove c) a holds e is f = absurd (cc)
  finds_exact parts carrying well h s (ResponseMove c) a holds e is f = absurd (cc)
  finds_exact parts carrying well h s (MessageMove c) a holds e is f =
      let t : BufferedCore = core_at s.cores c in
      let now : Event = event parts.riding carrying s (MessageMove c) in
      let taken : Memory R K = after_act parts.riding carrying s.memory (TakeMessage c) in
      let lc = enabled_core parts.riding carrying s (MessageMove c) e holds in
      let here = taken_there parts.riding carrying s.memory c (core_port parts.riding carrying s c holds lc) in
      subst (λ (p : Port R K). IsExactRider parts h a (rider_at parts.riding p a.word)) here
      (allowed_by parts carrying h taken c t.core.id (count_before t.core t.queue)
      (count_before (core_after s.image t.core now) (queue_after t.queue now)) now a
      (below parts carrying s (MessageMove c) holds e)
      (subst (λ (p : Port R K). OrderedComes parts.riding p t.core.id (count_before t.core t.queue)
      (count_before (core_after s.image t.core now) (queue_after t.queue now)) now) (sym here)
      (move_tells parts carrying s (MessageMove c) holds e).comes)
      is (other_times parts carrying well h s.memory (TakeMessage c) e refl holds.memory f.all))
