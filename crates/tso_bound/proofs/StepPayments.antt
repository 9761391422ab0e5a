-- Each enabled move pays for its own step. A move is a list of acts, each of which balances, and what the core becomes,
-- which pays for what it takes.
use Rattle.std.proofs.Common.{◌≡◌, ◌∙◌, ap, refl, sym, subst, ℕ, ◌+◌, ◌*◌, ◌<◌, ◌≤◌, ◌/◌, Bool, true, false, not, List}
use Rattle.std.proofs.Common.{[], ◌∷◌, ◌++◌, length, Option, Some, None}
use Rattle.std.proofs.Common.{arith}
use Rattle.std.specs.Prelude.{slice_set, if◌then◌else◌, is_some}
use Rattle.std.specs.List.{sum_by, list_all}
use Rattle.std.proofs.lemmas.Bool.{and_parts}
use Rattle.std.proofs.lemmas.List.Sums.{sum_by-set}
use Rattle.access_times.specs.Riding.{Riding, Carrying}
use Rattle.image_mem.specs.Contents.{Contents}
use Rattle.rtr_types.specs.declared.TheConstants.{BLOCK_WORDS}
use Rattle.rtr_types.specs.declared.access.Kind.{Kind}
use Rattle.rv_core.specs.Steps.{need, access_of as need_access}
use Rattle.msi_memory.specs.declared.port.Port.{Port}
use Rattle.msi_memory.specs.Acts.{Act, Want, TakeRequest, TakeMessage, can, can_all, after_act, after_acts, data_next}
use Rattle.msi_memory.specs.Memories.{Memory, port_at}
use Rattle.msi_laws.specs.Holds.{MemoryHolds}
use Rattle.msi_laws.proofs.ActInvariant.{memory_kept}
use Rattle.msi_laws.proofs.Awaits.{Granted, data_granted}
use Rattle.msi_state.specs.Events.{port_taken}
use Rattle.msi_state.specs.Rests.{may_access}
use Rattle.tso_state.specs.declared.moves.Move.{Move}
use Rattle.tso_state.specs.declared.moves.Move.TheVariants.{Core as CoreMove, Order as OrderMove}
use Rattle.tso_state.specs.declared.moves.Move.TheVariants.{Request as RequestMove, Response as ResponseMove}
use Rattle.tso_state.specs.declared.moves.Move.TheVariants.{FromHome as MessageMove}
use Rattle.tso_state.specs.declared.pending.Asker.{Asker}
use Rattle.tso_state.specs.declared.pending.Asker.TheVariants.{Nobody, Next, Head}
use Rattle.tso_state.specs.States.{State, BufferedCore, buffered_start, core_at}
use Rattle.tso_state.specs.Events.{Told, Alone, Ordered, Logged, Event, Nothing, Executes, Buffers, Performs, Drains}
use Rattle.tso_state.specs.Events.{Logs, event_granted, event_receiving, tellings}
use Rattle.tso_state.specs.Steps.{acts_asking, acts_told, case_holds, core_left, enabled, event, head_access, is_fence}
use Rattle.tso_state.specs.Steps.{is_next, step}
use Rattle.tso_invariant.specs.Holds.{TsoHolds, may_ask, wish_by}
use Rattle.tso_invariant.specs.Rests.{is_quiet}
use Rattle.tso_invariant.proofs.CoreMoves.{left as left_core}
use Rattle.tso_invariant.proofs.MoveInvariant.{acts_can, core_can, core_port, enabled_core, order_can, step_cores}
use Rattle.tso_bound.specs.Bound.{Earns, core_cost, memory_owed, memory_worth, paid, total_earned, total_owed}
use Rattle.tso_bound.proofs.Acts.{Balance, is_telling, message_balance, request_balance, response_balance, told_balance}
use Rattle.tso_bound.proofs.Acts.{want_balance}
use Rattle.tso_bound.proofs.Events.{Pays, drained_pays, executing_asks, executing_pays, granted_pays, nothing_pays}
use Rattle.tso_bound.proofs.Events.{ordering_asks, ordering_pays}

telling_told : {R : Type 0} (c : ℕ) (rider : R) (es : List Told) → list_all is_telling (acts_told c rider es) ≡ true
telling_told c rider [] = refl
telling_told c rider (Alone at ∷ later) = telling_told c rider later
telling_told c rider (Ordered a ∷ later) = telling_told c rider later
telling_told c rider (Logged at word value ∷ later) = telling_told c rider later

even : (b : Bool) → 0 + 1 ≤ (if b then 1 else 0) + (if b then 0 else 1)
even true = omega arith
even false = omega arith

module _ {R K : Type 0} where
  -- ---- the memory system

  -- what a core tells, or asks
  turn_balance : (riding : Riding R) (carrying : Carrying K) (rider : R) (cores : ℕ) (m : Memory R K) (c : ℕ)
      (t : BufferedCore) (wanted : Option (Kind × ℕ))
      (e : Event) → MemoryHolds riding carrying m →
      can_all riding carrying m (acts_asking c wanted e ++ acts_told c rider (tellings t e)) ≡ true →
      (is_quiet e ≡ true → is_some wanted ≡ true) →
      Balance cores m (after_acts riding carrying m (acts_asking c wanted e ++ acts_told c rider (tellings t e)))
      (if is_quiet e then 1 else 0) 0
  turn_balance riding carrying rider cores m c t None Nothing h can_them asks = absurd (let some = asks refl in cc)
  turn_balance riding carrying rider cores m c t (Some (kind, word)) Nothing h can_them asks =
      want_balance riding carrying cores m c (word / BLOCK_WORDS) kind h
      (and_parts (can riding carrying m (Want c (word / BLOCK_WORDS) kind)) true can_them).0
  turn_balance riding carrying rider cores m c t wanted (Executes at) h can_them asks =
      told_balance riding carrying cores m (acts_told c rider (tellings t (Executes at))) can_them
      (telling_told c rider (tellings t (Executes at))) h
  turn_balance riding carrying rider cores m c t wanted (Buffers at x) h can_them asks =
      told_balance riding carrying cores m [] can_them refl h
  turn_balance riding carrying rider cores m c t wanted (Performs a) h can_them asks =
      told_balance riding carrying cores m (acts_told c rider (tellings t (Performs a))) can_them
      (telling_told c rider (tellings t (Performs a))) h
  turn_balance riding carrying rider cores m c t wanted (Drains a) h can_them asks =
      told_balance riding carrying cores m (acts_told c rider (tellings t (Drains a))) can_them
      (telling_told c rider (tellings t (Drains a))) h
  turn_balance riding carrying rider cores m c t wanted (Logs at word value) h can_them asks =
      told_balance riding carrying cores m (acts_told c rider (tellings t (Logs at word value))) can_them
      (telling_told c rider (tellings t (Logs at word value))) h

  -- ---- a step

  -- where one core is set
  set_earns : (riding : Riding R) (carrying : Carrying K) (rider : R) (s : State R K) (m : Move) (c : ℕ) (e : Event)
      (asker : Asker) (up down more : ℕ) →
      c < length s.cores →
      (step riding carrying rider s m).cores ≡ slice_set s.cores c (left_core s.image (core_at s.cores c) e asker) →
      Balance (length s.cores) s.memory (step riding carrying rider s m).memory up down →
      Pays (length s.cores) s.image (core_at s.cores c) e more →
      down + 1 ≤ up + more → Earns s (step riding carrying rider s m)
  set_earns riding carrying rider s m c e asker up down more within is balance pays le =
      subst (λ (n : ℕ). total_earned s + (sum_by (core_cost n) new.cores + memory_owed new.memory) + 1
      ≤ (sum_by (paid n) new.cores + memory_worth n new.memory) + total_owed s)
      (sym (step_cores riding carrying rider s m))
      (let f = sum_by-set (paid (length s.cores)) s.cores c t (buffered_start 0 0) within in
      let g = sum_by-set (core_cost (length s.cores)) s.cores c t (buffered_start 0 0) within in
      let a : sum_by (paid (length s.cores)) new.cores ≡ sum_by (paid (length s.cores)) (slice_set s.cores c t) =
      ap (sum_by (paid (length s.cores))) is in
      let b : sum_by (core_cost (length s.cores)) new.cores ≡ sum_by (core_cost (length s.cores))
      (slice_set s.cores c t) =
      ap (sum_by (core_cost (length s.cores))) is in
      omega arith)
    where
      new : State R K
      new = step riding carrying rider s m

      t : BufferedCore
      t = left_core s.image (core_at s.cores c) e asker

  -- where it is a core's own turn: that the core asks is paid for, and what else happens pays for itself
  own_earns : (riding : Riding R) (carrying : Carrying K) (rider : R) (s : State R K) (m : Move) (c : ℕ) →
      let e : Event = event riding carrying s m in
      c < length s.cores → (step riding carrying rider s m).cores
      ≡ slice_set s.cores c (left_core s.image (core_at s.cores c) e (core_left riding carrying s m).asker) →
      Balance (length s.cores) s.memory (step riding carrying rider s m).memory (if is_quiet e then 1 else 0) 0 →
      Pays (length s.cores) s.image (core_at s.cores c) e (if is_quiet e then 0 else 1) →
      Earns s (step riding carrying rider s m)
  own_earns riding carrying rider s m c within is balance pays =
      let e : Event = event riding carrying s m in
      set_earns riding carrying rider s m c e (core_left riding carrying s m).asker (if is_quiet e then 1 else 0) 0
      (if is_quiet e then 0 else 1) within is balance pays (even (is_quiet e))

  -- where the cores stay
  home_earns : (riding : Riding R) (carrying : Carrying K) (rider : R) (s : State R K) (m : Move) →
      (step riding carrying rider s m).cores ≡ s.cores →
      Balance (length s.cores) s.memory (step riding carrying rider s m).memory 1 0 →
      Earns s (step riding carrying rider s m)
  home_earns riding carrying rider s m is balance =
      subst (λ (n : ℕ). total_earned s + (sum_by (core_cost n) new.cores + memory_owed new.memory) + 1
      ≤ (sum_by (paid n) new.cores + memory_worth n new.memory) + total_owed s)
      (sym (step_cores riding carrying rider s m))
      (let a : sum_by (paid (length s.cores)) new.cores ≡ sum_by (paid (length s.cores)) s.cores =
      ap (sum_by (paid (length s.cores))) is in
      let b : sum_by (core_cost (length s.cores)) new.cores ≡ sum_by (core_cost (length s.cores)) s.cores =
      ap (sum_by (core_cost (length s.cores))) is in
      omega arith)
    where
      new : State R K
      new = step riding carrying rider s m

  -- what the data of a block pay for
  data_pays : (riding : Riding R) (image : Contents) (cores : ℕ) (t : BufferedCore) (a : Asker)
      (q : Port R K) → t.asker ≡ a →
      may_ask t.asker (need image t.core) t.queue ≡ true → Granted riding (wish_by a (need image t.core) t.queue) q →
      Pays cores image t (event_granted a image riding t q) (2 * cores + 4)
  data_pays riding image cores t Nobody q is may g = absurd (let n = g.needs in cc)
  data_pays riding image cores t Next q is may g =
      granted_pays cores (need image t.core) image riding t q (ap (λ (a : Asker). may_ask a (need image t.core) t.queue)
      (sym is) ∙ may)
      (ap (λ (wanted : Option (Kind × ℕ)). may_access wanted riding q) g.needs ∙ g.allowed)
  data_pays riding image cores t Head q is may g =
      drained_pays cores t.queue image riding t q refl
      (ap (λ (wanted : Option (Kind × ℕ)). may_access wanted riding q) g.needs ∙ g.allowed)

  message_earns : (riding : Riding R) (carrying : Carrying K) (rider : R) (s : State R K) (c : ℕ) →
      enabled riding carrying s (MessageMove c) ≡ true →
      TsoHolds riding carrying s → Earns s (step riding carrying rider s (MessageMove c))
  message_earns riding carrying rider s c e h = by_data (data_next p.messages.items) refl
    where
      t : BufferedCore
      t = core_at s.cores c

      p : Port R K
      p = port_at carrying s.memory.ports c

      taken : Port R K
      taken = port_taken riding carrying p

      within : c < length s.cores
      within = enabled_core riding carrying s (MessageMove c) e h

      there : c < length s.memory.ports
      there = core_port riding carrying s c h within

      some : 1 ≤ length s.cores
      some = let lt = within in omega arith

      left_m : Memory R K
      left_m = after_act riding carrying s.memory (TakeMessage c)

      told : List (Act R)
      told = acts_told c rider (tellings t (event_receiving s.image riding carrying t p))

      told_can : can_all riding carrying left_m told ≡ true
      told_can = (and_parts (can riding carrying s.memory (TakeMessage c)) (can_all riding carrying left_m told)
          (acts_can riding carrying s (MessageMove c) rider e h)).1

      told_same : Balance (length s.cores) left_m (after_acts riding carrying left_m told) 0 0
      told_same = told_balance riding carrying (length s.cores) left_m told told_can
          (telling_told c rider (tellings t (event_receiving s.image riding carrying t p)))
          (memory_kept riding carrying s.memory (TakeMessage c) e h.memory)

      both : (up down : ℕ) → Balance (length s.cores) s.memory left_m up down →
          Balance (length s.cores) s.memory (step riding carrying rider s (MessageMove c)).memory up down
      both up down balance = let same = told_same in omega arith

      by_data : (d : Bool) → data_next p.messages.items ≡ d → Earns s (step riding carrying rider s (MessageMove c))
      by_data false d =
          set_earns riding carrying rider s (MessageMove c) c (event_receiving s.image riding carrying t p)
          (core_left riding carrying s (MessageMove c)).asker 1 0 0 within refl
          (both 1 0 (message_balance riding carrying (length s.cores) s.memory c h.memory e some false d))
          (rw d (nothing_pays (length s.cores) s.image t)) (omega arith)
      by_data true d =
          set_earns riding carrying rider s (MessageMove c) c (event_receiving s.image riding carrying t p)
          (core_left riding carrying s (MessageMove c)).asker 0 (3 + 2 * length s.cores)
          (2 * length s.cores + 4) within refl
          (both 0 (3 + 2 * length s.cores)
          (message_balance riding carrying (length s.cores) s.memory c h.memory e some true d))
          (rw d (data_pays riding s.image (length s.cores) t t.asker taken refl (h.cores c within).fits.asks
          (data_granted riding carrying s.memory c (wish_by t.asker (need s.image t.core) t.queue) h.memory there d
          (h.cores c within).awaited))) (omega arith)

  -- each step pays for itself
  pub earns : (riding : Riding R) (carrying : Carrying K) (s : State R K) (m : Move) (rider : R) →
      enabled riding carrying s m ≡ true →
      TsoHolds riding carrying s → Earns s (step riding carrying rider s m)
  earns riding carrying s (CoreMove c) rider e h =
      let t : BufferedCore = core_at s.cores c in
      let p : Port R K = port_at carrying s.memory.ports c in
      let w = core_can riding carrying s c e in
      own_earns riding carrying rider s (CoreMove c) c w.0 refl
      (turn_balance riding carrying rider (length s.cores) s.memory c t (need_access (need s.image t.core))
      (event riding carrying s (CoreMove c)) h.memory
      (acts_can riding carrying s (CoreMove c) rider e h)
      (λ quiet. executing_asks (need s.image t.core) (is_fence s.image t.core) s.image riding t p
      (and_parts (not (is_next t.asker)) (case_holds (need s.image t.core) (is_fence s.image t.core) riding t.queue p)
      w.1).1 quiet))
      (executing_pays (length s.cores) (need s.image t.core) s.image riding t p)
  earns riding carrying s (OrderMove c) rider e h =
      let t : BufferedCore = core_at s.cores c in
      let p : Port R K = port_at carrying s.memory.ports c in
      let w = order_can riding carrying s c e in
      own_earns riding carrying rider s (OrderMove c) c w.0 refl
      (turn_balance riding carrying rider (length s.cores) s.memory c t (head_access t.queue)
      (event riding carrying s (OrderMove c)) h.memory
      (acts_can riding carrying s (OrderMove c) rider e h)
      (λ quiet. ordering_asks t.queue riding t.core.id p w.1 quiet))
      (ordering_pays (length s.cores) t.queue s.image riding t p refl)
  earns riding carrying s (RequestMove c) rider e h =
      home_earns riding carrying rider s (RequestMove c) refl
      (subst (λ (n : ℕ). Balance n s.memory (after_act riding carrying s.memory (TakeRequest c)) 1 0) h.ports_there
      (request_balance riding carrying s.memory c h.memory e))
  earns riding carrying s (ResponseMove c) rider e h =
      home_earns riding carrying rider s (ResponseMove c) refl
      (response_balance riding carrying (length s.cores) s.memory c h.memory e)
  earns riding carrying s (MessageMove c) rider e h = message_earns riding carrying rider s c e h
