-- Which loads a run logs. Of all events the leaving of a load alone logs one: a port's data let a store alone be
-- ordered, since no load asks for a block. So a logged load has its choice, and such a choice its logged load.
use Rattle.std.proofs.Common.{◌≡◌, ◌∙◌, refl, sym, ap, subst, ℕ, zero, suc, ◌/◌, ◌<◌, ◌≤◌, ◌^◌, ◌==◌, Bool, true}
use Rattle.std.proofs.Common.{false, cond, List, [], ◌∷◌, ◌++◌, Option, Some, None, length, inl, inr, ◌⊎◌, arith}
use Rattle.std.proofs.Common.{eq-eqb, eqb-true}
use Rattle.std.specs.Prelude.{slice_index_or}
use Rattle.std.proofs.lemmas.Bool.{cases_eq}
use Rattle.std.proofs.lemmas.List.FromFn.{get_or-map-range_with_len}
use Rattle.access_times.specs.Riding.{Riding, none_carrying, none_riding}
use Rattle.image_mem.specs.Contents.{Contents}
use Rattle.link_order.specs.Queue.{is_nil}
use Rattle.rtr_types.specs.declared.TheConstants.{BLOCK_WORDS, CORES_MAX}
use Rattle.rtr_types.specs.declared.access.Access.{Access}
use Rattle.rtr_types.specs.declared.access.Kind.TheVariants.{Load as Loading, Store as Storing, Amo as Exchanging}
use Rattle.rtr_types.specs.declared.instr.Instr.{Instr}
use Rattle.rtr_types.specs.declared.params.Params.{Params}
use Rattle.rv_core.specs.Steps.{need}
use Rattle.rv_core.specs.declared.core_state.Need.{Need}
use Rattle.rv_core.specs.declared.core_state.Need.TheVariants.{Local, Load, Store, Amo, Done}
use Rattle.schedule_pick.specs.Choices.{choice_at}
use Rattle.msi_memory.specs.declared.port.Port.{Port}
use Rattle.msi_memory.specs.Acts.{allows, data_next}
use Rattle.msi_memory.specs.Memories.{port_at}
use Rattle.msi_state.specs.Events.{port_taken}
use Rattle.tso_recordings.specs.Logged.{IsOneOf, LoggedLaw, LogsAt}
use Rattle.tso_recordings.specs.Schedules.{tso_recording_of}
use Rattle.tso_bound.specs.Ends.{end_of}
use Rattle.tso_bound.proofs.RunEnds.{run_cores}
use Rattle.tso_data.specs.Orders.{LoadLeaves}
use Rattle.tso_data.proofs.Loads.{load_leaves}
use Rattle.tso_invariant.specs.Holds.{TsoHolds, may_ask}
use Rattle.tso_invariant.proofs.StartInvariant.{chosen_enabled, holds_run}
use Rattle.tso_invariant.proofs.MoveInvariant.{enabled_core}
use Rattle.tso_state.specs.declared.moves.Move.{Move}
use Rattle.tso_state.specs.declared.moves.Move.TheVariants.{Core as CoreMove, Order as OrderMove}
use Rattle.tso_state.specs.declared.moves.Move.TheVariants.{Request as RequestMove, Response as ResponseMove}
use Rattle.tso_state.specs.declared.moves.Move.TheVariants.{FromHome as MessageMove}
use Rattle.tso_state.specs.declared.pending.Asker.{Asker}
use Rattle.tso_state.specs.declared.pending.Asker.TheVariants.{Nobody, Next, Head}
use Rattle.tso_state.specs.declared.pending.Pending.{Pending}
use Rattle.tso_state.specs.declared.pending.Pending.TheVariants.{Load as PendingLoad, Store as PendingStore}
use Rattle.tso_state.specs.Events.{Event, Nothing, Buffers, Performs, Drains, Logs, event_executing}
use Rattle.tso_state.specs.Events.{event_granted, event_ordering, still_there}
use Rattle.tso_state.specs.Moves.{core_of}
use Rattle.tso_state.specs.Runs.{LoggedLoad, chosen, event_by, logged_in, logged_loads, plain_event, run, values_at}
use Rattle.tso_state.specs.Runs.{values_of}
use Rattle.tso_state.specs.States.{BufferedCore, PlainState, core_at}

-- ---- lists of loads

one_of_either : (xs ys : List (ℕ × ℕ)) (v : ℕ × ℕ) → IsOneOf (xs ++ ys) v → IsOneOf xs v ⊎ IsOneOf ys v
one_of_either [] ys v is = inr is
one_of_either (x ∷ xs) ys v (inl same) = inl (inl same)
one_of_either (x ∷ xs) ys v (inr is) = by (one_of_either xs ys v is)
  where
    by : IsOneOf xs v ⊎ IsOneOf ys v → IsOneOf (x ∷ xs) v ⊎ IsOneOf ys v
    by (inl first) = inl (inr first)
    by (inr second) = inr second

one_of_first : (xs ys : List (ℕ × ℕ)) (v : ℕ × ℕ) → IsOneOf xs v → IsOneOf (xs ++ ys) v
one_of_first [] ys v is = absurd is
one_of_first (x ∷ xs) ys v (inl same) = inl same
one_of_first (x ∷ xs) ys v (inr is) = inr (one_of_first xs ys v is)

one_of_second : (xs ys : List (ℕ × ℕ)) (v : ℕ × ℕ) → IsOneOf ys v → IsOneOf (xs ++ ys) v
one_of_second [] ys v is = is
one_of_second (x ∷ xs) ys v is = inr (one_of_second xs ys v is)

values_append : (c : ℕ) (xs ys : List LoggedLoad) → values_of c (xs ++ ys) ≡ values_of c xs ++ values_of c ys
values_append c [] ys = refl
values_append c (l ∷ xs) ys = by (l.at.core == c) (values_append c xs ys)
  where
    by : (b : Bool) → values_of c (xs ++ ys) ≡ values_of c xs ++ values_of c ys →
        cond b ((l.at.count, l.value) ∷ values_of c (xs ++ ys)) (values_of c (xs ++ ys))
        ≡ cond b ((l.at.count, l.value) ∷ values_of c xs) (values_of c xs) ++ values_of c ys
    by true same = ap (λ (v : List (ℕ × ℕ)). (l.at.count, l.value) ∷ v) same
    by false same = same

-- ---- what an event logs

-- a load of core c that an event logs
abbrev Logged : Event → (c count value : ℕ) → Type 0
Logged e c count value = IsOneOf (values_of c (logged_in e)) (count, value)

quiet_if : (b nil : Bool) (a : Access) (at : Instr) (x : Pending) →
    logged_in (cond b (cond nil (Performs a) (Buffers at x)) Nothing) ≡ []
quiet_if true true a at x = refl
quiet_if true false a at x = refl
quiet_if false nil a at x = refl

quiet_drained : (b : Bool) (a : Access) → logged_in (cond b (Drains a) Nothing) ≡ []
quiet_drained true a = refl
quiet_drained false a = refl

none_logged : (e : Event) (c count value : ℕ) → logged_in e ≡ [] → Logged e c count value → ⊥
none_logged e c count value none is = subst (λ (l : List LoggedLoad). IsOneOf (values_of c l) (count, value)) none is

module _ {R K : Type 0} where
  quiet_executing : (needed : Need) (image : Contents) (riding : Riding R) (t : BufferedCore) (p : Port R K) →
      logged_in (event_executing needed image riding t p) ≡ []
  quiet_executing Local image riding t p = refl
  quiet_executing (Store word whole) image riding t p = refl
  quiet_executing (Done stop) image riding t p = refl
  quiet_executing (Load word) image riding t p =
      quiet_if (allows riding p (word / BLOCK_WORDS) Loading) (is_nil t.queue) _ _ _
  quiet_executing (Amo word) image riding t p =
      quiet_if (allows riding p (word / BLOCK_WORDS) Exchanging) true _ (record { core = 0; count = 0 })
      (PendingLoad 0 0 0)

  -- what leaves a queue is logged where it is a load whose word is gone
  record Leaves (queue : List Pending) (riding : Riding R) (id c : ℕ) (p : Port R K) (count value : ℕ)
      : Type 0 where
    own : id ≡ c
    word : ℕ
    rest : List Pending
    oldest : queue ≡ PendingLoad count word value ∷ rest
    gone : still_there riding p word value ≡ false

  ordering_logs : (queue : List Pending) (riding : Riding R) (id c : ℕ) (p : Port R K) (count value : ℕ) →
      Logged (event_ordering queue riding id p) c count value → Leaves queue riding id c p count value
  ordering_logs [] riding id c p count value is = absurd is
  ordering_logs (PendingStore n word mask bits ∷ rest) riding id c p count value is =
      absurd (none_logged (event_ordering (PendingStore n word mask bits ∷ rest) riding id p) c count value
      (quiet_drained (allows riding p (word / BLOCK_WORDS) Storing) _) is)
  ordering_logs (PendingLoad n word v ∷ rest) riding id c p count value is =
      by (still_there riding p word v) refl (load_leaves riding id n word v rest p)
    where
      e : Event
      e = event_ordering (PendingLoad n word v ∷ rest) riding id p

      by_own : (b : Bool) → (id == c) ≡ b → still_there riding p word v ≡ false →
          IsOneOf (cond b ((n, v) ∷ []) []) (count, value) →
          Leaves (PendingLoad n word v ∷ rest) riding id c p count value
      by_own false other gone one = absurd one
      by_own true same gone (inr one) = absurd one
      by_own true same gone (inl one) =
          let counts : n ≡ count = ap (λ (q : ℕ × ℕ). q.0) one in
          let values : v ≡ value = ap (λ (q : ℕ × ℕ). q.1) one in
          record {
            own = eqb-true id c same;
            word = word;
            rest = rest;
            oldest = ap (λ (x : ℕ). PendingLoad x word v ∷ rest) counts
                ∙ ap (λ (x : ℕ). PendingLoad count word x ∷ rest) values;
            gone = subst (λ (x : ℕ). still_there riding p word x ≡ false) values gone;
          }

      by : (there : Bool) → still_there riding p word v ≡ there → LoadLeaves id n word v there e →
          Leaves (PendingLoad n word v ∷ rest) riding id c p count value
      by true is_there leaves =
          absurd (none_logged e c count value (ap logged_in leaves) is)
      by false gone leaves =
          by_own (id == c) refl gone
          (subst (λ (x : Event). IsOneOf (values_of c (logged_in x)) (count, value)) leaves is)

-- what a move logs was the oldest pending access of its core, and the move is that access's turn
record MoveLogs (s : PlainState) (m : Move) (c count value : ℕ) : Type 0 where
  turn : m ≡ OrderMove c
  leaves : Leaves (core_at s.cores c).queue none_riding (core_at s.cores c).core.id c
      (port_at none_carrying s.memory.ports c) count value

module _ (s : PlainState) (c count value : ℕ) (h : TsoHolds none_riding none_carrying s) where
  logs_turn : (d : ℕ) → (core_at s.cores d).core.id ≡ d →
      Leaves (core_at s.cores d).queue none_riding (core_at s.cores d).core.id c
      (port_at none_carrying s.memory.ports d) count value →
      MoveLogs s (OrderMove d) c count value
  logs_turn d number leaves =
      let here : d ≡ c = sym number ∙ leaves.own in
      record {
        turn = ap OrderMove here;
        leaves = subst (λ (x : ℕ). Leaves (core_at s.cores x).queue none_riding (core_at s.cores x).core.id c
            (port_at none_carrying s.memory.ports x) count value) here leaves;
      }

  -- no load asks for a block, so none waits for its data
  granted_logs : (t : BufferedCore) (p : Port (Unit {0}) (Unit {0})) (a : Asker) →
      may_ask a (need s.image t.core) t.queue ≡ true →
      Logged (event_granted a s.image none_riding t p) c count value → ⊥
  granted_logs t p Nobody asks is = is
  granted_logs t p Next asks is =
      none_logged (event_executing (need s.image t.core) s.image none_riding t p) c count value
      (quiet_executing (need s.image t.core) s.image none_riding t p) is
  granted_logs t p Head asks is =
      let leaves = ordering_logs t.queue none_riding t.core.id c p count value is in
      no_load leaves.word leaves.rest
      (sym (ap (λ (q : List Pending). may_ask Head (need s.image t.core) q) leaves.oldest) ∙ asks)
    where
      no_load : (word : ℕ) (rest : List Pending) →
          may_ask Head (need s.image t.core) (PendingLoad count word value ∷ rest) ≡ true → ⊥
      no_load word rest e = absurd cc

  move_logs : (m : Move) → core_of m < length s.cores → Logged (plain_event s m) c count value →
      MoveLogs s m c count value
  move_logs (CoreMove d) within is =
      let t = core_at s.cores d in
      let p = port_at none_carrying s.memory.ports d in
      absurd (none_logged (plain_event s (CoreMove d)) c count value
      (quiet_executing (need s.image t.core) s.image none_riding t p) is)
  move_logs (OrderMove d) within is =
      let t = core_at s.cores d in
      logs_turn d (h.cores d within).fits.number
      (ordering_logs t.queue none_riding t.core.id c (port_at none_carrying s.memory.ports d) count value is)
  move_logs (RequestMove d) within is = absurd is
  move_logs (ResponseMove d) within is = absurd is
  move_logs (MessageMove d) within is = by_data (data_next p.messages.items) is
    where
      t : BufferedCore
      t = core_at s.cores d

      p : Port (Unit {0}) (Unit {0})
      p = port_at none_carrying s.memory.ports d

      by_data : (b : Bool) →
          Logged (cond b (event_granted t.asker s.image none_riding t (port_taken none_riding none_carrying p)) Nothing)
          c count value →
          MoveLogs s (MessageMove d) c count value
      by_data true one =
          absurd (granted_logs t (port_taken none_riding none_carrying p) t.asker (h.cores d within).fits.asks one)
      by_data false one = absurd one

  -- and each such turn logs it
  turn_logs : (word : ℕ) (rest : List Pending) → (core_at s.cores c).core.id ≡ c →
      (core_at s.cores c).queue ≡ PendingLoad count word value ∷ rest →
      still_there none_riding (port_at none_carrying s.memory.ports c) word value ≡ false →
      Logged (plain_event s (OrderMove c)) c count value
  turn_logs word rest number oldest gone =
      subst (λ (e : Event). Logged e c count value) (sym is)
      (subst (λ (b : Bool). IsOneOf (cond b ((count, value) ∷ []) []) (count, value)) (sym (eq-eqb id c number))
      (inl refl))
    where
      id : ℕ
      id = (core_at s.cores c).core.id

      p : Port (Unit {0}) (Unit {0})
      p = port_at none_carrying s.memory.ports c

      is : plain_event s (OrderMove c) ≡ Logs (record { core = (core_at s.cores c).core.id; count = count }) word value
      is =
          ap (λ (q : List Pending). event_ordering q none_riding id p) oldest
          ∙ subst (λ (b : Bool). LoadLeaves id count word value b
          (event_ordering (PendingLoad count word value ∷ rest) none_riding id p)) gone
          (load_leaves none_riding id count word value rest p)

-- ---- along a run

module _ (image : Contents) (params : Params) (choices : ℕ → ℕ) (few : params.cores ≤ CORES_MAX)
    (small : params.limit < 2 ^ 32) (c count value : ℕ) where
  -- the logged loads of the core after t choices have it
  abbrev Has : (t : ℕ) → Type 0
  Has t = IsOneOf (values_of c (logged_loads image params choices t)) (count, value)

  -- the choice numbered t logs it
  abbrev Adds : (t : ℕ) → Type 0
  Adds t =
      Logged (event_by (run image params choices t) (chosen (run image params choices t) (choices t))) c count value

  logs_at : (t : ℕ) → Adds t → LogsAt image params choices t c count value
  logs_at t = by (chosen (run image params choices t) (choices t)) refl
    where
      s : PlainState
      s = run image params choices t

      h : TsoHolds none_riding none_carrying (run image params choices t)
      h = holds_run image params choices t few small

      by : (o : Option Move) → chosen (run image params choices t) (choices t) ≡ o →
          Logged (event_by (run image params choices t) o) c count value → LogsAt image params choices t c count value
      by None taken is = absurd is
      by (Some m) taken is =
          let it = move_logs s c count value h m
          (enabled_core none_riding none_carrying s m (chosen_enabled s (choices t) m taken) h) is in
          record {
            word = it.leaves.word;
            rest = it.leaves.rest;
            taken = taken ∙ ap (λ (x : Move). Some x) it.turn;
            oldest = it.leaves.oldest;
            gone = it.leaves.gone;
          }

  at_logs : (t : ℕ) → c < params.cores → LogsAt image params choices t c count value → Adds t
  at_logs t lt it =
      subst (λ (o : Option Move). Logged (event_by s o) c count value) (sym it.taken)
      (turn_logs s c count value h it.word it.rest (h.cores c within).fits.number it.oldest it.gone)
    where
      s : PlainState
      s = run image params choices t

      h : TsoHolds none_riding none_carrying (run image params choices t)
      h = holds_run image params choices t few small

      within : c < length (run image params choices t).cores
      within = subst (λ (n : ℕ). c < n) (sym (run_cores image params choices t)) lt

  more : (t : ℕ) → Has t ⊎ Adds t → Has (suc t)
  more t is = subst (λ (l : List (ℕ × ℕ)). IsOneOf l (count, value)) (sym (values_append c before now)) (by is)
    where
      before : List LoggedLoad
      before = logged_loads image params choices t

      now : List LoggedLoad
      now = logged_in (event_by (run image params choices t) (chosen (run image params choices t) (choices t)))

      by : Has t ⊎ IsOneOf (values_of c now) (count, value) →
          IsOneOf (values_of c before ++ values_of c now) (count, value)
      by (inl first) = one_of_first (values_of c before) (values_of c now) (count, value) first
      by (inr second) = one_of_second (values_of c before) (values_of c now) (count, value) second

  less : (t : ℕ) → Has (suc t) → Has t ⊎ Adds t
  less t is =
      one_of_either (values_of c before) (values_of c now) (count, value)
      (subst (λ (l : List (ℕ × ℕ)). IsOneOf l (count, value)) (values_append c before now) is)
    where
      before : List LoggedLoad
      before = logged_loads image params choices t

      now : List LoggedLoad
      now = logged_in (event_by (run image params choices t) (chosen (run image params choices t) (choices t)))

  forth : (t : ℕ) → Has t → (u : ℕ) × (u < t) × LogsAt image params choices u c count value
  forth zero is = absurd is
  forth (suc t) is = by (less t is) (λ first. forth t first)
    where
      by : Has t ⊎ Adds t →
          (Has t → (u : ℕ) × (u < t) × LogsAt image params choices u c count value) →
          (u : ℕ) × (u < suc t) × LogsAt image params choices u c count value
      by (inl first) earlier =
          let it = earlier first in let before = it.1 in (it.0, omega (arith, before), it.2)
      by (inr second) earlier = (t, omega arith, logs_at t second)

  back : (t u : ℕ) → u < t → c < params.cores → LogsAt image params choices u c count value → Has t
  back zero u before lt it = absurd (omega (arith, before))
  back (suc t) u before lt it = elim (cases_eq u t) [
    | inl same ↦ more t (inr (at_logs t lt (subst (λ (x : ℕ). LogsAt image params choices x c count value) same it)))
    | inr other ↦ more t (inl (back t u (omega (arith, before, other)) lt it))
  ]

pub logged_law : LoggedLaw
unfolding tso_recording_of
logged_law image params schedule fits c count value lt = (
  λ is. forth image params choices fits.cores small c count value end (subst Has here is),
  λ it. subst Has (sym here) (back image params choices fits.cores small c count value end it.0 it.1 lt it.2),
)
  where
    choices : ℕ → ℕ
    choices = choice_at schedule

    end : ℕ
    end = end_of image params choices

    small : params.limit < 2 ^ 32
    small = let limit = fits.limit in omega (arith, limit)

    Has : List (ℕ × ℕ) → Type 0
    Has l = IsOneOf l (count, value)

    here : slice_index_or (values_at image params (choice_at schedule) (end_of image params (choice_at schedule))) c []
        ≡ values_of c (logged_loads image params (choice_at schedule) (end_of image params (choice_at schedule)))
    here =
        get_or-map-range_with_len (λ (k : ℕ). values_of k (logged_loads image params choices end)) 0 params.cores c c []
        lt (omega arith)
