-- What a move tells is of the core whose move it is, so that a clerk accepts it that accepts each instruction of the
-- cores that there may be.
use Rattle.std.proofs.Common.{◌≡◌, refl, sym, subst, ℕ, ◌+◌, ◌-◌, ◌<◌, ◌≤◌, ◌/◌, ◌==◌, ◌⊎◌, inl, inr, Bool, true, false}
use Rattle.std.proofs.Common.{◌&&◌, List, [], ◌∷◌, length, arith}
use Rattle.std.specs.Prelude.{drop, map, if◌then◌else◌}
use Rattle.std.specs.List.{range_with_len}
use Rattle.std.proofs.lemmas.List.{get_or_past}
use Rattle.access_times.specs.Riding.{Carrying, Riding}
use Rattle.image_mem.specs.Contents.{Contents}
use Rattle.link_order.specs.Queue.{is_nil}
use Rattle.rtr_types.specs.declared.TheConstants.{BLOCK_WORDS, CORES_MAX}
use Rattle.rtr_types.specs.declared.access.Access.{Access}
use Rattle.rtr_types.specs.declared.access.Kind.TheVariants.{Load as Loading, Store as Storing, Amo as Exchanging}
use Rattle.rtr_types.specs.declared.instr.Instr.{Instr}
use Rattle.rv_core.specs.declared.core_state.Core.{Core}
use Rattle.rv_core.specs.declared.core_state.Need.{Need}
use Rattle.rv_core.specs.declared.core_state.Need.TheVariants.{Local, Load, Store, Amo, Done}
use Rattle.rv_core.specs.States.{starting}
use Rattle.rv_core.specs.Steps.{need}
use Rattle.msi_memory.specs.declared.port.Port.{Port}
use Rattle.msi_memory.specs.Acts.{allows, data_next}
use Rattle.msi_memory.specs.Memories.{port_at, word_at}
use Rattle.msi_state.specs.Events.{access_of, next_instr, port_taken}
use Rattle.tso_clerk.specs.Telling.{AcceptsAll}
use Rattle.tso_state.specs.declared.moves.Move.{Move}
use Rattle.tso_state.specs.declared.moves.Move.TheVariants.{Core as CoreMove, Order as OrderMove}
use Rattle.tso_state.specs.declared.moves.Move.TheVariants.{Request as RequestMove, Response as ResponseMove}
use Rattle.tso_state.specs.declared.moves.Move.TheVariants.{FromHome as MessageMove}
use Rattle.tso_state.specs.declared.pending.Asker.{Asker}
use Rattle.tso_state.specs.declared.pending.Asker.TheVariants.{Nobody, Next, Head}
use Rattle.tso_state.specs.declared.pending.Pending.{Pending}
use Rattle.tso_state.specs.declared.pending.Pending.TheVariants.{Load as PendingLoad, Store as PendingStore}
use Rattle.tso_state.specs.Pending.{forwarded, left_by}
use Rattle.tso_state.specs.Events.{Event, Nothing, Executes, Buffers, Performs, Drains, Logs, Told, Alone, Ordered}
use Rattle.tso_state.specs.Events.{Logged, count_before, event_executing, event_granted, event_loading, event_ordering}
use Rattle.tso_state.specs.Events.{instr_told, locals_behind, tellings}
use Rattle.tso_state.specs.Moves.{core_of}
use Rattle.tso_state.specs.States.{BufferedCore, State, buffered_start, core_at}
use Rattle.tso_state.specs.Steps.{event, told}

-- what an event tells of is of this core
abbrev pub IsOf : ℕ → Event → Type 0
IsOf c Nothing = Unit {0}
IsOf c (Executes at) = at.core ≡ c
IsOf c (Buffers at pending) = Unit {0}
IsOf c (Performs a) = a.at.core ≡ c
IsOf c (Drains a) = a.at.core ≡ c
IsOf c (Logs at word value) = at.core ≡ c

module _ {R K : Type 0} (image : Contents) (riding : Riding R) (t : BufferedCore) (p : Port R K) where
  executing_of : (needed : Need) → IsOf t.core.id (event_executing needed image riding t p)
  executing_of Local = refl
  executing_of (Store word whole) = tt
  executing_of (Done stop) = tt
  executing_of (Load word) = by_allowed (allows riding p (word / BLOCK_WORDS) Loading)
    where
      by_nil : (n : Bool) → IsOf t.core.id (if n then Performs (access_of image riding t.core p word Loading)
          else Buffers (next_instr t.core)
          (PendingLoad (t.core.count + 1) word (forwarded t.queue word (word_at riding p word))))
      by_nil true = refl
      by_nil false = tt

      by_allowed : (l : Bool) → IsOf t.core.id (if l then event_loading image riding t p word else Nothing)
      by_allowed true = by_nil (is_nil t.queue)
      by_allowed false = tt
  executing_of (Amo word) = by_allowed (allows riding p (word / BLOCK_WORDS) Exchanging)
    where
      by_allowed : (l : Bool) →
          IsOf t.core.id (if l then Performs (access_of image riding t.core p word Exchanging) else Nothing)
      by_allowed true = refl
      by_allowed false = tt

  ordering_of_core : (queue : List Pending) → IsOf t.core.id (event_ordering queue riding t.core.id p)
  ordering_of_core [] = tt
  ordering_of_core (PendingLoad count word value ∷ rest) =
      by_test (allows riding p (word / BLOCK_WORDS) Loading && (word_at riding p word == value))
    where
      at : Instr
      at = record { core = t.core.id; count = count }

      read : Access
      read = record {
        at = at;
        word = word;
        kind = Loading;
        before = word_at riding p word;
        after = word_at riding p word;
      }

      by_test : (b : Bool) → IsOf t.core.id (if b then Drains read else Logs at word value)
      by_test true = refl
      by_test false = refl
  ordering_of_core (PendingStore count word mask bits ∷ rest) =
      by_allowed (allows riding p (word / BLOCK_WORDS) Storing)
    where
      written : Access
      written = record {
        at = record { core = t.core.id; count = count };
        word = word;
        kind = Storing;
        before = word_at riding p word;
        after = left_by (PendingStore count word mask bits) (word_at riding p word);
      }

      by_allowed : (l : Bool) → IsOf t.core.id (if l then Drains written else Nothing)
      by_allowed true = refl
      by_allowed false = tt

  granted_of : (asker : Asker) → IsOf t.core.id (event_granted asker image riding t p)
  granted_of Nobody = tt
  granted_of Next = executing_of (need image t.core)
  granted_of Head = ordering_of_core t.queue

module _ {R K : Type 0} where
  move_of : (riding : Riding R) (carrying : Carrying K) (s : State R K) (m : Move) →
      IsOf (core_at s.cores (core_of m)).core.id (event riding carrying s m)
  move_of riding carrying s (CoreMove c) =
      let t : BufferedCore = core_at s.cores c in
      executing_of s.image riding t (port_at carrying s.memory.ports c) (need s.image t.core)
  move_of riding carrying s (OrderMove c) =
      let t : BufferedCore = core_at s.cores c in
      ordering_of_core s.image riding t (port_at carrying s.memory.ports c) t.queue
  move_of riding carrying s (RequestMove c) = tt
  move_of riding carrying s (ResponseMove c) = tt
  move_of riding carrying s (MessageMove c) = by_data (data_next (port_at carrying s.memory.ports c).messages.items)
    where
      t : BufferedCore
      t = core_at s.cores c

      q : Port R K
      q = port_taken riding carrying (port_at carrying s.memory.ports c)

      by_data : (d : Bool) → IsOf t.core.id (if d then event_granted t.asker s.image riding t q else Nothing)
      by_data true = granted_of s.image riding t q t.asker
      by_data false = tt

-- ---- what is told

-- each of these is of one of so many cores
abbrev AreBelow : ℕ → List Told → Type 0
AreBelow cores [] = Unit {0}
AreBelow cores (e ∷ later) = ((instr_told e).core < cores) × AreBelow cores later

locals_below : (cores : ℕ) (core : Core) (count : ℕ) (queue : List Pending) → core.id < cores →
    AreBelow cores (locals_behind core count queue)
locals_below cores core count queue lt = each (range_with_len (count + 1) (count_before core queue - count))
  where
    each : (ns : List ℕ) → AreBelow cores (map (λ n. Alone (record { core = core.id; count = n })) ns)
    each [] = tt
    each (n ∷ ns) = (lt, each ns)

tellings_below : (cores : ℕ) (t : BufferedCore) (e : Event) → t.core.id < cores → IsOf t.core.id e →
    AreBelow cores (tellings t e)
tellings_below cores t Nothing lt is = tt
tellings_below cores t (Executes at) lt is = by_nil (is_nil t.queue)
  where
    by_nil : (b : Bool) → AreBelow cores (if b then Alone at ∷ [] else [])
    by_nil true = (subst (λ (n : ℕ). n < cores) (sym is) lt, tt)
    by_nil false = tt
tellings_below cores t (Buffers at x) lt is = tt
tellings_below cores t (Performs a) lt is = (subst (λ (n : ℕ). n < cores) (sym is) lt, tt)
tellings_below cores t (Drains a) lt is =
    (subst (λ (n : ℕ). n < cores) (sym is) lt, locals_below cores t.core a.at.count (drop 1 t.queue) lt)
tellings_below cores t (Logs at word value) lt is =
    (subst (λ (n : ℕ). n < cores) (sym is) lt, locals_below cores t.core at.count (drop 1 t.queue) lt)

-- a core's number is below the greatest, also where it isn't there
id_below : (cores : List BufferedCore) → length cores ≤ CORES_MAX →
    ((c : ℕ) → c < length cores → (core_at cores c).core.id ≡ c) → (c : ℕ) → (core_at cores c).core.id < CORES_MAX
unfolding starting
id_below cores few numbered c = by (lemma c (length cores))
  where
    lemma : (a b : ℕ) → (a < b) ⊎ (b ≤ a)
    lemma a b = grind arith

    by : (c < length cores) ⊎ (length cores ≤ c) → (core_at cores c).core.id < CORES_MAX
    by (inl here) = let same = numbered c here in omega (arith, same, few, here)
    by (inr past) =
        subst (λ (t : BufferedCore). t.core.id < CORES_MAX) (sym (get_or_past cores c (buffered_start 0 0) past))
        (let none : (buffered_start 0 0).core.id ≡ 0 = refl in omega (arith, none))

-- ---- what is accepted

module _ {R K C : Type 0} (local : C → Instr → K → C → Type 0) (touch : C → R → Access → K → C → R → Type 0)
    (logged : C → Instr → ℕ → ℕ → K → C → Type 0) (carrying : Carrying K) where
  abbrev pub AcceptsCores : List Told → K → C → R → Type 0
  AcceptsCores list carry c found =
      AcceptsAll (λ (clerk : C) (at : Instr). at.core < CORES_MAX) (λ (clerk : C) (at : Instr). at.core < CORES_MAX)
      local touch logged carrying list carry c found

  below_accepted : (list : List Told) → AreBelow CORES_MAX list → (carry : K) (c : C) (found : R) →
      AcceptsCores list carry c found
  below_accepted [] are carry c found = tt
  below_accepted (Alone at ∷ later) are carry c found =
      (are.0, λ after left told. below_accepted later are.1 (carrying.retired carry at) after found)
  below_accepted (Ordered a ∷ later) are carry c found =
      (are.0, λ after left told. below_accepted later are.1 (carrying.retired carry a.at) after found)
  below_accepted (Logged at word value ∷ later) are carry c found =
      (are.0, λ after left told. below_accepted later are.1 (carrying.retired carry at) after found)

  pub cores_accepted : (riding : Riding R) (s : State R K) (m : Move) (carry : K) (c : C) (found : R) →
      length s.cores ≤ CORES_MAX →
      ((core : ℕ) → core < length s.cores → (core_at s.cores core).core.id ≡ core) →
      AcceptsCores (told riding carrying s m) carry c found
  cores_accepted riding s m carry c found few numbered =
      let t : BufferedCore = core_at s.cores (core_of m) in
      below_accepted (told riding carrying s m)
      (tellings_below CORES_MAX t (event riding carrying s m) (id_below s.cores few numbered (core_of m))
      (move_of riding carrying s m)) carry c found
