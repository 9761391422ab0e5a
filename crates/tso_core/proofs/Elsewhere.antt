-- What stays as it was: what a core can do, by its cache, and what a move doesn't change of the other cores.
use Rattle.std.proofs.Common.{◌≡◌, ◌≢◌, refl, ap, ℕ, Bool, List, [], ◌∷◌, length, nat_lt}
use Rattle.std.proofs.Common.{◌&&◌, ◌||◌, ◌/◌}
use Rattle.std.specs.Prelude.{not}
use Rattle.access_times.specs.Riding.{Riding, Carrying}
use Rattle.image_mem.specs.Contents.{Contents}
use Rattle.link_order.specs.Queue.{is_nil}
use Rattle.rtr_types.specs.declared.TheConstants.{BLOCK_WORDS}
use Rattle.rtr_types.specs.declared.access.Kind.TheVariants.{Load as Loading, Store as Storing}
use Rattle.rv_core.specs.declared.core_state.Need.{Need}
use Rattle.rv_core.specs.declared.core_state.Need.TheVariants.{Local, Load, Store, Amo, Done}
use Rattle.rv_core.specs.Steps.{need}
use Rattle.msi_cache.specs.Lines.{is_allowed, line_for, waits}
use Rattle.msi_memory.specs.declared.port.Port.{Port}
use Rattle.msi_memory.specs.Memories.{port_at}
use Rattle.move_marks.proofs.OnePort.{one_other, port_other, same_long}
use Rattle.machine_ports.proofs.Elsewhere.{MovedAt}
use Rattle.tso_state.specs.declared.moves.Move.TheVariants.{Core as CoreMove, Order as OrderMove}
use Rattle.tso_state.specs.declared.pending.Pending.{Pending}
use Rattle.tso_state.specs.declared.pending.Pending.TheVariants.{Load as PendingLoad, Store as PendingStore}
use Rattle.tso_state.specs.States.{BufferedCore, State, buffered_start, core_at}
use Rattle.tso_state.specs.Steps.{can_execute, can_order, case_holds, enabled, has_room, is_fence, is_next}

-- ---- what a core can do hangs on what its cache holds
module _ {R K : Type 0} where
  case_by : (needed : Need) (fence : Bool) (riding : Riding R) (queue : List Pending) (p q : Port R K) →
      p.cache ≡ q.cache →
      case_holds needed fence riding queue p ≡ case_holds needed fence riding queue q
  case_by Local fence riding queue p q same = refl
  case_by (Store word whole) fence riding queue p q same = refl
  case_by (Load word) fence riding queue p q same =
      λ i. has_room queue && (is_allowed (line_for riding.fresh (same i) (word / BLOCK_WORDS)) (word / BLOCK_WORDS)
      Loading || not (waits (same i)))
  case_by (Amo word) fence riding queue p q same = λ i. is_nil queue && not (waits (same i))
  case_by (Done stop) fence riding queue p q same = refl

  pub can_execute_by : (image : Contents) (riding : Riding R) (t : BufferedCore) (p q : Port R K) → p.cache ≡ q.cache →
      can_execute image riding t p ≡ can_execute image riding t q
  can_execute_by image riding t p q same =
      ap (λ (b : Bool). not (is_next t.asker) && b) (case_by (need image t.core) (is_fence image t.core) riding t.queue
      p q same)

  pub can_order_by : (queue : List Pending) (riding : Riding R) (p q : Port R K) → p.cache ≡ q.cache →
      can_order queue riding p ≡ can_order queue riding q
  can_order_by [] riding p q same = refl
  can_order_by (PendingLoad count word value ∷ rest) riding p q same = refl
  can_order_by (PendingStore count word mask bits ∷ rest) riding p q same =
      λ i. is_allowed (line_for riding.fresh (same i) (word / BLOCK_WORDS)) (word / BLOCK_WORDS) Storing || not
      (waits (same i))

-- what another core can do is what it could
module _ {R K : Type 0} (riding : Riding R) (carrying : Carrying K) (s t : State R K) (c d : ℕ)
    (moved : MovedAt s t c) (other : d ≢ c) where
  core_other : core_at t.cores d ≡ core_at s.cores d
  core_other = one_other s.cores t.cores c moved.cores (buffered_start 0 0) d other

  port_there : port_at carrying t.memory.ports d ≡ port_at carrying s.memory.ports d
  port_there = port_other carrying s.memory t.memory c moved.memory d other

  long : length t.cores ≡ length s.cores
  long = same_long s.cores t.cores c moved.cores

  pub own_elsewhere : enabled riding carrying t (CoreMove d) ≡ enabled riding carrying s (CoreMove d)
  own_elsewhere = λ i. nat_lt d (long i) && can_execute (moved.image i) riding (core_other i) (port_there i)

  pub order_elsewhere : enabled riding carrying t (OrderMove d) ≡ enabled riding carrying s (OrderMove d)
  order_elsewhere = λ i. nat_lt d (long i) && can_order (core_other i).queue riding (port_there i)
