-- What the cores' instructions can pay for: a step leaves that as it is, so that fewer steps are left after it. A
-- core's instructions can pay for its limit, and its cache for sixteen lines once. So a state has earned at most that
-- and what is owed, and a step leaves the sum of what can be paid as it is.
use Rattle.std.proofs.Common.{◌≡◌, ◌∙◌, ap, refl, ℕ, ◌+◌, ◌*◌, ◌<◌, ◌≤◌, true, false, List, [], ◌∷◌, length, arith}
use Rattle.std.proofs.Math.Nat.{mul-le-mul_left, mul-add}
use Rattle.std.specs.Prelude.{slice_set}
use Rattle.std.specs.List.{sum_by}
use Rattle.std.proofs.lemmas.List.Sums.{sum_by-cons}
use Rattle.access_times.specs.Riding.{Riding, Carrying}
use Rattle.image_mem.specs.Contents.{Contents}
use Rattle.rv_core.specs.declared.core_state.Core.{Core}
use Rattle.rv_core.specs.declared.core_state.Need.{Need}
use Rattle.rv_core.specs.declared.core_state.Need.TheVariants.{Local, Load, Store, Amo, Done}
use Rattle.rv_core.specs.Steps.{need, is_done}
use Rattle.rv_core.proofs.LawLemmas.{limit_law, room_law}
use Rattle.msi_cache.specs.Lines.{waits}
use Rattle.msi_memory.specs.declared.port.Port.{Port}
use Rattle.msi_memory.specs.Memories.{port_at, no_port}
use Rattle.msi_laws.specs.Holds.{PortHolds}
use Rattle.machine_bound.proofs.Sums.{sum_kept}
use Rattle.tso_state.specs.declared.moves.Move.{Move}
use Rattle.tso_state.specs.declared.moves.Move.TheVariants.{Core as CoreMove, Order as OrderMove}
use Rattle.tso_state.specs.declared.moves.Move.TheVariants.{Request as RequestMove, Response as ResponseMove}
use Rattle.tso_state.specs.declared.moves.Move.TheVariants.{FromHome as MessageMove}
use Rattle.tso_state.specs.declared.pending.Pending.{Pending}
use Rattle.tso_state.specs.declared.pending.Pending.TheVariants.{Load as PendingLoad, Store as PendingStore}
use Rattle.tso_state.specs.declared.pending.Asker.{Asker}
use Rattle.tso_state.specs.declared.pending.Asker.TheVariants.{Nobody, Next, Head}
use Rattle.tso_state.specs.Moves.{core_of}
use Rattle.tso_state.specs.States.{State, BufferedCore, buffered_start, core_at}
use Rattle.tso_state.specs.Events.{Event, Nothing, Executes, Buffers, Performs, Drains, Logs, core_after}
use Rattle.tso_state.specs.Pending.{value_of}
use Rattle.tso_state.specs.Steps.{core_left, cores_after, enabled, event, step}
use Rattle.tso_invariant.specs.Holds.{BufferedHolds, TsoHolds, is_asking, may_ask, next_may_ask}
use Rattle.tso_invariant.proofs.MoveInvariant.{core_port, step_cores}
use Rattle.tso_bound.specs.Bound.{capacity, core_cost, empty_worth, left, paid, pending_cost, port_worth, queue_cost}
use Rattle.tso_bound.specs.Bound.{total_earned, total_owed}
use Rattle.tso_bound.proofs.Ports.{still_port, waiting_port}
use Rattle.tso_bound.proofs.StepPayments.{earns}
use Rattle.tso_bound.proofs.Sums.{sum_both, sums_beside}

-- an event leaves a core's limit
limit_after : (image : Contents) (core : Core) (e : Event) → (core_after image core e).limit ≡ core.limit
limit_after image core (Executes at) = limit_law image core 0
limit_after image core (Buffers at x) = limit_law image core (value_of x)
limit_after image core (Performs a) = limit_law image core a.before
limit_after image core Nothing = refl
limit_after image core (Drains a) = refl
limit_after image core (Logs at word value) = refl

-- an instruction that asks isn't done
asking_more : (needed : Need) (queue : List Pending) → next_may_ask needed queue ≡ true → is_done needed ≡ false
asking_more Local queue e = absurd (cc)
asking_more (Load word) queue e = refl
asking_more (Store word whole) queue e = absurd (cc)
asking_more (Amo word) queue e = refl
asking_more (Done stop) queue e = absurd (cc)

-- a head store takes two rounds
head_costs : (cores : ℕ) (needed : Need) (queue : List Pending) → may_ask Head needed queue ≡ true →
    2 * cores + 4 ≤ queue_cost cores queue
head_costs cores needed [] e = absurd (cc)
head_costs cores needed (PendingLoad count word value ∷ rest) e = absurd (cc)
head_costs cores needed (PendingStore count word mask bits ∷ rest) e =
    let f = sum_by-cons (pending_cost cores) (PendingStore count word mask bits) rest in omega arith

-- no core has earned more than its instructions can pay for and what its pending accesses may take
module _ {R K : Type 0} where
  core_earned_le : (image : Contents) (riding : Riding R) (blocks cores c : ℕ) (t : BufferedCore) (p : Port R K) →
      1 ≤ cores → PortHolds riding blocks p →
      BufferedHolds image riding c t p → paid cores t + port_worth cores p ≤ capacity cores t + core_cost cores t
  core_earned_le image riding blocks cores c t p some holds h = by_asker t.asker h.fits.asks h.waiting
    where
      all : (2 * cores + 5) * t.core.count ≤ (2 * cores + 5) * t.core.limit
      all = mul-le-mul_left (2 * cores + 5) h.fits.count_fits

      by_asker : (a : Asker) → may_ask a (need image t.core) t.queue ≡ true → waits p.cache ≡ is_asking a →
          paid cores t + port_worth cores p ≤ capacity cores t + core_cost cores t
      by_asker Nobody asks w = let le = still_port riding cores p holds.all_lines w in let k = all in omega arith
      by_asker Next asks w =
          let le = waiting_port riding blocks cores p holds some w in
          let room = room_law image t.core (asking_more (need image t.core) t.queue asks) in
          let more : (2 * cores + 5) * (t.core.count + 1) ≤ (2 * cores + 5) * t.core.limit =
          mul-le-mul_left (2 * cores + 5) (omega arith) in
          let one : (2 * cores + 5) * (t.core.count + 1) ≡ (2 * cores + 5) * t.core.count + (2 * cores + 5) * 1 =
          mul-add (2 * cores + 5) t.core.count 1 in
          omega arith
      by_asker Head asks w =
          let le = waiting_port riding blocks cores p holds some w in
          let costs = head_costs cores (need image t.core) t.queue asks in
          let k = all in
          omega arith

  pub total_earned_le : (riding : Riding R) (carrying : Carrying K) (s : State R K) → TsoHolds riding carrying s →
      total_earned s ≤ sum_by (capacity (length s.cores)) s.cores + total_owed s
  total_earned_le riding carrying s h =
      let n : ℕ = length s.cores in
      let le = sums_beside (paid n) (port_worth {R = R} {K = K} n) (λ (t : BufferedCore). capacity n t + core_cost n t)
      s.cores s.memory.ports
      (buffered_start 0 0) (no_port carrying) h.ports_there
      (λ c lt. core_earned_le s.image riding (length s.memory.home) n c (core_at s.cores c)
      (port_at carrying s.memory.ports c) (let f = lt in omega arith)
      (h.memory.ports c (core_port riding carrying s c h lt)) (h.cores c lt)) in
      let both = sum_both (capacity n) (core_cost n) s.cores in
      omega arith

  -- a step leaves what all can pay for
  pub capacity_kept : (riding : Riding R) (carrying : Carrying K) (s : State R K) (m : Move) (rider : R) (cores : ℕ) →
      sum_by (capacity cores) (step riding carrying rider s m).cores ≡ sum_by (capacity cores) s.cores
  capacity_kept riding carrying s m rider cores = by_move m
    where
      set : (x : Move) →
          sum_by (capacity cores) (slice_set s.cores (core_of x) (core_left riding carrying s x))
          ≡ sum_by (capacity cores) s.cores
      set x =
          sum_kept (capacity cores) s.cores (core_of x) (core_left riding carrying s x) (buffered_start 0 0)
          (ap (λ (n : ℕ). (2 * cores + 5) * n + empty_worth)
          (limit_after s.image (core_at s.cores (core_of x)).core (event riding carrying s x)))

      by_move : (x : Move) → sum_by (capacity cores) (cores_after riding carrying s x) ≡ sum_by (capacity cores) s.cores
      by_move (CoreMove c) = set (CoreMove c)
      by_move (OrderMove c) = set (OrderMove c)
      by_move (RequestMove c) = refl
      by_move (ResponseMove c) = refl
      by_move (MessageMove c) = set (MessageMove c)

  -- for as many cores as there are then
  capacities_kept : (riding : Riding R) (carrying : Carrying K) (rider : R) (s : State R K) (m : Move) →
      sum_by (capacity (length (step riding carrying rider s m).cores)) (step riding carrying rider s m).cores
      ≡ sum_by (capacity (length s.cores)) s.cores
  capacities_kept riding carrying rider s m =
      ap (λ (n : ℕ). sum_by (capacity n) (step riding carrying rider s m).cores) (step_cores riding carrying rider s m)
      ∙ capacity_kept riding carrying s m rider (length s.cores)

  -- after a step fewer are left
  pub nearer : (riding : Riding R) (carrying : Carrying K) (s : State R K) (m : Move) (rider : R) →
      enabled riding carrying s m ≡ true →
      TsoHolds riding carrying s → TsoHolds riding carrying (step riding carrying rider s m) →
      left (step riding carrying rider s m) < left s
  nearer riding carrying s m rider e h k =
      let t : State R K = step riding carrying rider s m in
      let pays : total_earned s + total_owed t + 1 ≤ total_earned t + total_owed s =
      earns riding carrying s m rider e h in
      let same : sum_by (capacity (length t.cores)) t.cores ≡ sum_by (capacity (length s.cores)) s.cores =
      capacities_kept riding carrying rider s m in
      let lt = total_earned_le riding carrying t k in
      let ls = total_earned_le riding carrying s h in
      omega arith
