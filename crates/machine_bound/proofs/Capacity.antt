-- What the cores' instructions can pay for: a step leaves that as it is, so that fewer steps are left after it.
use Rattle.std.proofs.Common.{◌≡◌, ◌∙◌, ap, refl, ℕ, ◌+◌, ◌*◌, ◌<◌, ◌≤◌, Bool, true, false, length, arith, IsTrue}
use Rattle.std.proofs.Math.Nat.{mul-le-mul_left, mul-add}
use Rattle.std.specs.List.{sum_by}
use Rattle.access_times.specs.Riding.{Riding, Carrying}
use Rattle.image_mem.specs.Contents.{Contents}
use Rattle.rv_core.specs.declared.core_state.Core.{Core}
use Rattle.rv_core.specs.States.{starting}
use Rattle.rv_core.specs.Steps.{need, is_done, access_of as need_access}
use Rattle.rv_core.proofs.LawLemmas.{limit_law, room_law}
use Rattle.msi_memory.specs.declared.port.Port.{Port}
use Rattle.msi_memory.specs.Memories.{port_at, no_port}
use Rattle.msi_state.specs.declared.moves.Move.{Move}
use Rattle.msi_state.specs.States.{State, core_at}
use Rattle.msi_state.specs.Events.{Event, Nothing, Retires, Accesses}
use Rattle.msi_state.specs.Moves.{core_of}
use Rattle.msi_state.specs.Steps.{enabled, event, step}
use Rattle.machine_invariant.specs.Holds.{MachineHolds}
use Rattle.machine_bound.specs.Bound.{earned, capacity, total_owed, total_earned, left}
use Rattle.machine_invariant.proofs.StepFrame.{core_after, step_cores}
use Rattle.machine_bound.proofs.Sums.{sum_kept, sum_at_most}
use Rattle.machine_bound.proofs.PortEarns.{base_le, done_base}
use Rattle.machine_bound.proofs.Payments.{cores_set, earns}

-- an event leaves a core's limit
pub limit_after : (image : Contents) (core : Core) (e : Event) → (core_after image e core).limit ≡ core.limit
limit_after image core Nothing = refl
limit_after image core (Retires at) = limit_law image core 0
limit_after image core (Accesses a) = limit_law image core a.before

earned_at_most : {R K : Type 0} (image : Contents) (riding : Riding R) (cores : ℕ) (core : Core) (p : Port R K) →
    1 ≤ cores → core.count ≤ core.limit →
    earned image riding cores (core, p) ≤ capacity cores core
earned_at_most image riding cores core p some fits = by_done (is_done (need image core)) refl
  where
    by_done : (t : Bool) → is_done (need image core) ≡ t → earned image riding cores (core, p) ≤ capacity cores core
    by_done true e =
        let f : (2 * cores + 4) * core.count ≤ (2 * cores + 4) * core.limit = mul-le-mul_left (2 * cores + 4) fits in
        let base = done_base (need image core) riding cores p e in
        omega arith
    by_done false more =
        let le = base_le (need_access (need image core)) (is_done (need image core)) riding cores p some in
        let e : (2 * cores + 4) * (core.count + 1) ≤ (2 * cores + 4) * core.limit =
        mul-le-mul_left (2 * cores + 4) (let lt = room_law image core more in omega arith) in
        let f : (2 * cores + 4) * (core.count + 1) ≡ (2 * cores + 4) * core.count + (2 * cores + 4) * 1 =
        mul-add (2 * cores + 4) core.count 1 in
        omega arith

module _ {R K : Type 0} where
  pub capacity_kept : (riding : Riding R) (carrying : Carrying K) (s : State R K) (m : Move) (rider : R) (cores : ℕ) →
      sum_by (capacity cores) (step riding carrying rider s m).cores ≡ sum_by (capacity cores) s.cores
  capacity_kept riding carrying s m rider cores =
      let e : Event = event riding carrying s m in
      let c : ℕ = core_of m in
      ap (sum_by (capacity cores)) (cores_set s.image c e s.cores)
      ∙ sum_kept (capacity cores) s.cores c (core_after s.image e (core_at s.cores c)) (starting 0 0)
      (ap (λ (x : ℕ). (2 * cores + 4) * x) (limit_after s.image (core_at s.cores c) e))

  -- no core has earned more than its instructions can pay for
  pub total_earned_le : (riding : Riding R) (carrying : Carrying K) (s : State R K) → MachineHolds riding carrying s →
      total_earned riding s ≤ sum_by (capacity (length s.cores)) s.cores
  total_earned_le riding carrying s h =
      sum_at_most (earned s.image riding (length s.cores)) (capacity (length s.cores)) s.cores s.memory.ports
      (starting 0 0) (no_port carrying) h.ports_there
      (λ c lt. earned_at_most s.image riding (length s.cores) (core_at s.cores c) (port_at carrying s.memory.ports c)
      (let f = lt in omega arith)
      (h.cores c lt).count_fits)

  -- after a step fewer are left
  pub nearer : (riding : Riding R) (carrying : Carrying K) (s : State R K) (m : Move) (rider : R) →
      IsTrue (enabled riding carrying s m) →
      MachineHolds riding carrying s → MachineHolds riding carrying (step riding carrying rider s m) →
      left riding (step riding carrying rider s m) < left riding s
  nearer riding carrying s m rider e h k =
      let t : State R K = step riding carrying rider s m in
      let pays : total_earned riding s + total_owed t + 1 ≤ total_earned riding t + total_owed s =
      earns riding carrying s m rider e h in
      let same : sum_by (capacity (length t.cores)) t.cores ≡ sum_by (capacity (length s.cores)) s.cores =
      ap (λ (n : ℕ). sum_by (capacity n) t.cores) (step_cores riding carrying rider s m)
      ∙ capacity_kept riding carrying s m rider (length s.cores) in
      let lt = total_earned_le riding carrying t k in
      let ls = total_earned_le riding carrying s h in
      omega arith
