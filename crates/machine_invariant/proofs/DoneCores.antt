-- Once each core's program is done, no port waits, so nothing is under way.
use Rattle.std.proofs.Common.{◌≡◌, subst, ℕ, ◌<◌, true, false}
use Rattle.std.proofs.Common.{length, Option, None, arith}
use Rattle.std.proofs.lemmas.List.Sums.{AllPass-from_list_all}
use Rattle.access_times.specs.Riding.{Riding, Carrying}
use Rattle.rtr_types.specs.declared.access.Kind.{Kind}
use Rattle.rv_core.specs.declared.core_state.Core.{Core}
use Rattle.rv_core.specs.declared.core_state.Need.{Need}
use Rattle.rv_core.specs.States.{starting}
use Rattle.rv_core.specs.Steps.{need, is_done, access_of as need_access}
use Rattle.msi_memory.specs.Acts.{waits}
use Rattle.msi_memory.specs.Memories.{port_at}
use Rattle.msi_laws.specs.Moving.{links_empty}
use Rattle.msi_state.specs.States.{State, core_at, all_done}
use Rattle.msi_laws.specs.Waits.{Awaited}
use Rattle.machine_invariant.specs.Holds.{MachineHolds}
use Rattle.msi_laws.proofs.TakenMessages.{quiet_links}

-- a core that is done needs no access
pub done_needs : (needed : Need) → is_done needed ≡ true → need_access needed ≡ None
done_needs needed done = grind arith

module _ {R K : Type 0} where
  -- each core is done
  pub done_at : (s : State R K) (c : ℕ) → all_done s ≡ true → c < length s.cores →
      is_done (need s.image (core_at s.cores c)) ≡ true
  done_at s c done within = AllPass-from_list_all (λ (core : Core). is_done (need s.image core)) s.cores done c
      (starting 0 0) within

  -- and its port doesn't wait
  pub done_still : (riding : Riding R) (carrying : Carrying K) (s : State R K) (c : ℕ) →
      MachineHolds riding carrying s → all_done s ≡ true →
      c < length s.cores → waits (port_at carrying s.memory.ports c).cache ≡ false
  done_still riding carrying s c h done within =
      subst (λ (needed : Option (Kind × ℕ)). Awaited needed riding (port_at carrying s.memory.ports c))
      (done_needs (need s.image (core_at s.cores c)) (done_at s c done within)) (h.cores c within).awaited

  pub links_left : (riding : Riding R) (carrying : Carrying K) (s : State R K) → MachineHolds riding carrying s →
      all_done s ≡ true →
      links_empty s.memory ≡ true
  links_left riding carrying s h done =
      quiet_links riding carrying s.memory h.memory (λ c within. done_still riding carrying s c h done
      (subst (λ (n : ℕ). c < n) h.ports_there within))
