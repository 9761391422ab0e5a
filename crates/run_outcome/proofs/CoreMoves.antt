-- What each move does to the cores, and what is told of it.
use Rattle.std.proofs.Common.{◌≡◌, ◌∙◌, refl, sym, ap, subst, ℕ, ◌+◌, ◌<◌, false, List, length, Option, Some, None}
use Rattle.std.specs.Prelude.{slice_set, IsTrue}
use Rattle.access_times.specs.Riding.{Riding, Carrying}
use Rattle.image_mem.specs.Contents.{Contents}
use Rattle.rtr_types.specs.Accesses.{is_write}
use Rattle.rtr_types.specs.declared.access.Access.{Access}
use Rattle.rtr_types.specs.declared.access.Kind.{Kind}
use Rattle.rtr_types.specs.declared.instr.Instr.{Instr}
use Rattle.rv_core.specs.declared.core_state.Core.{Core}
use Rattle.rv_core.specs.Steps.{need, after, wrote, is_done, access_of as used_by}
use Rattle.rv_core.proofs.LawLemmas.{unwritten_law}
use Rattle.rv_core.proofs.OpLemmas.{access_goes}
use Rattle.msi_memory.specs.declared.port.Port.{Port}
use Rattle.msi_memory.specs.Memories.{port_at}
use Rattle.msi_state.specs.declared.moves.Move.{Move}
use Rattle.msi_state.specs.declared.moves.Move.TheVariants.{Core as CoreMove, Request as RequestMove}
use Rattle.msi_state.specs.declared.moves.Move.TheVariants.{Response as ResponseMove, FromHome as MessageMove}
use Rattle.msi_state.specs.Events.{Event, Nothing, Retires, Accesses, access_of, next_instr, port_taken}
use Rattle.msi_state.specs.States.{State, core_at}
use Rattle.msi_state.specs.Steps.{cores_after, enabled, event, step}
use Rattle.machine_invariant.specs.Holds.{MachineHolds}
use Rattle.machine_invariant.proofs.Awaits.{core_cases, core_enabled, enabled_core, message_cases}

-- the core of `at`, which isn't done, has retired its next instruction, which is `at`: it used this, and found this
pub record Retiring (image : Contents) (old : List Core) (at : Instr) (used : Option (Kind × ℕ)) (found : ℕ)
    (new : List Core) : Type 0 where
  pub within : at.core < length old
  pub count : at.count ≡ (core_at old at.core).count + 1
  pub going : is_done (need image (core_at old at.core)) ≡ false
  pub uses : used_by (need image (core_at old at.core)) ≡ used
  pub cores : new ≡ slice_set old at.core (after image (core_at old at.core) found)

-- and the instruction is an access
pub record Accessing (image : Contents) (old : List Core) (a : Access) (new : List Core) : Type 0 where
  pub retires : Retiring image old a.at (Some (a.kind, a.word)) a.before new
  pub after_is : a.after ≡ wrote image (core_at old a.at.core) a.before
  pub reads : is_write a.kind ≡ false → a.after ≡ a.before

-- the cores before and after what an event tells of
abbrev pub CoresAfter : Contents → List Core → Event → List Core → Type 0
CoresAfter image old Nothing new = new ≡ old
CoresAfter image old (Retires at) new = Retiring image old at None 0 new
CoresAfter image old (Accesses a) new = Accessing image old a new

-- ---- a core at its place retires

module _ (image : Contents) (cores : List Core) (c : ℕ) (within : c < length cores) (number : (core_at cores c).id ≡ c)
  where
    here : core_at cores (core_at cores c).id ≡ core_at cores c
    here = ap (core_at cores) number

    retires : (used : Option (Kind × ℕ)) (found : ℕ) → is_done (need image (core_at cores c)) ≡ false →
        used_by (need image (core_at cores c)) ≡ used
        → Retiring image cores (next_instr (core_at cores c)) used found
        (slice_set cores c (after image (core_at cores c) found))
    retires used found going uses = record {
      within = subst (λ (d : ℕ). d < length cores) (sym number) within;
      count = ap (λ (k : Core). k.count + 1) (sym here);
      going = ap (λ (k : Core). is_done (need image k)) here ∙ going;
      uses = ap (λ (k : Core). used_by (need image k)) here ∙ uses;
      cores =
          ap (λ (d : ℕ). slice_set cores d (after image (core_at cores c) found)) (sym number)
          ∙ ap (λ (k : Core). slice_set cores (core_at cores c).id (after image k found)) (sym here);
    }

    makes_access : {R K : Type 0} (riding : Riding R) (p : Port R K) (kind : Kind) (word : ℕ)
        → used_by (need image (core_at cores c)) ≡ Some (kind, word)
        → Accessing image cores (access_of image riding (core_at cores c) p word kind)
        (cores_after image c (Accesses (access_of image riding (core_at cores c) p word kind)) cores)
    makes_access riding p kind word uses =
        let a : Access = access_of image riding (core_at cores c) p word kind in
        record {
          retires = retires (Some (kind, word)) a.before (access_goes (need image (core_at cores c)) kind word uses)
              uses;
          after_is = ap (λ (k : Core). wrote image k a.before) (sym here);
          reads = λ reads. unwritten_law image (core_at cores c) kind word a.before uses reads;
        }

module _ {R K : Type 0} where
  -- an enabled move of a state that has the invariant
  pub cores_moved : (riding : Riding R) (carrying : Carrying K) (s : State R K) (m : Move) (rider : R)
      → IsTrue (enabled riding carrying s m) → MachineHolds riding carrying s
      → CoresAfter s.image s.cores (event riding carrying s m) (step riding carrying rider s m).cores
  cores_moved riding carrying s (CoreMove c) rider e h =
      let can = core_enabled riding carrying s c e in
      let number = (h.cores c can.core).number in
      core_cases riding carrying s c (λ needed x. CoresAfter s.image s.cores x (cores_after s.image c x s.cores)) e
      (λ none. retires s.image s.cores c can.core number None 0 can.more none)
      (λ kind word uses denied. refl)
      (λ kind word uses allowed. makes_access s.image s.cores c can.core number riding (port_at carrying s.memory.ports
      c) kind word uses)
  cores_moved riding carrying s (MessageMove c) rider e h =
      let lc = enabled_core riding carrying s (MessageMove c) e h in
      let p : Port R K = port_taken riding carrying (port_at carrying s.memory.ports c) in
      message_cases riding carrying s c (λ x. CoresAfter s.image s.cores x (cores_after s.image c x s.cores)) h lc
      (λ quiet. refl)
      (λ kind word comes uses allowed still. makes_access s.image s.cores c lc (h.cores c lc).number riding p kind word
      uses)
  cores_moved riding carrying s (RequestMove c) rider e h = refl
  cores_moved riding carrying s (ResponseMove c) rider e h = refl
