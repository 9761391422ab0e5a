-- What is noted at the start: nothing is under way, and each core that may move is marked.
use Rattle.std.proofs.Common.{◌≡◌, ◌≢◌, ◌∙◌, ◌⊎◌, inl, inr, refl, sym, subst, ap, ℕ, ◌<◌, ◌≤◌, Bool, false, List}
use Rattle.std.proofs.Common.{[], ◌∷◌, length, get_or}
use Rattle.std.proofs.Common.{replicate, ◌&&◌}
use Rattle.std.specs.Prelude.{map}
use Rattle.std.specs.List.{range_with_len}
use Rattle.std.proofs.lemmas.List.{get_or-map, get_or_past, length-map}
use Rattle.std.proofs.lemmas.List.FromFn.{length-map-range_with_len}
use Rattle.std.proofs.lemmas.Bool.{cases_lt}
use Rattle.access_times.specs.Riding.{Riding, Carrying}
use Rattle.image_mem.specs.Contents.{Contents}
use Rattle.rtr_types.specs.CoreSets.{has}
use Rattle.rtr_types.specs.declared.TheConstants.{CORES_MAX}
use Rattle.rv_core.specs.declared.core_state.Core.{Core}
use Rattle.rv_core.specs.States.{starting}
use Rattle.msi_cache.specs.Lines.{waits}
use Rattle.msi_memory.specs.declared.port.Port.{Port}
use Rattle.msi_memory.specs.Memories.{port_start}
use Rattle.move_marks.specs.declared.marks.MoveKind.{MoveKind}
use Rattle.move_marks.specs.declared.marks.MoveKind.TheVariants.{Own, Request}
use Rattle.move_marks.specs.Kinds.{set_of}
use Rattle.move_marks.specs.Ports.{PortsNoted}
use Rattle.move_marks.proofs.AnswerMarks.{past_is}
use Rattle.move_marks.proofs.Idle.{idle_noted}
use Rattle.msi_state.specs.declared.moves.Move.TheVariants.{Core as CoreMove}
use Rattle.msi_state.specs.States.{Machinery, State, state_start}
use Rattle.msi_state.specs.Steps.{enabled}
use Rattle.machine_invariant.specs.Holds.{MachineHolds}
use Rattle.msi_machine.specs.declared.marks.Marks.{Marks}
use Rattle.msi_machine.specs.declared.standing.Standing.{Standing}
use Rattle.msi_machine.specs.Standings.{NotesFit, StandingsFit, may_begin, may_work, next_in, next_of, standing_at}
use Rattle.msi_machine.specs.Standings.{standing_with}
use Rattle.msi_machine.proofs.MarksAfterMoves.{own_marked}
use Rattle.msi_machine.proofs.Standings.{standings_long, stands_at}

next_first : (image : Contents) (cores : List Core) →
    map next_of (map (λ (core : Core). standing_with image core false) cores) ≡ map (next_in image) cores
next_first image [] = refl
next_first image (core ∷ cores) = ap (λ rest. next_in image core ∷ rest) (next_first image cores)

module _ {R K : Type 0} where
  waits_first : (image : Contents) (cores : List Core) (port : Port R K) → waits port.cache ≡ false →
      map (λ (x : Standing). x.waits) (map (λ (core : Core). standing_with image core false) cores)
      ≡ map (λ (p : Port R K). waits p.cache) (replicate (length cores) port)
  waits_first image [] port still = refl
  waits_first image (core ∷ cores) port still =
      (λ i. still_first i ∷ waits_first image cores port still i)
    where
      still_first : false ≡ waits port.cache
      still_first = sym still

  -- no port waits at the start
  pub first_stand : (riding : Riding R) (carrying : Carrying K) (image : Contents) (cores limit : ℕ) →
      StandingsFit (state_start riding carrying image cores limit)
      (map (λ (core : Core). standing_with image core false) (map (λ (id : ℕ). starting id limit)
      (range_with_len 0 cores)))
  first_stand riding carrying image cores limit =
      record {
        next = next_first image (map (λ (id : ℕ). starting id limit) (range_with_len 0 cores));
        waits = waits_first image (map (λ (id : ℕ). starting id limit) (range_with_len 0 cores))
            (port_start riding carrying) refl
            ∙ ap (λ (n : ℕ). map (λ (p : Port R K). waits p.cache) (replicate n (port_start riding carrying)))
            (length-map-range_with_len (λ (id : ℕ). starting id limit) 0 cores);
      }

  -- a core may begin where it can move
  begins : (riding : Riding R) (carrying : Carrying K) (s : State R K) (standings : List Standing) (d : ℕ) →
      MachineHolds riding carrying s →
      StandingsFit s standings → may_begin standings d ≡ enabled riding carrying s (CoreMove d)
  begins riding carrying s standings d holds fit = by (cases_lt d (length s.cores))
    where
      by : (d < length s.cores) ⊎ (length s.cores ≤ d) → get_or (map may_work standings) d false ≡ enabled riding
          carrying s (CoreMove d)
      by (inl within) =
          let idle = standing_at carrying s d in
          get_or-map may_work standings d idle false (subst (λ (n : ℕ). d < n) (sym (standings_long s standings fit))
          within)
          ∙ own_marked riding carrying s d (get_or standings d idle) within
          (stands_at carrying s standings d idle fit within (subst (λ (n : ℕ). d < n) (sym holds.ports_there) within))
      by (inr past) =
          get_or_past (map may_work standings) d false
          (subst (λ (n : ℕ). n ≤ d) (sym (length-map standings may_work ∙ standings_long s standings fit)) past)
          ∙ sym (ap (λ (b : Bool). b && may_work (standing_at carrying s d)) (past_is d (length s.cores) past))

  pub notes_begin : (riding : Riding R) (carrying : Carrying K) (image : Contents) (cores limit : ℕ) (m : Machinery R K)
      (standings : List Standing)
      (marks : Marks) → m.state ≡ state_start riding carrying image cores limit → MachineHolds riding carrying m.state →
      standings ≡ map (λ (core : Core). standing_with image core false) m.state.cores → marks.cores ≡ length standings →
      ((c : ℕ) → has (set_of Own marks.moves) c ≡ may_begin standings c) →
      ((k : MoveKind) → k ≢ Own → (c : ℕ) → has (set_of k marks.moves) c ≡ false) →
      NotesFit riding carrying m standings marks CORES_MAX
  notes_begin riding carrying image cores limit m standings marks is holds made count own none =
      record {
        holds = holds;
        stands = fit;
        own = λ c. own c ∙ begins riding carrying m.state standings c holds fit;
        ports = subst (λ (s : State R K). PortsNoted riding carrying s.memory m.rooms marks.cores marks.moves CORES_MAX)
            (sym is)
            (idle_noted riding carrying image cores m.rooms marks.cores marks.moves CORES_MAX
            (count ∙ standings_long m.state standings fit ∙ sym holds.ports_there
            ∙ ap (λ (s : State R K). length s.memory.ports) is) none);
        unmarked = none Request (λ (e : Request ≡ Own). cc) CORES_MAX;
      }
    where
      fit : StandingsFit m.state standings
      fit = rw (made, is) (first_stand riding carrying image cores limit)
