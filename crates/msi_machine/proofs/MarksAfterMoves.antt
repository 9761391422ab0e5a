-- The marks after each move are those of what can be done then.
use Rattle.std.proofs.Common.{◌≡◌, ◌≢◌, ◌∙◌, refl, sym, subst, ap, ℕ, ◌+◌, ◌*◌, ◌<◌, ◌≤◌, Bool, false}
use Rattle.std.proofs.Common.{length, nat_lt, ◌&&◌, ◌++◌, arith}
use Rattle.std.specs.Prelude.{map, not}
use Rattle.std.specs.List.{filter, range_with_len}
use Rattle.std.proofs.lemmas.Bool.Decides.{nat_tests}
use Rattle.access_times.specs.Riding.{Riding, Carrying}
use Rattle.msi_memory.specs.declared.port.Port.{Port}
use Rattle.msi_memory.specs.Memories.{Memory, port_at}
use Rattle.rtr_types.specs.CoreSets.{has}
use Rattle.rtr_types.specs.declared.TheConstants.{CORES_MAX}
use Rattle.rv_core.specs.Steps.{need, is_done}
use Rattle.msi_cache.specs.Lines.{waits}
use Rattle.move_marks.specs.declared.marks.MoveKind.TheVariants.{Own}
use Rattle.move_marks.specs.declared.marks.MoveMarks.{MoveMarks}
use Rattle.move_marks.specs.Kinds.{set_of}
use Rattle.move_marks.specs.Ports.{PortsMarked}
use Rattle.move_marks.proofs.Acts.{same_at, waits_by}
use Rattle.move_marks.proofs.AnswerMarks.{below_is, past_is}
use Rattle.move_marks.proofs.TurnMarks.{each}
use Rattle.move_marks.proofs.Lateness.{all_but}
use Rattle.move_marks.proofs.MoveOrder.{kind_and_others, kind_listed}
use Rattle.move_marks.proofs.NamedMoves.{own_made, ports_listed}
use Rattle.move_marks.proofs.OnePort.{same_long}
use Rattle.machine_invariant.specs.Holds.{MachineHolds}
use Rattle.msi_state.specs.declared.moves.Move.TheVariants.{Core as CoreMove}
use Rattle.msi_state.specs.Moves.{candidate}
use Rattle.msi_state.specs.States.{State, core_at}
use Rattle.msi_state.specs.Steps.{enabled, moves}
use Rattle.msi_machine.specs.declared.marks.Marks.{Marks}
use Rattle.msi_machine.specs.declared.standing.Standing.{Standing}
use Rattle.msi_machine.specs.Marks.{AllMarked, OthersMarked, made_of, marked}
use Rattle.msi_machine.specs.Standings.{may_work, standing_at}
use Rattle.machine_ports.proofs.Elsewhere.{MovedAt}
use Rattle.msi_machine.proofs.Elsewhere.{elsewhere}

module _ {R K : Type 0} where
  -- a core that isn't there can't move by itself
  own_past : (riding : Riding R) (carrying : Carrying K) (s : State R K) (d : ℕ) → length s.cores ≤ d →
      enabled riding carrying s (CoreMove d) ≡ false
  own_past riding carrying s d past =
      ap (λ (b : Bool). b && (not (is_done (need s.image (core_at s.cores d)))
      && not (waits (port_at carrying s.memory.ports d).cache))) (past_is d (length s.cores) past)

  -- the marked moves are those that can be made, in order
  pub all_moves : (riding : Riding R) (carrying : Carrying K) (s : State R K) (marks : Marks) →
      MachineHolds riding carrying s → AllMarked riding carrying s marks → marked marks ≡ moves riding carrying s
  all_moves riding carrying s marks holds all =
      let cores : ℕ = length s.cores in
      let few : cores ≤ CORES_MAX = subst (λ (n : ℕ). n ≤ CORES_MAX) holds.ports_there holds.memory.cores in
      let four : 4 * cores ≡ cores + (cores + (cores + cores)) = omega arith in
      sym (
      ap (λ (n : ℕ). filter (enabled riding carrying s) (map (candidate cores) (range_with_len 0 n))) four
      ∙ kind_and_others (enabled riding carrying s) (candidate cores) 0 cores (cores + (cores + cores))
      ∙ (λ i. kind_listed (enabled riding carrying s) (candidate cores) (made_of Own) (set_of Own marks.moves) 0 cores
      few (λ c within. grind (arith, nat_tests)) (λ c within. all.own c)
      (λ c past within. own_past riding carrying s c past) i
      ++ ports_listed (enabled riding carrying s) (candidate cores) made_of marks.moves cores few riding carrying
      s.memory (0 + cores) all.ports holds.ports_there (λ c. refl) (λ c. refl) (λ c. refl)
      (λ c within. grind (arith, nat_tests)) (λ c within. grind (arith, nat_tests))
      (λ c within. grind (arith, nat_tests)) i)
      ∙ sym (own_made made_of marks.moves)
      )

  -- then no core is left open, whichever it is
  pub all_others : (riding : Riding R) (carrying : Carrying K) (s : State R K) (marks : Marks) →
      AllMarked riding carrying s marks → (c : ℕ) → OthersMarked riding carrying s marks c
  all_others riding carrying s marks all c =
      record { cores = all.cores; own = all.own; ports = all_but riding carrying s.memory marks.moves c all.ports }

  -- a core that is there moves by itself where it stands so
  pub own_marked : (riding : Riding R) (carrying : Carrying K) (s : State R K) (c : ℕ) (kept : Standing) →
      c < length s.cores →
      kept ≡ standing_at carrying s c → may_work kept ≡ enabled riding carrying s (CoreMove c)
  own_marked riding carrying s c kept here stands =
      ap may_work stands ∙ ap (λ (b : Bool). b && may_work (standing_at carrying s c))
      (sym (below_is c (length s.cores) here))

  -- core c moved, and is marked again
  pub own_followed : (riding : Riding R) (carrying : Carrying K) (s t : State R K) (old new : MoveMarks) (c : ℕ)
      (kept : Standing) → ((d : ℕ) → has (set_of Own old) d ≡ enabled riding carrying s (CoreMove d)) →
      MovedAt s t c → c < length s.cores → kept ≡ standing_at carrying t c →
      has (set_of Own new) c ≡ may_work kept → ((d : ℕ) → d ≢ c → has (set_of Own new) d ≡ has (set_of Own old) d) →
      (d : ℕ) → has (set_of Own new) d ≡ enabled riding carrying t (CoreMove d)
  own_followed riding carrying s t old new c kept own moved here stands this others =
      each (λ d. has (set_of Own new) d) (λ d. enabled riding carrying t (CoreMove d)) c
      (this ∙ own_marked riding carrying t c kept (subst (λ (n : ℕ). c < n)
      (sym (same_long s.cores t.cores c moved.cores)) here) stands)
      (λ d other. others d other ∙ own d ∙ sym (elsewhere riding carrying s t c moved d other))

  -- the home moved, and so did the marks at the ports; no core stands at anything else
  pub turn_marked : (riding : Riding R) (carrying : Carrying K) (s : State R K) (n : Memory R K) (old : Marks)
      (new : MoveMarks) → AllMarked riding carrying s old →
      map (λ (p : Port R K). p.cache) n.ports ≡ map (λ (p : Port R K). p.cache) s.memory.ports →
      ((d : ℕ) → has (set_of Own new) d ≡ has (set_of Own old.moves) d) → PortsMarked riding carrying n new →
      AllMarked riding carrying (record s { memory = n }) (record old { moves = new })
  turn_marked riding carrying s n old new all caches own ports =
      record {
        cores = all.cores;
        own = λ d. own d ∙ all.own d
            ∙ ap (λ (w : Bool). nat_lt d (length s.cores) && (not (is_done (need s.image (core_at s.cores d)))
            && not w)) (sym (same_at (λ (p : Port R K). waits p.cache) carrying n.ports s.memory.ports
            (waits_by n.ports s.memory.ports caches) d));
        ports = ports;
      }
