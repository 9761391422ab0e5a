-- The marks are those of what can be done: of moves, of cores that are there, and after the home's turns.
use Rattle.std.proofs.Common.{◌≡◌, ◌∙◌, refl, sym, subst, ap, ℕ, ◌+◌, ◌*◌, ◌<◌, ◌≤◌, Bool, false}
use Rattle.std.proofs.Common.{length, nat_lt, ◌&&◌, ◌++◌, arith}
use Rattle.std.specs.Prelude.{map}
use Rattle.std.specs.List.{filter, range_with_len}
use Rattle.std.proofs.lemmas.Bool.Decides.{nat_tests}
use Rattle.access_times.specs.Riding.{Riding, Carrying}
use Rattle.msi_memory.specs.declared.port.Port.{Port}
use Rattle.msi_memory.specs.Memories.{Memory, port_at}
use Rattle.rtr_types.specs.CoreSets.{has}
use Rattle.rtr_types.specs.declared.TheConstants.{CORES_MAX}
use Rattle.move_marks.specs.declared.marks.MoveKind.TheVariants.{Own}
use Rattle.move_marks.specs.declared.marks.MoveMarks.{MoveMarks}
use Rattle.move_marks.specs.Kinds.{set_of}
use Rattle.move_marks.specs.Members.{members}
use Rattle.move_marks.specs.Ports.{PortsMarked}
use Rattle.move_marks.proofs.Acts.{same_at}
use Rattle.move_marks.proofs.AnswerMarks.{below_is, past_is}
use Rattle.move_marks.proofs.Lateness.{all_but}
use Rattle.move_marks.proofs.MoveOrder.{kind_and_others, kind_listed}
use Rattle.move_marks.proofs.NamedMoves.{ports_listed}
use Rattle.move_marks.proofs.NextMoves.{PortsStay}
use Rattle.tso_invariant.specs.Holds.{TsoHolds}
use Rattle.tso_state.specs.declared.moves.Move.TheVariants.{Core as CoreMove, Order as OrderMove}
use Rattle.tso_state.specs.Moves.{candidate}
use Rattle.tso_state.specs.States.{State, core_at}
use Rattle.tso_state.specs.Steps.{can_execute, can_order, enabled, moves}
use Rattle.tso_core.specs.declared.marks.Marks.{Marks}
use Rattle.tso_core.specs.declared.standing.Standing.{Standing}
use Rattle.tso_core.specs.Machineries.{Machinery}
use Rattle.tso_core.specs.Marks.{AllMarked, OthersMarked, made_of, marked}
use Rattle.tso_core.specs.Standings.{may_execute, standing_at}
use Rattle.tso_core.proofs.Elsewhere.{can_execute_by, can_order_by}

module _ {R K : Type 0} where
  -- a core that isn't there can neither execute nor order
  own_past : (riding : Riding R) (carrying : Carrying K) (s : State R K) (d : ℕ) → length s.cores ≤ d →
      enabled riding carrying s (CoreMove d) ≡ false
  own_past riding carrying s d past =
      ap (λ (b : Bool). b && can_execute s.image riding (core_at s.cores d) (port_at carrying s.memory.ports d))
      (past_is d (length s.cores) past)

  order_past : (riding : Riding R) (carrying : Carrying K) (s : State R K) (d : ℕ) → length s.cores ≤ d →
      enabled riding carrying s (OrderMove d) ≡ false
  order_past riding carrying s d past =
      ap (λ (b : Bool). b && can_order (core_at s.cores d).queue riding (port_at carrying s.memory.ports d))
      (past_is d (length s.cores) past)

  -- the marked moves are those that can be made, in order
  pub all_moves : (riding : Riding R) (carrying : Carrying K) (s : State R K) (marks : Marks) →
      TsoHolds riding carrying s → AllMarked riding carrying s marks → marked marks ≡ moves riding carrying s
  all_moves riding carrying s marks holds all =
      let cores : ℕ = length s.cores in
      let few : cores ≤ CORES_MAX = subst (λ (n : ℕ). n ≤ CORES_MAX) holds.ports_there holds.memory.cores in
      let five : 5 * cores ≡ cores + (cores + (cores + (cores + cores))) = omega arith in
      sym (
      ap (λ (n : ℕ). filter (enabled riding carrying s) (map (candidate cores) (range_with_len 0 n))) five
      ∙ kind_and_others (enabled riding carrying s) (candidate cores) 0 cores (cores + (cores + (cores + cores)))
      ∙ (λ i. kind_listed (enabled riding carrying s) (candidate cores) (λ (c : ℕ). CoreMove c) (set_of Own marks.moves)
      0 cores few (λ c within. grind (arith, nat_tests)) (λ c within. all.cores.own c)
      (λ c past within. own_past riding carrying s c past) i
      ++ kind_and_others (enabled riding carrying s) (candidate cores) (0 + cores) cores (cores + (cores + cores)) i)
      ∙ (λ i. map (λ (c : ℕ). CoreMove c) (members (set_of Own marks.moves))
      ++ (kind_listed (enabled riding carrying s) (candidate cores) (λ (c : ℕ). OrderMove c) marks.orders
      (0 + cores) cores few (λ c within. grind (arith, nat_tests)) (λ c within. all.cores.orders c)
      (λ c past within. order_past riding carrying s c past) i
      ++ ports_listed (enabled riding carrying s) (candidate cores) made_of marks.moves cores few riding carrying
      s.memory (0 + cores + cores) all.ports holds.ports_there (λ c. refl) (λ c. refl) (λ c. refl)
      (λ c within. grind (arith, nat_tests)) (λ c within. grind (arith, nat_tests))
      (λ c within. grind (arith, nat_tests)) i))
      )

  -- a core that is there can execute where it stands so, and order
  pub own_marked : (riding : Riding R) (carrying : Carrying K) (s : State R K) (c : ℕ) (kept : Standing) →
      c < length s.cores → kept ≡ standing_at s c →
      may_execute riding kept (core_at s.cores c) (port_at carrying s.memory.ports c) ≡ enabled riding carrying s
      (CoreMove c)
  own_marked riding carrying s c kept here stands =
      ap (λ (x : Standing). may_execute riding x (core_at s.cores c) (port_at carrying s.memory.ports c)) stands
      ∙ ap (λ (b : Bool). b && can_execute s.image riding (core_at s.cores c) (port_at carrying s.memory.ports c))
      (sym (below_is c (length s.cores) here))

  pub order_marked : (riding : Riding R) (carrying : Carrying K) (s : State R K) (c : ℕ) → c < length s.cores →
      can_order (core_at s.cores c).queue riding (port_at carrying s.memory.ports c) ≡ enabled riding carrying s
      (OrderMove c)
  order_marked riding carrying s c here =
      ap (λ (b : Bool). b && can_order (core_at s.cores c).queue riding (port_at carrying s.memory.ports c))
      (sym (below_is c (length s.cores) here))

  -- the home moved, and so did the marks at the ports; no core can do anything else, and whichever may be late
  pub turn_kept : (riding : Riding R) (carrying : Carrying K) (seen now : Machinery R K) → seen ≡ now → (late : ℕ)
      {old : Marks} → AllMarked riding carrying now.state old → {n later : Memory R K} → n ≡ later → {c : ℕ} →
      PortsStay seen.state.memory later c → {new : MoveMarks} →
      ((d : ℕ) → has (set_of Own new) d ≡ has (set_of Own old.moves) d) → PortsMarked riding carrying n new →
      OthersMarked riding carrying (record seen.state { memory = n }) (record old { moves = new }) late
  turn_kept riding carrying seen now view late {old} all {n} {later} is stays {new} own ports =
      record {
        cores = record {
          cores = before.cores.cores;
          own = λ d. own d ∙ before.cores.own d
              ∙ ap (λ (b : Bool). nat_lt d (length seen.state.cores) && b)
              (can_execute_by seen.state.image riding (core_at seen.state.cores d)
              (port_at carrying seen.state.memory.ports d) (port_at carrying n.ports d) (same d));
          orders = λ d. before.cores.orders d
              ∙ ap (λ (b : Bool). nat_lt d (length seen.state.cores) && b)
              (can_order_by (core_at seen.state.cores d).queue riding
              (port_at carrying seen.state.memory.ports d) (port_at carrying n.ports d) (same d));
        };
        ports = all_but riding carrying n new late ports;
      }
    where
      before : AllMarked riding carrying seen.state old
      before = subst (λ (m : Machinery R K). AllMarked riding carrying m.state old) (sym view) all

      same : (d : ℕ) → (port_at carrying seen.state.memory.ports d).cache ≡ (port_at carrying n.ports d).cache
      same d = sym (same_at (λ (p : Port R K). p.cache) carrying n.ports seen.state.memory.ports
          (ap (λ (x : Memory R K). map (λ (p : Port R K). p.cache) x.ports) is ∙ stays.caches) d)
