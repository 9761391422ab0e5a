-- The marked moves are those that can be made, in their order, so the one that a choice numbers is the machine's.
use Rattle.std.proofs.Common.{◌≡◌, ◌∙◌, ◌⊎◌, inl, inr, refl, sym, ap, subst, ℕ, ◌+◌, ◌*◌, ◌<◌, ◌≤◌, Bool, true, false}
use Rattle.std.proofs.Common.{List, length, arith, get_or, Some}
use Rattle.std.specs.Prelude.{◌%◌, ◌&&◌, ◌++◌, map, not, slice_index_or}
use Rattle.std.specs.List.{filter, list_all, range_with_len}
use Rattle.std.proofs.lemmas.Bool.{cases_lt}
use Rattle.std.proofs.lemmas.Bool.Decides.{nat_tests}
use Rattle.std.proofs.lemmas.List.{get_or-map, get_or_past, length-map}
use Rattle.std.proofs.lemmas.Nat.{mod_below}
use Rattle.access_times.specs.Riding.{none_riding, none_carrying}
use Rattle.link_order.specs.Queue.{is_nil}
use Rattle.rtr_types.specs.CoreSets.{has}
use Rattle.rtr_types.specs.declared.TheConstants.{CORES_MAX}
use Rattle.rv_core.specs.Steps.{is_done, need}
use Rattle.msi_cache.specs.Lines.{waits}
use Rattle.msi_memory.specs.Acts.{TakeMessage, TakeRequest, TakeResponse, can}
use Rattle.msi_memory.specs.Memories.{port_at}
use Rattle.move_marks.specs.Kinds.{marked, set_of}
use Rattle.move_marks.specs.Ports.{PortsMarked}
use Rattle.move_marks.specs.declared.marks.MarkedMove.{MarkedMove}
use Rattle.move_marks.specs.declared.marks.MoveKind.{MoveKind}
use Rattle.move_marks.specs.declared.marks.MoveKind.TheVariants.{Own, Request, Response, FromHome}
use Rattle.move_marks.specs.declared.marks.MoveMarks.{MoveMarks}
use Rattle.move_marks.proofs.Acts.{can_past}
use Rattle.move_marks.proofs.AnswerMarks.{below_is, past_is}
use Rattle.move_marks.proofs.MoveOrder.{kind_and_others, kind_listed}
use Rattle.move_marks.proofs.NamedMoves.{own_made, ports_listed}
use Rattle.move_marks.proofs.NumberedMoves.{numbered_chosen, numbered_passes}
use Rattle.machine_invariant.proofs.Stuck.{some_move}
use Rattle.msi_state.specs.declared.moves.Move.{Move}
use Rattle.msi_state.specs.declared.moves.Move.TheVariants.{Core as CoreMove}
use Rattle.msi_state.specs.Moves.{candidate, candidates}
use Rattle.msi_state.specs.Runs.{chosen, chosen_of, plain_moves}
use Rattle.msi_state.specs.States.{PlainState, core_at}
use Rattle.msi_state.specs.Steps.{enabled}
use Rattle.flat_state.specs.declared.flat.Flat.{Flat}
use Rattle.flat_state.specs.declared.node.Node.{Node}
use Rattle.flat_state.specs.Shows.{Stands, no_node, node_at}
use Rattle.flat_laws.specs.Marks.{own_mark, request_mark}
use Rattle.flat_laws.proofs.LastWords.{done_shown}
use Rattle.flat_laws.proofs.MarkedMoves.{message_marked, own_marked, request_marked, response_marked}
use Rattle.flat_marks.specs.Kept.{IsMarked}
use Rattle.flat_machine.specs.Machines.{move_of}

module _ (f : Flat) (marks : MoveMarks) (s : PlainState) (memory : ℕ → List ℕ) (kept : IsMarked f marks)
    (stands : Stands f s memory) where
  nodes_long : length f.nodes.items ≡ length s.cores
  nodes_long = stands.shows.long

  ports_long : length s.memory.ports ≡ length f.nodes.items
  ports_long = stands.holds.ports_there ∙ sym nodes_long

  past_ports : (c : ℕ) → length f.nodes.items ≤ c → length s.memory.ports ≤ c
  past_ports c past = subst (λ (k : ℕ). k ≤ c) (sym ports_long) past

  none_past : {X : Type 0} (g : Node → X) (c : ℕ) → length f.nodes.items ≤ c →
      g (node_at f.nodes.items c) ≡ g no_node
  none_past g c past = ap g (get_or_past f.nodes.items c no_node past)

  -- exactly the moves are marked that can be made
  own_is : (c : ℕ) → has (set_of Own marks) c ≡ enabled none_riding none_carrying s (CoreMove c)
  own_is c = by (cases_lt c (length f.nodes.items))
    where
      by : (c < length f.nodes.items) ⊎ (length f.nodes.items ≤ c) → has (set_of Own marks) c
          ≡ enabled none_riding none_carrying s (CoreMove c)
      by (inl within) =
          kept.own c
          ∙ (ap (λ (t : Bool). t && own_mark (node_at f.nodes.items c)) (below_is c (length f.nodes.items) within)
          ∙ sym (own_marked f s memory c stands within))
      by (inr past) =
          kept.own c
          ∙ (ap (λ (t : Bool). t && own_mark (node_at f.nodes.items c)) (past_is c (length f.nodes.items) past)
          ∙ sym (ap (λ (t : Bool). t && (not (is_done (need s.image (core_at s.cores c)))
          && not (waits (port_at none_carrying s.memory.ports c).cache))) (past_is c (length s.cores)
          (subst (λ (k : ℕ). k ≤ c) nodes_long past))))

  request_by : (c : ℕ) → has (set_of Request marks) c ≡ can none_riding none_carrying s.memory (TakeRequest c)
  request_by c = by (cases_lt c (length f.nodes.items))
    where
      by : (c < length f.nodes.items) ⊎ (length f.nodes.items ≤ c) → has (set_of Request marks) c
          ≡ can none_riding none_carrying s.memory (TakeRequest c)
      by (inl within) = kept.requests c ∙ sym (request_marked f s memory c stands within)
      by (inr past) =
          kept.requests c ∙ (none_past (request_mark f.home.items) c past
          ∙ sym (can_past none_riding none_carrying s.memory (TakeRequest c) (past_ports c past)))

  response_by : (c : ℕ) → has (set_of Response marks) c ≡ can none_riding none_carrying s.memory (TakeResponse c)
  response_by c = by (cases_lt c (length f.nodes.items))
    where
      by : (c < length f.nodes.items) ⊎ (length f.nodes.items ≤ c) → has (set_of Response marks) c
          ≡ can none_riding none_carrying s.memory (TakeResponse c)
      by (inl within) = kept.responses c ∙ sym (response_marked f s memory c stands within)
      by (inr past) =
          kept.responses c ∙ (none_past (λ (n : Node). not (is_nil n.replies)) c past
          ∙ sym (can_past none_riding none_carrying s.memory (TakeResponse c) (past_ports c past)))

  message_by : (c : ℕ) → has (set_of FromHome marks) c ≡ can none_riding none_carrying s.memory (TakeMessage c)
  message_by c = by (cases_lt c (length f.nodes.items))
    where
      by : (c < length f.nodes.items) ⊎ (length f.nodes.items ≤ c) → has (set_of FromHome marks) c
          ≡ can none_riding none_carrying s.memory (TakeMessage c)
      by (inl within) = kept.messages c ∙ sym (message_marked f s memory c stands within)
      by (inr past) =
          kept.messages c ∙ (none_past (λ (n : Node). not (is_nil n.messages)) c past
          ∙ sym (can_past none_riding none_carrying s.memory (TakeMessage c) (past_ports c past)))

  pub mark_is : (k : MoveKind) (c : ℕ) → has (set_of k marks) c ≡ enabled none_riding none_carrying s (move_of k c)
  mark_is Own c = own_is c
  mark_is Request c = request_by c
  mark_is Response c = response_by c
  mark_is FromHome c = message_by c

  pub marked_on : (k : MoveKind) (c : ℕ) → has (set_of k marks) c ≡ true →
      enabled none_riding none_carrying s (move_of k c) ≡ true
  marked_on k c can = sym (mark_is k c) ∙ can

  -- the marked moves are those that can be made, in order
  abbrev named : MarkedMove → Move
  named x = move_of x.kind x.core

  all_marked : map (λ (x : MarkedMove). move_of x.kind x.core) (marked marks) ≡ plain_moves s
  all_marked =
      let cores : ℕ = length s.cores in
      let few : cores ≤ CORES_MAX = subst (λ (n : ℕ). n ≤ CORES_MAX) stands.holds.ports_there
      stands.holds.memory.cores in
      let four : 4 * cores ≡ cores + (cores + (cores + cores)) = omega arith in
      let ports : PortsMarked none_riding none_carrying s.memory marks = record {
        requests = request_by;
        responses = response_by;
        messages = message_by;
      } in
      sym (
      ap (λ (n : ℕ). filter (enabled none_riding none_carrying s) (map (candidate cores) (range_with_len 0 n))) four
      ∙ kind_and_others (enabled none_riding none_carrying s) (candidate cores) 0 cores (cores + (cores + cores))
      ∙ (λ i. kind_listed (enabled none_riding none_carrying s) (candidate cores) (move_of Own) (set_of Own marks) 0
      cores few (λ c within. grind (arith, nat_tests)) (λ c within. own_is c)
      (λ c past within. sym (own_is c) ∙ none_own c past) i
      ++ ports_listed (enabled none_riding none_carrying s) (candidate cores) move_of marks cores few none_riding
      none_carrying s.memory (0 + cores) ports stands.holds.ports_there (λ c. refl) (λ c. refl) (λ c. refl)
      (λ c within. grind (arith, nat_tests)) (λ c within. grind (arith, nat_tests))
      (λ c within. grind (arith, nat_tests)) i)
      ∙ sym (own_made move_of marks)
      )
    where
      none_own : (c : ℕ) → length s.cores ≤ c → has (set_of Own marks) c ≡ false
      none_own c past = kept.own c ∙ ap (λ (t : Bool). t && own_mark (node_at f.nodes.items c))
          (past_is c (length f.nodes.items) (subst (λ (k : ℕ). k ≤ c) (sym nodes_long) past))

  pub marked_long : length (marked marks) ≡ length (plain_moves s)
  marked_long = sym (length-map (marked marks) named) ∙ ap length all_marked

  module _ (going : list_all (λ n. is_done n.need) f.nodes.items ≡ false) where
    pub some_marked : 0 < length (marked marks)
    some_marked = subst (λ (n : ℕ). 0 < n) (sym marked_long)
        (some_move none_riding none_carrying s stands.holds (sym (done_shown f s memory stands) ∙ going))

    -- of which a choice numbers the one that the machine takes
    module _ (choice count : ℕ) (taken : MarkedMove) (all : count ≡ length (marked marks))
        (is : (d : MarkedMove) → taken ≡ slice_index_or (marked marks) (choice % count) d) where
      numbered_as : (d : Move) → move_of taken.kind taken.core
          ≡ slice_index_or (plain_moves s) (choice % length (plain_moves s)) d
      numbered_as d =
          ap named (is taken)
          ∙ (sym (get_or-map named (marked marks) (choice % count) taken d within)
          ∙ (ap (λ (l : List Move). get_or l (choice % count) d) all_marked
          ∙ ap (λ (n : ℕ). get_or (plain_moves s) (choice % n) d) (all ∙ marked_long)))
        where
          within : choice % count < length (marked marks)
          within = subst (λ (n : ℕ). choice % count < n) all
              (mod_below choice count (subst (λ (n : ℕ). 0 < n) (sym all) some_marked))

      some_moves : 0 < length (plain_moves s)
      some_moves = subst (λ (n : ℕ). 0 < n) marked_long some_marked

      pub taken_chosen : chosen s choice ≡ Some (move_of taken.kind taken.core)
      taken_chosen = numbered_chosen (λ (ms : List Move). chosen_of ms choice) (plain_moves s) choice (move_of taken.kind taken.core)
          (λ first later. refl) some_moves numbered_as

      pub taken_marked : has (set_of taken.kind marks) taken.core ≡ true
      taken_marked = mark_is taken.kind taken.core
          ∙ numbered_passes (enabled none_riding none_carrying s) (candidates (length s.cores) (4 * length s.cores))
          choice (move_of taken.kind taken.core) some_moves numbered_as
