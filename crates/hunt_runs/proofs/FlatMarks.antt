-- What the flat machine's marks say of whose steps are enabled, and that what is seen of it is what is seen where it
-- stands.
use Rattle.std.proofs.Common.{◌≡◌, ◌∙◌, refl, sym, ℕ, ◌^◌, ◌<◌, ◌≤◌, true, false, List, length, arith}
use Rattle.std.proofs.lemmas.Nat.{mod_below}
use Rattle.access_times.specs.Riding.{none_carrying, none_riding}
use Rattle.rtr_types.specs.CoreSets.{no_cores}
use Rattle.rtr_types.specs.declared.TheConstants.{CORES_MAX}
use Rattle.rtr_types.proofs.Members.{has-no_cores}
use Rattle.rv_core.specs.Steps.{need}
use Rattle.move_marks.specs.Kinds.{marked, marked_at_ports, set_of}
use Rattle.move_marks.specs.Members.{members}
use Rattle.move_marks.specs.declared.marks.MoveKind.{MoveKind}
use Rattle.move_marks.specs.declared.marks.MoveKind.TheVariants.{Own}
use Rattle.move_marks.specs.declared.marks.MoveMarks.{MoveMarks}
use Rattle.msi_state.specs.declared.moves.Move.TheVariants.{Core as CoreMove}
use Rattle.msi_state.specs.States.{PlainState, core_at}
use Rattle.msi_state.specs.Steps.{enabled}
use Rattle.flat_state.specs.Shows.{Stands}
use Rattle.flat_laws.proofs.LastWords.{cores_shown, done_shown}
use Rattle.flat_machine.specs.Machines.{IsKept}
use Rattle.flat_machine.specs.declared.machine.FlatMachine.{FlatMachine}
use Rattle.flat_machine.proofs.MarkedChoice.{mark_is, marked_long as all_long}
use Rattle.turn_lists.specs.Actors.{core_of}
use Rattle.turn_lists.specs.declared.actor.Actor.{Actor}
use Rattle.turn_lists.specs.declared.actor.Actor.TheVariants.{Buffer, Core as CoreActor}
use Rattle.turn_policies.specs.Listed.{is_listed, listed}
use Rattle.hunt_runs.specs.FlatSeen.{seen_of}
use Rattle.hunt_runs.specs.PlainSeen.{cores_that, is_local, seen_of as plain_seen_of}
use Rattle.hunt_runs.proofs.CoreSets.{set_is_that}
use Rattle.hunt_runs.proofs.MarkCounts.{below_of, few_of, listed_long, marked_long, none_in}

-- the sets of marks are of cores that there can be
set_low : (kind : MoveKind) (marks : MoveMarks) → (set_of kind marks).bits < 2 ^ CORES_MAX
unfolding set_of
set_low kind marks = mod_below _ (2 ^ CORES_MAX) (omega arith)

-- ---- whose steps are enabled

-- each of them is a core
pub actor_within : (m : FlatMachine) (a : Actor) → IsKept m →
    is_listed (record { cores = set_of Own m.marks; buffers = no_cores }) a ≡ true →
    core_of a < length m.flat.nodes.items
actor_within m (CoreActor c) kept is =
    below_of c (length m.flat.nodes.items) _ (sym (kept.marked.own c) ∙ is)
actor_within m (Buffer c) kept is = let wrong : true ≡ false = sym is ∙ has-no_cores c in absurd cc

-- they are no more than the steps
pub actors_few : (m : FlatMachine) →
    length (listed (record { cores = set_of Own m.marks; buffers = no_cores })) ≤ length (marked m.marks)
actors_few m =
    few_of (length (listed (record { cores = set_of Own m.marks; buffers = no_cores })))
    (length (members (set_of Own m.marks))) (length (members no_cores)) (length (members (set_of Own m.marks)))
    (length (marked_at_ports m.marks)) (length (marked m.marks)) (listed_long (set_of Own m.marks) no_cores) none_in
    refl (marked_long m.marks)

-- ---- what is seen

module _ (m : FlatMachine) (s : PlainState) (memory : ℕ → List ℕ) (stands : Stands m.flat s memory)
    (kept : IsKept m) where
  cores_are : set_of Own m.marks ≡ cores_that (λ c. enabled none_riding none_carrying s (CoreMove c)) CORES_MAX
  cores_are =
      set_is_that (set_of Own m.marks) (λ c. enabled none_riding none_carrying s (CoreMove c)) (set_low Own m.marks)
      (λ c. mark_is m.flat m.marks s memory kept.marked stands Own c)

  -- is what is seen of the state
  pub seen_is : seen_of m ≡ plain_seen_of s
  seen_is =
      let shown = cores_shown m.flat s memory stands in
      let set = cores_are in
      let steps = all_long m.flat m.marks s memory kept.marked stands in
      let done = done_shown m.flat s memory stands in
      λ i. record {
        cores = shown i;
        actors = record { cores = set i; buffers = no_cores };
        steps = steps i;
        load_first = λ c. false;
        unseen = λ c. is_local (need (stands.shows.image i) (core_at (shown i) c));
        stores = λ c. 0;
        ended = done i;
      }
