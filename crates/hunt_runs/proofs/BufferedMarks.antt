-- What the marks of the machine with buffers say of whose steps are enabled.
use Rattle.std.proofs.Common.{◌≡◌, ◌∙◌, sym, ap, subst, ℕ, ◌+◌, ◌<◌, ◌≤◌, ◌^◌, true, List, ◌++◌, length, arith}
use Rattle.std.specs.Prelude.{map}
use Rattle.std.proofs.lemmas.List.{length-append, length-map}
use Rattle.access_times.specs.Riding.{Carrying, Riding, none_carrying, none_riding}
use Rattle.rtr_types.specs.CoreSets.{has}
use Rattle.rtr_types.specs.declared.TheConstants.{CORES_MAX}
use Rattle.rtr_types.specs.declared.core_set.CoreSet.{CoreSet}
use Rattle.move_marks.specs.Kinds.{marked as marked_in, marked_at_ports, set_of}
use Rattle.move_marks.specs.Members.{members}
use Rattle.move_marks.specs.declared.marks.MoveKind.TheVariants.{Own}
use Rattle.tso_core.specs.Marks.{AllMarked, marked, move_of}
use Rattle.tso_core.specs.declared.marks.Marks.{Marks}
use Rattle.tso_state.specs.declared.moves.Move.{Move}
use Rattle.tso_state.specs.declared.moves.Move.TheVariants.{Core as CoreMove, Order as OrderMove}
use Rattle.tso_state.specs.Runs.{plain_moves as moves_of}
use Rattle.tso_state.specs.States.{State}
use Rattle.tso_state.specs.Steps.{enabled, moves}
use Rattle.tso_plain.specs.Plain.{plain}
use Rattle.tso_plain.proofs.Events.{plain_enabled, plain_moves}
use Rattle.turn_lists.specs.Actors.{core_of}
use Rattle.turn_lists.specs.declared.actor.Actor.{Actor}
use Rattle.turn_lists.specs.declared.actor.Actor.TheVariants.{Buffer, Core as CoreActor}
use Rattle.turn_policies.specs.Listed.{is_listed, listed}
use Rattle.turn_policies.specs.declared.actor_set.ActorSet.{ActorSet}
use Rattle.hunt_runs.specs.PlainSeen.{cores_that}
use Rattle.hunt_runs.proofs.CoreSets.{set_is_that}
use Rattle.hunt_runs.proofs.MarkCounts.{below_of, listed_long, marked_long}

-- how many moves are marked
all_long : (marks : Marks) →
    length (marked marks)
    ≡ length (members (set_of Own marks.moves)) + (length (members marks.orders) + length (marked_at_ports marks.moves))
all_long marks =
    let own : List Move = map (λ c. CoreMove c) (members (set_of Own marks.moves)) in
    let orders : List Move = map (λ c. OrderMove c) (members marks.orders) in
    let ports : List Move = map move_of (marked_at_ports marks.moves) in
    length-append own (orders ++ ports)
    ∙ (λ i. length-map (members (set_of Own marks.moves)) (λ c. CoreMove c) i + (length-append orders ports
    ∙ (λ j. length-map (members marks.orders) (λ c. OrderMove c) j
    + length-map (marked_at_ports marks.moves) move_of j)) i)

few_of : (many own orders set ports moved ordered : ℕ) → many ≡ own + orders → own ≡ set → moved ≡ set + ports →
    ordered ≡ orders → many ≤ moved + ordered
few_of many own orders set ports moved ordered is same all more = omega (arith, is, same, all, more)

sum_of : (set ports orders moved ordered many : ℕ) → moved ≡ set + ports → ordered ≡ orders →
    many ≡ set + (orders + ports) → moved + ordered ≡ many
sum_of set ports orders moved ordered many all more is = omega (arith, all, more, is)

module _ {R K : Type 0} (riding : Riding R) (carrying : Carrying K) (s : State R K) (marks : Marks)
    (all : AllMarked riding carrying s marks) (set : CoreSet) (set_is : set ≡ set_of Own marks.moves) where
  -- the actors whose steps are marked are those whose steps are enabled
  pub actors_are : set.bits < 2 ^ CORES_MAX → marks.orders.bits < 2 ^ CORES_MAX →
      ◌≡◌ {A = ActorSet} (record { cores = set; buffers = marks.orders }) (record {
        cores = cores_that (λ c. enabled none_riding none_carrying (plain s) (CoreMove c)) CORES_MAX;
        buffers = cores_that (λ c. enabled none_riding none_carrying (plain s) (OrderMove c)) CORES_MAX;
      })
  actors_are low high =
      let cores_are : set ≡ cores_that (λ c. enabled none_riding none_carrying (plain s) (CoreMove c)) CORES_MAX =
      set_is_that set (λ c. enabled none_riding none_carrying (plain s) (CoreMove c)) low
      (λ c. ap (λ (x : CoreSet). has x c) set_is ∙ all.cores.own c ∙ plain_enabled riding carrying s (CoreMove c)) in
      let buffers_are : marks.orders
      ≡ cores_that (λ c. enabled none_riding none_carrying (plain s) (OrderMove c)) CORES_MAX =
      set_is_that marks.orders (λ c. enabled none_riding none_carrying (plain s) (OrderMove c)) high
      (λ c. all.cores.orders c ∙ plain_enabled riding carrying s (OrderMove c)) in
      λ i. record { cores = cores_are i; buffers = buffers_are i }

  -- each of them is a core's
  pub actor_within : (a : Actor) → is_listed (record { cores = set; buffers = marks.orders }) a ≡ true →
      core_of a < marks.cores
  actor_within (CoreActor c) is =
      let is_enabled : enabled riding carrying s (CoreMove c) ≡ true =
      sym (all.cores.own c) ∙ ap (λ (x : CoreSet). has x c) (sym set_is) ∙ is in
      subst (λ (n : ℕ). c < n) (sym all.cores.cores) (below_of c (length s.cores) _ is_enabled)
  actor_within (Buffer c) is =
      subst (λ (n : ℕ). c < n) (sym all.cores.cores)
      (below_of c (length s.cores) _ (sym (all.cores.orders c) ∙ is))

  module _ (moved ordered : ℕ) (many : moved ≡ length (marked_in marks.moves))
      (more : ordered ≡ length (members marks.orders)) where
    -- they are no more than the steps
    pub actors_few : length (listed (record { cores = set; buffers = marks.orders })) ≤ moved + ordered
    actors_few =
        few_of (length (listed (record { cores = set; buffers = marks.orders }))) (length (members set))
        (length (members marks.orders)) (length (members (set_of Own marks.moves)))
        (length (marked_at_ports marks.moves)) moved ordered (listed_long set marks.orders)
        (ap (λ (x : CoreSet). length (members x)) set_is) (many ∙ marked_long marks.moves) more

    -- so many steps are enabled
    pub steps_are : marked marks ≡ moves riding carrying s → moved + ordered ≡ length (moves_of (plain s))
    steps_are are =
        sum_of (length (members (set_of Own marks.moves))) (length (marked_at_ports marks.moves))
        (length (members marks.orders)) moved ordered (length (marked marks)) (many ∙ marked_long marks.moves) more
        (all_long marks)
        ∙ ap length are ∙ ap length (plain_moves riding carrying s)
