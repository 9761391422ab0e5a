-- Which move a packet orders.
use Rattle.std.specs.Prelude.{ℕ, zero, suc, ◌&&◌, Bool, true, false, is_some, nat_eq, not, List, [], ◌∷◌}
use Rattle.std.specs.Prelude.{Option, Some, None, unwrap_or, if◌then◌else◌}
use Rattle.std.specs.List.{list_all}
use Rattle.std.specs.Option.{option_map, option_or}
use Rattle.rtr_types.specs.CoreSets.{has, no_cores, with_core}
use Rattle.rtr_types.specs.declared.core_set.CoreSet.{CoreSet}
use Rattle.gdb_packets.specs.declared.asks.Action.{Action}
use Rattle.gdb_packets.specs.declared.asks.Thread.{Thread}
use Rattle.gdb_packets.specs.declared.asks.Thread.TheVariants.{All, Any, Core}
use Rattle.gdb_moves.specs.declared.direction.Direction.{Direction}
use Rattle.gdb_moves.specs.declared.direction.Direction.TheVariants.{Forward, Back}
use Rattle.gdb_moves.specs.declared.order.Order.{Order}
use Rattle.gdb_moves.specs.declared.order.Order.TheVariants.{Rest, Step, StepIn, Go, GoWith}
use Rattle.gdb_moves.specs.declared.ranges.Range.{Range}
use Rattle.gdb_session.specs.declared.wishes.Wishes.{Wishes}
use Rattle.gdb_session.specs.Wishes.{core_of, is_there}

-- ---- cores that pass a test

-- the set of those among the first cores
unfoldable pub cores_where : (ℕ → Bool) → (cores : ℕ) → CoreSet
cores_where test zero = no_cores
cores_where test (suc cores) =
    if test cores then with_core (cores_where test cores) cores else cores_where test cores

-- the lowest so far, or else this one where it passes
abbrev pub lower_of : Option ℕ → Bool → (core : ℕ) → Option ℕ
lower_of None passes core = if passes then Some core else None
lower_of (Some other) passes core = Some other

-- the lowest of them
unfoldable pub lowest_where : (ℕ → Bool) → (cores : ℕ) → Option ℕ
lowest_where test zero = None
lowest_where test (suc cores) = lower_of (lowest_where test cores) (test cores) cores

-- they are all
unfoldable pub all_where : (ℕ → Bool) → (cores : ℕ) → Bool
all_where test zero = true
all_where test (suc cores) = all_where test cores && test cores

-- ---- what actions ask of a core

-- the name means the core
abbrev pub names : Thread → (core : ℕ) → Bool
names All core = true
names Any core = true
names (Core other) core = nat_eq other core

-- whether it is to step, by the first action that names it
unfoldable pub asked_of : List Action → (core : ℕ) → Option Bool
asked_of [] core = None
asked_of (action ∷ actions) core = if names action.who core then Some action.step else asked_of actions core

abbrev pub steps : List Action → (core : ℕ) → Bool
steps actions core = unwrap_or (asked_of actions core) false

abbrev pub acts : List Action → (core : ℕ) → Bool
acts actions core = is_some (asked_of actions core)

-- whether a core is to step, or to move at all
abbrev pub is_asked : (step : Bool) → List Action → (core : ℕ) → Bool
is_asked true = steps
is_asked false = acts

-- each thread that is named is there
abbrev pub are_there : List Action → (cores : ℕ) → Bool
are_there actions cores = list_all (λ action. is_there action.who cores) actions

-- the first core that is named
unfoldable pub named : List Action → (cores : ℕ) → Option ℕ
named [] cores = None
named (action ∷ actions) cores = option_or (core_of action.who cores) (named actions cores)

abbrev pub heard_of : List Action → (cores : ℕ) → CoreSet
heard_of actions cores = cores_where (acts actions) cores

abbrev pub every_core : (cores : ℕ) → CoreSet
every_core cores = cores_where (λ core. true) cores

abbrev pub all_go : List Action → (cores : ℕ) → Bool
all_go actions cores = all_where (acts actions) cores

-- ---- the orders

-- one core alone
abbrev pub only : (core : ℕ) → CoreSet
only core = with_core no_cores core

-- all cores go on in the direction: by the one that leads alone, where one does
abbrev pub all_on : Direction → (lead : Option ℕ) → (told : ℕ) → CoreSet → Order
all_on direction None told heard = Go direction told heard
all_on direction (Some lead) told heard = GoWith direction told (only lead) heard

-- only these cores go on; at the end the one that is looked at is told if it's one of them, or else the lowest
abbrev pub some_order : Wishes → CoreSet → (lowest : Option ℕ) → Option Order
some_order wishes heard None = None
some_order wishes heard (Some lowest) =
    Some (GoWith Forward (if has heard wishes.looked then wishes.looked else lowest) heard heard)

-- a step of the lowest core that is to step; where none is, those that are to move go on
abbrev pub go_order : Wishes → (cores : ℕ) → List Action → Option ℕ → Option Order
go_order wishes cores actions None =
    if all_go actions cores then Some (all_on Forward wishes.lead wishes.looked (heard_of actions cores)) else
    some_order wishes (heard_of actions cores) (lowest_where (acts actions) cores)
go_order wishes cores actions (Some core) = Some (Step Forward core (heard_of actions cores))

-- the move that actions order: none where they name a thread that isn't there, or no core is to move. After an
-- interrupt nothing moves, and the first core that is named is told
abbrev pub resume_order : Wishes → (cores : ℕ) → List Action → Option Order
resume_order wishes cores actions =
    if not (are_there actions cores) then None else
    if wishes.interrupted then Some (Rest (unwrap_or (named actions cores) wishes.looked)) else
    go_order wishes cores actions (lowest_where (steps actions) cores)

-- a step forwards goes on in the range
abbrev pub stepping_on : Range → Order → Order
stepping_on range (Step Forward core heard) = StepIn core heard range
stepping_on range order = order

-- if there is one
abbrev pub in_range : Option Range → Order → Order
in_range None order = order
in_range (Some range) order = stepping_on range order

abbrev pub ranged_order : Option Range → Wishes → (cores : ℕ) → List Action → Option Order
ranged_order range wishes cores actions = option_map (in_range range) (resume_order wishes cores actions)

-- the core that goes back, or that is looked at where all do
abbrev pub mover : Wishes → ℕ
mover wishes = unwrap_or wishes.moving wishes.looked

-- the cores that go back: the one, or all
abbrev pub movers_of : (moving : Option ℕ) → (cores : ℕ) → CoreSet
movers_of None cores = every_core cores
movers_of (Some core) cores = only core

abbrev pub step_back_order : Wishes → (cores : ℕ) → Order
step_back_order wishes cores =
    if wishes.interrupted then Rest (mover wishes) else Step Back (mover wishes) (movers_of wishes.moving cores)

-- one core goes back, or all
abbrev pub back_by : (moving : Option ℕ) → Wishes → (cores : ℕ) → Order
back_by None wishes cores = all_on Back wishes.lead wishes.looked (every_core cores)
back_by (Some core) wishes cores = GoWith Back core (only core) (only core)

abbrev pub go_back_order : Wishes → (cores : ℕ) → Order
go_back_order wishes cores =
    if wishes.interrupted then Rest (mover wishes) else back_by wishes.moving wishes cores
