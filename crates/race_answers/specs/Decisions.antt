-- Rule: the decisions of a log, by places of the program: AreDecisions
-- The edges of a log by the instructions of the program between which they lead: how often, how often the other way
-- round, and the last of them.
use Rattle.std.specs.Prelude.{◌≡◌, ℕ, ◌-◌, ◌≤◌, ◌&&◌, nat_eq, nat_lt, not, Bool, true, false, IsTrue, List, [], length}
use Rattle.std.specs.Prelude.{map, filter, Option, Some, MatchOption, unwrap_or, slice_get, if◌then◌else◌}
use Rattle.std.specs.List.{All, Contains, IsDistinct, list_any}
use Rattle.std.specs.List.Sorted.{IsSortedBy}
use Rattle.std.specs.Option.{option_map}
use Rattle.indexmap.specs.IndexMap.{IndexMap, IsUnique, get}
use Rattle.race_queries.specs.declared.ends.Ends.{Ends}
use Rattle.race_answers.specs.declared.decisions.Decision.{Decision}
use Rattle.race_answers.specs.declared.decisions.Tally.{Tally}
use Rattle.race_answers.specs.declared.sites.Pair.{Pair}
use Rattle.race_answers.specs.Sites.{is_same_pair, pair_of, turned}

-- the edges between two sites
abbrev pub between : (pcs : List (List ℕ)) → Pair → List Ends → List Ends
between pcs pair all = filter (λ e. is_same_pair (pair_of pcs e) pair) all

-- how many edges there are the other way round. A site and itself have no other way
abbrev pub times_turned : (pcs : List (List ℕ)) → Pair → List Ends → ℕ
times_turned pcs pair all = if is_same_pair pair (turned pair) then 0 else length (between pcs (turned pair) all)

-- how many edges there are between two sites, how many the other way round, and the last one of them
pub record IsDecisionAmong (pcs : List (List ℕ)) (all : List Ends) (d : Decision) : Type 0 where
  pub times : d.times ≡ length (between pcs (pair_of pcs d.last) all)
  pub last : slice_get (between pcs (pair_of pcs d.last) all) (d.times - 1) ≡ Some d.last
  pub turned : d.turned ≡ times_turned pcs (pair_of pcs d.last) all

-- an order was seen the other way round, too
abbrev pub goes_both_ways : Decision → Bool
goes_both_ways d = not (nat_eq d.turned 0)

-- an order that was seen both ways comes before one that wasn't, and then the rarer one comes first
abbrev pub comes_first : Decision → Decision → Bool
comes_first d other =
    if goes_both_ways d && goes_both_ways other then nat_lt d.times other.times else
    if goes_both_ways d then true else
    if goes_both_ways other then false else nat_lt d.times other.times

-- one decision for each two sites between which an edge leads, in this order
pub record AreDecisions (pcs : List (List ℕ)) (all : List Ends) (list : List Decision) : Type 0 where
  pub each : All (IsDecisionAmong pcs all) list
  pub every : (e : Ends) → Contains all e →
      IsTrue (list_any (λ d. is_same_pair (pair_of pcs e) (pair_of pcs d.last)) list)
  pub once : IsDistinct is_same_pair (map (λ d. pair_of pcs d.last) list)
  pub order : IsSortedBy comes_first list

-- ---- how they are counted

-- how many edges there are, and the last of them
pub record IsTallyOf (list : List Ends) (tally : Tally) : Type 0 where
  pub some : 1 ≤ tally.times
  pub times : tally.times ≡ length list
  pub last : slice_get list (tally.times - 1) ≡ Some tally.last

module _ {S : Type 0} where
  abbrev pub tally_in : IndexMap Pair Tally S → Pair → Option Tally
  tally_in table pair = get is_same_pair table pair

  -- how many edges were counted between two sites
  abbrev pub times_in : IndexMap Pair Tally S → Pair → ℕ
  times_in table pair = unwrap_or (option_map (λ t. t.times) (tally_in table pair)) 0

  -- the other way round
  abbrev pub turned_in : IndexMap Pair Tally S → Pair → ℕ
  turned_in table pair = if is_same_pair pair (turned pair) then 0 else times_in table (turned pair)

  -- the table counts these edges
  pub record CountsEdges (pcs : List (List ℕ)) (all : List Ends) (table : IndexMap Pair Tally S) : Type 0 where
    pub each : (pair : Pair) →
        MatchOption (tally_in table pair) (between pcs pair all ≡ []) (IsTallyOf (between pcs pair all))

  -- what the table says of two sites
  abbrev pub decision_by : IndexMap Pair Tally S → Pair × Tally → Decision
  decision_by table entry =
      record { times = entry.1.times; turned = turned_in table entry.0; last = entry.1.last }

  -- the decisions that the table says, in its order
  pub record AreListed (table : IndexMap Pair Tally S) (list : List Decision) : Type 0 where
    pub unique : IsUnique is_same_pair table
    pub rows : list ≡ map (decision_by table) table.entries
