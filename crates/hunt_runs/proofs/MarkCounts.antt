-- How many actors two sets are, and how many moves are marked.
use Rattle.std.proofs.Common.{◌≡◌, ◌∙◌, ap, ℕ, ◌+◌, ◌<◌, ◌≤◌, true, false, ◌&&◌, [], length, arith}
use Rattle.std.specs.Prelude.{Bool, List, map, nat_lt}
use Rattle.std.specs.List.{filter, range_with_len}
use Rattle.std.proofs.lemmas.Bool.Decides.{nat_tests}
use Rattle.std.proofs.lemmas.List.{length-append, length-map}
use Rattle.rtr_types.specs.CoreSets.{has, no_cores}
use Rattle.rtr_types.specs.declared.TheConstants.{CORES_MAX}
use Rattle.rtr_types.specs.declared.core_set.CoreSet.{CoreSet}
use Rattle.rtr_types.proofs.Members.{has-no_cores}
use Rattle.move_marks.proofs.MoveOrder.{none_from}
use Rattle.move_marks.specs.Kinds.{marked as marked_in, marked_at_ports, set_of}
use Rattle.move_marks.specs.Members.{members}
use Rattle.move_marks.specs.declared.marks.MarkedMove.{MarkedMove}
use Rattle.move_marks.specs.declared.marks.MoveKind.TheVariants.{Own}
use Rattle.move_marks.specs.declared.marks.MoveMarks.{MoveMarks}
use Rattle.turn_lists.specs.declared.actor.Actor.TheVariants.{Buffer, Core as CoreActor}
use Rattle.turn_policies.specs.Listed.{listed}

-- ---- sets of actors

none_among : (n : ℕ) → filter (has no_cores) (range_with_len 0 n) ≡ []
none_among n = none_from (has no_cores) 0 n (λ c past within. has-no_cores c)

pub none_in : length (members no_cores) ≡ 0
none_in = ap (λ (l : List ℕ). length l) (none_among CORES_MAX)

-- some and none of so many more are no more than all
pub few_of : (many own none set ports steps : ℕ) → many ≡ own + none → none ≡ 0 → own ≡ set → steps ≡ set + ports →
    many ≤ steps
few_of many own none set ports steps is empty same all = omega (arith, is, empty, same, all)

-- how many actors two sets are
pub listed_long : (cores buffers : CoreSet) →
    length (listed (record { cores = cores; buffers = buffers })) ≡ length (members cores) + length (members buffers)
listed_long cores buffers =
    length-append (map (λ c. CoreActor c) (members cores)) (map (λ c. Buffer c) (members buffers))
    ∙ (λ i. length-map (members cores) (λ c. CoreActor c) i + length-map (members buffers) (λ c. Buffer c) i)

-- how many moves are marked
pub marked_long : (marks : MoveMarks) →
    length (marked_in marks) ≡ length (members (set_of Own marks)) + length (marked_at_ports marks)
marked_long marks =
    let make : ℕ → MarkedMove = λ c. record { kind = Own; core = c } in
    length-append (map make (members (set_of Own marks))) (marked_at_ports marks)
    ∙ ap (λ (n : ℕ). n + length (marked_at_ports marks)) (length-map (members (set_of Own marks)) make)

-- where it is below and more it is below
pub below_of : (n m : ℕ) (b : Bool) → (nat_lt n m && b) ≡ true → n < m
below_of n m true is = grind (arith, nat_tests, is)
below_of n m false is = grind (arith, nat_tests, is)
