-- The number of a core's own move among the marked ones.
use Rattle.std.proofs.Common.{◌≡◌, ◌∙◌, sym, ap, subst, ℕ, ◌<◌, List, length, get_or, arith}
use Rattle.std.specs.Prelude.{map, slice_index_or}
use Rattle.std.proofs.lemmas.List.{get_or-map, length-append, length-map}
use Rattle.rtr_types.specs.declared.core_set.CoreSet.{CoreSet}
use Rattle.move_marks.specs.declared.marks.MarkedMove.{MarkedMove}
use Rattle.move_marks.specs.declared.marks.MoveKind.TheVariants.{Own}
use Rattle.move_marks.specs.Kinds.{marked as marked_in, marked_at_ports, set_of}
use Rattle.move_marks.specs.Members.{members}
use Rattle.move_marks.proofs.Picks.{found_here}
use Rattle.msi_state.specs.declared.moves.Move.{Move}
use Rattle.msi_state.specs.declared.moves.Move.TheVariants.{Core as CoreMove}
use Rattle.msi_machine.specs.declared.marks.Marks.{Marks}
use Rattle.msi_machine.specs.Marks.{marked, move_of}

-- it is the core's number among the cores that may move
pub own_numbered : (marks : Marks) (set : CoreSet) (core number : ℕ) → set ≡ set_of Own marks.moves →
    number < length (members set) → ((d : ℕ) → slice_index_or (members set) number d ≡ core) →
    (number < length (marked marks)) × ((d : Move) → slice_index_or (marked marks) number d ≡ CoreMove core)
own_numbered marks set core number is within value =
    let first : MarkedMove = record { kind = Own; core = 0 } in
    let make : ℕ → MarkedMove = λ c. record { kind = Own; core = c } in
    let low : number < length (members (set_of Own marks.moves)) =
    subst (λ (s : CoreSet). number < length (members s)) is within in
    let found : (e : ℕ) → core ≡ get_or (members (set_of Own marks.moves)) number e =
    λ e. sym (value e) ∙ ap (λ (s : CoreSet). get_or (members s) number e) is in
    let in_all : number < length (marked_in marks.moves) =
    omega (
      arith,
      low,
      length-append (map make (members (set_of Own marks.moves))) (marked_at_ports marks.moves),
      length-map (members (set_of Own marks.moves)) make,
    ) in
    let long = length-map (marked_in marks.moves) move_of in (
      omega (arith, in_all, long),
      λ d.
          get_or-map move_of (marked_in marks.moves) number first d in_all
          ∙ ap move_of (sym (found_here make (members (set_of Own marks.moves)) (marked_at_ports marks.moves) number
          core first low found)),
    )
