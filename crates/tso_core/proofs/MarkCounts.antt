-- How many moves are marked.
use Rattle.std.proofs.Common.{◌≡◌, ◌∙◌, ap, ℕ, ◌+◌, length, arith}
use Rattle.std.specs.Prelude.{map}
use Rattle.std.proofs.lemmas.List.{length-append, length-map}
use Rattle.move_marks.specs.declared.marks.MoveKind.TheVariants.{Own}
use Rattle.move_marks.specs.Kinds.{marked as marked_in, marked_at_ports, set_of}
use Rattle.move_marks.specs.Members.{members}
use Rattle.move_marks.proofs.Counts.{own_and_ports}
use Rattle.tso_state.specs.declared.moves.Move.{Move}
use Rattle.tso_state.specs.declared.moves.Move.TheVariants.{Core as CoreMove, Order as OrderMove}
use Rattle.tso_core.specs.declared.marks.Marks.{Marks}
use Rattle.tso_core.specs.Marks.{marked, marked_past_own, move_of}

pub past_own_long : (marks : Marks) →
    length (marked_past_own marks) ≡ length (members marks.orders) + length (marked_at_ports marks.moves)
past_own_long marks =
    length-append (map (λ (c : ℕ). OrderMove c) (members marks.orders)) (map move_of (marked_at_ports marks.moves))
    ∙ (λ i. length-map {B = Move} (members marks.orders) (λ (c : ℕ). OrderMove c) i
    + length-map (marked_at_ports marks.moves) move_of i)

pub marked_long : (marks : Marks) →
    length (marked_in marks.moves) + length (members marks.orders) ≡ length (marked marks)
marked_long marks =
    let first : length (marked marks) ≡ length (members (set_of Own marks.moves)) + length (marked_past_own marks) =
    length-append (map (λ (c : ℕ). CoreMove c) (members (set_of Own marks.moves))) (marked_past_own marks)
    ∙ ap (λ (n : ℕ). n + length (marked_past_own marks))
    (length-map {B = Move} (members (set_of Own marks.moves)) (λ (c : ℕ). CoreMove c)) in
    omega (arith, first, past_own_long marks, own_and_ports marks.moves)
