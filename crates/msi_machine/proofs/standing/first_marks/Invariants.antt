use Rattle.std.proofs.Common.{◌≡◌, ◌≢◌, ℕ, false, length, take}
use Rattle.rtr_types.specs.CoreSets.{has}
use Rattle.move_marks.specs.declared.marks.MoveKind.{MoveKind}
use Rattle.move_marks.specs.declared.marks.MoveKind.TheVariants.{Own}
use Rattle.move_marks.specs.Kinds.{set_of}
use Rattle.msi_machine.specs.Standings.{may_begin}
use Rattle.msi_machine.proofs.standing.first_marks.Given as goal

abbrev pub invariant-loop-c : goal.invariant-loop-c
invariant-loop-c l = record {
  cores : l.marks.cores ≡ length l.standings;
  own : (k : ℕ) → has (set_of Own l.marks.moves) k ≡ may_begin (take l.c l.standings) k;
  others : (kind : MoveKind) → kind ≢ Own → (k : ℕ) → has (set_of kind l.marks.moves) k ≡ false;
}
