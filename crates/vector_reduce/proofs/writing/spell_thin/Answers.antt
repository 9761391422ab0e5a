use Rattle.rtr_types.specs.Turns.{stay}
use Rattle.part_lists.proofs.ItemsInTurn.{spelled_alike}
use Rattle.vector_reduce.specs.Spelling.{one_text, spelling}
use Rattle.vector_reduce.proofs.Parts.{shown_few}
use Rattle.vector_reduce.proofs.writing.spell_thin.Goals as goal

pub spell_with-requires-clause-items : goal.spell_with-requires-clause-items
spell_with-requires-clause-items c = rw c.as_slice.ensures (shown_few c.args.value.now c.requires)

pub returns : goal.returns
unfolding spelling
returns c = rw (c.as_slice.ensures, spelled_alike one_text stay (tt {0}) c.args.value.now.shown) at c.spell_with.ensures
