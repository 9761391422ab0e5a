use Rattle.rtr_types.specs.Turns.{count_up}
use Rattle.part_lists.proofs.ItemsInTurn.{spelled_alike}
use Rattle.certificate_codec.specs.Spelling.{entries_text, spelling}
use Rattle.certificate_codec.proofs.Parts.{entries_few}
use Rattle.certificate_codec.proofs.writing.spell_certificate.Goals as goal

pub spell_with-requires-clause-items : goal.spell_with-requires-clause-items
spell_with-requires-clause-items c = rw c.as_slice.ensures (entries_few c.args.value.now c.requires)

pub returns : goal.returns
unfolding spelling
returns c =
    rw (c.as_slice.ensures, spelled_alike entries_text count_up 0 c.args.value.now.clocks) at c.spell_with.ensures
