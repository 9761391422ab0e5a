use Rattle.flat_cores.specs.Needs.{node_retired_at}
use Rattle.flat_marks.proofs.CoreMarks.{retired_marked}
use Rattle.flat_marks.proofs.OneNode.{still_there}
use Rattle.flat_marks.proofs.NodeMarks.{core_few, own_there}
use Rattle.flat_marks.proofs.own.write.Goals as goal

pub retire_write-access-requires-clause-core : goal.retire_write-access-requires-clause-core
retire_write-access-requires-clause-core c =
    own_there c.args.flat.now c.args.marks.now c.args.core c.requires.marked c.requires.can

pub mark_retired-requires-clause-core : goal.mark_retired-requires-clause-core
mark_retired-requires-clause-core c =
    let f = c.args.flat.now in
    still_there f c.retire_write-access.new.flat c.args.core (node_retired_at f c.args.core c.retire_write-access.result.before)
    (own_there f c.args.marks.now c.args.core c.requires.marked c.requires.can) c.retire_write-access.ensures.nodes

pub mark_retired-requires-clause-few : goal.mark_retired-requires-clause-few
mark_retired-requires-clause-few c =
    let f = c.args.flat.now in
    let w = c.requires.stands in
    core_few f w.s w.memory c.args.core w.stands
    (own_there f c.args.marks.now c.args.core c.requires.marked c.requires.can)

pub returns : goal.returns
returns c =
    let f = c.args.flat.now in
    let made = c.retire_write-access.ensures in
    record {
      makes = made.makes;
      told = made.told;
      blocks = made.blocks;
      marked = retired_marked f c.retire_write-access.new.flat c.args.marks.now c.mark_retired.new.marks c.args.core
          c.retire_write-access.result.before (own_there f c.args.marks.now c.args.core c.requires.marked c.requires.can) c.requires.marked
          c.requires.can made.nodes made.home made.blocks
          c.mark_retired.ensures.own c.mark_retired.ensures.others;
    }
