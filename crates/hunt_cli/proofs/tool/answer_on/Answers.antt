use Rattle.hunt_cli.proofs.tool.answer_on.Goals as goal

pub returns-in-First : goal.returns-in-First
returns-in-First g c = rw c.in-First.is (rw c.as_slice.ensures.value at c.first_of.ensures)

pub returns-in-Small : goal.returns-in-Small
returns-in-Small g c = rw c.in-Small.is (rw c.as_slice-in-Small.ensures.value at c.small_of.ensures)
