use Rattle.move_marks.proofs.MemberNumbers.{member_at}
use Rattle.move_marks.proofs.sets.number_in.Goals as goal

pub returns-clause-within : goal.returns-clause-within
returns-clause-within c =
    let a = c.before.before.args in
    (member_at a.set c.first_of.result a.core c.count.result c.requires.core c.requires.member c.first_of.ensures
    c.count.ensures.value).0

pub returns-clause-value : goal.returns-clause-value
returns-clause-value c =
    let a = c.before.before.args in
    (member_at a.set c.first_of.result a.core c.count.result c.requires.core c.requires.member c.first_of.ensures
    c.count.ensures.value).1
