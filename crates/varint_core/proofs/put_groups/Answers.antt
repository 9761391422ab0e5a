use Rattle.std.proofs.Common.{◌∙◌, ◌++◌, ap, arith}
use Rattle.varint_core.specs.Leb128.{spelling, spelling_within}
use Rattle.varint_core.proofs.ShortestSpelling.{push_more, push_last}
use Rattle.varint_core.proofs.put_groups.Goals as goal

pub loop-rest-init : goal.loop-rest-init
loop-rest-init c =
    let r = c.in_ok-reserve.ensures in
    (4, omega (arith, r.ok), omega arith, ap (λ xs. xs ++ spelling_within 5 c.args.value) r.items)

pub push_reserved-requires : goal.push_reserved-requires
push_reserved-requires c = let i = c.loop-rest.invariant in omega (arith, i.1)

pub loop-rest-preserved : goal.loop-rest-preserved
loop-rest-preserved c =
    let i = c.loop-rest.invariant in
    let p = c.push_reserved.ensures in
    let more = push_more i.0 c.loop-rest.rest c.loop-rest.out.items c.push_reserved.new.self.items _ i.2 i.3
    c.loop-rest-test.true p.items in
    (more.0, omega (arith, i.1, p.len, p.capacity, more.1), more.2, more.3)

pub push_reserved-requires-2 : goal.push_reserved-requires-2
push_reserved-requires-2 c = let i = c.loop-rest.invariant in omega (arith, i.1)

pub returns-clause-ok : goal.returns-clause-ok
unfolding spelling
returns-clause-ok c =
    let i = c.loop-rest.invariant in
    push_last i.0 c.loop-rest.rest c.loop-rest.out.items c.push_reserved-2.new.self.items _ i.3
    c.loop-rest-test.false c.push_reserved-2.ensures.items
