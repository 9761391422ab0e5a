-- the spot of the place is one of those that are kept
use Rattle.std.proofs.Common.{◌∙◌, ◌+◌, ◌*◌, ◌/◌, ◌%◌, ◌<◌, ap, arith, get_or, length, ℕ}
use Rattle.block_lists.proofs.Values.{found, place_inside, spot_inside, value_there}
use Rattle.block_lists.proofs.block_list.BlockList.get.Goals as goal

pub index-requires : goal.index-requires
index-requires g c =
    let a = c.self.inside in
    omega (
      arith,
      place_inside a.first a.table.items a.kept.items a.len c.args.place _ c.self.view_is c.requires,
      c.self.invariant.wide,
      a.table.ok.0,
    )

pub overflow_mul-index : goal.overflow_mul-index
overflow_mul-index g c =
    let a = c.self.inside in
    let inside = place_inside a.first a.table.items a.kept.items a.len c.args.place _ c.self.view_is c.requires in
    let wide : c.args.place / 64 < length a.table.items = omega (arith, c.self.invariant.wide) in
    let number = found a.table.items (c.args.place / 64) c.index.result.now wide c.index.ensures in
    omega (
      arith,
      number,
      spot_inside a.first a.table.items a.kept.items a.len c.args.place c.self.invariant,
      a.kept.ok,
      a.kept.small,
    )

pub overflow_add-index : goal.overflow_add-index
overflow_add-index g c =
    let a = c.self.inside in
    let inside = place_inside a.first a.table.items a.kept.items a.len c.args.place _ c.self.view_is c.requires in
    let wide : c.args.place / 64 < length a.table.items = omega (arith, c.self.invariant.wide) in
    let number = found a.table.items (c.args.place / 64) c.index.result.now wide c.index.ensures in
    omega (
      arith,
      number,
      spot_inside a.first a.table.items a.kept.items a.len c.args.place c.self.invariant,
      a.kept.ok,
      a.kept.small,
    )

pub index-requires-2 : goal.index-requires-2
index-requires-2 g c =
    let a = c.self.inside in
    let inside = place_inside a.first a.table.items a.kept.items a.len c.args.place _ c.self.view_is c.requires in
    let wide : c.args.place / 64 < length a.table.items = omega (arith, c.self.invariant.wide) in
    let number = found a.table.items (c.args.place / 64) c.index.result.now wide c.index.ensures in
    omega (
      arith,
      number,
      spot_inside a.first a.table.items a.kept.items a.len c.args.place c.self.invariant,
      a.kept.ok.0,
    )

is_value : goal.returns-clause-value
is_value g c d =
    let a = c.self.inside in
    let inside = place_inside a.first a.table.items a.kept.items a.len c.args.place _ c.self.view_is c.requires in
    let wide : c.args.place / 64 < length a.table.items = omega (arith, c.self.invariant.wide) in
    let number = found a.table.items (c.args.place / 64) c.index.result.now wide c.index.ensures in
    let there = spot_inside a.first a.table.items a.kept.items a.len c.args.place c.self.invariant in
    value_there a.first a.table.items a.kept.items a.len c.args.place c.index-2.result.now d inside
    (c.index-2.ensures
    ∙ ap (λ (n : ℕ). get_or a.kept.items (n * 64 + c.args.place % 64) c.index-2.result.now) number) there
    ∙ ap (λ all. get_or all c.args.place d) c.self.view_is

pub returns-clause-value : goal.returns-clause-value
returns-clause-value g c d = is_value g c d

pub returns-clause-here : goal.returns-clause-here
returns-clause-here g c = is_value g c c.index-2.result.now
