-- a block of the place's own is kept, with the list as it was; then one of its spots is written
use Rattle.std.proofs.Common.{◌∙◌, ◌+◌, ◌*◌, ◌/◌, ◌%◌, ◌<◌, ap, arith, length, set, subst, sym, ℕ}
use Rattle.block_lists.specs.Blocks.{Fits, values_in}
use Rattle.block_lists.proofs.Values.{found, place_inside, spot_inside, written_fits, written_values}
use Rattle.block_lists.proofs.block_list.BlockList.set.Goals as goal

pub own-requires-clause-block : goal.own-requires-clause-block
own-requires-clause-block g c =
    let a = c.self.inside in
    omega (
      arith,
      place_inside a.first a.table.items a.kept.items a.len c.args.place _ c.self.view_is c.requires,
      c.self.invariant.wide,
    )

pub overflow_mul-spot : goal.overflow_mul-spot
overflow_mul-spot g c =
    let a = c.self.inside in
    let o = c.in_ok-own.ensures.own in
    let table = c.own.new.table.items in
    let kept = c.own.new.kept.items in
    let fits = o.fits a.first a.len c.self.invariant in
    let inside = place_inside a.first a.table.items a.kept.items a.len c.args.place _ c.self.view_is c.requires in
    let wide : c.args.place / 64 < length table = omega (arith, fits.wide) in
    let number = found table (c.args.place / 64) c.index.result.now wide c.index.ensures in
    let there = spot_inside a.first table kept a.len c.args.place fits in
    omega (arith, number, there, c.own.new.kept.ok, c.own.new.kept.small)

pub overflow_add-spot : goal.overflow_add-spot
overflow_add-spot g c =
    let a = c.self.inside in
    let o = c.in_ok-own.ensures.own in
    let table = c.own.new.table.items in
    let kept = c.own.new.kept.items in
    let fits = o.fits a.first a.len c.self.invariant in
    let inside = place_inside a.first a.table.items a.kept.items a.len c.args.place _ c.self.view_is c.requires in
    let wide : c.args.place / 64 < length table = omega (arith, fits.wide) in
    let number = found table (c.args.place / 64) c.index.result.now wide c.index.ensures in
    let there = spot_inside a.first table kept a.len c.args.place fits in
    omega (arith, number, there, c.own.new.kept.ok, c.own.new.kept.small)

pub index_mut-requires : goal.index_mut-requires
index_mut-requires g c =
    let a = c.self.inside in
    let o = c.in_ok-own.ensures.own in
    let table = c.own.new.table.items in
    let kept = c.own.new.kept.items in
    let fits = o.fits a.first a.len c.self.invariant in
    let inside = place_inside a.first a.table.items a.kept.items a.len c.args.place _ c.self.view_is c.requires in
    let wide : c.args.place / 64 < length table = omega (arith, fits.wide) in
    let number = found table (c.args.place / 64) c.index.result.now wide c.index.ensures in
    let there = spot_inside a.first table kept a.len c.args.place fits in
    omega (arith, number, there, c.own.new.kept.ok.0)

pub invariant_of-self-2 : goal.invariant_of-self-2
invariant_of-self-2 g c =
    let a = c.self.inside in
    let o = c.in_ok-own.ensures.own in
    let table = c.own.new.table.items in
    let kept = c.own.new.kept.items in
    let fits = o.fits a.first a.len c.self.invariant in
    let inside = place_inside a.first a.table.items a.kept.items a.len c.args.place _ c.self.view_is c.requires in
    let wide : c.args.place / 64 < length table = omega (arith, fits.wide) in
    let number = found table (c.args.place / 64) c.index.result.now wide c.index.ensures in
    let there = spot_inside a.first table kept a.len c.args.place fits in
    subst
    (λ (n : ℕ). Fits a.first table (set kept (n * 64 + c.args.place % 64) c.args.value) a.len) (sym number)
    (written_fits a.first table kept a.len c.args.place c.args.value fits o.own)

pub returns-clause-ok : goal.returns-clause-ok
returns-clause-ok g c =
    let a = c.self.inside in
    let o = c.in_ok-own.ensures.own in
    let table = c.own.new.table.items in
    let kept = c.own.new.kept.items in
    let fits = o.fits a.first a.len c.self.invariant in
    let inside = place_inside a.first a.table.items a.kept.items a.len c.args.place _ c.self.view_is c.requires in
    let wide : c.args.place / 64 < length table = omega (arith, fits.wide) in
    let number = found table (c.args.place / 64) c.index.result.now wide c.index.ensures in
    let there = spot_inside a.first table kept a.len c.args.place fits in
    ap (λ (n : ℕ). values_in a.first table (set kept (n * 64 + c.args.place % 64) c.args.value) a.len) number
    ∙ written_values a.first table kept a.len c.args.place c.args.value fits o.own inside
    ∙ ap (λ all. set all c.args.place c.args.value) (o.same a.first a.len c.self.invariant ∙ c.self.view_is)
