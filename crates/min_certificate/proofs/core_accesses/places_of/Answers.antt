use Rattle.std.proofs.Common.{take, refl, sym, arith}
use Rattle.min_certificate.proofs.AccessPlaces.{IsStep, core_below, indexed_all, indexed_on, indexed_start, row_short}
use Rattle.min_certificate.proofs.core_accesses.places_of.Goals as goal

pub loop-index-init : goal.loop-index-init
loop-index-init c = indexed_start c.args.cores (take 0 c.args.accesses.now) c.in_ok-places.places.items refl
    c.in_ok-places.ensures

pub index_mut-requires : goal.index_mut-requires
index_mut-requires c =
    let step : IsStep c.args.cores c.loop-index.index c.args.accesses.now =
    record { cores_below = c.requires.cores; rise = c.requires.rise; lt = c.loop-index-test.true } in
    core_below c.args.cores c.loop-index.index c.loop-index.places.len c.args.accesses.now _ c.loop-index.places.items
    (sym c.loop-index.places.ok.0) step
    c.loop-index.invariant

pub put_place-requires : goal.put_place-requires
put_place-requires c =
    row_short c.args.cores c.loop-index.index c.args.accesses.now _ c.loop-index.places.items c.index_mut.result.now
    (record { cores_below = c.requires.cores; rise = c.requires.rise; lt = c.loop-index-test.true })
    c.loop-index.invariant c.index_mut.ensures.value

pub loop-index-preserved : goal.loop-index-preserved
loop-index-preserved c =
    indexed_on c.args.cores c.loop-index.index c.args.accesses.now _ c.loop-index.places.items c.index_mut.result.now
    c.put_place.new.list
    (record { cores_below = c.requires.cores; rise = c.requires.rise; lt = c.loop-index-test.true })
    c.loop-index.invariant c.index_mut.ensures.value
    c.in_ok-put_place.ensures

pub returns : goal.returns
returns c = indexed_all c.args.cores c.loop-index.index c.args.accesses.now c.loop-index.places.items c.requires.rise
    (let f = c.loop-index-test.false in omega (arith, c.loop-index.auto.index-end)) c.loop-index.invariant
