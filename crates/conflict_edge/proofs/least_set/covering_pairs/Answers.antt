use Rattle.std.proofs.Common.{arith, ◌≡◌, length, take, slice_index_or, sym, subst, ap}
use Rattle.std.proofs.lemmas.List.{take_more, take_all, length-take, length_push}
use Rattle.conflict_edge.specs.Scan.{AreExactClocks}
use Rattle.rtr_types.specs.declared.access.Kind.TheVariants.{Load}
use Rattle.conflict_edge.proofs.Next.{no_old, prefix_rise, prefix_cores, covering_next, exact_next}
use Rattle.conflict_edge.specs.Scan.{AreCovering}
use Rattle.rtr_types.specs.declared.access.Access.{Access}
use Rattle.conflict_edge.proofs.least_set.covering_pairs.Goals as goal

-- what stands at an index past the end
abbrev nothing : Access
nothing = record { at = record { core = 0; count = 0 }; word = 0; kind = Load; before = 0; after = 0 }

pub push_covering-requires-clause-rise : goal.push_covering-requires-clause-rise
push_covering-requires-clause-rise c = prefix_rise c.args.list.now c.loop-place.place nothing c.loop-place-test.true
    c.requires.rise

pub push_covering-requires-clause-cores : goal.push_covering-requires-clause-cores
push_covering-requires-clause-cores c = prefix_cores c.args.list.now c.loop-place.place nothing c.loop-place-test.true
    c.requires.cores

pub loop-place-preserved : goal.loop-place-preserved
loop-place-preserved c =
    let a : Access = slice_index_or c.args.list.now c.loop-place.place nothing in
    let rise = prefix_rise c.args.list.now c.loop-place.place nothing c.loop-place-test.true c.requires.rise in
    let more = sym (take_more c.args.list.now c.loop-place.place nothing c.loop-place-test.true) in
    let long : length c.loop-place.clocks.items ≡ length (take c.loop-place.place c.args.list.now) = let lt =
    c.loop-place-test.true in
    omega (arith, c.loop-place.invariant.len, length-take c.loop-place.place c.args.list.now) in
    record {
      len = omega (
        arith,
        ap length c.in_ok-push.ensures.items,
        length_push c.loop-place.clocks.items
            c.in_ok-clock.clock,
        c.loop-place.invariant.len,
      );
      exact = subst (λ g. AreExactClocks g c.push.new.self.items) more
          (exact_next (take c.loop-place.place c.args.list.now) a c.loop-place.clocks.items c.push.new.self.items
          c.in_ok-clock.clock rise long
          c.loop-place.invariant.exact c.in_ok-clock.ensures.clock c.in_ok-push.ensures.items);
      found = subst (λ g. AreCovering g c.push_covering.new.edges.items) more
          (covering_next (take c.loop-place.place c.args.list.now) a c.loop-place.edges.items
          c.push_covering.new.edges.items rise c.loop-place.invariant.found
          c.in_ok-clock.ensures.edges);
      once = c.in_ok-clock.ensures.once;
    }

pub push_covering-requires-clause-apart : goal.push_covering-requires-clause-apart
push_covering-requires-clause-apart c =
    λ x s. no_old (take c.loop-place.place c.args.list.now) (slice_index_or c.args.list.now c.loop-place.place nothing)
    x
    (prefix_rise c.args.list.now c.loop-place.place nothing c.loop-place-test.true c.requires.rise)
    ((c.loop-place.invariant.found x _).0 s)

pub returns-clause-covering : goal.returns-clause-covering
returns-clause-covering c =
    subst (λ g. AreCovering g c.loop-place.edges.items) (take_all c.loop-place.place c.args.list.now
    c.loop-place-test.false) c.loop-place.invariant.found
