-- Worker by worker: each still has its seat, the one of its own core, so the seats so far are the first ones in order.
use Rattle.std.proofs.Common.{◌≡◌, ◌+◌, ◌-◌, ◌<◌, ◌%◌, ℕ, List, ◌∷◌, length, ap, sym, subst, arith, ◌∙◌}
use Rattle.std.specs.Prelude.{All, []}
use Rattle.std.specs.List.{range_with_len}
use Rattle.std.proofs.lemmas.Nat.{mod_below}
use Rattle.replay_table.specs.Seats.{Sitting}
use Rattle.replay_threads.specs.Groups.{Grouped, AllAt, AllDone, AreAt, AreGrouped, IsDone, IsGivenTo, ids_of}
use Rattle.replay_threads.specs.Groups.{workers_at}
use Rattle.replay_threads.proofs.DealtWorkers.{written, range_more, all_cons, all_seats, at_less, some_last, taken_last}
use Rattle.replay_threads.proofs.joint.seats_of.Goals as goal

pub unreachable-requires : goal.unreachable-requires
unreachable-requires g c =
    let i = c.loop-core.invariant in
    let n = c.len-count.result in
    let k = c.loop-core.core - 1 in
    let up = c.loop-core-test.true in
    let none : workers_at c.loop-core.groups.items (k % n) ≡ [] =
    subst (λ (l : List Grouped). workers_at l (k % n) ≡ []) c.as_mut_slice.ensures.value c.in_default.ensures.none in
    some_last n k c.loop-core.core c.loop-core.groups.items i.grouped (omega (arith, up)) (mod_below k n i.some) none

pub loop-core-preserved : goal.loop-core-preserved
loop-core-preserved g c =
    let i = c.loop-core.invariant in
    let r = g.J.Job.recording in
    let n = c.len-count.result in
    let core = c.loop-core.core in
    let k = core - 1 in
    let up = c.loop-core-test.true in
    let items : List Grouped = c.loop-core.groups.items in
    let new : List Grouped = c.take_last.new.groups in
    let x : Sitting = c.into_seat.result in
    let seats : List Sitting = c.loop-core.seats.items in
    let given0 : IsGivenTo new (k % n) c.in-Some.worker items =
    subst (λ (l : List Grouped). IsGivenTo new (k % n) c.in-Some.worker l) c.as_mut_slice.ensures.value
    c.in-Some.ensures.some in
    let given : IsGivenTo new (k % n) x items = subst (λ (y : Sitting). IsGivenTo new (k % n) y items)
    (sym c.into_seat.ensures) given0 in
    let w = written c.loop-core.groups.len new items (sym given.all) c.loop-core.groups.ok.0 in
    let more : core ≡ k + 1 = omega (arith, up) in
    let within : k % n < n = mod_below k n i.some in
    let count = i.count in
    let most = i.most in
    let taken = taken_last r n k core items new x i.grouped i.done more within given in
    let put : c.insert.new.self.items ≡ x ∷ seats = c.in_ok-insert.ensures.items in
    let long = given.all in
    record {
      count = let e = ap (λ (l : List Grouped). length l) w in omega (arith, count, long, e);
      some = i.some;
      most = omega (arith, most, more);
      grouped = subst (λ (l : List Grouped). AreGrouped n k l) (sym w) taken.grouped;
      done = subst (λ (l : List Grouped). AllDone r l) (sym w) taken.rest;
      ids = ap ids_of put ∙ ap (λ (j : ℕ). j ∷ ids_of seats) taken.core ∙ ap (λ (l : List ℕ). k ∷ l) i.ids
          ∙ range_more k core (c.args.cores - core) (c.args.cores - k) more (omega (arith, most, more));
      at = λ table h.
          let a = i.at table h in
          let q = at_less table (k % n) items new x a.0 given (omega (arith, within, count)) in (
            subst (λ (l : List Grouped). AreAt table l) (sym w) q.0,
            subst (λ (l : List Sitting). AllAt table l) (sym put)
                (all_cons (λ (y : Sitting). y.table_id ≡ table) x seats q.1 a.1),
          );
      ended = subst (λ (l : List Sitting). All (IsDone r) l) (sym put) (all_cons (IsDone r) x seats taken.done i.ended);
    }

pub returns : goal.returns
returns g c = λ table h.
    let i = c.loop-core.invariant in
    let r = g.J.Job.recording in
    let stop = c.loop-core-test.false in
    let zero-left : c.loop-core.core ≡ 0 = omega (arith, stop) in
    let cores = c.requires.cores in
    all_seats g.J.Job.which r table c.loop-core.seats.items
    (i.ids ∙ ap (λ (k : ℕ). range_with_len k (c.args.cores - k)) zero-left ∙ ap (λ (m : ℕ). range_with_len 0 m)
    (omega (arith, cores)))
    (i.at table h).1 i.ended
