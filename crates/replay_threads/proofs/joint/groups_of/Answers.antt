use Rattle.std.proofs.Common.{◌≡◌, ◌+◌, ◌<◌, ◌%◌, List, drop, ap, refl, sym, subst, arith, ◌∙◌}
use Rattle.std.proofs.Common.{get_or}
use Rattle.std.proofs.lemmas.Option.{get_or_from_slice_get}
use Rattle.std.proofs.lemmas.Nat.{mod_below}
use Rattle.race_log.specs.declared.recording.Recording.{Recording}
use Rattle.replay_table.specs.Seats.{Sitting}
use Rattle.replay_threads.specs.Groups.{Grouped, AreAt, AreGrouped, IsGivenTo}
use Rattle.replay_threads.proofs.DealtWorkers.{written, drop_next, first_get, grouped_more, at_more}
use Rattle.replay_threads.proofs.joint.groups_of.Goals as goal

pub loop-core-preserved : goal.loop-core-preserved
loop-core-preserved g c =
    let i = c.loop-core.invariant in
    let n = c.args.count in
    let k = c.loop-core.core in
    let items : List Grouped = c.loop-core.groups.items in
    let new : List Grouped = c.give.new.groups in
    let orig : List Sitting = c.args.seats.items in
    let x : Sitting = c.remove-seat.result in
    let given0 : IsGivenTo items (k % n) c.new-worker.result new =
    subst (λ (l : List Grouped). IsGivenTo l (k % n) c.new-worker.result new) c.as_mut_slice.ensures.value
    c.in_ok-give.ensures in
    let given : IsGivenTo items (k % n) x new = subst (λ (y : Sitting). IsGivenTo items (k % n) y new)
    c.new-worker.ensures given0 in
    let w = written c.loop-core.groups.len new items given.all c.loop-core.groups.ok.0 in
    let below = c.loop-core-test.true in
    let all = c.requires.all in
    let cores = ap (λ (r : Recording). r.params.cores) c.requires.recording in
    let each = c.requires.valid.each_core in
    let there = first_get k orig x (subst (λ (l : List Sitting). x ≡ get_or l 0 x) i.left c.remove-seat.ensures.value)
    (omega arith) in
    let id : x.core.id ≡ k = c.requires.order k x there in
    let within : k % n < n = mod_below k n c.requires.count in
    let long = i.grouped.all in
    record {
      left = c.remove-seat.ensures.items ∙ ap (λ (l : List Sitting). drop 1 l) i.left ∙ drop_next k (k + 1) orig refl;
      grouped = subst (λ (l : List Grouped). AreGrouped n (k + 1) l) (sym w)
          (grouped_more n k (k + 1) items new x i.grouped given id within refl);
      at = λ table h. subst (λ (l : List Grouped). AreAt table l) (sym w)
          (at_more table (k % n) items new x (i.at table h) given (omega (arith, within, long))
          (subst (λ (y : Sitting). y.table_id ≡ table)
          (get_or_from_slice_get orig k x x there) (h k x (omega arith))));
    }
