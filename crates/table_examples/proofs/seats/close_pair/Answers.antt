use Rattle.std.proofs.Common.{arith, ◌≡◌, ◌∙◌, ℕ, List, [], ◌∷◌, ◌++◌, length, ap, sym, subst}
use Rattle.std.specs.Prelude.{slice_index}
use Rattle.rv_core.specs.declared.core_state.Core.{Core}
use Rattle.race_log.specs.declared.recording.Recording.{Recording}
use Rattle.replay_core.specs.Plans.{Plan, plan_of}
use Rattle.replay_table.specs.Seats.{Finished, Sitting}
use Rattle.table_examples.proofs.Two.{Ended, two_finished}
use Rattle.table_examples.proofs.seats.close_pair.Goals as goal

pub close-requires : goal.close-requires
close-requires g c =
    let p : Plan = plan_of g.J.Job.which g.J.Job.recording in
    let a : Sitting = c.publish.new.seat in
    let b : Sitting = c.publish-2.new.seat in
    let items : c.push_reserved-2.new.self.items ≡ a ∷ b ∷ [] = c.push_reserved-2.ensures.items
    ∙ ap (λ (l : List Sitting). l ++ b ∷ [])
    (c.push_reserved.ensures.items ∙ ap (λ (l : List Sitting). l ++ a ∷ []) c.in_ok-seats.ensures.items) in
    let totals = c.as_slice.ensures ∙ ap (λ (r : Recording). r.totals) c.requires.recording in
    let least = c.in-len2.len_at_least in
    let most = c.in-len2.len_below in
    let both : length p.totals ≡ 2 = let e = ap (λ (l : List ℕ). length l) totals in omega arith in
    let one : Ended p c.args.table 0 a = record {
      table_is = c.publish.ensures.table ∙ c.requires.first;
      id = ap (λ (k : Core). k.id) (c.publish.ensures.core ∙ sym c.core.ensures.core) ∙ sym c.id.ensures
          ∙ c.if-id-ne0.false;
      total = ap (λ (k : Core). k.count) (c.publish.ensures.core ∙ sym c.core-else-id-ne0.ensures.core)
          ∙ sym c.count.ensures ∙ c.if-count-one.false
          ∙ ap (λ (l : List ℕ). slice_index l 0) totals;
      rest = c.publish.ensures.rest;
    } in
    let other : Ended p c.args.table 1 b = record {
      table_is = c.publish-2.ensures.table ∙ c.requires.second;
      id = ap (λ (k : Core). k.id) (c.publish-2.ensures.core ∙ sym c.core-2.ensures.core) ∙ sym c.id-2.ensures
          ∙ c.if-id-ne1.false;
      total = ap (λ (k : Core). k.count) (c.publish-2.ensures.core ∙ sym c.core-else-id-ne1.ensures.core)
          ∙ sym c.count-else-id-ne1.ensures
          ∙ c.if-count-two.false
          ∙ ap (λ (l : List ℕ). slice_index l 1) totals;
      rest = c.publish-2.ensures.rest;
    } in
    subst (λ (l : List Sitting). Finished p c.args.table l) (sym items) (two_finished p c.args.table a b both one other)
