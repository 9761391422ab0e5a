use Rattle.std.proofs.Common.{ℕ, Ok, Err, sym, rules}
use Rattle.std.proofs.lemmas.List.Sorted.{answers_always}
use Rattle.race_log.proofs.RisingSearch.{searched}
use Rattle.replay_core.proofs.Values.{no_value, values_rise, value_found, value_absent}
use Rattle.replay_core.proofs.replay.value_at.Goals as goal

pub returns-in-Ok : goal.returns-in-Ok
returns-in-Ok c =
    let values = c.args.values.now in
    let by_key = c.in-Ok.ensures.position (λ v. v.0) (answers_always _ _ _ (λ f a r g called. search rules)) in
    let at = (searched (λ (v : ℕ × ℕ). v.0) values no_value c.args.count (values_rise values c.requires) (Ok c.in-Ok.k)
    c.in-Ok.ensures.bound by_key).found in
    sym (value_found values c.in-Ok.k c.args.count c.requires at.0 at.1)

pub returns-in-Err : goal.returns-in-Err
returns-in-Err c =
    let values = c.args.values.now in
    let by_key = c.in-Err.ensures.position (λ v. v.0) (answers_always _ _ _ (λ f a r g called. search rules)) in
    let none = (searched (λ (v : ℕ × ℕ). v.0) values no_value c.args.count (values_rise values c.requires)
    (Err c.in-Err.field-0) c.in-Err.ensures.bound
    by_key).absent in
    sym (value_absent values c.args.count none)
