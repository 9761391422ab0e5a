use Rattle.std.proofs.Common.{sym, ap, ◌∙◌}
use Rattle.std.specs.Option.{option_map}
use Rattle.race_answers.proofs.TableCounts.{rows_more}
use Rattle.race_answers.proofs.decisions.listed.Goals as goal

pub loop-place-preserved : goal.loop-place-preserved
loop-place-preserved c =
    rows_more c.args.table.now c.loop-place.place c.loop-place.list.items _
    (c.unwrap.result.0.now, c.unwrap.result.1.now) _ c.loop-place.invariant
    (sym c.get_index.ensures.entry ∙ ap (option_map (λ p. (p.0.now, p.1.now))) c.unwrap.ensures)
    c.decision_by.ensures c.in_ok-push.ensures.items
