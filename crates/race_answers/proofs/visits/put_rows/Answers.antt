use Rattle.std.proofs.Common.{ℕ, List, ◌++◌, sym, ap, ◌∙◌, string_bytes}
use Rattle.std.proofs.lemmas.List.{flat_map_more}
use Rattle.std.specs.List.{flat_map, range_with_len}
use Rattle.roomy_lists.specs.Lists.{items_in}
use Rattle.rtr_types.proofs.Ranges.{range_more}
use Rattle.race_answers.specs.Traces.{calls_row}
use Rattle.race_answers.proofs.visits.put_rows.Goals as goal

pub loop-core-preserved : goal.loop-core-preserved
loop-core-preserved c =
    let row : ℕ → List ℕ = calls_row (items_in c.args.known.now.pcs) c.args.pc c.args.totals.now in
    let core = c.loop-core.core in
    let before = string_bytes c.args.text.now in
    c.in_ok-put_row.ensures
    ∙ ap (λ (b : List ℕ). b ++ row core) c.loop-core.invariant
    ∙ flat_map_more row before (range_with_len 0 core) core
    ∙ ap (λ (xs : List ℕ). before ++ flat_map row xs) (sym (range_more core))
