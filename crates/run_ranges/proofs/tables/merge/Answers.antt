use Rattle.std.proofs.Common.{◌≡◌, ◌++◌, [], ◌∷◌, sym, ap, ◌∙◌, arith, refl}
use Rattle.std.specs.Prelude.{sum_by}
use Rattle.run_ranges.specs.declared.rows.Row.{Row}
use Rattle.run_ranges.specs.Tables.{added, merged}
use Rattle.run_ranges.proofs.RowLemmas.{merged-more, merged-none, room-kept}
use Rattle.run_ranges.proofs.tables.merge.Goals as goal

pub loop-row-preserved : goal.loop-row-preserved
loop-row-preserved c =
    let row : Row = c.in-Some.row in
    let was : c.loop-row.later.items ≡ c.pop.new.self.items ++ row ∷ [] = c.in-Some.ensures.items in
    let now : c.add_row.new.rows.items ≡ added row c.loop-row.rows.items = c.in_ok-add_row.ensures in
    record {
      all = ap (λ rows. merged rows c.pop.new.self.items) now
          ∙ sym (merged-more c.loop-row.rows.items c.pop.new.self.items row) ∙ ap (merged c.loop-row.rows.items) (sym was)
          ∙ c.loop-row.invariant.all;
      counts = omega (
        arith,
        ap (sum_by (λ (r : Row). r.count)) now,
        ap (sum_by (λ (r : Row). r.count)) was,
        room-kept (λ r. r.count) (λ _ _. refl) row c.loop-row.rows.items c.pop.new.self.items,
        c.loop-row.invariant.counts,
      );
      broken = omega (
        arith,
        ap (sum_by (λ (r : Row). r.broken)) now,
        ap (sum_by (λ (r : Row). r.broken)) was,
        room-kept (λ r. r.broken) (λ _ _. refl) row c.loop-row.rows.items c.pop.new.self.items,
        c.loop-row.invariant.broken,
      );
    }

pub returns : goal.returns
returns c = sym (merged-none c.loop-row.rows.items c.loop-row.later.items (omega (arith, c.in_default.ensures.cases.0)))
    ∙ c.loop-row.invariant.all
