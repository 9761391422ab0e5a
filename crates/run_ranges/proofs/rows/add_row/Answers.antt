use Rattle.std.proofs.Common.{◌≡◌, ap, ◌∙◌, arith}
use Rattle.std.proofs.Math.ListN.{set}
use Rattle.std.specs.Cmp.Lexicographic.{slice_cmp}
use Rattle.std.specs.Ordering.{nat_cmp}
use Rattle.std.specs.declared.cmp.Ordering.TheVariants.{Less, Equal, Greater}
use Rattle.run_ranges.specs.declared.rows.Row.{Row}
use Rattle.run_ranges.specs.Tables.{added}
use Rattle.run_ranges.proofs.AddedRows.{inserts, joins, past, puts}
use Rattle.run_ranges.proofs.rows.add_row.Goals as goal

pub loop-k-preserved : goal.loop-k-preserved
loop-k-preserved c =
    let e : slice_cmp nat_cmp c.args.row.values c.index.result.now.values ≡ Greater = cc in
    record {
      same = c.loop-k.invariant.same;
      added_so = past c.args.row c.index.result.now c.loop-k.rows.items c.loop-k.k (omega arith) c.index.ensures e
          c.loop-k.invariant.added_so;
    }

pub returns-in-Equal : goal.returns-in-Equal
returns-in-Equal c =
    let e : slice_cmp nat_cmp c.args.row.values c.index.result.now.values ≡ Equal = cc in
    ap (λ (x : Row). set c.loop-k.rows.items c.loop-k.k x) c.join.ensures
    ∙ joins c.args.row c.index.result.now c.index_mut.result.now c.loop-k.rows.items c.loop-k.k (omega arith)
    c.index.ensures c.index_mut.ensures.value e c.loop-k.invariant.added_so
    ∙ ap (added c.args.row) c.loop-k.invariant.same

pub returns-in-Less : goal.returns-in-Less
returns-in-Less c =
    let e : slice_cmp nat_cmp c.args.row.values c.index.result.now.values ≡ Less = cc in
    c.in_ok-insert-in-Less.ensures.items
    ∙ inserts c.args.row c.index.result.now c.loop-k.rows.items c.loop-k.k (omega arith) c.index.ensures e
    c.loop-k.invariant.added_so ∙ ap (added c.args.row) c.loop-k.invariant.same

pub returns : goal.returns
returns c =
    c.in_ok-push.ensures.items ∙ puts c.args.row c.loop-k.rows.items c.loop-k.k (omega arith) c.loop-k.invariant.added_so
    ∙ ap (added c.args.row) c.loop-k.invariant.same
