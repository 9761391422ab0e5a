use Rattle.std.proofs.Common.{◌≡◌, ◌+◌, ℕ, Bool, List, sym, subst, ap, ◌∙◌, arith}
use Rattle.run_ranges.specs.declared.rows.Row.{Row}
use Rattle.run_ranges.specs.Tables.{IsTable, added, single}
use Rattle.run_ranges.proofs.TableLemmas.{few-broken, single-few, table-empty, table-more}
use Rattle.run_ranges.proofs.tables.table_in.Goals as goal

pub loop-n-init : goal.loop-n-init
loop-n-init g c =
    let ends : ℕ → List ℕ = g.T.Runs.ends c.args.runs.now in
    let breaks : ℕ → Bool = g.T.Runs.breaks c.args.runs.now in
    let None : List Row → Type 0 = λ rows. IsTable ends breaks c.args.from c.args.from rows in
    record {
      table = subst None (sym c.new-rows.ensures.items) (table-empty ends breaks c.args.from);
      serves = c.in_ok-bench.ensures;
    }

pub add_row-requires-clause-broken : goal.add_row-requires-clause-broken
add_row-requires-clause-broken g c =
    let ends : ℕ → List ℕ = g.T.Runs.ends c.args.runs.now in
    let breaks : ℕ → Bool = g.T.Runs.breaks c.args.runs.now in
    omega (
      arith,
      few-broken ends breaks c.args.from c.loop-n.n c.loop-n.rows.items c.loop-n.invariant.table,
      ap (λ (r : Row). r.broken) c.single.ensures,
      single-few c.into_parts-values.result.0 c.in_ok-seen.seen.breaks c.loop-n.n,
    )

pub loop-n-preserved : goal.loop-n-preserved
loop-n-preserved g c =
    let ends : ℕ → List ℕ = g.T.Runs.ends c.args.runs.now in
    let breaks : ℕ → Bool = g.T.Runs.breaks c.args.runs.now in
    let n : ℕ = c.loop-n.n in
    let one : c.single.result ≡ single (ends n) (breaks n) n =
    c.single.ensures
    ∙ ap (λ (vs : List ℕ). single vs c.in_ok-seen.seen.breaks n) (c.into_parts-values.ensures.values ∙ c.in_ok-seen.ensures.values)
    ∙ ap (λ (b : Bool). single (ends n) b n) c.in_ok-seen.ensures.breaks in
    let rows : c.add_row.new.rows.items ≡ added (single (ends n) (breaks n) n) c.loop-n.rows.items =
    c.in_ok-add_row.ensures ∙ ap (λ (r : Row). added r c.loop-n.rows.items) one in
    let Table : List Row → Type 0 = λ rows. IsTable ends breaks c.args.from (n + 1) rows in
    record {
      table = subst Table (sym rows)
          (table-more ends breaks c.args.from n c.loop-n.rows.items (omega arith) c.loop-n.invariant.table);
      serves = rw c.into_parts-values.ensures.bench c.in_ok-seen.ensures.bench;
    }
