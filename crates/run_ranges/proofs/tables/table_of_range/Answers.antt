use Rattle.std.proofs.Common.{◌≡◌, ℕ, ◌+◌, ◌*◌, ◌≤◌, Bool, List, sym, subst, ◌∙◌, arith}
use Rattle.run_ranges.specs.declared.rows.Row.{Row}
use Rattle.run_ranges.specs.Tables.{IsTable, merged}
use Rattle.run_ranges.proofs.TableLemmas.{both-few-broken, few-counted, table-empty, table-joined}
use Rattle.run_ranges.proofs.tables.table_of_range.Goals as goal

pub loop-at-init : goal.loop-at-init
loop-at-init g c =
    let ends : ℕ → List ℕ = g.T.Trial.ends c.args.trial.now in
    let breaks : ℕ → Bool = g.T.Trial.breaks c.args.trial.now in
    let None : List Row → Type 0 = λ rows. IsTable ends breaks c.args.from c.args.from rows in
    record {
      low = omega arith;
      high = c.requires.order;
      table = subst None (sym c.new-rows.ensures.items) (table-empty ends breaks c.args.from);
    }

pub merge-requires-clause-counts : goal.merge-requires-clause-counts
merge-requires-clause-counts g c =
    let ends : ℕ → List ℕ = g.T.Trial.ends c.args.trial.now in
    let breaks : ℕ → Bool = g.T.Trial.breaks c.args.trial.now in
    let next : ℕ = c.loop-at.at + c.batch_of-batch.result * c.args.threads in
    let on : c.loop-at.at ≤ next = omega arith in
    omega (
      arith,
      c.batch_of-batch.ensures.within,
      few-counted ends breaks c.args.from c.loop-at.at next _ _ c.loop-at.invariant.low on
          c.loop-at.invariant.table c.in_ok-table.ensures,
    )

pub merge-requires-clause-broken : goal.merge-requires-clause-broken
merge-requires-clause-broken g c =
    let ends : ℕ → List ℕ = g.T.Trial.ends c.args.trial.now in
    let breaks : ℕ → Bool = g.T.Trial.breaks c.args.trial.now in
    let next : ℕ = c.loop-at.at + c.batch_of-batch.result * c.args.threads in
    let on : c.loop-at.at ≤ next = omega arith in
    omega (
      arith,
      c.batch_of-batch.ensures.within,
      both-few-broken ends breaks c.args.from c.loop-at.at next _ _ c.loop-at.invariant.low
          on c.loop-at.invariant.table c.in_ok-table.ensures,
    )

pub loop-at-preserved : goal.loop-at-preserved
loop-at-preserved g c =
    let ends : ℕ → List ℕ = g.T.Trial.ends c.args.trial.now in
    let breaks : ℕ → Bool = g.T.Trial.breaks c.args.trial.now in
    let next : ℕ = c.loop-at.at + c.batch_of-batch.result * c.args.threads in
    let on : c.loop-at.at ≤ next = omega arith in
    let All : List Row → Type 0 = λ rows. IsTable ends breaks c.args.from next rows in
    record {
      low = omega (arith, c.loop-at.invariant.low);
      high = omega (arith, c.loop-at.invariant.high, c.batch_of-batch.ensures.within);
      table = subst All (sym c.in_ok-merge.ensures) (table-joined ends breaks c.args.from c.loop-at.at next _ _
          c.loop-at.invariant.low on c.loop-at.invariant.table c.in_ok-table.ensures);
    }

pub merge-requires-2-clause-broken : goal.merge-requires-2-clause-broken
merge-requires-2-clause-broken g c =
    let ends : ℕ → List ℕ = g.T.Trial.ends c.args.trial.now in
    let breaks : ℕ → Bool = g.T.Trial.breaks c.args.trial.now in
    omega (
      arith,
      both-few-broken ends breaks c.args.from c.loop-at.at c.args.to _ _ c.loop-at.invariant.low
          c.loop-at.invariant.high c.loop-at.invariant.table c.in_ok-last.ensures,
    )

pub returns : goal.returns
returns g c =
    let ends : ℕ → List ℕ = g.T.Trial.ends c.args.trial.now in
    let breaks : ℕ → Bool = g.T.Trial.breaks c.args.trial.now in
    let All : List Row → Type 0 = λ rows. IsTable ends breaks c.args.from c.args.to rows in
    let rows : c.from_vec.result ≡ merged c.loop-at.rows.items c.in_ok-last.last.items =
    c.from_vec.ensures ∙ c.in_ok-merge-2.ensures in
    subst All (sym rows) (table-joined ends breaks c.args.from c.loop-at.at c.args.to _ _ c.loop-at.invariant.low
    c.loop-at.invariant.high c.loop-at.invariant.table c.in_ok-last.ensures)
