use Rattle.std.proofs.Common.{◌≡◌, ℕ, ◌+◌, ◌*◌, Bool, List, [], ◌∷◌, ◌++◌, Ok, length, sym, subst, ap, ◌∙◌, arith}
use Rattle.run_ranges.specs.declared.rows.Row.{Row}
use Rattle.run_ranges.specs.Tables.{IsTable}
use Rattle.run_ranges.proofs.Rounds.{taken}
use Rattle.run_ranges.proofs.TableLemmas.{both-few-broken, few-counted, table-empty, table-joined}
use Rattle.run_ranges.proofs.tables.table_of_round.Goals as goal

pub loop-table-init : goal.loop-table-init
loop-table-init g c =
    let ends : ℕ → List ℕ = g.T.Trial.ends c.args.trial.now in
    let breaks : ℕ → Bool = g.T.Trial.breaks c.args.trial.now in
    let end : ℕ = c.args.from + c.args.batch * c.args.batches in
    let many : length c.in_ok-tables.tables.items ≡ c.args.batches = omega (arith, c.in_ok-tables.ensures.many) in
    let Behind : List Row → Type 0 = λ rows. IsTable ends breaks end end rows in
    let From : ℕ → Type 0 = λ n. IsTable ends breaks (c.args.from + c.args.batch * n) end c.new-all.result.items in
    record {
      few = omega (arith, many);
      each = c.in_ok-tables.ensures.each;
      table = subst From (sym many) (subst Behind (sym c.new-all.ensures.items) (table-empty ends breaks end));
    }

pub merge-requires-clause-counts : goal.merge-requires-clause-counts
merge-requires-clause-counts g c =
    let ends : ℕ → List ℕ = g.T.Trial.ends c.args.trial.now in
    let breaks : ℕ → Bool = g.T.Trial.breaks c.args.trial.now in
    let is : c.loop-table.tables.items ≡ c.pop.new.self.items ++ Ok c.in_ok-rows.rows ∷ [] =
    cc (c.in-Some.ensures.items, c.in_ok-rows.was) in
    let t = taken (λ v. v.items) ends breaks c.args.from c.args.batch c.args.batches c.loop-table.tables.items
    c.pop.new.self.items c.in_ok-rows.rows c.loop-table.all.items is c.loop-table.invariant.few c.loop-table.invariant.each
    c.loop-table.invariant.table in
    omega (arith, c.requires, few-counted ends breaks _ _ _ _ _ t.low t.high t.own t.rest)

pub merge-requires-clause-broken : goal.merge-requires-clause-broken
merge-requires-clause-broken g c =
    let ends : ℕ → List ℕ = g.T.Trial.ends c.args.trial.now in
    let breaks : ℕ → Bool = g.T.Trial.breaks c.args.trial.now in
    let is : c.loop-table.tables.items ≡ c.pop.new.self.items ++ Ok c.in_ok-rows.rows ∷ [] =
    cc (c.in-Some.ensures.items, c.in_ok-rows.was) in
    let t = taken (λ v. v.items) ends breaks c.args.from c.args.batch c.args.batches c.loop-table.tables.items
    c.pop.new.self.items c.in_ok-rows.rows c.loop-table.all.items is c.loop-table.invariant.few c.loop-table.invariant.each
    c.loop-table.invariant.table in
    omega (arith, c.requires, both-few-broken ends breaks _ _ _ _ _ t.low t.high t.own t.rest)

pub loop-table-preserved : goal.loop-table-preserved
loop-table-preserved g c =
    let ends : ℕ → List ℕ = g.T.Trial.ends c.args.trial.now in
    let breaks : ℕ → Bool = g.T.Trial.breaks c.args.trial.now in
    let end : ℕ = c.args.from + c.args.batch * c.args.batches in
    let is : c.loop-table.tables.items ≡ c.pop.new.self.items ++ Ok c.in_ok-rows.rows ∷ [] =
    cc (c.in-Some.ensures.items, c.in_ok-rows.was) in
    let t = taken (λ v. v.items) ends breaks c.args.from c.args.batch c.args.batches c.loop-table.tables.items
    c.pop.new.self.items c.in_ok-rows.rows c.loop-table.all.items is c.loop-table.invariant.few c.loop-table.invariant.each
    c.loop-table.invariant.table in
    let start : ℕ = c.args.from + c.args.batch * length c.pop.new.self.items in
    let All : List Row → Type 0 = λ rows. IsTable ends breaks start end rows in
    record {
      few = t.few;
      each = t.firsts;
      table = subst All (sym c.in_ok-merge.ensures)
          (table-joined ends breaks _ _ _ c.in_ok-rows.rows.items c.loop-table.all.items t.low t.high t.own t.rest);
    }

pub returns : goal.returns
returns g c =
    let ends : ℕ → List ℕ = g.T.Trial.ends c.args.trial.now in
    let breaks : ℕ → Bool = g.T.Trial.breaks c.args.trial.now in
    let end : ℕ = c.args.from + c.args.batch * c.args.batches in
    let none : c.args.from + c.args.batch * length c.loop-table.tables.items ≡ c.args.from =
    let zero : length c.loop-table.tables.items ≡ 0 = omega (arith, c.in_default.ensures.cases.0) in
    ap (λ (n : ℕ). c.args.from + c.args.batch * n) zero ∙ omega arith in
    let From : ℕ → Type 0 = λ n. IsTable ends breaks n end c.loop-table.all.items in
    subst From none c.loop-table.invariant.table
