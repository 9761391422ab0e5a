use Rattle.std.proofs.Common.{ℕ, ◌+◌, ◌<◌, ◌≤◌, Bool, List, [], arith, sym, subst}
use Rattle.std.specs.Option.{option_map}
use Rattle.run_ranges.specs.declared.rows.Row.{Row}
use Rattle.run_ranges.specs.Tables.{IsTable}
use Rattle.run_ranges.proofs.TableLemmas.{few-broken}
use Rattle.hunt_cli.specs.Finds.{broken_in, number_breaks, number_ends}
use Rattle.hunt_cli.specs.Kinds.{Setting, kind_with, setting_on}
use Rattle.hunt_cli.proofs.tables.table_of.Goals as goal

pub told-requires : goal.told-requires
told-requires g c =
    let s : Setting = setting_on (kind_with g.M.HuntedMachine.seen_at g.M.HuntedMachine.changes_at
    g.M.HuntedMachine.outcome g.M.HuntedMachine.most_steps g.M.HuntedMachine.buffers) c.args.asked.setup.params
    c.args.asked.bytes.now in
    let ends : ℕ → List ℕ = number_ends s c.args.asked.runs.by c.args.asked.places.now in
    let breaks : ℕ → Bool = number_breaks s c.args.asked.runs.by (option_map (λ d. d.now) c.args.asked.demand) [] in
    let last : c.args.asked.runs.last ≤ 18446744073709551614 = c.args.asked.range.1 in
    let Few : List Row → Type 0 = λ rows. broken_in rows < 18446744073709551616 in
    subst Few (sym c.as_slice.ensures) (omega (
      arith,
      last,
      few-broken ends breaks c.args.asked.runs.first (c.args.asked.runs.last + 1) c.in_ok-rows.rows
          c.in_ok-rows.ensures,
    ))

pub returns : goal.returns
returns g c =
    let s : Setting = setting_on (kind_with g.M.HuntedMachine.seen_at g.M.HuntedMachine.changes_at
    g.M.HuntedMachine.outcome g.M.HuntedMachine.most_steps g.M.HuntedMachine.buffers) c.args.asked.setup.params
    c.args.asked.bytes.now in
    let ends : ℕ → List ℕ = number_ends s c.args.asked.runs.by c.args.asked.places.now in
    let breaks : ℕ → Bool = number_breaks s c.args.asked.runs.by (option_map (λ d. d.now) c.args.asked.demand) [] in
    let Table : List Row → Type 0 =
    λ rows. IsTable ends breaks c.args.asked.runs.first (c.args.asked.runs.last + 1) rows in (
      c.as_slice.result.now,
      subst Table (sym c.as_slice.ensures) c.in_ok-rows.ensures,
      c.in_ok-answer.ensures.out,
      c.in_ok-answer.ensures.report,
      c.in_ok-answer.ensures.exit,
    )
