use Rattle.std.proofs.Common.{◌≡◌, ◌∙◌, sym, ℕ, ◌+◌, List, Option, Some, true, string_bytes, subst}
use Rattle.run_ranges.specs.Firsts.{IsFirst}
use Rattle.hunt_cli.specs.Finds.{number_breaks}
use Rattle.hunt_cli.specs.Kinds.{Setting, kind_with, setting_on}
use Rattle.hunt_cli.proofs.FirstShown.{finds-none, finds-one}
use Rattle.hunt_cli.proofs.firsts.first_of.Goals as goal

-- the first run found breaks the demand
pub found-requires-clause-breaks : goal.found-requires-clause-breaks
found-requires-clause-breaks g c =
    let a = c.args.asked in
    let s : Setting = setting_on (kind_with g.M.HuntedMachine.seen_at g.M.HuntedMachine.changes_at
    g.M.HuntedMachine.outcome g.M.HuntedMachine.most_steps g.M.HuntedMachine.buffers) a.setup.params a.bytes.now in
    let First : Option ℕ → Type 0 = λ o. IsFirst (number_breaks s a.runs.by (Some a.demand.now)
    c.as_slice.result.now) a.runs.first (a.runs.last + 1) o in
    let first : First (Some c.in-Some.number) = subst First c.in-Some.is c.in_ok-number.ensures in
    subst (λ (values : List ℕ). number_breaks s a.runs.by (Some a.demand.now) values c.in-Some.number ≡ true)
    (c.as_slice.ensures ∙ sym c.as_slice-in-Some.ensures) first.2

pub returns-in-Some : goal.returns-in-Some
returns-in-Some g c =
    let a = c.args.asked in
    let s : Setting = setting_on (kind_with g.M.HuntedMachine.seen_at g.M.HuntedMachine.changes_at
    g.M.HuntedMachine.outcome g.M.HuntedMachine.most_steps g.M.HuntedMachine.buffers) a.setup.params a.bytes.now in
    let First : Option ℕ → Type 0 = λ o. IsFirst (number_breaks s a.runs.by (Some a.demand.now)
    c.as_slice.result.now) a.runs.first (a.runs.last + 1) o in
    let answer = c.in_ok-shown-in-Some in
    finds-one a.setup s a.runs a.demand.now a.plain c.in-Some.number c.as_slice.result.now answer.shown.out.items
    (string_bytes answer.shown.report) answer.shown.exit (c.as_slice.ensures ∙ c.in_ok-values.ensures)
    (subst First c.in-Some.is c.in_ok-number.ensures) answer.ensures.out answer.ensures.report answer.ensures.exit

pub returns : goal.returns
returns g c =
    let a = c.args.asked in
    let s : Setting = setting_on (kind_with g.M.HuntedMachine.seen_at g.M.HuntedMachine.changes_at
    g.M.HuntedMachine.outcome g.M.HuntedMachine.most_steps g.M.HuntedMachine.buffers) a.setup.params a.bytes.now in
    let First : Option ℕ → Type 0 = λ o. IsFirst (number_breaks s a.runs.by (Some a.demand.now)
    c.as_slice.result.now) a.runs.first (a.runs.last + 1) o in
    let value = c.into_bytes.ensures.value in
    let given = c.done.ensures.out in
    let items : c.into_bytes.result.items ≡ string_bytes c.in_ok-text-in-None.text = λ i. (value i).items in
    let out : c.done.result.out.items ≡ c.into_bytes.result.items = λ i. (given i).items in
    finds-none a.setup s a.runs a.demand.now a.plain c.as_slice.result.now c.done.result.out.items
    (string_bytes c.done.result.report) c.done.result.exit (c.as_slice.ensures ∙ c.in_ok-values.ensures)
    (subst First c.in-None.is c.in_ok-number.ensures) (out ∙ items ∙ c.in_ok-text-in-None.ensures)
    c.done.ensures.report c.done.ensures.exit
