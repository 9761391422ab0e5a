use Rattle.std.proofs.Common.{◌≡◌, ℕ, List, ◌++◌, ap, ◌∙◌, arith}
use Rattle.gdb_monitor.specs.Slack.{slack_rows}
use Rattle.gdb_monitor.proofs.AskedCuts.{slack_is}
use Rattle.gdb_monitor.proofs.slack.slack_told.Goals as goal

pub returns : goal.returns
returns c =
    let p = c.args.place.now in
    let least = c.in_ok-least.least in
    let greatest = c.in_ok-greatest.greatest in
    let here = c.cut-here.result in
    let count = c.cores.ensures in
    slack_is c.args.audited.now p c.requires p c.bytes_of.result c.args.core here least greatest c.cut-here.ensures.cut
    (let below = c.if-core-cores.false in omega arith) c.in_ok-least.ensures.is c.in_ok-greatest.ensures.is
    (c.bytes_of.ensures ∙ c.in_ok-put_rows.ensures
    ∙ ap (λ (b : List ℕ). b ++ slack_rows c.cores-2.result least greatest here) c.new-text.ensures.bytes
    ∙ ap (λ (n : ℕ). slack_rows n least greatest here) c.cores-2.ensures)
