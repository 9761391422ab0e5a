use Rattle.std.proofs.Common.{◌∙◌, ap, length}
use Rattle.small_turns.specs.Orders.{held}
use Rattle.small_turns.proofs.PlacesReached.{held_push}
use Rattle.small_turns.proofs.lines.line_of.Goals as goal

pub returns-clause-held : goal.returns-clause-held
returns-clause-held c = λ a.
    ap (held a) c.in_ok-push.ensures.items ∙ held_push a c.args.lines.now.items _ (ap length c.new.ensures)
