use Rattle.std.proofs.Common.{append_assoc}
use Rattle.state_text.proofs.faults.fault_text.Goals as goal

pub returns-in-TooMany : goal.returns-in-TooMany
returns-in-TooMany c =
    rw (
      c.ended-in-TooMany.ensures,
      c.then-in-TooMany-2.ensures,
      c.number-in-TooMany-2.ensures.text,
      c.then-in-TooMany.ensures,
      c.number-in-TooMany.ensures.text,
      c.of-in-TooMany.ensures,
      c.in-TooMany.is,
    ) (simp append_assoc)
