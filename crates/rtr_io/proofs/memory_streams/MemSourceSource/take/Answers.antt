use Rattle.std.proofs.Common.{length, arith, ◌≤◌, ◌-◌, ap, sym, ◌∙◌}
use Rattle.std.proofs.lemmas.List.{take_rest, length-drop}
use Rattle.rtr_io.proofs.MovedLemmas.{left-is, none-left}
use Rattle.rtr_io.proofs.memory_streams.MemSourceSource.take.Goals as goal

-- what is moved is the front of what was left, and nothing moves only at the end
pub returns-clause-bytes : goal.returns-clause-bytes
returns-clause-bytes c =
    let copied = rw c.deref.ensures.value at c.copy_from_slice.ensures.after in
    let moved = rw (
      c.deref.ensures.value,
      take_rest c.self.inside.bytes.items c.self.inside.next,
      length-drop c.self.inside.next c.self.inside.bytes.items,
    ) at c.min-n.ensures in
    let within : c.min-n.result ≤ length c.self.inside.bytes.items - c.self.inside.next = omega arith in (
      ap (λ r. r.left) (sym c.self.view_is)
          ∙ left-is c.self.inside.bytes.items c.args.into.now c.copy_from_slice.new.self c.self.inside.next
          c.min-n.result copied within,
      λ none some. none-left c.self.inside.bytes.items c.self.inside.next c.min-n.result (omega arith),
    )
