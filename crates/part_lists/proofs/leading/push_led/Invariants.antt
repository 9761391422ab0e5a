use Rattle.std.proofs.Common.{◌≡◌, ◌++◌, take}
use Rattle.std.specs.Prelude.{map}
use Rattle.part_lists.proofs.leading.push_led.Given as goal

abbrev pub invariant-loop-entry : goal.invariant-loop-entry
invariant-loop-entry g l =
    l.list.items ≡ l.initial.list.items ++ map (g.L.Led.between l.from l.to) (take l.entry-index l.entries)
