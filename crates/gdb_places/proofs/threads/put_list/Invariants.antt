use Rattle.std.proofs.Common.{◌≡◌, ◌++◌, take, string_bytes}
use Rattle.std.specs.List.{flat_map}
use Rattle.gdb_places.specs.Threads.{wait_text}
use Rattle.gdb_places.proofs.threads.put_list.Given as goal

-- the text so far
abbrev pub invariant-loop-at : goal.invariant-loop-at
invariant-loop-at l = string_bytes l.text ≡ string_bytes l.initial.text ++ flat_map wait_text (take l.at-index l.waits)
