-- Which messages end the wait of a line.
use Rattle.std.specs.Prelude.{Bool, true, false}
use Rattle.msi_cache.specs.Table.{Signal, BlockData, PutAck}

-- such a message ends the wait of a line that expects it
abbrev pub ends_wait : Signal → Bool
ends_wait BlockData = true
ends_wait PutAck = true
ends_wait _ = false
