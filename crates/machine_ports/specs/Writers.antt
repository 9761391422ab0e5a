-- Who may write a block.
use Rattle.std.specs.Prelude.{◌≡◌, ◌≢◌, ◌<◌, ℕ, true, false, length}
use Rattle.access_times.specs.Riding.{Riding, Carrying}
use Rattle.msi_cache.specs.Lines.{line_for, can_read, can_write}
use Rattle.msi_memory.specs.Memories.{Memory, port_at}

-- of each block: where one core's cache may write it, no other core's cache may read it, let alone write it
abbrev pub OneWriterEach : {R K : Type 0} → Riding R → Carrying K → Memory R K → Type 0
OneWriterEach riding carrying m =
    (b c d : ℕ) → c < length m.ports → d < length m.ports → c ≢ d
    → can_write (line_for riding.fresh (port_at carrying m.ports c).cache b) b ≡ true
    → can_read (line_for riding.fresh (port_at carrying m.ports d).cache b) b ≡ false
