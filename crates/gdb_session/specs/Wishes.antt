-- What the debugger has asked for that lasts.
use Rattle.std.specs.Prelude.{ℕ, ◌<◌, Bool, true, false, nat_lt, Option, Some, None, IfSome, if◌then◌else◌}
use Rattle.gdb_packets.specs.declared.asks.Plain.{Plain}
use Rattle.gdb_packets.specs.declared.asks.Plain.TheVariants as plain
use Rattle.gdb_packets.specs.declared.asks.Thread.{Thread}
use Rattle.gdb_packets.specs.declared.asks.Thread.TheVariants.{All, Any, Core}
use Rattle.gdb_monitor.specs.Leading.{can_lead}
use Rattle.gdb_commands.specs.declared.commands.Command.{Command}
use Rattle.gdb_commands.specs.declared.commands.Command.TheVariants.{Lead}
use Rattle.gdb_session.specs.declared.wishes.Wishes.{Wishes}

-- the cores that wishes name are there
pub record Fit (wishes : Wishes) (cores : ℕ) : Type 0 where
  pub looked : wishes.looked < cores
  pub told : wishes.told < cores
  pub moving : IfSome wishes.moving (λ core. core < cores)
  pub lead : IfSome wishes.lead (λ core. core < cores)

-- the core that a thread's name means, if it's there
abbrev pub core_of : Thread → (cores : ℕ) → Option ℕ
core_of All cores = None
core_of Any cores = None
core_of (Core core) cores = if nat_lt core cores then Some core else None

-- the name is of a thread that is there, or of all, or of any
abbrev pub is_there : Thread → (cores : ℕ) → Bool
is_there All cores = true
is_there Any cores = true
is_there (Core core) cores = nat_lt core cores

-- the core that is looked at from here on: where none is named, the one that was told last
abbrev pub looks_at : Wishes → Thread → (cores : ℕ) → Wishes
looks_at wishes All cores = record wishes { looked = wishes.told }
looks_at wishes Any cores = record wishes { looked = wishes.told }
looks_at wishes (Core core) cores = if nat_lt core cores then record wishes { looked = core } else wishes

-- the cores that go back from here on
abbrev pub moves_with : Wishes → Thread → (cores : ℕ) → Wishes
moves_with wishes All cores = record wishes { moving = None }
moves_with wishes Any cores = record wishes { moving = None }
moves_with wishes (Core core) cores = if nat_lt core cores then record wishes { moving = Some core } else wishes

-- the wishes behind a packet that moves nothing: an interrupt is forgotten where threads are asked for
abbrev pub wishes_after : Wishes → Plain → (cores : ℕ) → Wishes
wishes_after wishes (plain.LookAt thread) cores = looks_at wishes thread cores
wishes_after wishes (plain.MoveWith thread) cores = moves_with wishes thread cores
wishes_after wishes (plain.ThreadsPart span) cores = record wishes { interrupted = false }
wishes_after wishes plain.ThreadsFirst cores = record wishes { interrupted = false }
wishes_after wishes _ cores = wishes

-- and behind a move, at whose end a core was told
abbrev pub told_wishes : Wishes → (core : ℕ) → Wishes
told_wishes wishes core = record wishes { looked = core; told = core; interrupted = false }

-- the core that leads from here on; without one none does
abbrev pub led_by : Wishes → Option ℕ → Wishes
led_by wishes core = record wishes { lead = core }

-- the wishes behind a command of the debugger's user
abbrev pub commanded_wishes : Wishes → Command → (cores : ℕ) → Wishes
commanded_wishes wishes (Lead core) cores = if can_lead core cores then led_by wishes core else wishes
commanded_wishes wishes _ cores = wishes

-- and where the session is to outlive the program
abbrev pub outliving : Wishes → Wishes
outliving wishes = record wishes { extended = true }
