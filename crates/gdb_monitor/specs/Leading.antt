-- The core that leads: by which alone all go on, and back.
use Rattle.std.specs.Prelude.{ℕ, Bool, true, nat_lt, List, ◌++◌, codes, decimal, Option, Some, None, if◌then◌else◌}
use Rattle.gdb_commands.specs.Lines.{line}
use Rattle.gdb_monitor.specs.Texts.{no_core_text}

-- whether such a core can lead: each that is there, and none
abbrev pub can_lead : Option ℕ → (cores : ℕ) → Bool
can_lead None cores = true
can_lead (Some core) cores = nat_lt core cores

abbrev pub lead_text : Option ℕ → List ℕ
lead_text None = line (codes "lead all")
lead_text (Some core) = line (codes "lead " ++ decimal core)

-- what is told where a core is asked to lead
abbrev pub lead_told : Option ℕ → (cores : ℕ) → List ℕ
lead_told None cores = lead_text None
lead_told (Some core) cores = if nat_lt core cores then lead_text (Some core) else no_core_text core
