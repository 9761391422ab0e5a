-- The accesses that a new one may need an edge from.
use Rattle.std.specs.Prelude.{ℕ, zero, suc, ◌%◌, List, [], ◌∷◌, ◌++◌, ◌&&◌, not, nat_eq, nat_lt, Option}
use Rattle.std.specs.Prelude.{Some, None, Bool, if◌then◌else◌}
use Rattle.std.specs.Option.{option_to_list}
use Rattle.rtr_types.specs.Accesses.{is_write}
use Rattle.rtr_types.specs.declared.instr.Instr.{Instr}
use Rattle.rtr_types.specs.declared.access.Access.{Access}
use Rattle.clock_core.specs.declared.clock.Clock.{Clock}
use Rattle.rtr_types.specs.declared.TheConstants.{BLOCK_WORDS}
use Rattle.access_times.specs.declared.times.Times.{Times}
use Rattle.access_times.specs.Times.{write_at, read_at}
use Rattle.online_reduce.specs.Rule.{is_above}
use Rattle.online_reduce.specs.declared.source.Source.{Source}

-- the instruction is of another core than a, and the clock before a on its core does not know of it
abbrev pub is_live : Clock → Access → Instr → Bool
is_live before a at = not (nat_eq at.core a.at.core) && is_above before at

-- the noted write, where one of the cores made it and it is live
abbrev pub write_from : ℕ → Clock → Access → Option (Instr × Clock) → Option Source
write_from cores before a None = None
write_from cores before a (Some w) =
    if nat_lt w.0.core cores && is_live before a w.0 then Some (record { at = w.0; clock = w.1 }) else None

-- the core's noted read, where a writes and it is live
abbrev pub read_from : Clock → Access → ℕ → Option (ℕ × Clock) → Option Source
read_from before a core None = None
read_from before a core (Some r) = let at : Instr = record { core = core; count = r.0 } in
    if is_write a.kind && is_live before a at then Some (record { at = at; clock = r.1 }) else None

-- the reads of the word since its last write that a may need an edge from, by rising core
unfoldable pub reads_from : ℕ → Clock → Access → Times → List Source
reads_from zero before a t = []
reads_from (suc core) before a t = reads_from core before a t
    ++ option_to_list (read_from before a core (read_at t (a.word % BLOCK_WORDS) core))

-- these, or the write where there are none
abbrev pub or_write : List Source → Option Source → List Source
or_write [] write = option_to_list write
or_write (read ∷ reads) write = read ∷ reads

-- the candidates of an access, by rising core: the live reads, or else the live write, which with exact times is in the
-- clock of each of the reads
abbrev pub candidates : ℕ → Clock → Access → Times → List Source
candidates cores before a t =
    or_write (reads_from cores before a t) (write_from cores before a (write_at t (a.word % BLOCK_WORDS)))
