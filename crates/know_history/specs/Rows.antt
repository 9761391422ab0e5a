-- What a note adds to the table of what was known, as a function.
use Rattle.std.specs.Prelude.{◌-◌, List, [], ◌∷◌, ◌++◌, length, slice_index_or, slice_set}
use Rattle.rtr_types.specs.declared.instr.Instr.{Instr}
use Rattle.clock_core.specs.Counts.{merged, no_counts}
use Rattle.clock_core.specs.declared.clock.Clock.{Clock}
use Rattle.know_history.specs.declared.known.Known.{Known}
use Rattle.know_history.specs.Notes.{Notes}

-- one core's retirement is noted: at each place the greater of the count noted last and the one known
abbrev pub next_row : List Clock → Known → Clock
next_row rows known = merged (slice_index_or rows (length rows - 1) no_counts) known.counts

abbrev pub with_row : List Clock → Known → List Clock
with_row rows known = rows ++ next_row rows known ∷ []

-- the notes with one more retirement, at which so much is known
abbrev pub with_note : Notes → Instr → Known → Notes
with_note notes at known = slice_set notes at.core (with_row (slice_index_or notes at.core []) known)
