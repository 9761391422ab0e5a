-- Rule: threads as they are told: thread_text
-- What is said of threads.
use Rattle.std.specs.Prelude.{ℕ, zero, suc, ◌+◌, ◌==◌, false, nat_lt, List, [], ◌++◌, length, slice_index, codes}
use Rattle.std.specs.Prelude.{decimal, if◌then◌else◌}
use Rattle.std.specs.Fmt.{digits}
use Rattle.std.specs.List.{flat_map}
use Rattle.rtr_types.specs.declared.instr.Instr.{Instr}
use Rattle.rv_core.specs.declared.core_state.Stop.{Stop}
use Rattle.state_text.specs.States.{stop_name}
use Rattle.replay_core.specs.Orders.{counts_in}
use Rattle.replay_core.specs.Play.{instr}
use Rattle.debug_place.specs.Places.{Placed, cut_at}
use Rattle.gdb_moves.specs.Ends.{end_of}
use Rattle.gdb_places.specs.Waits.{waits_below}

-- how a program ends
abbrev pub end_text : Stop → List ℕ
end_text end = codes ", " ++ stop_name end

-- an instruction that is waited for
abbrev pub wait_text : Instr → List ℕ
wait_text at = codes " " ++ decimal at.core ++ codes ":" ++ decimal at.count

-- what a core waits for, if it does
abbrev pub waits_text : List Instr → List ℕ
waits_text list = if length list == 0 then [] else codes ", waits for" ++ flat_map wait_text list

-- the sources of an instruction that the place lacks
abbrev pub waits_of : Placed → Instr → List Instr
waits_of place at = waits_below place.which place.recording (cut_at place) at place.recording.params.cores

-- what is behind the counts: what the core waits for, or how its program ends, where the core has come to its end
abbrev pub behind_text : Placed → (core count total : ℕ) → List ℕ
behind_text place core count total =
    if nat_lt count total then waits_text (waits_of place (instr core (count + 1))) else end_text (end_of place core)

-- how far a core has come
abbrev pub state_text : Placed → (core count total : ℕ) → List ℕ
state_text place core count total =
    codes "retired " ++ decimal count ++ codes " of " ++ decimal total ++ behind_text place core count total

abbrev pub thread_text : Placed → (core : ℕ) → List ℕ
thread_text place core =
    state_text place core (counts_in place.state core) (slice_index place.recording.totals core)

-- the beginning of a thread with this number
abbrev pub id_text : (thread : ℕ) → List ℕ
id_text thread = codes "<thread id=\"" ++ digits 16 false thread

-- its names, by the core
abbrev pub names_text : (core : ℕ) → List ℕ
names_text core = codes "\" core=\"" ++ decimal core ++ codes "\" name=\"core " ++ decimal core ++ codes "\">"

-- what stands before a thread's text in the document: its number is one more than the core's
abbrev pub head_text : (core : ℕ) → List ℕ
head_text core = id_text (core + 1) ++ names_text core

-- a thread in the document
abbrev pub row_text : Placed → (core : ℕ) → List ℕ
row_text place core = head_text core ++ thread_text place core ++ codes "</thread>"

-- the first threads
unfoldable pub rows_text : Placed → (cores : ℕ) → List ℕ
rows_text place zero = []
rows_text place (suc cores) = rows_text place cores ++ row_text place cores

-- the document of all threads
abbrev pub threads_text : Placed → List ℕ
threads_text place =
    codes "<?xml version=\"1.0\"?><threads>" ++ rows_text place place.recording.params.cores ++ codes "</threads>"
