-- Rule: the text of a state: state_lines
-- The text of the state that a run or a replay left. A core, a word and a core's loads stand beside
-- their places, which number cores and words from 0 on.
use Rattle.std.specs.Prelude.{◌≡◌, ℕ, ◌*◌, ◌<◌, ◌≤◌, ◌==◌, if◌then◌else◌, Bool, List, [], ◌++◌, length, codes, decimal}
use Rattle.std.specs.Prelude.{All}
use Rattle.std.specs.List.{flat_map, enumerate_from, range_with_len}
use Rattle.rtr_types.specs.declared.params.TheConstants.{WORDS_MAX}
use Rattle.image_mem.specs.Contents.{Contents, opening_word}
use Rattle.rv_core.specs.declared.core_state.Core.{Core}
use Rattle.rv_core.specs.declared.core_state.Stop.{Stop}
use Rattle.rv_core.specs.declared.core_state.Stop.TheVariants.{Exit, Break, Limit, Fetch, Illegal, Jump, Align, Address}
use Rattle.rv_core.specs.declared.core_state.Stop.TheVariants.{Total}
use Rattle.rv_core.specs.declared.outcome.LoadNote.{LoadNote}
use Rattle.rv_core.specs.declared.outcome.Outcome.{Outcome}
use Rattle.rv_core.specs.States.{register}
use Rattle.rv_core.specs.Steps.{need, stop_of}
use Rattle.state_text.specs.Pieces.{line, hex_word}

-- the word for a stop
abbrev pub stop_name : Stop → List ℕ
stop_name Exit = codes "exit"
stop_name Break = codes "break"
stop_name Limit = codes "limit"
stop_name Fetch = codes "fetch"
stop_name Illegal = codes "illegal"
stop_name Jump = codes "jump"
stop_name Align = codes "align"
stop_name Address = codes "address"
stop_name Total = codes "total"

-- how a core stopped, how many instructions it retired, and where its pc stands
abbrev pub stop_line : (number : ℕ) → Stop → Core → List ℕ
stop_line number stop core =
    line (codes "core " ++ decimal number ++ codes " " ++ stop_name stop ++ codes " retired " ++ decimal core.count
    ++ codes " pc " ++ hex_word core.pc)

-- register xk of a core, unless it is 0
abbrev pub register_line : (number k value : ℕ) → List ℕ
register_line number k value = if value == 0 then [] else
    line (codes "core " ++ decimal number ++ codes " x" ++ decimal k ++ codes " " ++ hex_word value)

-- the registers of a core, x1 to x31
unfoldable pub register_lines : (number : ℕ) → Core → List ℕ
register_lines number core = flat_map (λ k. register_line number k (register core k)) (range_with_len 1 31)

-- a core with its number
abbrev pub core_lines : Contents → ℕ × Core → List ℕ
core_lines image p = stop_line p.0 (stop_of (need image p.1)) p.1 ++ register_lines p.0 p.1

-- a memory word's value with its index, unless it is the opening value
abbrev pub memory_line : Contents → ℕ × ℕ → List ℕ
memory_line image p = if p.1 == opening_word image p.0 then [] else
    line (codes "mem " ++ hex_word (4 * p.0) ++ codes " " ++ hex_word p.1)

-- a load of a core
abbrev pub load_line : (number : ℕ) → LoadNote → List ℕ
load_line number note =
    line (codes "load " ++ decimal number ++ codes " " ++ decimal note.count ++ codes " " ++ hex_word (4 * note.word)
    ++ codes " " ++ hex_word note.value)

-- the loads of a core with its number, in program order
abbrev pub load_lines : ℕ × List LoadNote → List ℕ
load_lines p = flat_map (load_line p.0) p.1

-- the cores, the changed words of memory, and the loads where they are asked for
abbrev pub state_lines : Outcome → Contents → (loads : Bool) → List ℕ
state_lines outcome image loads =
    flat_map (core_lines image) (enumerate_from 0 outcome.cores)
    ++ flat_map (memory_line image) (enumerate_from 0 outcome.words)
    ++ (if loads then flat_map load_lines (enumerate_from 0 outcome.loads) else [])

-- each of these loads is of a memory of so many words
abbrev pub LoadsWithin : (words : ℕ) → List LoadNote → Type 0
LoadsWithin words notes = All (λ note. note.word < words) notes

-- the outcome is one over the image's memory: as many words, a list of loads for each core, and each
-- load's word within the memory
pub record IsOutcomeOf (image : Contents) (outcome : Outcome) : Type 0 where
  pub memory : image.words ≤ WORDS_MAX
  pub words : length outcome.words ≡ image.words
  pub loads : length outcome.loads ≡ length outcome.cores
  pub within : All (LoadsWithin image.words) outcome.loads
