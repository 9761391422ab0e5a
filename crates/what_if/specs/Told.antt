-- Rule: what is told of the run in which the other core goes first: other_text
-- How each core ends if at a cut another core goes first, and the words that then differ from those at the end of the
-- recording, in lines.
use Rattle.std.specs.Prelude.{ℕ, ◌==◌, ◌*◌, ◌%◌, ◌^◌, Bool, not, nat_eq, List, [], ◌∷◌, ◌++◌, filter, length}
use Rattle.std.specs.Prelude.{slice_index, codes, decimal, if◌then◌else◌}
use Rattle.std.specs.Int.{to_be_bytes, w32}
use Rattle.std.specs.List.{flat_map, range_with_len}
use Rattle.hex.specs.Hex.{encode_lower}
use Rattle.rtr_types.specs.declared.cut.Cut.{Cut}
use Rattle.rtr_types.specs.declared.params.Params.{Params}
use Rattle.image_mem.specs.Contents.{Contents}
use Rattle.rv_core.specs.declared.core_state.Stop.{Stop}
use Rattle.rv_core.specs.declared.outcome.Outcome.{Outcome}
use Rattle.rv_core.specs.Steps.{need, stop_of}
use Rattle.state_text.specs.States.{stop_name}
use Rattle.replay_core.specs.Plans.{recorded_image}
use Rattle.replay_core.specs.Play.{core_at}
use Rattle.replay_audit.specs.Audits.{Findings}
use Rattle.what_if.specs.Others.{other_outcome}

-- a line: its text and one line feed
abbrev pub line : List ℕ → List ℕ
line text = text ++ 10 ∷ []

-- how a core's program ends by an outcome
abbrev pub end_in : Contents → Outcome → (core : ℕ) → Stop
end_in image outcome core = stop_of (need image (core_at outcome core))

-- how many instructions a core has retired, and how its program ends
abbrev pub end_text : Contents → Outcome → (core : ℕ) → List ℕ
end_text image outcome core =
    decimal (core_at outcome core).count ++ codes ", " ++ stop_name (end_in image outcome core)

abbrev pub core_row : Contents → (other recorded : Outcome) → (core : ℕ) → List ℕ
core_row image other recorded core =
    codes "core " ++ decimal core ++ codes ": retired " ++ end_text image other core ++ codes "; recorded "
    ++ line (end_text image recorded core)

abbrev pub cores_text : Contents → (other recorded : Outcome) → (cores : ℕ) → List ℕ
cores_text image other recorded cores = flat_map (core_row image other recorded) (range_with_len 0 cores)

-- a word: eight digits
abbrev pub hex_word : ℕ → List ℕ
hex_word word = encode_lower (to_be_bytes w32 word)

-- of so many words those that differ, by their indexes
abbrev pub differs : (words recorded : List ℕ) → (word : ℕ) → Bool
differs words recorded word = not (nat_eq (slice_index words word) (slice_index recorded word))

abbrev pub differing : (count : ℕ) → (words recorded : List ℕ) → List ℕ
differing count words recorded = filter (differs words recorded) (range_with_len 0 count)

abbrev pub word_row : (words recorded : List ℕ) → (word : ℕ) → List ℕ
word_row words recorded word =
    codes "word " ++ hex_word (word * 4 % 2 ^ 32) ++ codes ": " ++ hex_word (slice_index words word)
    ++ codes ", recorded " ++ line (hex_word (slice_index recorded word))

abbrev pub none_text : List ℕ
none_text = line (codes "no word differs")

abbrev pub words_text : (count : ℕ) → (words recorded : List ℕ) → List ℕ
words_text count words recorded =
    if length (differing count words recorded) == 0 then none_text else
    flat_map (word_row words recorded) (differing count words recorded)

-- of two outcomes of one image
abbrev pub ends_text : Contents → (other recorded : Outcome) → Params → List ℕ
ends_text image other recorded params =
    cores_text image other recorded params.cores ++ words_text params.words other.words recorded.words

abbrev pub other_text : Findings → Cut → (first : ℕ) → List ℕ
other_text a cut first =
    ends_text (recorded_image a.recording) (other_outcome a.which a.recording cut first) a.outcome a.recording.params
