-- What a machine has come to at its end.
use Rattle.std.specs.Prelude.{ℕ, ◌/◌, ◌%◌, List, map, slice_index}
use Rattle.std.specs.List.{range_with_len}
use Rattle.rtr_types.specs.declared.TheConstants.{BLOCK_WORDS}
use Rattle.rv_core.specs.declared.core_state.Core.{Core}
use Rattle.rv_core.specs.declared.outcome.LoadNote.{LoadNote}
use Rattle.rv_core.specs.declared.outcome.Outcome.{Outcome}

-- so many words of a memory whose blocks have these
abbrev pub words_in : (blocks : ℕ → List ℕ) → (words : ℕ) → List ℕ
words_in blocks words =
    map (λ word. slice_index (blocks (word / BLOCK_WORDS)) (word % BLOCK_WORDS)) (range_with_len 0 words)

-- these cores and so many words of a memory whose blocks have these, with what each core's loads got
abbrev pub outcome_with : List Core → (blocks : ℕ → List ℕ) → (words : ℕ) → List (List LoadNote) → Outcome
outcome_with cores blocks words loads = record { cores = cores; words = words_in blocks words; loads = loads }
