-- How a run ended.
use Rattle.std.specs.Prelude.{ℕ, Bool, List, map, slice_index_or}
use Rattle.std.specs.Str.{bytes_eq}
use Rattle.image_mem.specs.Contents.{Contents}
use Rattle.rv_core.specs.declared.core_state.Core.{Core}
use Rattle.rv_core.specs.declared.core_state.Stop.{Stop}
use Rattle.rv_core.specs.declared.core_state.Stop.TheVariants.{Exit, Break, Limit, Fetch, Illegal, Jump, Align}
use Rattle.rv_core.specs.declared.core_state.Stop.TheVariants.{Address, Total}
use Rattle.rv_core.specs.declared.outcome.Outcome.{Outcome}
use Rattle.rv_core.specs.States.{register, starting}
use Rattle.rv_core.specs.Steps.{need, stop_of}
use Rattle.end_claims.specs.declared.claim.Place.{Place}
use Rattle.end_claims.specs.declared.claim.Place.TheVariants.{Word, Register, Ended}

-- how a run of an image ended: its cores by number, and each word of its memory by index
pub record End : Type 0 where
  pub image : Contents
  pub cores : List Core
  pub word : ℕ → ℕ

-- how the run ended whose outcome this is
abbrev pub end_of : Contents → Outcome → End
end_of image outcome = record {
  image = image;
  cores = outcome.cores;
  word = λ word. slice_index_or outcome.words word 0;
}

-- a core
abbrev pub core_at : End → ℕ → Core
core_at end core = slice_index_or end.cores core (starting 0 0)

-- why a core's program is done
unfoldable pub stop_at : End → (core : ℕ) → Stop
stop_at end core = stop_of (need end.image (core_at end core))

-- the number of a stop, in the order in which the stops are looked for
abbrev pub stop_number : Stop → ℕ
stop_number Exit = 0
stop_number Break = 1
stop_number Limit = 2
stop_number Fetch = 3
stop_number Illegal = 4
stop_number Jump = 5
stop_number Align = 6
stop_number Address = 7
stop_number Total = 8

-- the value that a place has at the end
abbrev pub value_at : End → Place → ℕ
value_at end (Word word) = end.word word
value_at end (Register core number) = register (core_at end core) number
value_at end (Ended core) = stop_number (stop_at end core)

-- the values that the places have at the end
abbrev pub values_at : End → List Place → List ℕ
values_at end places = map (value_at end) places

-- the places have these values
abbrev pub have_values : End → List Place → List ℕ → Bool
have_values end places values = bytes_eq (values_at end places) values
