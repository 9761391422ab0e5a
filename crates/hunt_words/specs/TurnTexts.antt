-- The turns that a text is.
use Rattle.std.specs.Prelude.{ℕ, ◌==◌, List, [], Option, Some, codes, if◌then◌else◌}
use Rattle.std.specs.List.{slice_split}
use Rattle.std.specs.Option.{option_map, option_or}
use Rattle.std.specs.Str.{bytes_eq}
use Rattle.tool_words.specs.Numerals.{number_between}
use Rattle.turn_lists.specs.declared.actor.Actor.{Actor}
use Rattle.turn_lists.specs.declared.actor.Actor.TheVariants.{Buffer, Core}
use Rattle.turn_lists.specs.declared.actor.TheConstants.{COUNT_MAX}
use Rattle.turn_lists.specs.declared.actor.Turn.{Turn}
use Rattle.end_claims.specs.Numbers.{◌>>=◌, behind, parted}
use Rattle.end_claims.specs.Reading.{core_of, each}

-- `w1`: the buffer of a core
unfoldable pub buffer_named : List ℕ → Option Actor
buffer_named text = do
  digits ← behind [] 119 text
  core ← core_of digits
  Some (Buffer core)

-- a buffer, or a core by its number
abbrev pub actor_named : List ℕ → Option Actor
actor_named text = option_or (buffer_named text) (option_map (λ core. Core core) (core_of text))

-- `1*20`: an actor and how many accesses it makes
unfoldable pub turn_named : List ℕ → Option Turn
turn_named text = do
  parts ← parted 42 text
  actor ← actor_named parts.0
  count ← number_between 1 COUNT_MAX parts.1
  Some (record { actor = actor; count = count })

-- `-` for none, else turns joined by `,`
unfoldable pub turns_named : List ℕ → Option (List Turn)
turns_named text =
    if bytes_eq text (codes "-") then Some [] else each turn_named (slice_split (λ b. b == 44) text)
