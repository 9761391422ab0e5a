-- Rule: registers as they are told: register_words
-- What is told of a core's registers.
use Rattle.std.specs.Prelude.{ℕ, ◌-◌, ◌^◌, List, [], ◌∷◌, ◌++◌, map, slice_get, Option, Some, None}
use Rattle.std.specs.Int.{to_le_bytes, w32}
use Rattle.std.specs.List.{flat_map, range_with_len}
use Rattle.gdb_packets.specs.declared.replies.Reply.{Reply}
use Rattle.gdb_packets.specs.declared.replies.Reply.TheVariants as reply
use Rattle.image_mem.specs.Contents.{Contents}
use Rattle.replay_core.specs.Plans.{recorded_image}
use Rattle.replay_core.specs.Play.{core_at}
use Rattle.rv_core.specs.declared.core_state.Core.{Core}
use Rattle.rv_core.specs.declared.core_state.Stop.{Stop}
use Rattle.rv_core.specs.declared.core_state.Stop.TheVariants.{Break}
use Rattle.rv_core.specs.Operations.{wrapped_sum}
use Rattle.rv_core.specs.States.{register}
use Rattle.rv_core.specs.Steps.{need, stop_of}
use Rattle.debug_place.specs.Places.{Placed}

-- the bytes of words, of each the lowest first
abbrev pub spelled : List ℕ → List ℕ
spelled words = flat_map (to_le_bytes w32) words

-- x0 to x31
abbrev pub general_words : Core → List ℕ
general_words core = map (register core) (range_with_len 0 32)

-- a core whose program has ended at an EBREAK, which is retired, is shown at it and not behind it; every other end
-- leaves the core at its own pc
abbrev pub pc_by : Stop → (pc : ℕ) → ℕ
pc_by Break pc = wrapped_sum pc (2 ^ 32 - 4)
pc_by _ pc = pc

abbrev pub told_pc : Contents → Core → ℕ
told_pc image core = pc_by (stop_of (need image core)) core.pc

-- x0 to x31, pc as it's told, how many instructions the core has retired, and how many it retired in all
abbrev pub register_words : Contents → Core → (total : ℕ) → List ℕ
register_words image core total = general_words core ++ told_pc image core ∷ core.count ∷ total ∷ []

-- of a core as it stands in the place's state
abbrev pub words_at : Placed → (core total : ℕ) → List ℕ
words_at place core total = register_words (recorded_image place.recording) (core_at place.state core) total

-- all registers of a core
abbrev pub registers_reply : Placed → (core total : ℕ) → Reply
registers_reply place core total = reply.Bytes (spelled (words_at place core total))

-- a word, if there is one
abbrev pub word_told : Option ℕ → Reply
word_told None = reply.Refused
word_told (Some word) = reply.Bytes (to_le_bytes w32 word)

-- one of the words
abbrev pub word_reply : List ℕ → (number : ℕ) → Reply
word_reply words number = word_told (slice_get words number)

-- one register of a core
abbrev pub register_reply : Placed → (core total number : ℕ) → Reply
register_reply place core total number = word_reply (words_at place core total) number
