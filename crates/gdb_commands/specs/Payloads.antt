-- A text for the debugger's user, in payloads.
use Rattle.std.specs.Prelude.{ℕ, ◌*◌, nat_le, List, [], ◌∷◌, ◌++◌, length, map, take, drop}
use Rattle.std.specs.Prelude.{if◌then◌else◌}
use Rattle.std.specs.Int.{div_ceil}
use Rattle.std.specs.List.{range_with_len}
use Rattle.gdb_packets.specs.Replies.{spelled}
use Rattle.gdb_packets.specs.declared.replies.Reply.TheVariants.{Bytes, Done, Output}
use Rattle.gdb_commands.specs.declared.TheConstants.{FRAME_MAX}

-- the most bytes of a text in one payload; `sizes_law` ties the code's constant, which the definitions cite, to it
abbrev pub frame_max : ℕ
frame_max = 1000

-- the part of a text with this number: as many bytes as a frame has at most, or what is left
abbrev pub part_of : List ℕ → ℕ → List ℕ
part_of text k = take FRAME_MAX (drop (FRAME_MAX * k) text)

-- how many parts it has
abbrev pub parts_in : List ℕ → ℕ
parts_in text = div_ceil (length text) FRAME_MAX

-- a payload for each of the first parts, which more follows
abbrev pub outputs : List ℕ → (parts : ℕ) → List (List ℕ)
outputs text parts = map (λ k. spelled (Output (part_of text k))) (range_with_len 0 parts)

-- one payload, or where it's too long for one frame a payload for each part, and then that it's done
abbrev pub payloads_of : List ℕ → List (List ℕ)
payloads_of text =
    if nat_le (length text) FRAME_MAX then spelled (Bytes text) ∷ [] else
    outputs text (parts_in text) ++ spelled Done ∷ []
