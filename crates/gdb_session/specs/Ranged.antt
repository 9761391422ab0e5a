-- Rule: a packet that asks for steps in a range: asked_in
-- Packets that ask for steps in a range of addresses: `vCont;rFROM,PAST:..` asks for the steps of `vCont;s:..`, one
-- behind the other while the core stands in the range.
use Rattle.std.specs.Prelude.{ℕ, List, ◌++◌, codes, Option, Some, None}
use Rattle.std.specs.Option.{option_and_then, option_map}
use Rattle.gdb_packets.specs.Asks.{ask_of}
use Rattle.gdb_packets.specs.Numbers.{number_of}
use Rattle.gdb_packets.specs.Texts.{behind, cut_at}
use Rattle.gdb_moves.specs.declared.ranges.Range.{Range}
use Rattle.gdb_session.specs.declared.ranged.Ranged.{Ranged}

abbrev pub range_of : (from past : Option ℕ) → Option Range
range_of from past = option_and_then (λ a. option_map (λ b. record { from = a; past = b }) past) from

-- the range, and what stands behind it
abbrev pub past_parts : (from more : List ℕ) → Option (Range × List ℕ)
past_parts from more =
    option_and_then (λ p. option_map (λ range. (range, p.1)) (range_of (number_of from) (number_of p.0))) (cut_at 58 more)

abbrev pub text_parts : (text : List ℕ) → Option (Range × List ℕ)
text_parts text = option_and_then (λ p. past_parts p.0 p.1) (cut_at 44 text)

abbrev pub range_parts : (packet : List ℕ) → Option (Range × List ℕ)
range_parts packet = option_and_then text_parts (behind packet (codes "vCont;r"))

-- one step of the same threads
abbrev pub step_packet : (rest : List ℕ) → List ℕ
step_packet rest = codes "vCont;s:" ++ rest

abbrev pub asked_by : (packet : List ℕ) → Option (Range × List ℕ) → Ranged
asked_by packet None = record { ask = ask_of packet; range = None }
asked_by packet (Some parts) = record { ask = ask_of (step_packet parts.1); range = Some parts.0 }

-- what a packet asks, and the range in which its step goes on
abbrev pub asked_in : (packet : List ℕ) → Ranged
asked_in packet = asked_by packet (range_parts packet)
