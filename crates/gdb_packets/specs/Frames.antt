-- Rule: a frame, and what bytes tell that have frames in them: framed, follow, tells, ReadBackLaw
-- Frames: `$`, a body, `#` and two digits of the body's sum. A body spells a payload.
use Rattle.std.specs.Prelude.{◌≡◌, ℕ, ◌+◌, ◌*◌, ◌/◌, ◌%◌, ◌≤◌, ◌==◌, ◌&&◌, ◌||◌, not, nat_le, Bool, false, bit_xor}
use Rattle.std.specs.Prelude.{List, [], ◌∷◌, ◌++◌, length, sum, slice_index, Option, unwrap_or, if◌then◌else◌}
use Rattle.std.specs.Option.{option_and_then, option_map}
use Rattle.std.specs.List.{flat_map}
use Rattle.hex.specs.Hex.{hex_digit_value, lower_digits}
use Rattle.gdb_packets.specs.Bytes.{dollar, hash, brace, star, minus, interrupt_byte}
use Rattle.gdb_packets.specs.declared.TheConstants.{PAYLOAD_MAX}

-- the most bytes of a payload that is read; `sizes_law` ties the code's constant, which the definitions cite, to it
abbrev pub payload_max : ℕ
payload_max = 4096

-- the sum of a body's bytes, modulo 256
abbrev pub checksum : List ℕ → ℕ
checksum body = sum body % 256

-- the bytes that a body may not have as they are
abbrev pub is_special : ℕ → Bool
is_special b = b == dollar || b == hash || b == brace || b == star

-- a byte as a body has it: behind a `}` and xored with 0x20, or as it is
abbrev pub escaped : ℕ → List ℕ
escaped b = if is_special b then brace ∷ bit_xor b 32 ∷ [] else b ∷ []

-- the body that spells a payload
abbrev pub body_of : List ℕ → List ℕ
body_of payload = flat_map escaped payload

-- the two digits of a sum
abbrev pub sum_digits : ℕ → List ℕ
sum_digits s = slice_index lower_digits (s / 16) ∷ slice_index lower_digits (s % 16) ∷ []

-- a body in its frame
abbrev pub enclosed : List ℕ → List ℕ
enclosed body = dollar ∷ (body ++ hash ∷ sum_digits (checksum body))

-- the frame of a payload
abbrev pub framed : List ℕ → List ℕ
framed payload = enclosed (body_of payload)

-- what a body stands for: behind a `}` a byte stands for itself xored with 0x20
unfoldable pub unescaped : List ℕ → List ℕ
unescaped [] = []
unescaped (b ∷ []) = if b == brace then [] else b ∷ []
unescaped (b ∷ c ∷ rest) = if b == brace then bit_xor c 32 ∷ unescaped rest else b ∷ unescaped (c ∷ rest)

-- the body ends behind a `}` whose byte is missing
unfoldable pub is_cut : List ℕ → Bool
is_cut [] = false
is_cut (b ∷ []) = b == brace
is_cut (b ∷ c ∷ rest) = if b == brace then is_cut rest else is_cut (c ∷ rest)

-- the number of two hexadecimal digits, small or capital
abbrev pub pair_of : (high low : ℕ) → Option ℕ
pair_of high low =
    option_and_then (λ h. option_map (λ l. 16 * h + l) (hex_digit_value low)) (hex_digit_value high)

-- the two bytes are the digits of the number
abbrev pub are_digits_of : (number high low : ℕ) → Bool
are_digits_of number high low = unwrap_or (option_map (λ n. n == number) (pair_of high low)) false

-- a body that is taken: its sum is right, no `}` is at its end, and its payload isn't too long
abbrev pub is_taken : (body : List ℕ) → (high low : ℕ) → Bool
is_taken body high low =
    are_digits_of (checksum body) high low && not (is_cut body) && nat_le (length (unescaped body)) PAYLOAD_MAX

-- where a reader of bytes stands: between frames, or in one behind these bytes of its body, behind its `#`, or behind
-- its first digit
pub data Standing : Type 0 where
  Between : Standing
  Body : (body : List ℕ) → Standing
  Sum : (body : List ℕ) → Standing
  Digit : (body : List ℕ) → (high : ℕ) → Standing

-- what a byte tells: the end of a good frame its payload, the end of another one that it is broken; between frames 0x03
-- an interrupt, and `-` that the last answer is wanted again
pub data Event : Type 0 where
  Nothing : Event
  Packet : (payload : List ℕ) → Event
  Broken : Event
  Interrupt : Event
  Again : Event

-- where a byte other than `$` leads
abbrev pub moved : Standing → ℕ → Standing
moved Between b = Between
moved (Body body) b = if b == hash then Sum body else Body (body ++ b ∷ [])
moved (Sum body) b = Digit body b
moved (Digit body high) b = Between

-- where a byte leads: `$` begins a frame, also within one
abbrev pub follow : Standing → ℕ → Standing
follow at b = if b == dollar then Body [] else moved at b

-- what a byte other than `$` tells
abbrev pub told : Standing → ℕ → Event
told Between b = if b == interrupt_byte then Interrupt else if b == minus then Again else Nothing
told (Body body) b = Nothing
told (Sum body) b = Nothing
told (Digit body high) b = if is_taken body high b then Packet (unescaped body) else Broken

-- what a byte tells
abbrev pub tells : Standing → ℕ → Event
tells at b = if b == dollar then Nothing else told at b

-- where bytes lead
abbrev pub after : Standing → List ℕ → Standing
after at [] = at
after at (b ∷ rest) = after (follow at b) rest

-- an event, unless there is none
abbrev pub noted : Event → List Event
noted Nothing = []
noted (Packet payload) = Packet payload ∷ []
noted Broken = Broken ∷ []
noted Interrupt = Interrupt ∷ []
noted Again = Again ∷ []

-- what bytes tell
abbrev pub events : Standing → List ℕ → List Event
events at [] = []
events at (b ∷ rest) = noted (tells at b) ++ events (follow at b) rest

-- a frame is read back: whatever stood before it and whatever follows, it tells its payload and nothing else, and takes
-- nothing from what follows
abbrev pub ReadBackLaw : Type 0
ReadBackLaw = (at : Standing) (payload rest : List ℕ) → length payload ≤ PAYLOAD_MAX →
    events at (framed payload ++ rest) ≡ Packet payload ∷ events Between rest

-- it doesn't matter how bytes are cut into pieces
pub record PiecesLaw : Type 0 where
  pub told : (at : Standing) (front rest : List ℕ) →
      events at (front ++ rest) ≡ events at front ++ events (after at front) rest
  pub led : (at : Standing) (front rest : List ℕ) → after at (front ++ rest) ≡ after (after at front) rest
