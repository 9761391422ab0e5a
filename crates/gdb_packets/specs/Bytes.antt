-- The bytes that frames are made of.
use Rattle.std.specs.Prelude.{ℕ}

-- `$` begins a frame
abbrev pub dollar : ℕ
dollar = 36

-- `#` ends its body
abbrev pub hash : ℕ
hash = 35

-- `}` changes the byte behind it
abbrev pub brace : ℕ
brace = 125

-- `*` is spared in answers, since it would mean that the byte before it is repeated
abbrev pub star : ℕ
star = 42

-- `+` says that a frame was taken
abbrev pub plus : ℕ
plus = 43

-- `-` says that a frame was broken
abbrev pub minus : ℕ
minus = 45

-- between frames an interrupt
abbrev pub interrupt_byte : ℕ
interrupt_byte = 3
