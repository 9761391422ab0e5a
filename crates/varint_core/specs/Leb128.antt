-- Unsigned LEB128 in its shortest form, of numbers below 2 ^ 32.
use Rattle.std.specs.Prelude.{◌≡◌, ℕ, zero, suc, ◌+◌, ◌*◌, ◌/◌, ◌%◌, ◌^◌, ◌<◌, ◌≤◌, List, [], ◌∷◌, ◌++◌, length, take}
use Rattle.std.specs.Prelude.{Option, Some, None, Result, Ok, Err, nat_lt, nat_le, nat_eq, if◌then◌else◌, ◌&&◌, Bool}
use Rattle.std.specs.Prelude.{false}
use Rattle.std.specs.Option.{option_map}
use Rattle.std.specs.List.{AllByRecursion}
use Rattle.varint_core.specs.declared.Varint.{Varint}
use Rattle.varint_core.specs.declared.Varint.TheVariants.{Short, Over, NotShortest}

-- the shortest spelling, of at most k bytes
unfoldable pub spelling_within : ℕ → ℕ → List ℕ
spelling_within zero n = []
spelling_within (suc k) n = if nat_lt n 128 then n ∷ [] else (n % 128 + 128) ∷ spelling_within k (n / 128)

-- the shortest spelling of a number below 2 ^ 32
unfoldable pub spelling : ℕ → List ℕ
spelling n = spelling_within 5 n

-- the bytes up to the first without top bit, where that is among the first k
unfoldable pub group : ℕ → List ℕ → Option (List ℕ)
group zero bytes = None
group (suc k) [] = None
group (suc k) (b ∷ bytes) = if nat_lt b 128 then Some (b ∷ []) else option_map (λ g. b ∷ g) (group k bytes)

-- what the bytes of a group stand for, the low seven bits first
unfoldable pub value : List ℕ → ℕ
value [] = 0
value (b ∷ bytes) = b % 128 + 128 * value bytes

abbrev pub last : ℕ → List ℕ → ℕ
last b [] = b
last b (c ∷ bytes) = last c bytes

-- at least two bytes, and the last is 0
abbrev pub is_padded : List ℕ → Bool
is_padded [] = false
is_padded (b ∷ bytes) = nat_lt 0 (length bytes) && nat_eq (last b bytes) 0

abbrev pub judged : List ℕ → Option (List ℕ) → Result (ℕ × ℕ) Varint
judged bytes None = if nat_lt (length bytes) 5 then Err Short else Err Over
judged bytes (Some g) =
    if nat_le (2 ^ 32) (value g) then Err Over else if is_padded g then Err NotShortest else Ok (value g, length g)

-- the number and the length of the spelling that the bytes begin with, or why there is none
unfoldable pub reading : List ℕ → Result (ℕ × ℕ) Varint
reading bytes = judged bytes (group 5 bytes)

-- at a byte b without top bit, after i others, with value v
abbrev pub end : ℕ → ℕ → ℕ → Result (ℕ × ℕ) Varint
end v i b = if nat_le (2 ^ 32) v then Err Over else if nat_lt 0 i && nat_eq b 0 then Err NotShortest else Ok (v, i + 1)

abbrev pub RoundTrip : Type 0
RoundTrip = (n : ℕ) (rest : List ℕ) → n < 2 ^ 32 → reading (spelling n ++ rest) ≡ Ok (n, length (spelling n))

abbrev pub OneSpelling : Type 0
OneSpelling = (bytes : List ℕ) (n k : ℕ) → AllByRecursion (λ b. b < 256) bytes → reading bytes ≡ Ok (n, k) →
    (n < 2 ^ 32) × (k ≤ length bytes) × (take k bytes ≡ spelling n)

abbrev pub PrefixFree : Type 0
PrefixFree = (m n : ℕ) (x y : List ℕ) → m < 2 ^ 32 → n < 2 ^ 32 → spelling m ++ x ≡ spelling n ++ y → (m ≡ n) × (x ≡ y)
