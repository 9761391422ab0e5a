-- What a text claims.
use Rattle.std.specs.Prelude.{ℕ, ◌-◌, ◌/◌, ◌%◌, ◌==◌, List, [], ◌∷◌, Option, Some, None, codes}
use Rattle.std.specs.Prelude.{if◌then◌else◌, unwrap_or}
use Rattle.std.specs.List.{flat_map, slice_split}
use Rattle.std.specs.Option.{option_map, option_or}
use Rattle.std.specs.Str.{bytes_eq}
use Rattle.rtr_types.specs.declared.TheConstants.{CORES_MAX}
use Rattle.rv_core.specs.declared.core_state.TheConstants.{REGISTERS}
use Rattle.rv_core.specs.declared.core_state.Stop.{Stop}
use Rattle.rv_core.specs.declared.core_state.Stop.TheVariants.{Exit, Break, Limit, Fetch, Illegal, Jump, Align}
use Rattle.rv_core.specs.declared.core_state.Stop.TheVariants.{Address}
use Rattle.tool_words.specs.Names.{named_by}
use Rattle.tool_words.specs.Numerals.{number_between}
use Rattle.end_claims.specs.declared.claim.Atom.{Atom}
use Rattle.end_claims.specs.declared.claim.Atom.TheVariants.{Compares, Ends, AllEnd}
use Rattle.end_claims.specs.declared.claim.Comparison.{Comparison}
use Rattle.end_claims.specs.declared.claim.Comparison.TheVariants.{Equal, Unequal, Less, AtMost, More, AtLeast}
use Rattle.end_claims.specs.declared.claim.Place.{Place}
use Rattle.end_claims.specs.declared.claim.Place.TheVariants.{Word, Register, Ended}
use Rattle.end_claims.specs.declared.claim.Right.{Right}
use Rattle.end_claims.specs.declared.claim.Right.TheVariants.{Number, At}
use Rattle.end_claims.specs.Named.{all_ended, each_once}
use Rattle.end_claims.specs.Numbers.{◌>>=◌, before_last, behind, hex_number, parted, word_of}

-- the number of a core
abbrev pub core_of : List ℕ → Option ℕ
core_of text = number_between 0 (CORES_MAX - 1) text

-- the stops that a claim names, by their words
abbrev pub stops : List (List ℕ × Stop)
stops =
    (codes "exit", Exit) ∷ (codes "break", Break) ∷ (codes "limit", Limit) ∷ (codes "fetch", Fetch)
    ∷ (codes "illegal", Illegal) ∷ (codes "jump", Jump) ∷ (codes "align", Align) ∷ (codes "address", Address) ∷ []

abbrev pub stop_named : List ℕ → Option Stop
stop_named text = named_by stops text

-- `[10ac]`: the word at that byte address, which is a multiple of 4
unfoldable pub word_place : List ℕ → Option Place
word_place text = do
  inside ← behind [] 91 text
  digits ← before_last 93 inside
  address ← hex_number digits
  if address % 4 == 0 then Some (Word (address / 4)) else None

-- `1:x7`: a register of a core
unfoldable pub register_place : List ℕ → Option Place
register_place text = do
  parts ← parted 58 text
  core ← core_of parts.0
  digits ← behind [] 120 parts.1
  number ← number_between 0 (REGISTERS - 1) digits
  Some (Register core number)

-- a word or a register
unfoldable pub value_place : List ℕ → Option Place
value_place text = option_or (word_place text) (register_place text)

-- `1:stop`: how a core ended
unfoldable pub ended_place : List ℕ → Option Place
ended_place text = do
  parts ← parted 58 text
  core ← core_of parts.0
  if bytes_eq parts.1 (codes "stop") then Some (Ended core) else None

-- a number or a place
unfoldable pub right_of : List ℕ → Option Right
right_of text = option_or (option_map (λ n. Number n) (word_of text)) (option_map (λ p. At p) (value_place text))

-- the texts of a comparison's two sides
pub record Sides : Type 0 where
  pub left : List ℕ
  pub by : Comparison
  pub right : List ℕ

-- the sides around `!=`, `<=`, `>=` or `=`, by the texts around `=`
unfoldable pub sides_at_equals : (left right : List ℕ) → Sides
sides_at_equals left right =
    let with : Comparison → List ℕ → Sides = λ by front. record { left = front; by = by; right = right } in
    unwrap_or (option_or (option_map (with Unequal) (before_last 33 left))
    (option_or (option_map (with AtMost) (before_last 60 left)) (option_map (with AtLeast) (before_last 62 left))))
    (with Equal left)

-- the sides of a comparison: around the first `=`, else the first `<`, else the first `>`
unfoldable pub sides_of : List ℕ → Option Sides
sides_of text =
    option_or (option_map (λ parts. sides_at_equals parts.0 parts.1) (parted 61 text))
    (option_or (option_map (λ parts. record { left = parts.0; by = Less; right = parts.1 }) (parted 60 text))
    (option_map (λ parts. record { left = parts.0; by = More; right = parts.1 }) (parted 62 text)))

unfoldable pub comparison_of : Sides → Option Atom
comparison_of sides = do
  left ← value_place sides.left
  right ← right_of sides.right
  Some (Compares left sides.by right)

-- `1:exit`, `all:exit`
unfoldable pub ending_of : List ℕ → Option Atom
ending_of text = do
  parts ← parted 58 text
  stop ← stop_named parts.1
  if bytes_eq parts.0 (codes "all") then Some (AllEnd stop) else option_map (λ core. Ends core stop) (core_of parts.0)

-- a comparison where there is a sign of one, else how cores ended
abbrev pub atom_by : Option Sides → List ℕ → Option Atom
atom_by (Some sides) text = comparison_of sides
atom_by None text = ending_of text

unfoldable pub atom_of : List ℕ → Option Atom
atom_of text = atom_by (sides_of text) text

-- what the pieces are, each of them; none where one of them is nothing
abbrev pub each : {A : Type 0} → (List ℕ → Option A) → List (List ℕ) → Option (List A)
each read [] = Some []
each read (piece ∷ rest) = read piece >>= λ a. option_map (λ more. a ∷ more) (each read rest)

-- atoms joined by `,`
unfoldable pub alternative_of : List ℕ → Option (List Atom)
alternative_of text = each atom_of (slice_split (λ b. b == 44) text)

-- alternatives joined by `|`
unfoldable pub claim_of : List ℕ → Option (List (List Atom))
claim_of text = each alternative_of (slice_split (λ b. b == 124) text)

-- a place, or all that `stops` is of so many cores
unfoldable pub places_part : (cores : ℕ) → List ℕ → Option (List Place)
places_part cores text =
    if bytes_eq text (codes "stops") then Some (all_ended cores)
    else option_map (λ place. place ∷ []) (option_or (value_place text) (ended_place text))

-- places joined by `,`, each once, of a run with so many cores
unfoldable pub places_of : (cores : ℕ) → List ℕ → Option (List Place)
places_of cores text =
    option_map (λ parts. each_once (flat_map (λ part. part) parts))
    (each (places_part cores) (slice_split (λ b. b == 44) text))
