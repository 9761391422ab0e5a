-- The lists that are made for each core of a range.
use Rattle.std.proofs.Common.{◌≡◌, ◌∙◌, ℕ, List, ap, length}
use Rattle.std.specs.Prelude.{map}
use Rattle.std.specs.List.{range_with_len}
use Rattle.std.proofs.lemmas.List.{length-map}
use Rattle.std.proofs.lemmas.List.FromFn.{length-map-range_with_len}

-- what is kept of each of so many cores, as it is read
pub kept_long : {C S : Type 0} (first : ℕ → C) (kept_of : C → S) (many : ℕ) {cores : List C} {kept read : List S} →
    cores ≡ map first (range_with_len 0 many) → kept ≡ map kept_of cores → read ≡ kept → length read ≡ many
kept_long first kept_of many {cores} {kept} {read} made keeps reads =
    ap length (reads ∙ keeps) ∙ length-map cores kept_of ∙ ap length made ∙ length-map-range_with_len first 0 many
