-- The blocks of a home as an image has them.
use Rattle.std.proofs.Common.{◌≡◌, ℕ, ◌+◌, ◌/◌, ◌%◌, min, arith, rules, IsTrue, List, [], ◌∷◌}
use Rattle.std.specs.Prelude.{map, length, All}
use Rattle.std.specs.List.{range_with_len}
use Rattle.std.proofs.lemmas.List.FromFn.{length-map-range_with_len}
use Rattle.std.proofs.lemmas.List.Elements.{All-map}
use Rattle.image_mem.specs.Contents.{Contents}
use Rattle.msi_directory.specs.Blocks.{block_count, opening_entry}
use Rattle.msi_directory.specs.Fitting.{stage_fits}

-- a division that rounds up, in two spellings
pub rounded_up : (words : ℕ) → words / 4 + min 1 (words % 4) ≡ block_count words
rounded_up words = omega arith

module _ {R : Type 0} where
  -- the stages fit, since no block is held
  opening_fits : (fresh : R) (image : Contents) (blocks : List ℕ) →
      All (λ b. IsTrue (stage_fits (opening_entry fresh image b).stage)) blocks
  opening_fits fresh image [] = search rules
  opening_fits fresh image (b ∷ blocks) = let rest = opening_fits fresh image blocks in search rules

  pub openings_fit : (fresh : R) (image : Contents) (n : ℕ) →
      All (λ e. IsTrue (stage_fits e.stage)) (map (opening_entry fresh image) (range_with_len 0 n))
  openings_fit fresh image n =
      All-map (λ e. IsTrue (stage_fits e.stage)) (opening_entry fresh image) (range_with_len 0 n)
      (opening_fits fresh image (range_with_len 0 n))

  -- how many there are
  pub openings_counted : (fresh : R) (image : Contents) (n : ℕ) →
      length (map (opening_entry fresh image) (range_with_len 0 n)) ≡ n
  openings_counted fresh image n = length-map-range_with_len (opening_entry fresh image) 0 n
