-- The ranges of a run's parameters.
use Rattle.std.specs.Prelude.{◌≡◌, ◌≤◌, ◌*◌, ◌%◌}
use Rattle.rtr_types.specs.declared.params.Params.{Params}
use Rattle.rtr_types.specs.declared.TheConstants.{BLOCK_WORDS, CORES_MAX}
use Rattle.rtr_types.specs.declared.params.TheConstants.{INSTRUCTIONS_MAX, LIMIT_MAX, WORDS_MIN, WORDS_MAX}

-- the parameters lie in their ranges
pub record Fits (p : Params) : Type 0 where
  pub some_core : 1 ≤ p.cores
  pub cores : p.cores ≤ CORES_MAX
  pub some_instruction : 1 ≤ p.limit
  pub limit : p.limit ≤ LIMIT_MAX
  pub instructions : p.cores * p.limit ≤ INSTRUCTIONS_MAX
  pub some_block : WORDS_MIN ≤ p.words
  pub words : p.words ≤ WORDS_MAX
  pub whole_blocks : p.words % BLOCK_WORDS ≡ 0
