-- The sizes that users and formats see, as numbers. `sizes_law` ties the code's constants, which all definitions cite,
-- to these.
use Rattle.std.specs.Prelude.{ℕ}

-- the greatest number of cores of a machine, and so of places of a link from or to the home
abbrev pub cores_max : ℕ
cores_max = 16

-- the greatest number of instructions that a core may be given
abbrev pub limit_max : ℕ
limit_max = 1000000

-- the greatest number of instructions that all cores together may be given
abbrev pub instructions_max : ℕ
instructions_max = 4000000

-- the words of the smallest memory and of the largest
abbrev pub words_min : ℕ
words_min = 4

abbrev pub words_max : ℕ
words_max = 262144

-- the words of a block, of which a memory has whole ones
abbrev pub block_words : ℕ
block_words = 4

-- the lines of a cache, each of which holds a block at a time
abbrev pub cache_lines : ℕ
cache_lines = 16
