-- The words of a flat state's memory, by block.
use Rattle.std.specs.Prelude.{ℕ, ◌==◌, List, [], ◌∷◌, if◌then◌else◌}
use Rattle.image_mem.specs.Contents.{Contents}
use Rattle.machine_data.specs.Coherent.{opening_memory}
use Rattle.flat_state.specs.declared.block.HomeBlock.{HomeBlock}

-- those of the block's entry, and where it has none the image's
abbrev pub words_kept : List HomeBlock → Contents → ℕ → List ℕ
words_kept [] image block = opening_memory image block
words_kept (b ∷ later) image block = if b.block == block then b.words else words_kept later image block
