-- Small images, as words of RV32I and of the A extension (RISC-V Unprivileged ISA, version 20191213), each
-- stored with its lowest byte first.
use Rattle.std.specs.Prelude.{ℕ, ◌/◌, ◌%◌, List, [], ◌∷◌}
use Rattle.image_mem.specs.Contents.{Contents}

abbrev pub bytes_of : List ℕ → List ℕ
bytes_of [] = []
bytes_of (word ∷ words) =
    word % 256 ∷ word / 256 % 256 ∷ word / 65536 % 256 ∷ word / 16777216 ∷ bytes_of words

-- the code of these words over a memory of so many
abbrev pub over : (words : ℕ) → List ℕ → Contents
over words code = record { bytes = bytes_of code; words = words }

-- slli x5,x10,2; sw x10,32(x5); lw x6,32(x5); ecall: each core has a word of its own, in one block
abbrev pub scaled_words : Contents
scaled_words = over 16 (0x00251293 ∷ 0x02a2a023 ∷ 0x0202a303 ∷ 0x00000073 ∷ [])

-- bne x10,x0,+20; addi x5,x0,7; sw x5,64(x0); lw x6,64(x0); ecall; lw x7,64(x0); sw x10,64(x0); ecall:
-- core 0 writes a word and reads it, every other core reads it and then writes it
abbrev pub handed_over : Contents
handed_over = over 32 (0x00051a63 ∷ 0x00700293 ∷ 0x04502023 ∷ 0x04002303 ∷ 0x00000073 ∷ 0x04002383 ∷ 0x04a02023
    ∷ 0x00000073 ∷ [])

-- addi x5,x10,5; sb x5,32(x10); ecall: each core writes a byte of its own, in one word
abbrev pub bytes_of_a_word : Contents
bytes_of_a_word = over 16 (0x00550293 ∷ 0x02550023 ∷ 0x00000073 ∷ [])

-- addi x5,x10,5; sw x5,32(x0); ecall: each core writes the same word
abbrev pub one_word : Contents
one_word = over 16 (0x00550293 ∷ 0x02502023 ∷ 0x00000073 ∷ [])

-- addi x7,x0,32; addi x5,x10,1; amoadd.w x6,x5,(x7); ecall: each core adds to the same word
abbrev pub sum : Contents
sum = over 16 (0x02000393 ∷ 0x00150293 ∷ 0x0053a32f ∷ 0x00000073 ∷ [])

-- addi x5,x10,9; bne x10,x0,+12; sw x5,64(x0); ecall; lw x6,64(x0); lw x7,320(x0); ecall:
-- core 0 writes a word that core 1 reads, and core 1 then reads one whose block has the same line
abbrev pub reader_evicts : Contents
reader_evicts = over 96 (0x00950293 ∷ 0x00051663 ∷ 0x04502023 ∷ 0x00000073 ∷ 0x04002303 ∷ 0x14002383 ∷ 0x00000073 ∷ [])

-- addi x5,x10,9; bne x10,x0,+16; sw x5,64(x0); lw x7,320(x0); ecall; lw x6,64(x0); ecall:
-- core 0 writes a word and then reads one whose block has the same line; core 1 reads the first
abbrev pub writer_evicts : Contents
writer_evicts = over 96 (0x00950293 ∷ 0x00051863 ∷ 0x04502023 ∷ 0x14002383 ∷ 0x00000073 ∷ 0x04002303 ∷ 0x00000073 ∷ [])

-- the same, but that core 1 writes the first word: sw x5,64(x0)
abbrev pub writers_evict : Contents
writers_evict = over 96 (0x00950293 ∷ 0x00051863 ∷ 0x04502023 ∷ 0x14002383 ∷ 0x00000073 ∷ 0x04502023 ∷ 0x00000073 ∷ [])

-- lw x5,64(x0); lw x6,192(x0); lw x7,64(x0); ecall: each core reads a word, one whose block has a number greater by
-- 8, and the first again
abbrev pub eight_apart : Contents
eight_apart = over 64 (0x04002283 ∷ 0x0c002303 ∷ 0x04002383 ∷ 0x00000073 ∷ [])

-- bne x10,x0,+12; lw x6,64(x0); ecall; jal x0,+0: core 0 ends, every other core jumps to itself for ever
abbrev pub endless : Contents
endless = over 32 (0x00051663 ∷ 0x04002303 ∷ 0x00000073 ∷ 0x0000006f ∷ [])
