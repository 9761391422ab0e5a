-- Small images, as words of RV32I and of the A extension, each stored with its lowest byte first.
use Rattle.std.specs.Prelude.{[], ◌∷◌}
use Rattle.image_mem.specs.Contents.{Contents}
use Rattle.msi_examples.specs.Images.{over}

-- slli x6,x10,4; xori x7,x10,1; slli x8,x7,4; addi x9,x0,1; sw x9,64(x6); lw x11,64(x8); ecall:
-- each core writes a word of its own and then reads the other's
abbrev pub store_buffering : Contents
store_buffering = over 32 (0x00451313 ∷ 0x00154393 ∷ 0x00439413 ∷ 0x00100493 ∷ 0x04932023 ∷ 0x04042583
    ∷ 0x00000073 ∷ [])

-- addi x5,x10,9; sw x5,64(x0); lw x7,320(x0); sb x5,321(x0); lw x6,64(x0); fence; addi x8,x0,64; amoadd.w x9,x5,(x8);
-- ecall: accesses to two blocks with one line, a fence and an atomic memory operation
abbrev pub mixed : Contents
mixed = over 96 (0x00950293 ∷ 0x04502023 ∷ 0x14002383 ∷ 0x145000a3 ∷ 0x04002303 ∷ 0x0000000f ∷ 0x04000413 ∷ 0x005424af
    ∷ 0x00000073 ∷ [])
