-- The words of bytes.
use Rattle.std.proofs.Common.{suc, ◌*◌, arith}
use Rattle.image_mem.specs.Contents.{opening_word}
use Rattle.tso_data.specs.Words.{OpensSmallLaw}

pub opens_small : OpensSmallLaw
unfolding opening_word
opens_small image bytes word =
    let a = bytes (4 * word) in
    let b = bytes (suc (4 * word)) in
    let c = bytes (suc (suc (4 * word))) in
    let d = bytes (suc (suc (suc (4 * word)))) in
    omega arith
