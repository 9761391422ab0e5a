use Rattle.std.proofs.Common.{arith}
use Rattle.std.proofs.lemmas.Grind.{common_steps}
use Rattle.std.proofs.lemmas.List.FromFn.{length-map-range_with_len}
use Rattle.image_mem.specs.Contents.{opening_word}
use Rattle.image_mem.proofs.memory.Memory.new.Goals as goal

pub returns-clause-length : goal.returns-clause-length
returns-clause-length c =
    let all = length-map-range_with_len (opening_word c.args.image.now) 0 c.args.image.now.words in
    grind (arith, common_steps, all)
