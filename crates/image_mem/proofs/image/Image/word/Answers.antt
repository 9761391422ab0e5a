use Rattle.std.proofs.Common.{◌*◌, ◌≤◌, length, arith, sym, ◌∙◌}
use Rattle.image_mem.specs.Contents.{opening_word}
use Rattle.image_mem.proofs.WordLemmas.{opening_word-past}
use Rattle.image_mem.proofs.image.Image.word.Goals as goal

pub returns-then-start-bytes-clause-value : goal.returns-then-start-bytes-clause-value
returns-then-start-bytes-clause-value c =
    let short : length c.args.self.now.bytes ≤ 4 * c.args.word = rw (← c.bytes-bytes.ensures.value) (omega arith) in
    sym (opening_word-past c.args.self.now c.args.word short)

is_word : goal.returns-clause-value
unfolding opening_word
is_word c = grind arith

pub returns-clause-value : goal.returns-clause-value
returns-clause-value c = is_word c

pub returns-clause-past : goal.returns-clause-past
returns-clause-past c past =
    let short : length c.args.self.now.bytes ≤ 4 * c.args.word = rw (← c.bytes-bytes.ensures.value) (omega arith) in
    is_word c ∙ opening_word-past c.args.self.now c.args.word short
