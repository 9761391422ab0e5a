use Rattle.std.proofs.Common.{◌+◌, ◌<◌, ◌≤◌, length, arith, inl, inr, sym, ap, Some, ◌∙◌}
use Rattle.image_mem.proofs.WordLemmas.{fetched-none, fetched-some, word_from-part}
use Rattle.image_mem.proofs.image.Image.fetch.Goals as goal
use Rattle.image_mem.proofs.image.Image.fetch.Goals.{then-pc-ne0-via-then-pc-ne0}
use Rattle.image_mem.proofs.image.Image.fetch.Goals.{then-pc-ne0-via-else-pc-ne0+then-start-bytes}

pub returns-then-pc-ne0-clause-value : goal.returns-then-pc-ne0-clause-value
returns-then-pc-ne0-clause-value c = elim c.then-pc-ne0.branch [
  | then-pc-ne0-via-then-pc-ne0 w ↦ sym (fetched-none c.args.self.now c.args.pc (inl w.if-pc-ne0.true))
  | then-pc-ne0-via-else-pc-ne0+then-start-bytes w ↦
      let short : length c.args.self.now.bytes < c.args.pc + 4 = rw (← c.bytes-bytes.ensures.value) (omega arith) in
      sym (fetched-none c.args.self.now c.args.pc (inr short))
]

pub returns-clause-value : goal.returns-clause-value
returns-clause-value c =
    let within : c.args.pc + 4 ≤ length c.args.self.now.bytes = rw (← c.bytes-bytes.ensures.value) (omega arith) in
    let there = fetched-some c.args.self.now c.args.pc (omega arith) within in
    let read = c.read_u32.ensures ∙ word_from-part c.bytes-bytes.result.now c.args.pc in
    rw c.bytes-bytes.ensures.value at (ap Some read) ∙ sym there
