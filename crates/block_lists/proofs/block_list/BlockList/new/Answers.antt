use Rattle.std.proofs.Common.{◌∙◌, ◌≡◌, ap, arith, replicate, List, ℕ}
use Rattle.std.proofs.lemmas.Grind.{common_steps}
use Rattle.block_lists.specs.Blocks.{values_in}
use Rattle.block_lists.proofs.Values.{values_first}
use Rattle.block_lists.proofs.block_list.BlockList.new.Goals as goal

pub returns : goal.returns
returns g c =
    let kept_is : c.resize.new.self.items ≡ replicate 64 c.args.first = grind (arith, common_steps) in
    let table_is : c.resize-2.new.self.items ≡ replicate c.div_ceil-blocks.result 0 = grind (arith, common_steps) in
    ap (λ (t : List ℕ). values_in c.args.first t c.resize.new.self.items c.args.len) table_is
    ∙ ap (λ k. values_in c.args.first (replicate c.div_ceil-blocks.result 0) k c.args.len) kept_is
    ∙ values_first c.args.first c.div_ceil-blocks.result c.args.len
