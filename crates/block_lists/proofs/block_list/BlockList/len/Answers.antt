use Rattle.std.proofs.Common.{◌∙◌, ap, length, sym}
use Rattle.std.proofs.lemmas.List.FromFn.{length-map-range_with_len}
use Rattle.block_lists.specs.Blocks.{value_at}
use Rattle.block_lists.proofs.block_list.BlockList.len.Goals as goal

pub returns : goal.returns
returns g c =
    let a = c.self.inside in
    sym (length-map-range_with_len (value_at a.first a.table.items a.kept.items) 0 a.len) ∙ ap length c.self.view_is
