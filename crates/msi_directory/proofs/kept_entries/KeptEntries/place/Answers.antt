use Rattle.std.proofs.Common.{sym}
use Rattle.msi_directory.proofs.KeptEntries.{seen_at}
use Rattle.msi_directory.proofs.kept_entries.KeptEntries.place.Goals as goal

pub returns-in-Some-clause-place : goal.returns-in-Some-clause-place
returns-in-Some-clause-place g c =
    let there = sym (rw c.in-Some.is at c.get_index.ensures.entry) in
    seen_at c.self.inside.stages c.self.inside.copies.items c.args.self.now c.self.view_is c.len-count.ensures.unique
    _ c.in-Some.kept.now c.args.block c.in-Some.field-0-1.now there c.if-kept-block.true
