use Rattle.std.proofs.Common.{◌∙◌, ap, ◌%◌, length-set}
use Rattle.msi_directory.specs.Kept.{kept_more}
use Rattle.msi_directory.proofs.KeptEntries.{more, more_counted}
use Rattle.msi_directory.proofs.kept_entries.KeptEntries.add.Goals as goal

pub invariant_of-self-2 : goal.invariant_of-self-2
invariant_of-self-2 g c =
    let none = rw (← c.self.view_is) at c.requires in
    let copies = rw (c.in_ok-reserve.ensures.items, c.in_ok-rider.ensures) at c.push_reserved.ensures.items in (
      more_counted c.self.inside.stages c.insert.new.self c.self.inside.copies.items c.push_reserved.new.self.items
          c.args.block c.args.entry
          none c.in_ok-insert.ensures.entries copies c.self.invariant.0,
      length-set c.self.inside.shortcuts (c.args.block % 64) c.len-place.result ∙ c.self.invariant.1,
    )

pub returns-clause-ok : goal.returns-clause-ok
returns-clause-ok g c =
    let none = rw (← c.self.view_is) at c.requires in
    let copies = rw (c.in_ok-reserve.ensures.items, c.in_ok-rider.ensures) at c.push_reserved.ensures.items in
    more c.self.inside.stages c.insert.new.self c.self.inside.copies.items c.push_reserved.new.self.items c.args.block
    c.args.entry
    none c.in_ok-insert.ensures.entries copies
    ∙ ap (λ k. kept_more k c.args.block c.args.entry) c.self.view_is
