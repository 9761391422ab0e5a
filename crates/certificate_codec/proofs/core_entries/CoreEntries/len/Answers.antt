use Rattle.std.proofs.Common.{◌∙◌, ap, sym, length, List, ℕ}
use Rattle.certificate_codec.proofs.RowLaws.{length-rows}
use Rattle.certificate_codec.proofs.core_entries.CoreEntries.len.Goals as goal

pub returns : goal.returns
returns c =
    sym (length-rows c.self.inside.width c.self.inside.number c.self.inside.counts)
    ∙ ap (λ (rows : List (List ℕ)). length rows) c.self.view_is
