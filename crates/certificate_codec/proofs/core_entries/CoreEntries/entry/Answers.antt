use Rattle.std.proofs.Common.{◌∙◌, ◌*◌, ap, sym, arith, drop, get_or, take, List, [], ℕ}
use Rattle.std.proofs.lemmas.List.{take_rest}
use Rattle.certificate_codec.proofs.RowLaws.{no_row, row_at}
use Rattle.certificate_codec.proofs.core_entries.CoreEntries.entry.Goals as goal

pub returns-then-place-self : goal.returns-then-place-self
returns-then-place-self c =
    sym (no_row c.self.inside.width c.self.inside.number c.args.place c.self.inside.counts
    (omega (arith, c.if-place-self.true)))
    ∙ ap (λ (rows : List (List ℕ)). get_or rows c.args.place []) c.self.view_is

pub returns : goal.returns
returns c =
    let width = c.self.inside.width in
    let from = c.args.place * width in
    ap (take width) (take_rest c.as_slice.result.now from
    ∙ ap (drop from) c.as_slice.ensures)
    ∙ sym (row_at width c.self.inside.number c.args.place c.self.inside.counts (omega (arith, c.if-place-self.false)))
    ∙ ap (λ (rows : List (List ℕ)). get_or rows c.args.place []) c.self.view_is
