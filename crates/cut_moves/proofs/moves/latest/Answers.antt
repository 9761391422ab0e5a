use Rattle.std.proofs.Common.{ℕ, List, ap, ◌∙◌, arith, slice_index}
use Rattle.race_log.specs.declared.recording.Recording.{Recording}
use Rattle.cut_moves.proofs.Hulls.{whole_greatest}
use Rattle.cut_moves.proofs.moves.latest.Goals as goal

pub returns-clause-greatest : goal.returns-clause-greatest
returns-clause-greatest c =
    let a = c.args.audited.now in
    let same = ap (λ (l : List ℕ). slice_index l c.args.core)
    (c.as_slice.ensures ∙ ap (λ (r : Recording). r.totals) c.recording.ensures.recording) in
    whole_greatest a.which a.recording c.whole.result c.args.cut.now c.args.core c.recording.ensures.valid
    c.whole.ensures c.requires.core (let past = c.if-count-total.false in omega arith)
