use Rattle.std.proofs.Common.{◌∙◌, ap, refl, length, List, ◌++◌, ◌∷◌, []}
use Rattle.std.proofs.lemmas.List.{map-append}
use Rattle.flat_state.specs.declared.block.HomeBlock.{HomeBlock}
use Rattle.flat_state.specs.Shows.{blocks_of, home_at}
use Rattle.flat_start.specs.Starts.{block_start}
use Rattle.flat_start.proofs.MoreBlocks.{entry_kept, entry_new, entry_stands, on_err, same_stands}
use Rattle.flat_start.proofs.entries.make_entry.Goals as goal

pub returns-clause-stands : goal.returns-clause-stands
returns-clause-stands c = λ s memory stands.
    let f = c.args.flat.now in
    entry_stands f _ s memory c.args.block c.requires.new c.requires.within refl refl
    (c.in_ok-push.ensures.items
    ∙ ap (λ (b : HomeBlock). f.home.items ++ b ∷ []) c.opening_entry-entry.ensures) stands

pub returns-clause-blocks : goal.returns-clause-blocks
returns-clause-blocks c =
    let f = c.args.flat.now in
    ap blocks_of (c.in_ok-push.ensures.items
    ∙ ap (λ (b : HomeBlock). f.home.items ++ b ∷ []) c.opening_entry-entry.ensures)
    ∙ map-append (λ (b : HomeBlock). b.block) f.home.items (block_start f.program c.args.block ∷ [])

pub returns-clause-entry : goal.returns-clause-entry
returns-clause-entry c =
    let f = c.args.flat.now in
    ap (λ (l : List HomeBlock). home_at l (length f.home.items)) (c.in_ok-push.ensures.items
    ∙ ap (λ (b : HomeBlock). f.home.items ++ b ∷ []) c.opening_entry-entry.ensures)
    ∙ entry_new f.program f.home.items c.args.block c.requires.new

pub returns-clause-others : goal.returns-clause-others
returns-clause-others c = λ i lies.
    let f = c.args.flat.now in
    ap (λ (l : List HomeBlock). home_at l i) (c.in_ok-push.ensures.items
    ∙ ap (λ (b : HomeBlock). f.home.items ++ b ∷ []) c.opening_entry-entry.ensures)
    ∙ entry_kept f.program f.home.items c.args.block c.requires.new i lies

pub returns-in_err-push-clause-stands : goal.returns-in_err-push-clause-stands
returns-in_err-push-clause-stands c = λ s memory stands.
    same_stands c.args.flat.now _ s memory refl refl c.in_err-push.ensures.items stands

pub returns-in_err-push-clause-err : goal.returns-in_err-push-clause-err
returns-in_err-push-clause-err c = on_err c.from_residual.result _ c.in_err-push.ensures.items
