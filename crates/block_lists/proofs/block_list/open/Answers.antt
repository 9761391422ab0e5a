use Rattle.std.proofs.Common.{◌∙◌, ◌≡◌, ◌/◌, ◌++◌, ℕ, length, set, subst, sym, take}
use Rattle.block_lists.specs.Blocks.{IsOwned}
use Rattle.block_lists.proofs.Values.{opened}
use Rattle.block_lists.proofs.block_list.open.Goals as goal

pub returns-clause-own : goal.returns-clause-own
returns-clause-own g c =
    let table = c.args.table.now.items in
    let kept = c.args.kept.now.items in
    let more : c.extend_from_within.new.self.items ≡ kept ++ take 64 kept = c.in_ok-extend_from_within.ensures.items in
    let number : c.len-number.result ≡ length kept = c.len-number.ensures ∙ c.args.kept.now.ok.0 in
    subst (λ now. IsOwned table kept c.args.block (set table c.args.block (c.len-number.result / 64)) now) (sym more)
    (subst (λ (n : ℕ). IsOwned table kept c.args.block (set table c.args.block (n / 64)) (kept ++ take 64 kept))
    (sym number) (opened table kept c.args.block c.requires.block c.requires.shared c.requires.none))
