use Rattle.std.proofs.Common.{◌≡◌, ◌∙◌, ap, arith}
use Rattle.std.proofs.lemmas.Grind.{common_steps}
use Rattle.msi_directory.specs.Blocks.{block_count, opening_entries}
use Rattle.msi_directory.specs.Kept.{home_of}
use Rattle.msi_directory.proofs.Sparse.{entries_counted, fits_new, untouched}
use Rattle.msi_directory.proofs.home.Home.new.Goals as goal

pub invariant_of-result : goal.invariant_of-result
invariant_of-result g c =
    let words : c.unwrap.result.words ≡ c.words.result = grind (arith, common_steps) in
    rw c.new.ensures (fits_new c.unwrap.result c.fresh.result (omega arith))

pub returns-clause-blocks : goal.returns-clause-blocks
returns-clause-blocks g c =
    let words : c.unwrap.result.words ≡ c.args.image.now.words = grind (arith, common_steps) in
    entries_counted (home_of c.unwrap.result c.fresh.result c.new.result) ∙ ap block_count words

pub returns-clause-opening : goal.returns-clause-opening
returns-clause-opening g c =
    let image : c.unwrap.result ≡ c.args.image.now = grind (arith, common_steps) in
    rw (c.new.ensures, c.fresh.ensures) (ap (opening_entries g.R.Rider.riding.fresh) image)

pub returns-clause-untouched : goal.returns-clause-untouched
returns-clause-untouched g c = rw c.new.ensures (untouched c.unwrap.result c.fresh.result)
