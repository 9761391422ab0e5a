-- A home that keeps nothing is as the image has it.
use Rattle.std.proofs.Common.{◌≡◌, ap, arith}
use Rattle.std.proofs.lemmas.Grind.{common_steps}
use Rattle.msi_directory.specs.Blocks.{opening_entries}
use Rattle.msi_directory.proofs.Sparse.{fits_new, untouched}
use Rattle.msi_directory.proofs.home.Home.restart.Goals as goal

pub invariant_of-self : goal.invariant_of-self
invariant_of-self g c =
    let words : c.unwrap.result.words ≡ c.words.result = grind (arith, common_steps) in
    rw c.clear.ensures (fits_new c.unwrap.result c.forget.new.self (omega (arith, words)))

pub returns-clause-opening : goal.returns-clause-opening
returns-clause-opening g c =
    let image : c.unwrap.result ≡ c.args.image.now = grind (arith, common_steps) in
    rw (c.clear.ensures, c.forget.ensures) (ap (opening_entries g.R.Rider.riding.fresh) image)

pub returns-clause-untouched : goal.returns-clause-untouched
returns-clause-untouched g c = rw c.clear.ensures (untouched c.unwrap.result c.forget.new.self)
