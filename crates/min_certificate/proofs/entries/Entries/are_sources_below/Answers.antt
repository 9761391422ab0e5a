use Rattle.std.proofs.Common.{ℕ, ◌≤◌}
use Rattle.std.specs.Prelude.{slice_index}
use Rattle.min_certificate.specs.Places.{entry_in}
use Rattle.min_certificate.proofs.LookedUpEntries.{all_sources}
use Rattle.min_certificate.proofs.entries.Entries.are_sources_below.Goals as goal

pub returns : goal.returns
returns c =
    all_sources c.args.at (λ z. (i : ℕ) → entry_in c.args.self.now z i ≤ slice_index c.args.here.now i)
    c.cores-of-end.ensures.valid c.cores-of-end.ensures.cores c.loop-of-test.false c.loop-of.invariant
