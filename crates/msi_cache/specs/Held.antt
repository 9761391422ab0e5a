-- What a place for a rider ends as, once the rider was lent.
use Rattle.std.specs.Borrow.{Fml, RattleType, MutBor, Lends}
use Rattle.msi_cache.specs.contracts.held.Held.{the_row}

-- the last value behind the loan is held
abbrev pub LendsHeld : (R : RattleType) → MutBor R.Denot → MutBor R.Denot → Fml
LendsHeld R held rider = Lends (the_row R) R held rider (λ last. last)
