-- What a link ends as, once a place of it was lent.
use Rattle.std.specs.Prelude.{[], ◌∷◌, ◌++◌, drop}
use Rattle.std.specs.Borrow.{Fml, RattleType, MutBor, Lends}
use Rattle.link_order.specs.Queue.{Queue}
use Rattle.link_order.specs.contracts.Link.{the_row}

-- the link ends with the last value behind the loan as its newest item, and with nothing else changed
abbrev pub LendsPlace : (T : RattleType) → MutBor (Queue T.Denot) → MutBor T.Denot → Fml
LendsPlace T link place =
    Lends (the_row T) T link place (λ item. record { room = link.now.room; items = link.now.items ++ item ∷ [] })

-- the link ends with the last value behind the loan as its oldest item, and with nothing else changed
abbrev pub LendsHead : (T : RattleType) → MutBor (Queue T.Denot) → MutBor T.Denot → Fml
LendsHead T link place =
    Lends (the_row T) T link place (λ item. record { room = link.now.room; items = item ∷ drop 1 link.now.items })
