use Rattle.min_certificate.proofs.Lows as lows
use Rattle.min_certificate.proofs.laws.least_in_every_order.Goals as goal

pub returns : goal.returns
returns c = record { every = lows.every_order_is_least; any = lows.any_order_is_least }
