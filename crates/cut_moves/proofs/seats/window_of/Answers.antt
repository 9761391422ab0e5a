use Rattle.std.proofs.Common.{refl, arith}
use Rattle.cut_moves.proofs.seats.window_of.Goals as goal

pub returns-then-low-high : goal.returns-then-low-high
returns-then-low-high c =
    let lt = c.if-low-high.true in
    record { some = λ below. record { from = refl; past = refl }; none = λ le. absurd (omega arith) }
