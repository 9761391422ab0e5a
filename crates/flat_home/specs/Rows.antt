-- The kinds of request.
use Rattle.std.specs.Prelude.{Bool, true, false}
use Rattle.flat_state.specs.declared.node.Ask.{Ask}
use Rattle.flat_state.specs.declared.node.Ask.TheVariants.{PutS, PutM}

-- a copy is given back
abbrev pub is_put : Ask → Bool
is_put PutS = true
is_put PutM = true
is_put _ = false
