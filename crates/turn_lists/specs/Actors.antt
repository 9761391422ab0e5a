-- Who makes accesses, and when two are one.
use Rattle.std.specs.Prelude.{ℕ, Bool, false, nat_eq, nat_lt}
use Rattle.rtr_types.specs.declared.TheConstants.{CORES_MAX}
use Rattle.turn_lists.specs.declared.actor.Actor.{Actor}
use Rattle.turn_lists.specs.declared.actor.Actor.TheVariants.{Buffer, Core}

-- the two are one actor
abbrev pub is_same : Actor → Actor → Bool
is_same (Core c) (Core d) = nat_eq c d
is_same (Core c) (Buffer d) = false
is_same (Buffer c) (Core d) = false
is_same (Buffer c) (Buffer d) = nat_eq c d

-- the core whose actor it is
abbrev pub core_of : Actor → ℕ
core_of (Core c) = c
core_of (Buffer c) = c

-- an actor of a machine that there may be
abbrev pub is_actor : Actor → Bool
is_actor a = nat_lt (core_of a) CORES_MAX
