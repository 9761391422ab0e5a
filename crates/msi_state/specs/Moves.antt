-- Rule: the moves that a machine can have, in their order: candidates
-- The moves that a machine of some cores can have, in their order.
use Rattle.std.specs.Prelude.{ℕ, ◌+◌, ◌*◌, ◌-◌, List, map, if◌then◌else◌, nat_lt}
use Rattle.std.specs.List.{range_with_len}
use Rattle.msi_state.specs.declared.moves.Move.{Move}
use Rattle.msi_state.specs.declared.moves.Move.TheVariants.{Core, Request, Response, FromHome}

-- the k-th: all cores' own moves by core number, then all requests, then all responses, then all messages from home
abbrev pub candidate : ℕ → ℕ → Move
candidate cores k =
    if nat_lt k cores then Core k
    else if nat_lt k (2 * cores) then Request (k - cores)
    else if nat_lt k (3 * cores) then Response (k - 2 * cores)
    else FromHome (k - 3 * cores)

-- the first n of them
abbrev pub candidates : ℕ → ℕ → List Move
candidates cores n = map (candidate cores) (range_with_len 0 n)

-- the core at which a move happens
abbrev pub core_of : Move → ℕ
core_of (Core c) = c
core_of (Request c) = c
core_of (Response c) = c
core_of (FromHome c) = c

-- the number of a move among all that a machine of so many cores can have
abbrev pub number_of : (cores : ℕ) → Move → ℕ
number_of cores (Core c) = c
number_of cores (Request c) = cores + c
number_of cores (Response c) = 2 * cores + c
number_of cores (FromHome c) = 3 * cores + c
