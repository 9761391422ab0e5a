use Rattle.std.proofs.Common.{◌*◌, ◌^◌, ◌≡◌, ◌++◌, ◌<◌, ◌≤◌, ◌+◌, ℕ, suc, vec_len}
use Rattle.std.specs.Prelude.{vec_capacity}
use Rattle.varint_core.specs.Leb128.{spelling_within}
use Rattle.varint_core.proofs.put_groups.Given as goal

-- what is left, spelled after the groups so far, is the spelling of the value, and there is room for it
abbrev pub invariant-loop-rest : goal.invariant-loop-rest
invariant-loop-rest l = (k : ℕ) × (vec_len l.out + suc k ≤ vec_capacity l.out) × (l.rest < 128 * 128 ^ k)
    × (l.out.items ++ spelling_within (suc k) l.rest ≡ l.fn.out.items ++ spelling_within 5 l.fn.value)

abbrev pub decreases-loop-rest : goal.decreases-loop-rest
decreases-loop-rest l = l.rest
