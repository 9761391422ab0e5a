-- How many steps may be left, by the nodes alone.
use Rattle.std.specs.Prelude.{ℕ, ◌+◌, ◌*◌, ◌-◌, ◌/◌, ◌%◌, ◌==◌, Bool, true, false, not, Option, Some, None, List}
use Rattle.std.specs.Prelude.{length}
use Rattle.std.specs.List.{sum_by}
use Rattle.rtr_types.specs.declared.TheConstants.{BLOCK_WORDS, LINES}
use Rattle.rtr_types.specs.declared.access.Kind.{Kind}
use Rattle.rv_core.specs.Steps.{is_done, access_of as need_access}
use Rattle.machine_bound.specs.Bound.{capacity, line_base}
use Rattle.flat_state.specs.declared.message_ring.Told.{Told}
use Rattle.flat_state.specs.declared.message_ring.Told.TheVariants.{Data, Ack, Inv, FwdS, FwdM}
use Rattle.flat_state.specs.declared.node.Node.{Node}
use Rattle.flat_state.specs.Shows.{line_at}

-- the steps that a message still brings to another core's access
abbrev pub told_debt : Told → ℕ
told_debt Data = 0
told_debt Ack = 0
told_debt Inv = 2
told_debt FwdS = 2
told_debt FwdM = 2

-- what is owed on a node's rings
abbrev pub node_owed : Node → ℕ
node_owed n = sum_by (λ m. told_debt m.told) n.messages + length n.replies

-- the steps that its next instruction may have cost so far, by the access that it needs and whether its program is done
abbrev pub node_base : Option (Kind × ℕ) → (done : Bool) → (cores : ℕ) → Node → ℕ
node_base (Some (kind, word)) done cores n =
    let block = word / BLOCK_WORDS in
    line_base (line_at n (block % LINES)).state ((line_at n (block % LINES)).block == block) (not n.asks) cores
node_base None true cores n = 0
node_base None false cores n = 3

abbrev pub node_earned : (cores : ℕ) → Node → ℕ
node_earned cores n = (2 * cores + 4) * n.core.count + node_base (need_access n.need) (is_done n.need) cores n

-- at most so many steps are to come
abbrev pub left_kept : List Node → ℕ
left_kept nodes =
    sum_by (λ n. capacity (length nodes) n.core) nodes + sum_by node_owed nodes
    - sum_by (node_earned (length nodes)) nodes
