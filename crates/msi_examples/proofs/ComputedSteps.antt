-- All that a core computes with when it executes an instruction. An example of a run opens it by one name.
use Rattle.image_mem.specs.Contents.{fetched, opening_word}
use Rattle.image_mem.specs.Lanes.{merged}
use Rattle.rtr_types.specs.CoreSets.{has, with_core, without_core}
use Rattle.rv_core.specs.Atomics.{exchanged}
use Rattle.rv_core.specs.States.{starting, register, written, next_pc, result_of, halt_after, retired, word_after}
use Rattle.rv_core.specs.Operations.{computed, is_taken, moved, without_low_bit, loaded}
use Rattle.rv_core.specs.Steps.{instruction_at, need_to_jump, need_to_access, need_of, need_at_pc, need, after, wrote}
use Rattle.rv_decode.specs.Fields.{field, signed}
use Rattle.rv_decode.specs.Table.{jump_and_link_register, branch, load, store, constant_shift, alu_immediate}
use Rattle.rv_decode.specs.Table.{alu_register, atomic, fence, system, decoded}

unfoldable pub executing : Unit {0}
unfolding need need_at_pc need_of need_to_jump need_to_access fetched opening_word merged has with_core without_core
    decoded jump_and_link_register branch load
    store constant_shift alu_immediate alu_register atomic fence system field signed starting register written is_taken
    moved without_low_bit computed loaded
    next_pc result_of halt_after retired word_after instruction_at after wrote exchanged
executing = tt
