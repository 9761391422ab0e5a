-- What the kinds of access do to memory, and when two instructions are one.
use Rattle.std.specs.Prelude.{Bool, true, false, ◌&&◌, nat_eq}
use Rattle.rtr_types.specs.declared.instr.Instr.{Instr}
use Rattle.rtr_types.specs.declared.access.Kind.{Kind}
use Rattle.rtr_types.specs.declared.access.Kind.TheVariants.{Load, Store, Amo}

-- an access of this kind takes the word's value
abbrev pub is_read : Kind → Bool
is_read Load = true
is_read Store = false
is_read Amo = true

-- an access of this kind may change the word
abbrev pub is_write : Kind → Bool
is_write Load = false
is_write Store = true
is_write Amo = true

-- the two are one instruction
abbrev pub is_same : Instr → Instr → Bool
is_same x y = nat_eq x.core y.core && nat_eq x.count y.count
