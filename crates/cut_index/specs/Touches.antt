-- What an instruction does to memory, as one number: its word by its index, times 4, and 1, 2 or 3 for a load, a store
-- or an atomic memory operation. 0 stands for none.
use Rattle.std.specs.Prelude.{ℕ, ◌+◌, ◌*◌, ◌/◌, ◌%◌, zero, suc, None, Some}
use Rattle.rtr_types.specs.declared.access.Kind.{Kind}
use Rattle.rtr_types.specs.declared.access.Kind.TheVariants.{Load, Store, Amo}
use Rattle.replay_core.specs.Play.{Use}

abbrev pub digit_of : Kind → ℕ
digit_of Load = 1
digit_of Store = 2
digit_of Amo = 3

abbrev pub code_of : Use → ℕ
code_of None = 0
code_of (Some used) = 4 * used.1 + digit_of used.0

abbrev pub used_of : (digit word : ℕ) → Use
used_of zero word = None
used_of (suc zero) word = Some (Load, word)
used_of (suc (suc zero)) word = Some (Store, word)
used_of (suc (suc (suc more))) word = Some (Amo, word)

-- the access for which a number stands
abbrev pub used_by : (code : ℕ) → Use
used_by code = used_of (code % 4) (code / 4)
