-- The access that a pending store becomes where it is ordered, over the word that it finds.
use Rattle.std.proofs.Common.{ℕ}
use Rattle.rtr_types.specs.declared.access.Access.{Access}
use Rattle.rtr_types.specs.declared.access.Kind.TheVariants.{Store as Storing}
use Rattle.tso_state.specs.declared.pending.Pending.TheVariants.{Store as PendingStore}
use Rattle.tso_state.specs.Pending.{left_by}

abbrev pub stored : (core count word mask bits old : ℕ) → Access
stored core count word mask bits old = record {
  at = record { core = core; count = count };
  word = word;
  kind = Storing;
  before = old;
  after = left_by (PendingStore count word mask bits) old;
}
