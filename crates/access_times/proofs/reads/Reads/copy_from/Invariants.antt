use Rattle.std.proofs.Common.{◌≡◌, length}
use Rattle.rtr_types.specs.declared.TheConstants.{CORES_MAX}
use Rattle.access_times.proofs.KeptReads.{Filling, read_of}
use Rattle.access_times.proofs.reads.Reads.copy_from.Given as goal

abbrev pub invariant-loop-other : goal.invariant-loop-other
invariant-loop-other l =
    (length l.self-inside.places ≡ CORES_MAX)
    × (l.self-inside.readers ≡ l.other-inside.readers)
    × Filling l.left (λ k. read_of l.self-inside k ≡ read_of l.other-inside k) (λ k. ◌≡◌ k k)

abbrev pub decreases-loop-other : goal.decreases-loop-other
decreases-loop-other l = l.left.bits
