use Rattle.std.proofs.Common.{◌≡◌, length, true}
use Rattle.rtr_types.specs.CoreSets.{has}
use Rattle.rtr_types.specs.declared.TheConstants.{CORES_MAX}
use Rattle.access_times.specs.Times.{newer_by}
use Rattle.access_times.proofs.KeptReads.{Filling, read_of}
use Rattle.access_times.proofs.reads.Reads.take_over.Given as goal

abbrev pub invariant-loop-other : goal.invariant-loop-other
invariant-loop-other l =
    (length l.self-inside.places ≡ CORES_MAX)
    × Filling l.left
    (λ k. read_of l.self-inside k ≡ newer_by l.ties (read_of l.initial.self-inside k) (read_of l.other-inside k))
    (λ k. (has l.other-inside.readers k ≡ true) × (read_of l.self-inside k ≡ read_of l.initial.self-inside k))

abbrev pub decreases-loop-other : goal.decreases-loop-other
decreases-loop-other l = l.left.bits
