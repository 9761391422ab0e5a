use Rattle.std.proofs.Common.{◌≡◌, take}
use Rattle.std.specs.Prelude.{sum_by}
use Rattle.stride_vector.specs.declared.StrideVector.{StrideVector}
use Rattle.race_log.proofs.recording.positions.Given as goal

abbrev pub invariant-loop-v : goal.invariant-loop-v
invariant-loop-v l = l.count ≡ sum_by (λ (v : StrideVector). v.n) (take l.v-index l.vectors)
