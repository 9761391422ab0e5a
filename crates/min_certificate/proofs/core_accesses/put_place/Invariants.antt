-- 0 stands at each count so far that is past the old ones
use Rattle.std.proofs.Common.{◌≡◌, ◌<◌, ◌≤◌, ℕ, length, slice_index}
use Rattle.min_certificate.proofs.core_accesses.put_place.Given as goal

abbrev pub invariant-loop-before : goal.invariant-loop-before
invariant-loop-before l = record {
  all : length l.list ≡ l.before;
  old : (n : ℕ) → n < length l.fn.list → slice_index l.list n ≡ slice_index l.fn.list n;
  none : (n : ℕ) → length l.fn.list ≤ n → slice_index l.list n ≡ 0;
}
