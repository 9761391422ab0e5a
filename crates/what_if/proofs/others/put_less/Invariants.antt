use Rattle.std.proofs.Common.{◌≡◌, ◌++◌, drop, true, false}
use Rattle.what_if.specs.Others.{less}
use Rattle.what_if.proofs.others.put_less.Given as goal

-- the places so far, and then the rest, of which the core's first place is still left out, unless it was
abbrev pub invariant-loop-place : goal.invariant-loop-place
invariant-loop-place l = record {
  before : l.taken ≡ false → l.places ++ less l.fn.core (drop l.place-index l.behind)
      ≡ l.fn.places ++ less l.fn.core l.behind;
  after : l.taken ≡ true → l.places ++ drop l.place-index l.behind ≡ l.fn.places ++ less l.fn.core l.behind;
}
