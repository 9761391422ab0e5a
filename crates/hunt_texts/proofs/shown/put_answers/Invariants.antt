use Rattle.std.proofs.Common.{◌≡◌, ◌++◌, length, string_bytes}
use Rattle.hunt_texts.specs.Shown.{answers}
use Rattle.hunt_texts.proofs.shown.put_answers.Given as goal

-- with the places and values that are left, this is the whole text
abbrev pub invariant-loop-place : goal.invariant-loop-place
invariant-loop-place l =
    string_bytes l.text ++ answers l.places l.values ≡ string_bytes l.fn.text ++ answers l.fn.places l.fn.values

abbrev pub decreases-loop-place : goal.decreases-loop-place
decreases-loop-place l = length l.places
