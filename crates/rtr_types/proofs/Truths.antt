-- Tests that both hold.
use Rattle.std.proofs.Common.{◌≡◌, Bool, true, ◌&&◌, IsTrue, arith}

pub is_true : (b : Bool) → b ≡ true → IsTrue b
is_true b e = grind arith

pub true_is : (b : Bool) → IsTrue b → b ≡ true
true_is b t = grind arith

pub both_true : (a b : Bool) → IsTrue a → IsTrue b → IsTrue (a && b)
both_true a b p q = grind arith

pub first_true : (a b : Bool) → IsTrue (a && b) → IsTrue a
first_true a b p = grind arith

pub second_true : (a b : Bool) → IsTrue (a && b) → IsTrue b
second_true a b p = grind arith
