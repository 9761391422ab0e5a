-- Moves of known bytes one after another, and one move out of memory.
use Rattle.std.proofs.Common.{◌≡◌, ℕ, ◌+◌, ◌-◌, ◌≤◌, List, [], ◌++◌, length, take, drop, Option, Some, None, ap, sym}
use Rattle.std.proofs.Common.{◌∙◌, append_assoc, arith}
use Rattle.std.proofs.Math.Seq.{take-add}
use Rattle.std.proofs.lemmas.List.{take_at, take_rest, drop-drop, take-append-drop, length-take-le, nil_from_length}
use Rattle.std.proofs.lemmas.List.{length-drop, length-append}
use Rattle.std.specs.Io.KnownBytes.{Appends, Consumes}

-- two pieces given after each other are one
pub Appends-append : (old mid new : Option (List ℕ)) (x y : List ℕ) → Appends old mid x → Appends mid new y →
    Appends old new (x ++ y)
Appends-append None mid new x y p q = tt
Appends-append (Some a) None new x y p q = absurd p
Appends-append (Some a) (Some b) None x y p q = absurd q
Appends-append (Some a) (Some b) (Some c) x y p q = q ∙ ap (λ v. v ++ y) p ∙ append_assoc a x y

-- two pieces taken after each other are one
pub Consumes-append : (old mid new : Option (List ℕ)) (x y : List ℕ) → Consumes old mid x → Consumes mid new y →
    Consumes old new (x ++ y)
Consumes-append None mid new x y p q = tt
Consumes-append (Some a) None new x y p q = absurd p
Consumes-append (Some a) (Some b) None x y p q = absurd q
Consumes-append (Some a) (Some b) (Some c) x y p q = p ∙ ap (λ v. x ++ v) q ∙ sym (append_assoc x y c)

-- the front, and then the front of the rest, which is the slice from i on
pub Appends-take : (old mid new : Option (List ℕ)) (bytes : List ℕ) (i n : ℕ) →
    Appends old mid (take i bytes) → Appends mid new (take n (take (length bytes - i) (drop i bytes))) →
    Appends old new (take (i + n) bytes)
Appends-take old mid new bytes i n p q =
    let rest = rw (take_rest bytes i) at q in
    rw (take-add i n bytes) (Appends-append old mid new (take i bytes) (take n (drop i bytes)) p rest)

-- what was copied to the front of a buffer and what is left after it are what was left
pub left-is : (bytes into front : List ℕ) (next n : ℕ) → front ≡ take n (take (length bytes - next) (drop next bytes)) →
    n ≤ length bytes - next →
    drop next bytes ≡ take n (front ++ drop n into) ++ drop (next + n) bytes
left-is bytes into front next n is within =
    let here = rw (take_rest bytes next) at is in
    let size : length front ≡ n = ap length here
    ∙ length-take-le n (drop next bytes) (rw (length-drop next bytes) within) in
    let moved : take n (front ++ drop n into) ≡ take n (drop next bytes) = take_at front (drop n into) n size ∙ here in
    rw (moved, ← drop-drop n next bytes, take-append-drop n (drop next bytes))

-- a call that moves nothing has found the end
pub none-left : (bytes : List ℕ) (next n : ℕ) → length bytes ≤ next + n → drop (next + n) bytes ≡ []
none-left bytes next n past = nil_from_length (drop (next + n) bytes) (omega (arith, length-drop (next + n) bytes))

-- what was taken, and then the front of a buffer that holds at most one byte more than is wanted
pub taken-within : (bytes into : List ℕ) (n max : ℕ) → length bytes ≤ max → length into ≤ max - length bytes + 1 →
    n ≤ length into →
    length (bytes ++ take n into) ≤ max + 1
taken-within bytes into n max some room front =
    rw (length-append bytes (take n into), length-take-le n into front) (omega (arith, some, room, front))
