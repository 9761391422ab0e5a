-- What one byte more makes of a body: what it stands for, whether it is cut, and its sum. Each by cases on the first
-- two bytes, as the definitions go.
use Rattle.std.proofs.Common.{◌≡◌, ℕ, ◌+◌, ◌%◌, ◌==◌, ◌&&◌, not, Bool, true, false, cond, List, [], ◌∷◌, ◌++◌, refl}
use Rattle.std.proofs.Common.{arith}
use Rattle.std.specs.Prelude.{bit_xor, sum}
use Rattle.std.proofs.lemmas.List.Sums.{fold-append}
use Rattle.gdb_packets.specs.Bytes.{brace}
use Rattle.gdb_packets.specs.Frames.{checksum, is_cut, unescaped}

-- the payload with what a byte adds to it, behind a `}` or not, where the byte is a `}` or isn't
abbrev pub added : (cut is_brace : Bool) → ℕ → List ℕ → List ℕ
added true is_brace b xs = xs ++ bit_xor b 32 ∷ []
added false true b xs = xs
added false false b xs = xs ++ b ∷ []

added-cons : (cut is_brace : Bool) (b x : ℕ) (xs : List ℕ) → x ∷ added cut is_brace b xs ≡ added cut is_brace b (x ∷ xs)
added-cons true is_brace b x xs = refl
added-cons false true b x xs = refl
added-cons false false b x xs = refl

added-first : (is_brace : Bool) (b : ℕ) → cond is_brace [] (b ∷ []) ≡ added false is_brace b []
added-first true b = refl
added-first false b = refl

added-second : (first is_brace : Bool) (a b : ℕ) →
    cond first (bit_xor b 32 ∷ []) (a ∷ cond is_brace [] (b ∷ [])) ≡ added first is_brace b (cond first [] (a ∷ []))
added-second true is_brace a b = refl
added-second false true a b = refl
added-second false false a b = refl

added-later : (first cut1 cut2 is_brace : Bool) (b x y : ℕ) (old1 old2 new1 new2 : List ℕ) →
    new1 ≡ added cut1 is_brace b old1 → new2 ≡ added cut2 is_brace b old2 →
    cond first (x ∷ new1) (y ∷ new2) ≡ added (cond first cut1 cut2) is_brace b (cond first (x ∷ old1) (y ∷ old2))
added-later true cut1 cut2 is_brace b x y old1 old2 new1 new2 h1 h2 = rw h1 (added-cons cut1 is_brace b x old1)
added-later false cut1 cut2 is_brace b x y old1 old2 new1 new2 h1 h2 = rw h2 (added-cons cut2 is_brace b y old2)

pub unescaped_more : (body : List ℕ) (b : ℕ) →
    unescaped (body ++ b ∷ []) ≡ added (is_cut body) (b == brace) b (unescaped body)
unfolding unescaped is_cut
unescaped_more [] b = added-first (b == brace) b
unescaped_more (a ∷ []) b = added-second (a == brace) (b == brace) a b
unescaped_more (a ∷ c ∷ rest) b =
    added-later (a == brace) (is_cut rest) (is_cut (c ∷ rest)) (b == brace) b (bit_xor c 32) a (unescaped rest)
    (unescaped (c ∷ rest)) (unescaped (rest ++ b ∷ [])) (unescaped (c ∷ rest ++ b ∷ [])) (unescaped_more rest b)
    (unescaped_more (c ∷ rest) b)

cut-second : (first is_brace : Bool) → cond first false is_brace ≡ (not first && is_brace)
cut-second true is_brace = refl
cut-second false is_brace = refl

cut-later : (first old1 old2 is_brace new1 new2 : Bool) → new1 ≡ (not old1 && is_brace) →
    new2 ≡ (not old2 && is_brace) → cond first new1 new2 ≡ (not (cond first old1 old2) && is_brace)
cut-later true old1 old2 is_brace new1 new2 h1 h2 = h1
cut-later false old1 old2 is_brace new1 new2 h1 h2 = h2

pub is_cut_more : (body : List ℕ) (b : ℕ) → is_cut (body ++ b ∷ []) ≡ (not (is_cut body) && b == brace)
unfolding is_cut
is_cut_more [] b = refl
is_cut_more (a ∷ []) b = cut-second (a == brace) (b == brace)
is_cut_more (a ∷ c ∷ rest) b =
    cut-later (a == brace) (is_cut rest) (is_cut (c ∷ rest)) (b == brace) (is_cut (rest ++ b ∷ []))
    (is_cut (c ∷ rest ++ b ∷ [])) (is_cut_more rest b) (is_cut_more (c ∷ rest) b)

sum_more : (body : List ℕ) (b : ℕ) → sum (body ++ b ∷ []) ≡ sum body + b
sum_more body b = fold-append (λ (a x : ℕ). a + x) 0 body (b ∷ [])

pub checksum_more : (body : List ℕ) (b : ℕ) → checksum (body ++ b ∷ []) ≡ (checksum body + b) % 256
checksum_more body b = let e = sum_more body b in omega (arith, e)
