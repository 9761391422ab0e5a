-- Where an item stands in lists put one after the other.
use Rattle.std.proofs.Common.{◌≡◌, ◌∙◌, sym, ap, ℕ, zero, suc, ◌<◌, ◌≤◌, ◌+◌, ◌-◌, ◌*◌, List, [], ◌∷◌, ◌++◌, arith}
use Rattle.std.proofs.Common.{length, get_or}
use Rattle.std.specs.Prelude.{flat_map, map}
use Rattle.std.specs.List.{range_with_len}
use Rattle.std.proofs.lemmas.List.{get_or-append_right, get_or-append-add, get_or-map, get_or_append_left}
use Rattle.std.proofs.lemmas.List.{length-append, length-map}
use Rattle.turn_lists.specs.declared.actor.Turn.{Turn}
use Rattle.turn_lists.specs.Few.{begun_by}

-- past the first list
pub past_first : {X : Type 0} (front back : List X) (n m : ℕ) (d : X) → length front ≡ m → m ≤ n →
    get_or (front ++ back) n d ≡ get_or back (n - m) d
past_first front back n m d long past = get_or-append_right front back m n d long past

-- as many lists of one length as a range has numbers
pub blocks_long : {X : Type 0} (f : ℕ → List X) (each a k : ℕ) → ((c : ℕ) → length (f c) ≡ each) →
    length (flat_map f (range_with_len a k)) ≡ k * each
blocks_long f each a zero long = omega arith
blocks_long f each a (suc k) long =
    let rest = blocks_long f each (a + 1) k long in
    let both = length-append (f a) (flat_map f (range_with_len (a + 1) k)) in
    let first = long a in
    omega (arith, rest, both, first)

pub blocks_at : {X : Type 0} (f : ℕ → List X) (each a k q r : ℕ) (d : X) → ((c : ℕ) → length (f c) ≡ each) → q < k →
    r < each →
    get_or (flat_map f (range_with_len a k)) (q * each + r) d ≡ get_or (f (a + q)) r d
blocks_at f each a zero q r d long within small = absurd (omega arith)
blocks_at f each a (suc k) zero r d long within small =
    let first = long a in
    let place : 0 * each + r ≡ r = omega arith in
    let here : a + 0 ≡ a = omega arith in
    ap (λ (n : ℕ). get_or (f a ++ flat_map f (range_with_len (a + 1) k)) n d) place
    ∙ get_or_append_left (f a) (flat_map f (range_with_len (a + 1) k)) d r (omega (arith, first))
    ∙ ap (λ (n : ℕ). get_or (f n) r d) (sym here)
blocks_at f each a (suc k) (suc q) r d long within small =
    let first = long a in
    let place : suc q * each + r ≡ length (f a) + (q * each + r) = omega (arith, first) in
    let there : a + 1 + q ≡ a + suc q = omega arith in
    ap (λ (n : ℕ). get_or (f a ++ flat_map f (range_with_len (a + 1) k)) n d) place
    ∙ get_or-append-add (f a) (flat_map f (range_with_len (a + 1) k)) (q * each + r) d
    ∙ blocks_at f each (a + 1) k q r d long (omega arith) small
    ∙ ap (λ (n : ℕ). get_or (f n) r d) there

-- the lists that an actor begins

pub begun_long : (g : Turn) (rests : List (List Turn)) → length (begun_by g rests) ≡ g.count * length rests
begun_long g rests =
    blocks_long (λ (count : ℕ). map (λ (rest : List Turn). record g { count = count } ∷ rest) rests) (length rests) 1
    g.count (λ count. length-map rests (λ (rest : List Turn). record g { count = count } ∷ rest))

pub begun_at : (g : Turn) (rests : List (List Turn)) (q r : ℕ) → q < g.count → r < length rests →
    get_or (begun_by g rests) (q * length rests + r) [] ≡ record g { count = q + 1 } ∷ get_or rests r []
begun_at g rests q r within small =
    let one : 1 + q ≡ q + 1 = omega arith in
    blocks_at (λ (count : ℕ). map (λ (rest : List Turn). record g { count = count } ∷ rest) rests) (length rests) 1
    g.count q r [] (λ count. length-map rests (λ (rest : List Turn). record g { count = count } ∷ rest)) within small
    ∙ get_or-map (λ (rest : List Turn). record g { count = 1 + q } ∷ rest) rests r [] [] small
    ∙ ap (λ (n : ℕ). record g { count = n } ∷ get_or rests r []) one
