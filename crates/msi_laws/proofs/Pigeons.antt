-- Messages that are for different cores' wants are no more than the cores.
use Rattle.std.proofs.Common.{◌≡◌, ◌≢◌, ap, refl, sym, subst, ℕ, ◌+◌, ◌<◌, ◌≤◌, ◌==◌, Bool, true, false, not, cond}
use Rattle.std.proofs.Common.{◌&&◌, ◌||◌, List, [], ◌∷◌, length, suc}
use Rattle.std.proofs.Common.{arith, eqb}
use Rattle.std.specs.List.{IsDistinct, AllByRecursion, list_any}
use Rattle.std.proofs.lemmas.Bool.{eq-eqb, ne_eqb}
use Rattle.std.proofs.lemmas.Bool.Decides.{nat_tests}
use Rattle.std.proofs.lemmas.Map.Steps.{length-le_from_distinct_below}

-- a message: its block, and whether it is for its receiver's own want
pub record Item : Type 0 where
  pub block : ℕ
  pub own : Bool

-- how many of the messages are about the block and for the receiver's own want, and for another's
abbrev pub owns : ℕ → List Item → ℕ
owns b [] = 0
owns b (i ∷ xs) = cond (i.own && (i.block == b)) 1 0 + owns b xs

abbrev pub others : ℕ → List Item → ℕ
others b [] = 0
others b (i ∷ xs) = cond (not i.own && (i.block == b)) 1 0 + others b xs

-- the core whose want a message to core d is for: d, or the one for which the block is busy
abbrev pub holder_in : Bool → ℕ → ℕ → ℕ
holder_in true d r = d
holder_in false d r = r

abbrev pub holder : (ℕ → ℕ) → ℕ → Item → ℕ
holder requester d i = holder_in i.own d (requester i.block)

abbrev pub holders : (ℕ → ℕ) → ℕ → List Item → List ℕ
holders requester d [] = []
holders requester d (i ∷ xs) = holder requester d i ∷ holders requester d xs

-- each want is for one block, and each block has at most one message of a kind
pub record Apart (requester : ℕ → ℕ) (d : ℕ) (W : ℕ → ℕ → Type 0) (xs : List Item) : Type 0 where
  pub once_own : (b : ℕ) → owns b xs ≤ 1
  pub once_other : (b : ℕ) → others b xs ≤ 1
  pub own : (b : ℕ) → 1 ≤ owns b xs → W d b
  pub other : (b : ℕ) → 1 ≤ others b xs → W (requester b) b
  pub not_own : (b : ℕ) → 1 ≤ others b xs → requester b ≢ d

-- none of the messages is for this core's want
pub record Free (requester : ℕ → ℕ) (d : ℕ) (who : ℕ) (xs : List Item) : Type 0 where
  pub own : (b : ℕ) → 1 ≤ owns b xs → d ≢ who
  pub other : (b : ℕ) → 1 ≤ others b xs → requester b ≢ who

-- each message is for the want of one of the first n cores
pub record Below (requester : ℕ → ℕ) (d : ℕ) (n : ℕ) (xs : List Item) : Type 0 where
  pub own : (b : ℕ) → 1 ≤ owns b xs → d < n
  pub other : (b : ℕ) → 1 ≤ others b xs → requester b < n

-- fewer messages are apart too
fewer : (requester : ℕ → ℕ) (d : ℕ) (W : ℕ → ℕ → Type 0) (xs ys : List Item) → ((b : ℕ) → owns b ys ≤ owns b xs) →
    ((b : ℕ) → others b ys ≤ others b xs) →
    Apart requester d W xs → Apart requester d W ys
fewer requester d W xs ys p q h =
    record {
      once_own = λ b. let e = p b in let f = h.once_own b in omega arith;
      once_other = λ b. let e = q b in let f = h.once_other b in omega arith;
      own = λ b lt. h.own b (let e = p b in omega arith);
      other = λ b lt. h.other b (let e = q b in omega arith);
      not_own = λ b lt. h.not_own b (let e = q b in omega arith);
    }

pub own_here : (i : Item) (xs : List Item) → i.own ≡ true → owns i.block (i ∷ xs) ≡ 1 + owns i.block xs
own_here i xs is = rw (is, eq-eqb i.block i.block refl) refl

pub other_here : (i : Item) (xs : List Item) → i.own ≡ false → others i.block (i ∷ xs) ≡ 1 + others i.block xs
other_here i xs is = rw (is, eq-eqb i.block i.block refl) refl

owns_more : (i : Item) (xs : List Item) (b : ℕ) → owns b xs ≤ owns b (i ∷ xs)
owns_more i xs b = omega arith

others_more : (i : Item) (xs : List Item) (b : ℕ) → others b xs ≤ others b (i ∷ xs)
others_more i xs b = omega arith

-- two messages are for different cores' wants, by whether each is for its receiver's own
one_apart : (requester : ℕ → ℕ) (d : ℕ) (W : ℕ → ℕ → Type 0) → ((c b e : ℕ) → W c b → W c e → b ≡ e) →
    (x y : Item) (ys : List Item) →
    Apart requester d W (x ∷ y ∷ ys) → (p q : Bool) → x.own ≡ p → y.own ≡ q →
    holder_in p d (requester x.block) ≢ holder_in q d (requester y.block)
one_apart requester d W one x y ys h true true e f same =
    let wx : W d x.block = h.own x.block (let m = own_here x (y ∷ ys) e in omega arith) in
    let wy : W d y.block = h.own y.block (let m = own_here y ys f in let k = owns_more x (y ∷ ys) y.block in
    omega arith) in
    let at : x.block ≡ y.block = one d x.block y.block wx wy in
    absurd (let m = own_here x (y ∷ ys) e in
    let k : owns x.block (y ∷ ys) ≡ 1 + owns x.block ys = subst (λ (b : ℕ). owns b (y ∷ ys) ≡ 1 + owns b ys) (sym at)
    (own_here y ys f) in
    let o = h.once_own x.block in omega arith)
one_apart requester d W one x y ys h true false e f same =
    absurd (h.not_own y.block (let m = other_here y ys f in let k = others_more x (y ∷ ys) y.block in
    omega arith) (sym same))
one_apart requester d W one x y ys h false true e f same = absurd (h.not_own x.block (let m = other_here x (y ∷ ys) e in
    omega arith) same)
one_apart requester d W one x y ys h false false e f same =
    let wx : W (requester x.block) x.block = h.other x.block (let m = other_here x (y ∷ ys) e in omega arith) in
    let wy : W (requester y.block) y.block = h.other y.block (let m = other_here y ys f in let k =
    others_more x (y ∷ ys) y.block in omega arith) in
    let at : x.block ≡ y.block = one (requester x.block) x.block y.block wx (subst (λ (c : ℕ). W c y.block) (sym same)
    wy) in
    absurd (let m = other_here x (y ∷ ys) e in
    let k : others x.block (y ∷ ys) ≡ 1 + others x.block ys = subst (λ (b : ℕ). others b (y ∷ ys) ≡ 1 + others b ys)
    (sym at) (other_here y ys f) in
    let o = h.once_other x.block in omega arith)

apart_all : (requester : ℕ → ℕ) (d : ℕ) (W : ℕ → ℕ → Type 0) → ((c b e : ℕ) → W c b → W c e → b ≡ e) →
    (x : Item) (ys : List Item) →
    Apart requester d W (x ∷ ys) → AllByRecursion (λ (h : ℕ). eqb (holder requester d x) h ≡ false)
    (holders requester d ys)
apart_all requester d W one x [] h = tt
apart_all requester d W one x (y ∷ ys) h = (
  ne_eqb (holder requester d x) (holder requester d y) (one_apart requester d W one x y ys h x.own y.own refl refl),
  apart_all requester d W one x ys (fewer requester d W (x ∷ y ∷ ys) (x ∷ ys) (λ b. omega arith) (λ b. omega arith) h),
)

distinct_holders : (requester : ℕ → ℕ) (d : ℕ) (W : ℕ → ℕ → Type 0) → ((c b e : ℕ) → W c b → W c e → b ≡ e) →
    (xs : List Item) → Apart requester d W xs →
    IsDistinct eqb (holders requester d xs)
unfolding IsDistinct
distinct_holders requester d W one [] h = tt
distinct_holders requester d W one (x ∷ xs) h = (
  apart_all requester d W one x xs h,
  distinct_holders requester d W one xs (fewer requester d W (x ∷ xs) xs
      (λ b. omega arith) (λ b. omega arith) h),
)

free_rest : (requester : ℕ → ℕ) (d who : ℕ) (x : Item) (xs : List Item) → Free requester d who (x ∷ xs) →
    Free requester d who xs
free_rest requester d who x xs h = record {
  own = λ b lt. h.own b (omega arith);
  other =
      λ b lt. h.other b (omega arith);
}

free_one : (requester : ℕ → ℕ) (d who : ℕ) (x : Item) (xs : List Item) → Free requester d who (x ∷ xs) → (p : Bool) →
    x.own ≡ p →
    holder_in p d (requester x.block) ≢ who
free_one requester d who x xs h true e = h.own x.block (let m = own_here x xs e in omega arith)
free_one requester d who x xs h false e = h.other x.block (let m = other_here x xs e in omega arith)

free_all : (requester : ℕ → ℕ) (d who : ℕ) (xs : List Item) → Free requester d who xs →
    AllByRecursion (λ (h : ℕ). eqb who h ≡ false) (holders requester d xs)
free_all requester d who [] h = tt
free_all requester d who (x ∷ xs) h = (
  ne_eqb who (holder requester d x) (λ (e : who ≡ holder requester d x). free_one requester d who x xs h x.own refl
      (sym e)),
  free_all requester d who xs (free_rest requester d who x xs h),
)

below_one : (requester : ℕ → ℕ) (d n : ℕ) (x : Item) (xs : List Item) → Below requester d n (x ∷ xs) → (p : Bool) →
    x.own ≡ p →
    holder_in p d (requester x.block) < n
below_one requester d n x xs h true e = h.own x.block (let m = own_here x xs e in omega arith)
below_one requester d n x xs h false e = h.other x.block (let m = other_here x xs e in omega arith)

below_all : (requester : ℕ → ℕ) (d n : ℕ) (xs : List Item) → Below requester d n xs → (q : ℕ) →
    list_any (eqb q) (holders requester d xs) ≡ true → q < n
below_all requester d n [] h q e = absurd (cc)
below_all requester d n (x ∷ xs) h q e =
    by_test (eqb q (holder requester d x)) refl e (λ (f : list_any (eqb q) (holders requester d xs) ≡ true).
    below_all requester d n xs (record { own = λ b lt. h.own b (omega arith); other = λ b lt. h.other b (omega arith) })
    q f)
  where
    by_test : (t : Bool) → eqb q (holder requester d x) ≡ t → (t || list_any (eqb q) (holders requester d xs)) ≡ true →
        (list_any (eqb q) (holders requester d xs) ≡ true → q < n) → q < n
    by_test true is f rest = let lt = below_one requester d n x xs h x.own refl in let same : q ≡ holder requester d x =
        grind (arith, nat_tests) in rw same lt
    by_test false is f rest = rest f

length-holders : (requester : ℕ → ℕ) (d : ℕ) (xs : List Item) → length (holders requester d xs) ≡ length xs
length-holders requester d [] = refl
length-holders requester d (x ∷ xs) = ap suc (length-holders requester d xs)

-- no more messages than cores
pub at_most_cores : (requester : ℕ → ℕ) (d n : ℕ) (W : ℕ → ℕ → Type 0) → ((c b e : ℕ) → W c b → W c e → b ≡ e) →
    (xs : List Item) → Apart requester d W xs →
    Below requester d n xs → length xs ≤ n
at_most_cores requester d n W one xs apart below =
    let all : length (holders requester d xs) ≤ n =
    length-le_from_distinct_below (holders requester d xs) n (distinct_holders requester d W one xs apart)
    (below_all requester d n xs below) in
    let long = length-holders requester d xs in
    omega arith

-- and fewer where there is a core for whose want none of them is
pub fewer_than_cores : (requester : ℕ → ℕ) (d who n : ℕ) (W : ℕ → ℕ → Type 0) → ((c b e : ℕ) → W c b → W c e → b ≡ e) →
    (xs : List Item) → who < n →
    Apart requester d W xs → Free requester d who xs → Below requester d n xs → length xs < n
unfolding IsDistinct
fewer_than_cores requester d who n W one xs lt apart free below =
    let all : length (who ∷ holders requester d xs) ≤ n =
    length-le_from_distinct_below (who ∷ holders requester d xs) n (
      free_all requester d who xs free,
      distinct_holders requester d W one xs apart,
    )
    (λ q e. by_test q (eqb q who) refl e) in
    let long = length-holders requester d xs in
    omega arith
  where
    by_test : (q : ℕ) (t : Bool) → eqb q who ≡ t → (t || list_any (eqb q) (holders requester d xs)) ≡ true → q < n
    by_test q true is e = let same : q ≡ who = grind (arith, nat_tests) in rw same lt
    by_test q false is e = below_all requester d n xs below q e
