-- There is one way to put the edges of several cores in order, and it leaves each core's edges as they were.
use Rattle.std.proofs.Common.{◌≡◌, ◌≢◌, ℕ, zero, suc, ◌+◌, ◌<◌, ◌≤◌, inl, inr, ◌⊎◌, Bool, true, false, cond, ◌==◌, List}
use Rattle.std.proofs.Common.{[], ◌∷◌, ◌++◌}
use Rattle.std.proofs.Common.{length, map, refl, sym, ap, subst, ◌∙◌, arith}
use Rattle.std.specs.List.{AllByRecursion, flat_map, range_with_len}
use Rattle.std.proofs.lemmas.Bool.{cases_eq, cases_lt}
use Rattle.std.proofs.lemmas.Bool.Decides.{nat_tests}
use Rattle.std.proofs.lemmas.List.{append-nil}
use Rattle.log_codec.specs.declared.incoming.Incoming.{Incoming}
use Rattle.log_codec.specs.Incoming.{incoming, is_earlier, put_in_order, in_order, merged_edges, from_source}

-- ---- the edges from one core

pub from_same : (i : ℕ) (e : Incoming) (edges : List Incoming) → e.source ≡ i →
    from_source i (e ∷ edges) ≡ e.counts ∷ from_source i edges
from_same i e edges is = let t : (e.source == i) ≡ true = grind (arith, nat_tests) in rw t refl

pub from_other : (i : ℕ) (e : Incoming) (edges : List Incoming) → e.source ≢ i →
    from_source i (e ∷ edges) ≡ from_source i edges
from_other i e edges not = let t : (e.source == i) ≡ false = grind (arith, nat_tests) in rw t refl

pub from-append : (i : ℕ) (xs ys : List Incoming) → from_source i (xs ++ ys) ≡ from_source i xs ++ from_source i ys
from-append i [] ys = refl
from-append i (x ∷ xs) ys = elim (cases_eq x.source i) [
  | inl is ↦ from_same i x (xs ++ ys) is ∙ ap (λ (l : List (ℕ × ℕ)). x.counts ∷ l) (from-append i xs ys)
      ∙ ap (λ (l : List (ℕ × ℕ)). l ++ from_source i ys) (sym (from_same i x xs is))
  | inr not ↦ from_other i x (xs ++ ys) not ∙ from-append i xs ys
      ∙ ap (λ (l : List (ℕ × ℕ)). l ++ from_source i ys) (sym (from_other i x xs not))
]

from-own : (i : ℕ) (counts : List (ℕ × ℕ)) → from_source i (map (incoming i) counts) ≡ counts
from-own i [] = refl
from-own i (c ∷ counts) =
    from_same i (incoming i c) (map (incoming i) counts) refl ∙ ap (λ (l : List (ℕ × ℕ)). c ∷ l) (from-own i counts)

from-foreign : (i k : ℕ) (counts : List (ℕ × ℕ)) → k ≢ i → from_source i (map (incoming k) counts) ≡ []
from-foreign i k [] not = refl
from-foreign i k (c ∷ counts) not =
    from_other i (incoming k c) (map (incoming k) counts) not ∙ from-foreign i k counts not

-- the edges of the cores from s on, one core after the other
abbrev joined : (ℕ → List (ℕ × ℕ)) → (s n : ℕ) → List Incoming
joined lists s n = flat_map (λ k. map (incoming k) (lists k)) (range_with_len s n)

joined-outside : (lists : ℕ → List (ℕ × ℕ)) (i s n : ℕ) → (i < s) ⊎ (s + n ≤ i) → from_source i (joined lists s n) ≡ []
joined-outside lists i s zero out = refl
joined-outside lists i s (suc n) out =
    let not : s ≢ i = elim out [ inl lt ↦ omega arith | inr le ↦ omega arith ] in
    let rest : (i < s + 1) ⊎ (s + 1 + n ≤ i) = elim out [ inl lt ↦ inl (omega arith) | inr le ↦ inr (omega arith) ] in
    from-append i (map (incoming s) (lists s)) (joined lists (s + 1) n)
    ∙ rw (from-foreign i s (lists s) not) (joined-outside lists i (s + 1) n rest)

joined-inside : (lists : ℕ → List (ℕ × ℕ)) (i s n : ℕ) → s ≤ i → i < s + n → from_source i (joined lists s n) ≡ lists i
joined-inside lists i s zero low high = absurd (omega arith)
joined-inside lists i s (suc n) low high = elim (cases_eq s i) [
  | inl is ↦
      let out : (i < s + 1) ⊎ (s + 1 + n ≤ i) = inl (omega arith) in
      let own : from_source i (map (incoming s) (lists s)) ≡ lists i =
      subst (λ (k : ℕ). from_source i (map (incoming k) (lists k)) ≡ lists i) (sym is) (from-own i (lists i)) in
      from-append i (map (incoming s) (lists s)) (joined lists (s + 1) n)
      ∙ rw (own, joined-outside lists i (s + 1) n out) (append-nil (lists i))
  | inr not ↦ from-append i (map (incoming s) (lists s)) (joined lists (s + 1) n)
      ∙ rw (from-foreign i s (lists s) not) (joined-inside lists i (s + 1) n (omega arith) (omega arith))
]

-- ---- order

-- one edge isn't after the other
pub record Reaches (d e : Incoming) : Type 0 where
  pub count : d.counts.1 ≤ e.counts.1
  pub core : d.counts.1 ≡ e.counts.1 → d.source ≤ e.source

pub reaches-then : (d e f : Incoming) → Reaches d e → Reaches e f → Reaches d f
reaches-then d e f a b =
    let ac = a.count in let bc = b.count in
    record {
      count = omega arith;
      core = λ same. let p = a.core (omega arith) in let q = b.core (omega arith) in
          omega arith;
    }

pub earlier-reaches : (d e : Incoming) → is_earlier d e ≡ true → Reaches d e
earlier-reaches d e t = record { count = grind (arith, nat_tests); core = λ same. grind (arith, nat_tests) }

pub else-reaches : (d e : Incoming) → is_earlier d e ≡ false → Reaches e d
else-reaches d e t = record { count = grind (arith, nat_tests); core = λ same. grind (arith, nat_tests) }

unfoldable pub Sorted : List Incoming → Type 0
Sorted [] = Unit {0}
Sorted (e ∷ edges) = AllByRecursion (Reaches e) edges × Sorted edges

pub all-map : {X : Type 0} (P Q : X → Type 0) → ((x : X) → P x → Q x) → (xs : List X) → AllByRecursion P xs →
    AllByRecursion Q xs
all-map P Q f [] h = tt
all-map P Q f (x ∷ xs) h = (f x h.0, all-map P Q f xs h.1)

-- an edge that is put among others
put-all : (P : Incoming → Type 0) (e : Incoming) (edges : List Incoming) → P e → AllByRecursion P edges →
    AllByRecursion P (put_in_order e edges)
put-all P e [] p h = (p, tt)
put-all P e (d ∷ edges) p h = by (is_earlier d e) (put-all P e edges p h.1)
  where
    by : (t : Bool) → AllByRecursion P (put_in_order e edges) →
        AllByRecursion P (cond t (d ∷ put_in_order e edges) (e ∷ d ∷ edges))
    by true rest = (h.0, rest)
    by false rest = (p, h)

put-sorted : (e : Incoming) (edges : List Incoming) → Sorted edges → Sorted (put_in_order e edges)
unfolding Sorted
put-sorted e [] h = (tt, tt)
put-sorted e (d ∷ edges) h = by (is_earlier d e) refl (put-sorted e edges h.1)
  where
    by : (t : Bool) → is_earlier d e ≡ t → Sorted (put_in_order e edges) →
        Sorted (cond t (d ∷ put_in_order e edges) (e ∷ d ∷ edges))
    by true is rest = (put-all (Reaches d) e edges (earlier-reaches d e is) h.0, rest)
    by false is rest = let r = else-reaches d e is in
        ((r, all-map (Reaches d) (Reaches e) (λ f q. reaches-then e d f r q) edges h.0), h)

order-sorted : (edges : List Incoming) → Sorted (in_order edges)
unfolding Sorted
order-sorted [] = tt
order-sorted (e ∷ edges) = put-sorted e (in_order edges) (order-sorted edges)

length-put : (e : Incoming) (edges : List Incoming) → length (put_in_order e edges) ≡ suc (length edges)
length-put e [] = refl
length-put e (d ∷ edges) = by (is_earlier d e) (length-put e edges)
  where
    by : (t : Bool) → length (put_in_order e edges) ≡ suc (length edges) →
        length (cond t (d ∷ put_in_order e edges) (e ∷ d ∷ edges)) ≡ suc (suc (length edges))
    by true rest = ap suc rest
    by false rest = refl

length-order : (edges : List Incoming) → length (in_order edges) ≡ length edges
length-order [] = refl
length-order (e ∷ edges) = length-put e (in_order edges) ∙ ap suc (length-order edges)

-- ---- what putting in order leaves

put-other : (i : ℕ) (e : Incoming) (edges : List Incoming) → e.source ≢ i →
    from_source i (put_in_order e edges) ≡ from_source i edges
put-other i e [] not = from_other i e [] not
put-other i e (d ∷ edges) not = by (is_earlier d e) (put-other i e edges not)
  where
    by : (t : Bool) → from_source i (put_in_order e edges) ≡ from_source i edges →
        from_source i (cond t (d ∷ put_in_order e edges) (e ∷ d ∷ edges))
        ≡ from_source i (d ∷ edges)
    by true rest = elim (cases_eq d.source i) [
      | inl is ↦ from_same i d (put_in_order e edges) is ∙ ap (λ (l : List (ℕ × ℕ)). d.counts ∷ l) rest
          ∙ sym (from_same i d edges is)
      | inr other ↦ from_other i d (put_in_order e edges) other ∙ rest ∙ sym (from_other i d edges other)
    ]
    by false rest = from_other i e (d ∷ edges) not

-- an edge that is before all of its core
put-same : (i : ℕ) (e : Incoming) (edges : List Incoming) → e.source ≡ i →
    AllByRecursion (λ c. e.counts.1 < c.1) (from_source i edges) →
    from_source i (put_in_order e edges) ≡ e.counts ∷ from_source i edges
put-same i e [] is h = from_same i e [] is
put-same i e (d ∷ edges) is h = by (is_earlier d e) refl (λ all. put-same i e edges is all)
  where
    by : (t : Bool) → is_earlier d e ≡ t →
        (AllByRecursion (λ c. e.counts.1 < c.1) (from_source i edges) →
        from_source i (put_in_order e edges) ≡ e.counts ∷ from_source i edges)
        → from_source i (cond t (d ∷ put_in_order e edges) (e ∷ d ∷ edges)) ≡ e.counts ∷ from_source i (d ∷ edges)
    by true before rest = elim (cases_eq d.source i) [
      | inl own ↦ let all = subst (AllByRecursion (λ c. e.counts.1 < c.1)) (from_same i d edges own) h in let up =
          all.0 in
          let r = (earlier-reaches d e before).count in absurd (omega arith)
      | inr other ↦
          from_other i d (put_in_order e edges) other
          ∙ rest (subst (AllByRecursion (λ c. e.counts.1 < c.1)) (from_other i d edges other) h)
          ∙ ap (λ (l : List (ℕ × ℕ)). e.counts ∷ l) (sym (from_other i d edges other))
    ]
    by false after rest = from_same i e (d ∷ edges) is

-- each target's count is below those after it
unfoldable pub Rises : List (ℕ × ℕ) → Type 0
Rises [] = Unit {0}
Rises (c ∷ counts) = AllByRecursion (λ (d : ℕ × ℕ). c.1 < d.1) counts × Rises counts

order-from : (i : ℕ) (edges : List Incoming) → Rises (from_source i edges) →
    from_source i (in_order edges) ≡ from_source i edges
unfolding Rises
order-from i [] h = refl
order-from i (e ∷ edges) h = elim (cases_eq e.source i) [
  | inl is ↦
      let rises = subst Rises (from_same i e edges is) h in
      let rest = order-from i edges rises.1 in
      put-same i e (in_order edges) is (subst (AllByRecursion (λ c. e.counts.1 < c.1)) (sym rest) rises.0)
      ∙ ap (λ (l : List (ℕ × ℕ)). e.counts ∷ l) rest
      ∙ sym (from_same i e edges is)
  | inr not ↦ put-other i e (in_order edges) not ∙ order-from i edges (subst Rises (from_other i e edges not) h)
      ∙ sym (from_other i e edges not)
]

-- ---- the edges of several cores

-- edges in order, of which each core's are given
pub record Merges (cores : ℕ) (lists : ℕ → List (ℕ × ℕ)) (edges : List Incoming) : Type 0 where
  pub sorted : Sorted edges
  pub own : (i : ℕ) → i < cores → from_source i edges ≡ lists i
  pub none : (i : ℕ) → cores ≤ i → from_source i edges ≡ []

merged-own : (cores : ℕ) (lists : ℕ → List (ℕ × ℕ)) → ((i : ℕ) → i < cores → Rises (lists i)) → (i : ℕ) → i < cores →
    from_source i (merged_edges cores lists)
    ≡ lists i
unfolding merged_edges
merged-own cores lists rise i lt =
    let there = joined-inside lists i 0 cores (omega arith) (omega arith) in
    order-from i (joined lists 0 cores) (subst Rises (sym there) (rise i lt)) ∙ there

merged-none : (cores : ℕ) (lists : ℕ → List (ℕ × ℕ)) (i : ℕ) → cores ≤ i → from_source i (merged_edges cores lists) ≡ []
unfolding merged_edges Rises
merged-none cores lists i le =
    let there = joined-outside lists i 0 cores (inr (omega arith)) in
    order-from i (joined lists 0 cores) (subst Rises (sym there) tt) ∙ there

pub merged-merges : (cores : ℕ) (lists : ℕ → List (ℕ × ℕ)) → ((i : ℕ) → i < cores → Rises (lists i)) →
    Merges cores lists (merged_edges cores lists)
unfolding merged_edges
merged-merges cores lists rise =
    record {
      sorted = order-sorted (joined lists 0 cores);
      own = merged-own cores lists rise;
      none =
          merged-none cores lists;
    }

pub length-merged : (cores : ℕ) (lists : ℕ → List (ℕ × ℕ)) → length (merged_edges cores lists)
    ≡ length (flat_map (λ source. map (incoming source) (lists source)) (range_with_len 0 cores))
unfolding merged_edges
length-merged cores lists = length-order (joined lists 0 cores)

-- ---- one way

-- an edge that isn't after any of these isn't after the first from a core
first-reached : (d : Incoming) (edges : List Incoming) (i : ℕ) (c : ℕ × ℕ) (rest : List (ℕ × ℕ)) →
    AllByRecursion (Reaches d) edges →
    from_source i edges ≡ c ∷ rest → Reaches d (incoming i c)
first-reached d [] i c rest h is = absurd cc
first-reached d (e ∷ edges) i c rest h is = elim (cases_eq e.source i) [
  | inl own ↦
      let two : e.counts ∷ from_source i edges ≡ c ∷ rest = sym (from_same i e edges own) ∙ is in
      let first : e.counts ≡ c = cc in
      subst (λ (x : ℕ × ℕ). Reaches d (incoming i x)) first (subst (λ (k : ℕ). Reaches d (incoming k e.counts)) own h.0)
  | inr not ↦ first-reached d edges i c rest h.1 (sym (from_other i e edges not) ∙ is)
]

pub one-way : (xs ys : List Incoming) → Sorted xs → Sorted ys → ((i : ℕ) → from_source i xs ≡ from_source i ys) →
    xs ≡ ys
unfolding Sorted
one-way [] [] sx sy same = refl
one-way [] (y ∷ ys) sx sy same = let is : [] ≡ y.counts ∷ from_source y.source ys =
    same y.source ∙ from_same y.source y ys refl in absurd cc
one-way (x ∷ xs) [] sx sy same = let is : x.counts ∷ from_source x.source xs ≡ [] =
    sym (from_same x.source x xs refl) ∙ same x.source in absurd cc
one-way (x ∷ xs) (y ∷ ys) sx sy same = elim (cases_eq x.source y.source) [
  | inl is ↦
      let heads : x.counts ∷ from_source x.source xs ≡ y.counts ∷ from_source x.source ys =
      sym (from_same x.source x xs refl) ∙ same x.source
      ∙ from_same x.source y ys (sym is) in
      let counts : x.counts ≡ y.counts = cc in
      let first : x ≡ y = ap (λ (p : ℕ × (ℕ × ℕ)). incoming p.0 p.1) (pair_is is counts) in
      let rest : xs ≡ ys = one-way xs ys sx.1 sy.1 (λ i. tails i is) in
      ap (λ (p : Incoming × List Incoming). p.0 ∷ p.1) (both_are first rest)
  | inr not ↦
      let there : from_source x.source ys ≡ x.counts ∷ from_source x.source xs =
      sym (from_other x.source y ys (λ e. not (sym e))) ∙ sym (same x.source)
      ∙ from_same x.source x xs refl in
      let here : from_source y.source xs ≡ y.counts ∷ from_source y.source ys =
      sym (from_other y.source x xs not) ∙ same y.source
      ∙ from_same y.source y ys refl in
      let a = first-reached y ys x.source x.counts (from_source x.source xs) sy.0 there in
      let b = first-reached x xs y.source y.counts (from_source y.source ys) sx.0 here in
      let ac = a.count in
      let bc = b.count in
      let p = a.core (omega arith) in
      let q = b.core (omega arith) in
      absurd (not (omega arith))
]
  where
    pair_is : {a b : ℕ} {c d : ℕ × ℕ} → a ≡ b → c ≡ d → ◌≡◌ {A = ℕ × (ℕ × ℕ)} (a, c) (b, d)
    pair_is p q = cc

    both_are : {a b : Incoming} {c d : List Incoming} → a ≡ b → c ≡ d → ◌≡◌ {A = Incoming × List Incoming} (a, c) (b, d)
    both_are p q = cc

    tails : (i : ℕ) → x.source ≡ y.source → from_source i xs ≡ from_source i ys
    tails i is = elim (cases_eq x.source i) [
      | inl own ↦ let two : x.counts ∷ from_source i xs ≡ y.counts ∷ from_source i ys =
          sym (from_same i x xs own) ∙ same i ∙ from_same i y ys (sym is ∙ own) in cc
      | inr other ↦ sym (from_other i x xs other) ∙ same i ∙ from_other i y ys (λ e. other (is ∙ e))
    ]

-- what merges the lists is their merge
pub merge-is : (cores : ℕ) (lists : ℕ → List (ℕ × ℕ)) (edges : List Incoming) →
    ((i : ℕ) → i < cores → Rises (lists i)) → Merges cores lists edges →
    edges ≡ merged_edges cores lists
merge-is cores lists edges rise m =
    let n = merged-merges cores lists rise in
    one-way edges (merged_edges cores lists) m.sorted n.sorted (λ i. by i (cases_lt i cores))
  where
    by : (i : ℕ) → (i < cores) ⊎ (cores ≤ i) → from_source i edges ≡ from_source i (merged_edges cores lists)
    by i (inl lt) = m.own i lt ∙ sym ((merged-merges cores lists rise).own i lt)
    by i (inr le) = m.none i le ∙ sym ((merged-merges cores lists rise).none i le)

-- lists that agree at each core have one merge
pub merged-agree : (cores : ℕ) (lists rest : ℕ → List (ℕ × ℕ)) → ((i : ℕ) → i < cores → Rises (rest i)) →
    ((i : ℕ) → i < cores → lists i ≡ rest i) →
    merged_edges cores lists ≡ merged_edges cores rest
merged-agree cores lists rest rise same =
    let m = merged-merges cores lists (λ i lt. subst Rises (sym (same i lt)) (rise i lt)) in
    merge-is cores rest (merged_edges cores lists) rise
    (record { sorted = m.sorted; own = λ i lt. m.own i lt ∙ same i lt; none = m.none })
