-- The shortest spelling, and the groups that are one.
use Rattle.std.proofs.Common.{◌≡◌, ℕ, zero, suc, ◌+◌, ◌*◌, ◌/◌, ◌%◌, ◌^◌, ◌<◌, ◌≤◌, ◌⊎◌, List, [], ◌∷◌, ◌++◌, length}
use Rattle.std.proofs.Common.{take, refl, sym, ◌∙◌, ap, subst, inl, inr}
use Rattle.std.proofs.Common.{arith, true, false, Bool, nat_lt, nat_le, cond, Option, Some, None, Result, Ok, Err}
use Rattle.std.proofs.Common.{append_assoc}
use Rattle.std.specs.Option.{option_map}
use Rattle.std.specs.List.{AllByRecursion}
use Rattle.std.proofs.lemmas.Bool.{cases_lt, lt-ltb, le-ltb}
use Rattle.std.proofs.lemmas.Bool.Decides.{nat_tests}
use Rattle.std.proofs.lemmas.List.{take_at, length-append, append_cancel_left}
use Rattle.varint_core.specs.declared.Varint.{Varint}
use Rattle.varint_core.specs.declared.Varint.TheVariants.{Short, Over, NotShortest}
use Rattle.varint_core.specs.Leb128.{spelling_within, spelling, group, value, last, is_padded, judged, reading}
use Rattle.varint_core.specs.Leb128.{RoundTrip, OneSpelling, PrefixFree}

pub spelling-small : (k n : ℕ) → n < 128 → spelling_within (suc k) n ≡ n ∷ []
unfolding spelling_within
spelling-small k n h = rw (lt-ltb n 128 h) refl

pub spelling-more : (k n : ℕ) → 128 ≤ n → spelling_within (suc k) n ≡ (n % 128 + 128) ∷ spelling_within k (n / 128)
unfolding spelling_within
spelling-more k n h = rw (le-ltb n 128 h) refl

-- what is left of a number that isn't small
pub left : (k n : ℕ) → 128 ≤ n → n < 128 * 128 ^ k → (j : ℕ) × (k ≡ suc j) × (n / 128 < 128 * 128 ^ j)
left zero n h lt = absurd (omega arith)
left (suc j) n h lt = (j, refl, omega arith)

-- a group: each byte but the last has the top bit
abbrev pub IsGroup : List ℕ → Type 0
IsGroup [] = ⊥
IsGroup (b ∷ []) = b < 128
IsGroup (b ∷ c ∷ bytes) = (128 ≤ b) × (b < 256) × IsGroup (c ∷ bytes)

group-small : (k b : ℕ) (bytes : List ℕ) → b < 128 → group (suc k) (b ∷ bytes) ≡ Some (b ∷ [])
unfolding group
group-small k b bytes h = rw (lt-ltb b 128 h) refl

group-more : (k b : ℕ) (bytes : List ℕ) → 128 ≤ b → group (suc k) (b ∷ bytes) ≡ option_map (λ g. b ∷ g) (group k bytes)
unfolding group
group-more k b bytes h = rw (le-ltb b 128 h) refl

-- the spelling is a group of its own, whatever follows
pub group-spelling : (k n : ℕ) (rest : List ℕ) → n < 128 * 128 ^ k →
    group (suc k) (spelling_within (suc k) n ++ rest) ≡ Some (spelling_within (suc k) n)
group-spelling zero n rest h =
    let small : n < 128 = omega arith in
    rw (spelling-small zero n small) (group-small zero n rest small)
group-spelling (suc k) n rest h =
    elim (cases_lt n 128) [
      | inl small ↦ rw (spelling-small (suc k) n small) (group-small (suc k) n rest small)
      | inr big ↦
          let ih = group-spelling k (n / 128) rest (omega arith) in
          rw (spelling-more (suc k) n big)
          (group-more (suc k) (n % 128 + 128) (spelling_within (suc k) (n / 128) ++ rest) (omega arith)
          ∙ ap (λ (o : Option (List ℕ)). option_map (λ g. (n % 128 + 128) ∷ g) o) ih)
    ]

pub value-spelling : (k n : ℕ) → n < 128 * 128 ^ k → value (spelling_within (suc k) n) ≡ n
unfolding value
value-spelling zero n h =
    let small : n < 128 = omega arith in
    rw (spelling-small zero n small) (omega arith)
value-spelling (suc k) n h =
    elim (cases_lt n 128) [
      | inl small ↦ rw (spelling-small (suc k) n small) (omega arith)
      | inr big ↦
          let ih = value-spelling k (n / 128) (omega arith) in
          rw (spelling-more (suc k) n big) (omega (arith, ih))
    ]

last-spelling : (k n b : ℕ) → 0 < n → n < 128 * 128 ^ k → 0 < last b (spelling_within (suc k) n)
last-spelling zero n b pos h =
    let small : n < 128 = omega arith in
    rw (spelling-small zero n small) pos
last-spelling (suc k) n b pos h =
    elim (cases_lt n 128) [
      | inl small ↦ rw (spelling-small (suc k) n small) pos
      | inr big ↦ rw (spelling-more (suc k) n big)
          (last-spelling k (n / 128) (n % 128 + 128) (omega arith) (omega arith))
    ]

pub padded-spelling : (k n : ℕ) → n < 128 * 128 ^ k → is_padded (spelling_within (suc k) n) ≡ false
padded-spelling k n h =
    elim (cases_lt n 128) [
      | inl small ↦ rw (spelling-small k n small) refl
      | inr big ↦
          let l = left k n big h in
          let pos = last-spelling l.0 (n / 128) (n % 128 + 128) (omega arith) l.2 in
          rw (spelling-more k n big, l.1) (unpadded (n % 128 + 128) (spelling_within (suc l.0) (n / 128)) pos)
    ]
  where
    unpadded : (b : ℕ) (g : List ℕ) → 0 < last b g → is_padded (b ∷ g) ≡ false
    unpadded b g pos = grind (arith, nat_tests)

judged-some : (bytes g : List ℕ) → value g < 2 ^ 32 → is_padded g ≡ false →
    judged bytes (Some g) ≡ Ok (value g, length g)
judged-some bytes g fits plain = let t : nat_le (2 ^ 32) (value g) ≡ false = grind (arith, nat_tests) in
    rw (t, plain) refl

pub round_trip : RoundTrip
unfolding reading spelling
round_trip n rest h =
    let fits : n < 128 * 128 ^ 4 = omega arith in
    let g = group-spelling 4 n rest fits in
    let v = value-spelling 4 n fits in
    rw g (judged-some (spelling_within 5 n ++ rest) (spelling_within 5 n) (omega (arith, v)) (padded-spelling 4 n fits)
    ∙ ap (λ (m : ℕ). Ok (m, length (spelling_within 5 n))) v)

ok_is : (p q : ℕ × ℕ) → ◌≡◌ {A = Result (ℕ × ℕ) Varint} (Ok p) (Ok q) → p ≡ q
ok_is p q e = cc

pub prefix_free : PrefixFree
prefix_free m n x y fits_m fits_n e =
    let p = round_trip m x fits_m in
    let q = round_trip n y fits_n in
    let both : ◌≡◌ {A = Result (ℕ × ℕ) Varint} (Ok (m, length (spelling m))) (Ok (n, length (spelling n))) =
    sym p ∙ ap reading e ∙ q in
    let same : m ≡ n = ap (λ (p : ℕ × ℕ). p.0) (ok_is (m, length (spelling m)) (n, length (spelling n)) both) in
    (same, append_cancel_left (spelling n) x y (subst (λ (k : ℕ). spelling k ++ x ≡ spelling n ++ y) same e))

-- ---- what is read is spelled so

-- what a group is
pub group-is : (k : ℕ) (bytes g : List ℕ) → AllByRecursion (λ b. b < 256) bytes → group k bytes ≡ Some g → IsGroup g ×
    ((rest : List ℕ) × (bytes ≡ g ++ rest))
    × (length g ≤ k)
unfolding group
group-is zero bytes g fits e = absurd cc
group-is (suc k) [] g fits e = absurd cc
group-is (suc k) (b ∷ bytes) g fits e = by (cases_lt b 128) (group k bytes) refl (group-is k bytes)
  where
    Answer : Type 0
    Answer = IsGroup g × ((rest : List ℕ) × (b ∷ bytes ≡ g ++ rest)) × (length g ≤ suc k)

    longer : (f : List ℕ) → 128 ≤ b → b ∷ f ≡ g → IsGroup f → (rest : List ℕ) → bytes ≡ f ++ rest → length f ≤ k →
        IsGroup g × ((rest : List ℕ) × (b ∷ bytes ≡ g ++ rest)) × (length g ≤ suc k)
    longer [] big same is rest parts len = absurd is
    longer (c ∷ f) big same is rest parts len =
        subst (λ (h : List ℕ). IsGroup h × ((rest : List ℕ) × (b ∷ bytes ≡ h ++ rest)) × (length h ≤ suc k)) same
        ((big, fits.0, is), (rest, ap (λ (t : List ℕ). b ∷ t) parts), omega arith)

    by : (b < 128) ⊎ (128 ≤ b) → (o : Option (List ℕ)) → group k bytes ≡ o →
        ((f : List ℕ) → AllByRecursion (λ b. b < 256) bytes → group k bytes ≡ Some f → IsGroup f ×
        ((rest : List ℕ) × (bytes ≡ f ++ rest)) × (length f ≤ k)) →
        IsGroup g × ((rest : List ℕ) × (b ∷ bytes ≡ g ++ rest)) × (length g ≤ suc k)
    by (inl small) o is ih =
        let f : Some (b ∷ []) ≡ Some g = sym (group-small k b bytes small) ∙ e in
        let same : b ∷ [] ≡ g = cc in
        subst (λ (h : List ℕ). IsGroup h × ((rest : List ℕ) × (b ∷ bytes ≡ h ++ rest)) × (length h ≤ suc k)) same
        (small, (bytes, refl), omega arith)
    by (inr big) None is ih =
        let f : option_map (λ g. b ∷ g) (group k bytes) ≡ Some g = sym (group-more k b bytes big) ∙ e in
        let n : ◌≡◌ {A = Option (List ℕ)} None (Some g) = rw is at f in
        absurd cc
    by (inr big) (Some f) is ih =
        let h : option_map (λ g. b ∷ g) (group k bytes) ≡ Some g = sym (group-more k b bytes big) ∙ e in
        let n : Some (b ∷ f) ≡ Some g = rw is at h in
        let same : b ∷ f ≡ g = cc in
        let t = ih f fits.1 is in
        longer f big same t.0 t.1.0 t.1.1 t.2

value-pos : (b : ℕ) (g : List ℕ) → IsGroup (b ∷ g) → 0 < last b g → 0 < value (b ∷ g)
unfolding value
value-pos b [] is pos = omega arith
value-pos b (c ∷ g) is pos = omega (arith, value-pos c g is.2 pos)

-- not padded: the last byte isn't 0, or it is the only one
pub spelled : (k b : ℕ) (g : List ℕ) → IsGroup (b ∷ g) → length g ≤ k → (0 < length g → 0 < last b g) →
    b ∷ g ≡ spelling_within (suc k) (value (b ∷ g))
unfolding value
spelled k b [] is len plain =
    let v : b % 128 + 128 * 0 ≡ b = omega arith in
    rw v (sym (spelling-small k b is))
spelled zero b (c ∷ g) is len plain = absurd (omega arith)
spelled (suc k) b (c ∷ g) is len plain =
    let pos : 0 < value (c ∷ g) = value-pos c g is.2 (plain (omega arith)) in
    let ih = spelled k c g is.2 (omega arith) (λ _. plain (omega arith)) in
    let big : 128 ≤ value (b ∷ c ∷ g) = omega arith in
    let low : value (b ∷ c ∷ g) % 128 + 128 ≡ b = omega (arith, is.0, is.1) in
    let high : value (b ∷ c ∷ g) / 128 ≡ value (c ∷ g) = omega arith in
    let s = spelling-more (suc k) (value (b ∷ c ∷ g)) big in
    ap (λ (t : List ℕ). b ∷ t) ih
    ∙ sym (s ∙ ap (λ (n : ℕ). n ∷ spelling_within (suc k) (value (b ∷ c ∷ g) / 128)) low
    ∙ ap (λ (n : ℕ). b ∷ spelling_within (suc k) n) high)

unpadded : (b : ℕ) (g : List ℕ) → is_padded (b ∷ g) ≡ false → 0 < length g → 0 < last b g
unpadded b g e pos = grind (arith, nat_tests)

judged-ok : (bytes : List ℕ) (o : Option (List ℕ)) (n k : ℕ) → judged bytes o ≡ Ok (n, k) → (g : List ℕ) ×
    (o ≡ Some g) × (value g < 2 ^ 32)
    × (is_padded g ≡ false) × (value g ≡ n) × (length g ≡ k)
judged-ok bytes None n k e = none (nat_lt (length bytes) 5) e
  where
    none : (t : Bool) → ◌≡◌ {A = Result (ℕ × ℕ) Varint} (cond t (Err Short) (Err Over)) (Ok (n, k)) → (g : List ℕ) ×
        (None ≡ Some g) × (value g < 2 ^ 32)
        × (is_padded g ≡ false) × (value g ≡ n) × (length g ≡ k)
    none true f = absurd cc
    none false f = absurd cc
judged-ok bytes (Some g) n k e = some (nat_le (2 ^ 32) (value g)) refl (is_padded g) refl e
  where
    some : (s : Bool) → nat_le (2 ^ 32) (value g) ≡ s → (t : Bool) → is_padded g ≡ t →
        ◌≡◌ {A = Result (ℕ × ℕ) Varint} (cond s (Err Over) (cond t (Err NotShortest) (Ok (value g, length g))))
        (Ok (n, k)) → (h : List ℕ) × (Some g ≡ Some h)
        × (value h < 2 ^ 32) × (is_padded h ≡ false) × (value h ≡ n) × (length h ≡ k)
    some true is t it f = absurd cc
    some false is true it f = absurd cc
    some false is false it f =
        (let p = ok_is (value g, length g) (n, k) f in
        (g, refl, grind (arith, nat_tests), it, ap (λ (q : ℕ × ℕ). q.0) p, ap (λ (q : ℕ × ℕ). q.1) p))

pub one_spelling : OneSpelling
unfolding reading spelling
one_spelling bytes n k fits e =
    let j = judged-ok bytes (group 5 bytes) n k e in
    let g = group-is 5 bytes j.0 fits j.1 in
    by j.0 g.0 g.1.0 g.1.1 g.2 j.2 j.3 j.4 j.5
  where
    by : (g : List ℕ) → IsGroup g → (rest : List ℕ) → bytes ≡ g ++ rest → length g ≤ 5 → value g < 2 ^ 32 →
        is_padded g ≡ false → value g ≡ n → length g ≡ k →
        (n < 2 ^ 32) × (k ≤ length bytes) × (take k bytes ≡ spelling_within 5 n)
    by [] is rest parts len small plain v l = absurd is
    by (b ∷ g) is rest parts len small plain v l = (
      omega arith,
      omega (arith, ap length parts, length-append (b ∷ g) rest),
      rw parts (take_at (b ∷ g) rest k l ∙ spelled 4 b g is (omega arith) (unpadded b g plain)
          ∙ ap (λ (m : ℕ). spelling_within 5 m) v),
    )

-- ---- the steps of the writer

pub push_more : (k rest : ℕ) (items next whole : List ℕ) → rest < 128 * 128 ^ k →
    items ++ spelling_within (suc k) rest ≡ whole → 128 ≤ rest →
    next ≡ items ++ ((rest % 128 + 128) ∷ []) →
    (j : ℕ) × (k ≡ suc j) × (rest / 128 < 128 * 128 ^ j) × (next ++ spelling_within (suc j) (rest / 128) ≡ whole)
push_more k rest items next whole fits e big is = by (left k rest big fits)
  where
    by : (j : ℕ) × (k ≡ suc j) × (rest / 128 < 128 * 128 ^ j) → (j : ℕ) × (k ≡ suc j) × (rest / 128 < 128 * 128 ^ j)
        × (next ++ spelling_within (suc j) (rest / 128) ≡ whole)
    by l =
        let s : spelling_within (suc k) rest ≡ (rest % 128 + 128) ∷ spelling_within (suc l.0) (rest / 128) =
        spelling-more k rest big ∙ ap (λ (m : ℕ). (rest % 128 + 128) ∷ spelling_within m (rest / 128)) l.1 in (
          l.0,
          l.1,
          l.2,
          ap (λ (t : List ℕ). t ++ spelling_within (suc l.0) (rest / 128)) is
              ∙ append_assoc items ((rest % 128 + 128) ∷ []) (spelling_within (suc l.0) (rest / 128))
              ∙ ap (λ (t : List ℕ). items ++ t) (sym s) ∙ e,
        )

pub push_last : (k rest : ℕ) (items next whole : List ℕ) → items ++ spelling_within (suc k) rest ≡ whole → rest < 128 →
    next ≡ items ++ (rest ∷ []) →
    next ≡ whole
push_last k rest items next whole e small is =
    is ∙ ap (λ (t : List ℕ). items ++ t) (sym (spelling-small k rest small)) ∙ e
