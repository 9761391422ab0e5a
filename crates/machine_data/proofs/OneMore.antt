-- The memory that accesses leave, with one access more.
use Rattle.std.proofs.Common.{◌≡◌, ◌≢◌, ◌∙◌, refl, sym, ap, subst, ℕ, zero, suc, ◌+◌, ◌≤◌, ◌==◌, Bool, true, false}
use Rattle.std.proofs.Common.{List, [], ◌∷◌, ◌++◌, arith}
use Rattle.std.specs.Prelude.{map, slice_set, if◌then◌else◌}
use Rattle.std.specs.List.{range_with_len}
use Rattle.std.proofs.lemmas.Bool.Decides.{nat_tests}
use Rattle.image_mem.specs.Contents.{Contents, opening_word}
use Rattle.rtr_types.specs.Accesses.{is_write}
use Rattle.rtr_types.specs.declared.access.Access.{Access}
use Rattle.machine_data.specs.LastValues.{last_value, memory_left}
use Rattle.machine_data.proofs.Values.{last_value-snoc}
use Rattle.machine_data.specs.OneMore.{AccessLeavesLaw}

-- ---- values over a range

same_values : {X : Type 0} (f g : ℕ → X) (from n : ℕ) → ((w : ℕ) → from ≤ w → g w ≡ f w)
    → map g (range_with_len from n) ≡ map f (range_with_len from n)
same_values f g from zero same = refl
same_values f g from (suc n) same =
    let tail : map g (range_with_len (from + 1) n) ≡ map f (range_with_len (from + 1) n) =
    same_values f g (from + 1) n (λ w le. same w (omega (arith, le))) in
    let head : g from ≡ f from = same from (omega arith) in
    rw (head, tail) refl

-- another value in one place
value_set : {X : Type 0} (f g : ℕ → X) (v : X) (from n i : ℕ) → ((w : ℕ) → w ≢ from + i → g w ≡ f w)
    → g (from + i) ≡ v → map g (range_with_len from n) ≡ slice_set (map f (range_with_len from n)) i v
value_set f g v from zero i same at = refl
value_set f g v from (suc n) zero same at =
    let tail : map g (range_with_len (from + 1) n) ≡ map f (range_with_len (from + 1) n) =
    same_values f g (from + 1) n (λ w le. same w (λ is. omega (arith, le, is))) in
    let first : from + 0 ≡ from = omega arith in
    let head : g from ≡ v = ap g (sym first) ∙ at in
    rw (head, tail) refl
value_set f g v from (suc n) (suc i) same at =
    let place : from + 1 + i ≡ from + suc i = omega arith in
    let tail : map g (range_with_len (from + 1) n) ≡ slice_set (map f (range_with_len (from + 1) n)) i v =
    value_set f g v (from + 1) n i (λ w differ. same w (λ is. differ (is ∙ sym place))) (ap g place ∙ at) in
    let head : g from ≡ f from = same from (λ is. omega (arith, is)) in
    rw (head, tail) refl

-- ---- the memory

-- a word that isn't the access's has what it had
last_value_else : (opening word : ℕ) (list : List Access) (a : Access) → word ≢ a.word
    → last_value opening word (list ++ a ∷ []) ≡ last_value opening word list
last_value_else opening word list a differ =
    let test : (a.word == word) ≡ false = grind (arith, nat_tests) in
    last_value-snoc opening word list a ∙ ap (λ (t : Bool). if t then a.after else last_value opening word list) test

last_value_at : (opening : ℕ) (list : List Access) (a : Access) → last_value opening a.word (list ++ a ∷ []) ≡ a.after
last_value_at opening list a =
    let test : (a.word == a.word) ≡ true = grind (arith, nat_tests) in
    last_value-snoc opening a.word list a
    ∙ ap (λ (t : Bool). if t then a.after else last_value opening a.word list) test

-- a word's value, of an image and accesses
abbrev value_of : Contents → List Access → ℕ → ℕ
value_of image list word = last_value (opening_word image word) word list

pub memory_written : (image : Contents) (list : List Access) (a : Access)
    → memory_left image (list ++ a ∷ []) ≡ slice_set (memory_left image list) a.word a.after
memory_written image list a =
    let first : 0 + a.word ≡ a.word = omega arith in
    value_set (value_of image list) (value_of image (list ++ a ∷ [])) a.after 0 image.words a.word
    (λ word differ. last_value_else (opening_word image word) word list a (λ is. differ (is ∙ sym first)))
    (ap (value_of image (list ++ a ∷ [])) first ∙ last_value_at (opening_word image a.word) list a)

-- an access that leaves what it found leaves the memory as it was
pub memory_read : (image : Contents) (list : List Access) (a : Access)
    → a.after ≡ last_value (opening_word image a.word) a.word list
    → memory_left image (list ++ a ∷ []) ≡ memory_left image list
memory_read image list a found =
    same_values (value_of image list) (value_of image (list ++ a ∷ [])) 0 image.words
    (λ word le. by word (a.word == word) refl)
  where
    by : (word : ℕ) (t : Bool) → (a.word == word) ≡ t → value_of image (list ++ a ∷ []) word ≡ value_of image list word
    by word true is =
        let same : a.word ≡ word = grind (arith, nat_tests) in
        subst (λ (w : ℕ). value_of image (list ++ a ∷ []) w ≡ value_of image list w) same
        (last_value_at (opening_word image a.word) list a ∙ found)
    by word false is =
        last_value-snoc (opening_word image word) word list a
        ∙ ap (λ (t : Bool). if t then a.after else last_value (opening_word image word) word list) is

-- ---- the law

pub words_more : AccessLeavesLaw
words_more image list a found reads = by (is_write a.kind) refl
  where
    by : (writes : Bool) → is_write a.kind ≡ writes
        → (if writes then slice_set (memory_left image list) a.word a.after else memory_left image list)
        ≡ memory_left image (list ++ a ∷ [])
    by true is = sym (memory_written image list a)
    by false is = sym (memory_read image list a (reads is ∙ found))
