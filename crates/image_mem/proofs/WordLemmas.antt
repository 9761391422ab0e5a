-- Words read from a part of a list of bytes, and words that begin past its end.
use Rattle.std.proofs.Common.{◌≡◌, ◌≢◌, ◌⊎◌, ℕ, zero, suc, ◌+◌, ◌-◌, ◌*◌, ◌%◌, ◌<◌, ◌≤◌, List, length, take, drop, refl}
use Rattle.std.proofs.Common.{ap, ◌∙◌, arith, add-zero, add-suc}
use Rattle.std.proofs.Common.{length-drop, Some, None}
use Rattle.std.proofs.lemmas.List.{get_or-drop, get_or_past, take_all}
use Rattle.std.proofs.lemmas.Bool.Decides.{nat_tests}
use Rattle.byteorder.specs.Endian.{little_from}
use Rattle.image_mem.specs.Contents.{Contents, word_from, fetched, opening_word}

-- n bytes of the part that begins at p
pub little_from-drop : (n i p : ℕ) (xs : List ℕ) → little_from i n (drop p xs) ≡ little_from (p + i) n xs
little_from-drop zero i p xs = refl
little_from-drop (suc n) i p xs =
    let byte = get_or-drop p xs i 0 in
    let rest = little_from-drop n (suc i) p xs in
    let next : p + suc i ≡ suc (p + i) = add-suc p i in
    rw (byte, rest, next) refl

-- a number that is read past the end is 0
pub little_from-past : (n i : ℕ) (xs : List ℕ) → length xs ≤ i → little_from i n xs ≡ 0
little_from-past zero i xs h = refl
little_from-past (suc n) i xs h =
    let byte = get_or_past xs i 0 h in
    let rest = little_from-past n (suc i) xs (omega arith) in
    rw (byte, rest) refl

-- where there is no instruction word
pub fetched-none : (image : Contents) (pc : ℕ) → (pc % 4 ≢ 0) ⊎ (length image.bytes < pc + 4) → fetched image pc ≡ None
unfolding fetched
fetched-none image pc h = grind (arith, nat_tests)

-- where there is one
pub fetched-some : (image : Contents) (pc : ℕ) → pc % 4 ≡ 0 → pc + 4 ≤ length image.bytes →
    fetched image pc ≡ Some (word_from image.bytes pc)
unfolding fetched
fetched-some image pc aligned within = grind (arith, nat_tests)

-- a word of which no byte is the image's
pub opening_word-past : (image : Contents) (word : ℕ) → length image.bytes ≤ 4 * word → opening_word image word ≡ 0
unfolding opening_word
opening_word-past image word h = little_from-past 4 (4 * word) image.bytes h

-- the first four bytes of the part from an address to the end
pub word_from-part : (xs : List ℕ) (address : ℕ) →
    little_from 0 4 (take (length xs - address) (drop address xs)) ≡ word_from xs address
word_from-part xs address =
    let whole = take_all (length xs - address) (drop address xs) (simp length-drop (omega arith)) in
    let part = little_from-drop 4 0 address xs ∙ ap (λ (i : ℕ). little_from i 4 xs) (add-zero address) in
    rw whole part
