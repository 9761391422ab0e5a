-- The first choice, and those after it.
use Rattle.std.proofs.Common.{◌≡◌, ℕ, suc, ◌+◌, ◌-◌, ◌<◌, List, [], ◌∷◌, length, drop, get_or, ap, sym, ◌∙◌, arith}
use Rattle.std.proofs.Common.{add-one, true, false, cond, nat_lt}
use Rattle.std.proofs.Math.Seq.{drop-cons}
use Rattle.std.proofs.lemmas.Bool.Decides.{nat_tests}
use Rattle.rand_pcg.specs.Lcg.{Lcg}
use Rattle.rand_pcg.specs.Pcg.{pcg32}
use Rattle.schedule_pick.specs.Choices.{Choices, drawn_word, choice_at, choices_after, FollowingLaw}

-- what follows the first byte
following-byte : (byte : ℕ) (bytes : List ℕ) (words : Lcg) (t : ℕ) →
    choice_at (record { bytes = bytes; words = words }) t ≡ choice_at (record { bytes = byte ∷ bytes; words = words })
    (t + 1)
unfolding choice_at
following-byte byte bytes words t =
    let test : nat_lt t (length bytes) ≡ nat_lt (t + 1) (length (byte ∷ bytes)) = grind (arith, nat_tests) in
    let index : get_or bytes t 0 ≡ get_or (byte ∷ bytes) (t + 1) 0 = rw add-one in
    let rest : t - length bytes ≡ t + 1 - length (byte ∷ bytes) = omega arith in
    ap (λ b. cond b (get_or bytes t 0) (drawn_word words (t - length bytes))) test
    ∙ ap (λ v. cond (nat_lt (t + 1) (length (byte ∷ bytes))) v (drawn_word words (t - length bytes))) index
    ∙ ap (λ n. cond (nat_lt (t + 1) (length (byte ∷ bytes))) (get_or (byte ∷ bytes) (t + 1) 0) (drawn_word words n))
    rest

-- with no byte left the choices are the words
words-alone : (words : Lcg) (t : ℕ) → choice_at (record { bytes = []; words = words }) t ≡ drawn_word words t
unfolding choice_at
words-alone words t =
    let test : nat_lt t 0 ≡ false = grind (arith, nat_tests) in
    let whole : t - 0 ≡ t = omega arith in
    ap (λ b. cond b (get_or {A = ℕ} [] t 0) (drawn_word words (t - 0))) test ∙ ap (λ n. drawn_word words n) whole

following-word : (words : Lcg) (t : ℕ) → drawn_word (pcg32 words).1 t ≡ drawn_word words (t + 1)
unfolding drawn_word
following-word words t = rw add-one

following : (bytes : List ℕ) (words : Lcg) (t : ℕ) →
    choice_at (choices_after (record { bytes = bytes; words = words })) t ≡ choice_at (record {
      bytes = bytes;
      words =
          words;
    }) (t + 1)
unfolding choices_after
following [] words t = words-alone (pcg32 words).1 t ∙ following-word words t ∙ sym (words-alone words (t + 1))
following (byte ∷ bytes) words t = following-byte byte bytes words t

pub following_law : FollowingLaw
following_law c t = following c.bytes c.words t

at-byte : (byte : ℕ) (bytes : List ℕ) (words : Lcg) → choice_at (record { bytes = byte ∷ bytes; words = words })
    0 ≡ byte
unfolding choice_at
at-byte byte bytes words =
    let test : nat_lt 0 (length (byte ∷ bytes)) ≡ true = grind (arith, nat_tests) in
    ap (λ b. cond b byte (drawn_word words (0 - length (byte ∷ bytes)))) test

-- a byte is left
pub first-byte : (bytes : List ℕ) (next : ℕ) (words : Lcg) → next < length bytes →
    choice_at (record { bytes = drop next bytes; words = words }) 0 ≡ get_or bytes next 0
first-byte bytes next words some =
    let parts : drop next bytes ≡ get_or bytes next 0 ∷ drop (suc next) bytes = drop-cons bytes next 0 some in
    ap (λ l. choice_at (record { bytes = l; words = words }) 0) parts
    ∙ at-byte (get_or bytes next 0) (drop (suc next) bytes) words

pub after-byte : (bytes : List ℕ) (next : ℕ) (words : Lcg) → next < length bytes →
    record { bytes = drop (next + 1) bytes; words = words } ≡ choices_after (record {
      bytes = drop next bytes;
      words =
          words;
    })
unfolding choices_after
after-byte bytes next words some =
    let parts : drop next bytes ≡ get_or bytes next 0 ∷ drop (suc next) bytes = drop-cons bytes next 0 some in
    let C : List ℕ → Choices = λ l. record { bytes = l; words = words } in
    ap (λ n. C (drop n bytes)) (add-one next) ∙ sym (ap (λ l. choices_after (C l)) parts)

-- no byte is left
pub first-word : (bytes : List ℕ) (words : Lcg) → bytes ≡ [] → choice_at (record { bytes = bytes; words = words })
    0 ≡ (pcg32 words).0
unfolding drawn_word
first-word bytes words none = ap (λ l. choice_at (record { bytes = l; words = words }) 0) none ∙ words-alone words 0

pub after-word : (bytes : List ℕ) (words : Lcg) → bytes ≡ [] → record { bytes = bytes; words = (pcg32 words).1 }
    ≡ choices_after (record { bytes = bytes; words = words })
unfolding choices_after
after-word bytes words none =
    let C : List ℕ → Lcg → Choices = λ l w. record { bytes = l; words = w } in
    ap (λ l. C l (pcg32 words).1) none ∙ sym (ap (λ l. choices_after (C l words)) none)
