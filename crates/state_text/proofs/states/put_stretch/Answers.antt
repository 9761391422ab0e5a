-- past the image a word of 0 has its opening value
use Rattle.std.proofs.Common.{◌≡◌, ◌∙◌, ℕ, ◌+◌, ◌*◌, ◌≤◌, List, [], ◌∷◌, ◌++◌, length, string_bytes, ap, arith, eq-eqb}
use Rattle.std.proofs.Common.{refl, sym}
use Rattle.std.specs.Prelude.{All}
use Rattle.std.specs.List.{flat_map, enumerate_from}
use Rattle.std.proofs.lemmas.Bool.Decides.{nat_tests}
use Rattle.std.proofs.lemmas.List.{append-nil}
use Rattle.std.proofs.lemmas.List.Elements.{All-head, All-tail}
use Rattle.image_mem.specs.Contents.{Contents, opening_word}
use Rattle.image_mem.proofs.WordLemmas.{opening_word-past}
use Rattle.state_text.specs.States.{memory_line}
use Rattle.state_text.proofs.states.put_stretch.Goals as goal

-- a word that has its opening value has no line
no_line : (image : Contents) (k v : ℕ) → v ≡ opening_word image k → memory_line image (k, v) ≡ []
no_line image k v same = let equal = eq-eqb v (opening_word image k) same in rw equal refl

-- words of 0 past the image have no lines
quiet : (image : Contents) (first : ℕ) (words : List ℕ) → length image.bytes ≤ 4 * first → All (λ w. w ≡ 0) words
    → flat_map (memory_line image) (enumerate_from first words) ≡ []
quiet image first [] past zero = refl
quiet image first (w ∷ ws) past zero =
    let opens : opening_word image first ≡ 0 = opening_word-past image first past in
    let is : w ≡ 0 = All-head (λ (v : ℕ). v ≡ 0) w ws zero in
    let none = no_line image first w (is ∙ sym opens) in
    let rest = quiet image (first + 1) ws (omega arith) (All-tail (λ (v : ℕ). v ≡ 0) w ws zero) in
    ap (λ (ls : List ℕ). ls ++ flat_map (memory_line image) (enumerate_from (first + 1) ws)) none ∙ rest

pub returns-then-are_zero : goal.returns-then-are_zero
returns-then-are_zero c =
    let past : length c.args.image.now.bytes ≤ 4 * c.args.first =
    omega (arith, c.if-first-bytes.true, ap length c.bytes.ensures.value) in
    let none = quiet c.args.image.now c.args.first c.args.words.now past (c.are_zero.ensures c.if-are_zero.true) in
    sym
    (ap (λ (ls : List ℕ). string_bytes c.args.text.now ++ ls) none ∙ append-nil (string_bytes c.args.text.now))
