use Rattle.std.proofs.Common.{◌≡◌, ℕ, ◌+◌, ◌-◌, ◌*◌, ◌/◌, ◌%◌, ◌<◌, ◌≤◌, zero, suc, List, [], ◌∷◌, ◌++◌, length, take, vec_len}
use Rattle.std.proofs.Common.{append_assoc, arith, sym, ap, ◌∙◌}
use Rattle.std.specs.Prelude.{map, replicate}
use Rattle.std.specs.List.{range_with_len}
use Rattle.std.proofs.lemmas.Grind.{common_steps}
use Rattle.std.proofs.lemmas.List.{take_all, replicate-append-replicate}
use Rattle.std.proofs.lemmas.List.FromFn.{map-range_with_len_more, length-map-range_with_len}
use Rattle.image_mem.specs.Contents.{Contents, opening_word}
use Rattle.image_mem.proofs.WordLemmas.{opening_word-past}
use Rattle.image_mem.proofs.image.Image.opening.Goals as goal

-- values from m on that are 0, behind those below
zeros_more : (f : ℕ → ℕ) (m j : ℕ) → ((k : ℕ) → m ≤ k → f k ≡ 0)
    → map f (range_with_len 0 m) ++ replicate j 0 ≡ map f (range_with_len 0 (m + j))
zeros_more f m zero past =
    let none : m + 0 ≡ m = omega arith in
    rw none (grind (arith, common_steps))
zeros_more f m (suc j) past =
    let next : m + suc j ≡ (m + j) + 1 = omega arith in
    let end : j + 1 ≡ suc j = omega arith in
    let last : replicate {A = ℕ} j 0 ++ replicate 1 0 ≡ replicate (j + 1) 0 = replicate-append-replicate j 1 0 in
    let more = map-range_with_len_more f 0 (m + j) (m + j) (omega arith) in
    let zero_there : f (m + j) ≡ 0 = past (m + j) (omega arith) in
    let before = zeros_more f m j past in
    ap (λ (n : ℕ). map f (range_with_len 0 m) ++ replicate n 0) (sym end)
    ∙ ap (λ (zs : List ℕ). map f (range_with_len 0 m) ++ zs) (sym last)
    ∙ sym (append_assoc (map f (range_with_len 0 m)) (replicate j 0) (replicate 1 0))
    ∙ ap (λ (zs : List ℕ). zs ++ 0 ∷ []) before
    ∙ ap (λ (v : ℕ). map f (range_with_len 0 (m + j)) ++ v ∷ []) (sym zero_there)
    ∙ sym more
    ∙ ap (λ (n : ℕ). map f (range_with_len 0 n)) (sym next)

-- the values below m, filled up with zeros to n
filled : (f : ℕ → ℕ) (xs : List ℕ) (m n l : ℕ) → l ≡ length xs → xs ≡ map f (range_with_len 0 m) → m ≤ n
    → ((k : ℕ) → m ≤ k → f k ≡ 0)
    → take n xs ++ replicate (n - l) 0 ≡ map f (range_with_len 0 n)
filled f xs m n l many made within past =
    let long : length xs ≡ m = ap length made ∙ length-map-range_with_len f 0 m in
    let whole : take n xs ≡ xs = take_all n xs (omega arith) in
    let rest : n - l ≡ n - m = ap (λ (k : ℕ). n - k) (many ∙ long) in
    let all : m + (n - m) ≡ n = omega arith in
    ap (λ (ys : List ℕ). ys ++ replicate (n - l) 0) (whole ∙ made)
    ∙ ap (λ (k : ℕ). map f (range_with_len 0 m) ++ replicate k 0) rest
    ∙ zeros_more f m (n - m) past
    ∙ ap (λ (k : ℕ). map f (range_with_len 0 k)) all

pub loop-word-preserved : goal.loop-word-preserved
loop-word-preserved c =
    let more = map-range_with_len_more (opening_word c.args.self.now) 0 c.loop-word.word c.loop-word.word
    (omega arith) in
    grind (arith, common_steps, more)

pub returns : goal.returns
returns c =
    let image = c.args.self.now in
    let words : c.self.inside.words ≡ image.words = ap (λ (i : Contents). i.words) c.self.view_is in
    let whole : length image.bytes ≤ 4 * c.loop-word.word = grind arith in
    let within : c.loop-word.word ≤ image.words = grind arith in
    c.in_ok-resize.ensures.items
    ∙ filled (opening_word image) c.loop-word.words.items c.loop-word.word c.self.inside.words (vec_len c.loop-word.words)
    c.loop-word.words.ok.0 c.loop-word.invariant (omega arith)
    (λ k past. opening_word-past image k (omega arith))
    ∙ ap (λ (n : ℕ). map (opening_word image) (range_with_len 0 n)) words
