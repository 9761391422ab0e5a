-- Reading byte by byte gives the reading by groups.
use Rattle.std.proofs.Common.{◌≡◌, ◌≢◌, ℕ, zero, suc, ◌+◌, ◌*◌, ◌%◌, ◌<◌, ◌≤◌, List, [], ◌∷◌, ◌++◌, length, drop}
use Rattle.std.proofs.Common.{get_or, refl, sym, ◌∙◌, ap, inl, inr, arith}
use Rattle.std.proofs.Common.{true, false, nat_lt, nat_eq, ◌&&◌, cond, Option, Some, None, Result, Err, append_assoc}
use Rattle.std.specs.Prelude.{if◌then◌else◌}
use Rattle.std.specs.Option.{option_map}
use Rattle.std.proofs.lemmas.Bool.{cases_lt, lt-ltb, le-ltb}
use Rattle.std.proofs.lemmas.Bool.Decides.{nat_tests}
use Rattle.std.proofs.lemmas.List.{length-append, append-nil, drop_more, drop_all}
use Rattle.varint_core.specs.declared.Varint.{Varint}
use Rattle.varint_core.specs.declared.Varint.TheVariants.{Short, Over}
use Rattle.varint_core.specs.Leb128.{group, value, last, is_padded, judged, reading, end}

-- the number by a walk: i bytes before, the scale of the next, the value so far
abbrev pub read_on : ℕ → ℕ → ℕ → List ℕ → Result (ℕ × ℕ) Varint
read_on i s v [] = if nat_lt i 5 then Err Short else Err Over
read_on i s v (b ∷ bytes) =
    if nat_eq i 5 then Err Over else if nat_lt b 128 then end (v + (b % 128) * s) i b else read_on (i + 1) (s * 128)
    (v + (b % 128) * s) bytes

pub scale : List ℕ → ℕ
scale [] = 1
scale (b ∷ p) = scale p * 128

value-append : (p g : List ℕ) → value (p ++ g) ≡ value p + scale p * value g
unfolding value scale
value-append [] g = omega arith
value-append (b ∷ p) g = omega (arith, value-append p g)

scale-push : (p : List ℕ) (b : ℕ) → scale (p ++ (b ∷ [])) ≡ scale p * 128
unfolding scale
scale-push [] b = refl
scale-push (c ∷ p) b = omega (arith, scale-push p b)

value-one : (b : ℕ) → value (b ∷ []) ≡ b % 128
unfolding value
value-one b = omega arith

value-push : (p : List ℕ) (b : ℕ) → value (p ++ (b ∷ [])) ≡ value p + (b % 128) * scale p
value-push p b = omega (arith, value-append p (b ∷ []), value-one b, ap (λ (m : ℕ). scale p * m) (value-one b))

last-push : (c : ℕ) (p : List ℕ) (b : ℕ) → last c (p ++ (b ∷ [])) ≡ b
last-push c [] b = refl
last-push c (d ∷ p) b = last-push d p b

padded-push : (p : List ℕ) (b i : ℕ) → length p ≡ i → is_padded (p ++ (b ∷ [])) ≡ nat_lt 0 i && nat_eq b 0
padded-push [] b i l = rw (← l) refl
padded-push (c ∷ p) b i l =
    let one : nat_lt 0 (length (p ++ (b ∷ []))) ≡ true = lt-ltb _ _ (omega (arith, length-append p (b ∷ []))) in
    let two : nat_lt 0 i ≡ true = lt-ltb _ _ (omega arith) in
    rw (one, two, last-push c p b) refl

fused : (p bytes : List ℕ) (b : ℕ) (o : Option (List ℕ)) →
    judged ((p ++ (b ∷ [])) ++ bytes) (option_map (λ g. (p ++ (b ∷ [])) ++ g) o)
    ≡ judged (p ++ (b ∷ bytes)) (option_map (λ g. p ++ g) (option_map (λ g. b ∷ g) o))
fused p bytes b None = rw append_assoc refl
fused p bytes b (Some g) = ap (λ (f : List ℕ). judged (p ++ (b ∷ bytes)) (Some f)) (append_assoc p (b ∷ []) g)

pub read-group : (k i s v : ℕ) (p bytes : List ℕ) → i + k ≡ 5 → length p ≡ i → s ≡ scale p → v ≡ value p →
    read_on i s v bytes ≡ judged (p ++ bytes) (option_map (λ g. p ++ g) (group k bytes))
unfolding group
read-group zero i s v p [] five l sc va = rw append-nil (rw l refl)
read-group (suc k) i s v p [] five l sc va = rw append-nil (rw l refl)
read-group zero i s v p (b ∷ bytes) five l sc va =
    let one : nat_eq i 5 ≡ true = grind (arith, nat_tests) in
    let two : nat_lt (length (p ++ (b ∷ bytes))) 5 ≡ false = le-ltb _ _ (omega (arith, length-append p (b ∷ bytes))) in
    rw (one, two) refl
read-group (suc k) i s v p (b ∷ bytes) five l sc va =
    let one : nat_eq i 5 ≡ false = grind (arith, nat_tests) in
    let v' : v + (b % 128) * s ≡ value (p ++ (b ∷ [])) = rw (sc, va) (sym (value-push p b)) in
    elim (cases_lt b 128) [
      | inl small ↦
          let t = lt-ltb b 128 small in
          let len : length (p ++ (b ∷ [])) ≡ i + 1 = omega (arith, length-append p (b ∷ [])) in
          rw (one, t, v', ← padded-push p b i l, ← len) refl
      | inr big ↦
          let t = le-ltb b 128 big in
          let sc' : s * 128 ≡ scale (p ++ (b ∷ [])) = ap (λ (m : ℕ). m * 128) sc ∙ sym (scale-push p b) in
          let ih = read-group k (i + 1) (s * 128) (v + (b % 128) * s) (p ++ (b ∷ [])) bytes (omega arith)
          (omega (arith, length-append p (b ∷ []))) sc' v' in
          rw (one, t) (ih ∙ fused p bytes b (group k bytes))
    ]

id_map : (o : Option (List ℕ)) → option_map (λ g. [] ++ g) o ≡ o
id_map None = refl
id_map (Some g) = refl

pub reading_is : (bytes : List ℕ) → read_on 0 1 0 bytes ≡ reading bytes
unfolding reading scale value
reading_is bytes = read-group 5 0 1 0 [] bytes refl refl refl refl
    ∙ ap (λ (o : Option (List ℕ)). judged bytes o) (id_map (group 5 bytes))

-- ---- the exits of the reader's loop

pub at_five : (bytes : List ℕ) (i s v : ℕ) (r : Result (ℕ × ℕ) Varint) → i ≡ 5 → i < length bytes →
    read_on i s v (drop i bytes) ≡ r → Err Over ≡ r
at_five bytes i s v r five lt e =
    let d = drop_more bytes i 0 lt in
    let one : nat_eq i 5 ≡ true = grind (arith, nat_tests) in
    let f : read_on i s v (get_or bytes i 0 ∷ drop (i + 1) bytes) ≡ r = rw d at e in
    let g : Err Over ≡ r = rw one at f in g

pub at_small : (bytes : List ℕ) (i s v : ℕ) (r : Result (ℕ × ℕ) Varint) → i ≢ 5 → i < length bytes →
    get_or bytes i 0 < 128 → read_on i s v (drop i bytes)
    ≡ r → end (v + (get_or bytes i 0 % 128) * s) i (get_or bytes i 0) ≡ r
at_small bytes i s v r other lt small e =
    let d = drop_more bytes i 0 lt in
    let one : nat_eq i 5 ≡ false = grind (arith, nat_tests) in
    let two = lt-ltb (get_or bytes i 0) 128 small in
    let f : read_on i s v (get_or bytes i 0 ∷ drop (i + 1) bytes) ≡ r = rw d at e in
    rw (one, two) at f

pub at_end : (bytes : List ℕ) (i s v : ℕ) (r : Result (ℕ × ℕ) Varint) → length bytes ≤ i →
    read_on i s v (drop i bytes) ≡ r →
    cond (nat_lt i 5) (Err Short) (Err Over) ≡ r
at_end bytes i s v r le e = rw (drop_all i bytes le) at e
