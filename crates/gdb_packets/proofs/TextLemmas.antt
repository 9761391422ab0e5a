-- Texts that are gone through from their front.
use Rattle.std.proofs.Common.{◌≡◌, ℕ, ◌+◌, ◌<◌, ◌==◌, List, [], ◌∷◌, ◌++◌, Option, Some, None}
use Rattle.std.proofs.Common.{take, drop, length, get_or, ◌≤◌}
use Rattle.std.proofs.Common.{refl, sym, ap, ◌∙◌, append_assoc}
use Rattle.std.proofs.Common.{inl, inr, eq-eqb}
use Rattle.std.proofs.lemmas.Bool.{cases_Bool, ne_eqb}
use Rattle.std.proofs.lemmas.List.{append-nil, at_drop_more, take_more}
use Rattle.std.proofs.Math.ListN.{drop_of_length-le}
use Rattle.std.specs.Option.{option_map}
use Rattle.gdb_packets.specs.Texts.{cut_at, onto_first, pieces_at}

-- what stands before the byte and behind it, with more before
abbrev pub with_front : List ℕ → Option (List ℕ × List ℕ) → Option (List ℕ × List ℕ)
with_front front parts = option_map (λ p. (front ++ p.0, p.1)) parts

-- the pieces are the first and the others, or the only one
abbrev pub cut_pieces : ℕ → List ℕ → Option (List ℕ × List ℕ) → List (List ℕ)
cut_pieces byte text None = text ∷ []
cut_pieces byte text (Some p) = p.0 ∷ pieces_at byte p.1

onto_cut : (byte x : ℕ) (rest : List ℕ) (parts : Option (List ℕ × List ℕ)) →
    onto_first x (cut_pieces byte rest parts) ≡ cut_pieces byte (x ∷ rest) (option_map (λ p. (x ∷ p.0, p.1)) parts)
onto_cut byte x rest None = refl
onto_cut byte x rest (Some p) = refl

pub pieces_are : (byte : ℕ) (text : List ℕ) → pieces_at byte text ≡ cut_pieces byte text (cut_at byte text)
unfolding pieces_at cut_at
pieces_are byte [] = refl
pieces_are byte (x ∷ rest) = elim (cases_Bool (x == byte)) [
  | inl same ↦ rw same refl
  | inr other ↦ rw other (ap (onto_first x) (pieces_are byte rest) ∙ onto_cut byte x rest (cut_at byte rest))
]

-- one byte more
pub cut_here : (byte x : ℕ) (rest : List ℕ) → x ≡ byte → cut_at byte (x ∷ rest) ≡ Some ([], rest)
unfolding cut_at
cut_here byte x rest e = rw (eq-eqb x byte e) refl

pub cut_later : (byte x : ℕ) (rest : List ℕ) → (x ≡ byte → ⊥) →
    cut_at byte (x ∷ rest) ≡ option_map (λ p. (x ∷ p.0, p.1)) (cut_at byte rest)
unfolding cut_at
cut_later byte x rest e = rw (ne_eqb x byte e) refl

pub cut_nothing : (byte : ℕ) → cut_at byte [] ≡ None
unfolding cut_at
cut_nothing byte = refl

-- the byte is here
pub cut_found : (byte : ℕ) (text : List ℕ) (i : ℕ) → i < length text → get_or text i 0 ≡ byte →
    cut_at byte text ≡ with_front (take i text) (cut_at byte (drop i text)) →
    Some (take i text, drop (i + 1) text) ≡ cut_at byte text
cut_found byte text i within same before =
    let rest = drop (i + 1) text in
    let here : cut_at byte (drop i text) ≡ Some ([], rest) =
    at_drop_more (cut_at byte) text i 0 within ∙ cut_here byte (get_or text i 0) rest same in
    sym (before ∙ ap (with_front (take i text)) here ∙ ap (λ front. Some (front, rest)) (append-nil (take i text)))

front_more : (front : List ℕ) (x : ℕ) (parts : Option (List ℕ × List ℕ)) →
    with_front front (option_map (λ p. (x ∷ p.0, p.1)) parts) ≡ with_front (front ++ x ∷ []) parts
front_more front x None = refl
front_more front x (Some p) = ap (λ whole. Some (whole, p.1)) (sym (append_assoc front (x ∷ []) p.0))

-- it isn't here
pub cut_goes_on : (byte : ℕ) (text : List ℕ) (i : ℕ) → i < length text → (get_or text i 0 ≡ byte → ⊥) →
    cut_at byte text ≡ with_front (take i text) (cut_at byte (drop i text)) →
    cut_at byte text ≡ with_front (take (i + 1) text) (cut_at byte (drop (i + 1) text))
cut_goes_on byte text i within other before =
    let x = get_or text i 0 in
    let rest = drop (i + 1) text in
    let later : cut_at byte (drop i text) ≡ option_map (λ p. (x ∷ p.0, p.1)) (cut_at byte rest) =
    at_drop_more (cut_at byte) text i 0 within ∙ cut_later byte x rest other in
    before ∙ ap (with_front (take i text)) later ∙ front_more (take i text) x (cut_at byte rest)
    ∙ ap (λ front. with_front front (cut_at byte rest)) (sym (take_more text i 0 within))

-- it's nowhere
pub cut_nowhere : (byte : ℕ) (text : List ℕ) (i : ℕ) → length text ≤ i →
    cut_at byte text ≡ with_front (take i text) (cut_at byte (drop i text)) → None ≡ cut_at byte text
cut_nowhere byte text i past before =
    let none : cut_at byte (drop i text) ≡ None =
    ap (cut_at byte) (drop_of_length-le text past) ∙ cut_nothing byte in
    sym (before ∙ ap (with_front (take i text)) none)
