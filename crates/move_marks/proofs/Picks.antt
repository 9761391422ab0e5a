-- Which marked move has which number: those of one kind come after all of the kinds before.
use Rattle.std.proofs.Common.{◌≡◌, ◌∙◌, sym, ap, ℕ, ◌-◌, ◌<◌, ◌≤◌, List, ◌++◌, length, get_or, arith}
use Rattle.std.specs.Prelude.{map}
use Rattle.std.proofs.lemmas.List.{get_or-append_right, get_or-map, get_or_append_left, length-map}

-- the number is one of the first kind's
pub found_here : {X : Type 0} (make : ℕ → X) (xs : List ℕ) (rest : List X) (n found : ℕ) (d : X) → n < length xs →
    ((e : ℕ) → found ≡ get_or xs n e) → make found ≡ get_or (map make xs ++ rest) n d
found_here make xs rest n found d within is =
    ap make (is 0)
    ∙ sym (get_or-map make xs n 0 d within)
    ∙ sym (get_or_append_left (map make xs) rest d n (omega (arith, within, length-map xs make)))

-- or it isn't, and counts on from them
pub found_past : {X : Type 0} (make : ℕ → X) (xs : List ℕ) (rest : List X) (n many : ℕ) (found d : X) →
    many ≡ length xs → many ≤ n → found ≡ get_or rest (n - many) d → found ≡ get_or (map make xs ++ rest) n d
found_past make xs rest n many found d long past is =
    is ∙ sym (get_or-append_right (map make xs) rest many n d (length-map xs make ∙ sym long) past)

-- of the last kind there is nothing behind
pub found_last : {X : Type 0} (make : ℕ → X) (xs : List ℕ) (n found : ℕ) (d : X) → n < length xs →
    ((e : ℕ) → found ≡ get_or xs n e) → make found ≡ get_or (map make xs) n d
found_last make xs n found d within is = ap make (is 0) ∙ sym (get_or-map make xs n 0 d within)

-- the same of lists that are made already
pub picked_here : {X : Type 0} (xs rest : List X) (n : ℕ) (found d : X) → n < length xs → found ≡ get_or xs n d →
    found ≡ get_or (xs ++ rest) n d
picked_here xs rest n found d within is = is ∙ sym (get_or_append_left xs rest d n within)

pub picked_past : {X : Type 0} (xs rest : List X) (n many : ℕ) (found d : X) → many ≡ length xs → many ≤ n →
    found ≡ get_or rest (n - many) d → found ≡ get_or (xs ++ rest) n d
picked_past xs rest n many found d long past is = is ∙ sym (get_or-append_right xs rest many n d (sym long) past)
