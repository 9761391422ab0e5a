-- Turns joined on, and a count changed in place.
use Rattle.std.proofs.Common.{◌≡◌, ◌∙◌, refl, sym, ap, ℕ, zero, suc, ◌<◌, ◌≤◌, ◌+◌, List, [], ◌∷◌, ◌++◌, length, get_or}
use Rattle.std.proofs.Common.{arith, true, false, set, drop}
use Rattle.std.proofs.lemmas.List.{append_assoc, at_drop_more, at_drop_all}
use Rattle.turn_lists.specs.Actors.{is_same}
use Rattle.turn_lists.specs.Turns.{joined_from, together, with_count}
use Rattle.turn_lists.specs.declared.actor.Turn.{Turn}

pub with_count_set : (ts : List Turn) (k n : ℕ) (d : Turn) → k < length ts →
    with_count k n ts ≡ set ts k (record (get_or ts k d) { count = n })
with_count_set [] k n d within = absurd (omega arith)
with_count_set (t ∷ ts) zero n d within = refl
with_count_set (t ∷ ts) (suc k) n d within = ap (λ (us : List Turn). t ∷ us) (with_count_set ts k n d (omega arith))

-- the next turn is the same actor's, and is joined to the last one
pub joined_same : (t u : Turn) (us : List Turn) → is_same t.actor u.actor ≡ true →
    joined_from t (u ∷ us) ≡ joined_from (record t { count = together t.count u.count }) us
joined_same t u us same = rw same refl

-- the next turn is another actor's, and the last one is done
pub joined_other : (t u : Turn) (us : List Turn) → is_same t.actor u.actor ≡ false →
    joined_from t (u ∷ us) ≡ t ∷ joined_from u us
joined_other t u us other = rw other refl

-- one turn on, where it is the same actor's
pub one_joined : (list : List Turn) (last new : Turn) (rest : List Turn) (i : ℕ) (d : Turn) → i < length rest →
    is_same last.actor (get_or rest i d).actor ≡ true →
    new ≡ record last { count = together last.count (get_or rest i d).count } →
    list ++ joined_from last (drop i rest) ≡ list ++ joined_from new (drop (i + 1) rest)
one_joined list last new rest i d within same is =
    ap (λ (us : List Turn). list ++ us) (at_drop_more (joined_from last) rest i d within
    ∙ joined_same last (get_or rest i d) (drop (i + 1) rest) same
    ∙ ap (λ (t : Turn). joined_from t (drop (i + 1) rest)) (sym is))

-- one turn on, where it is another actor's
pub one_done : (list : List Turn) (last : Turn) (rest : List Turn) (i : ℕ) (d : Turn) → i < length rest →
    is_same last.actor (get_or rest i d).actor ≡ false →
    list ++ joined_from last (drop i rest) ≡ (list ++ last ∷ []) ++ joined_from (get_or rest i d) (drop (i + 1) rest)
one_done list last rest i d within other =
    ap (λ (us : List Turn). list ++ us) (at_drop_more (joined_from last) rest i d within
    ∙ joined_other last (get_or rest i d) (drop (i + 1) rest) other)
    ∙ sym (append_assoc list (last ∷ []) (joined_from (get_or rest i d) (drop (i + 1) rest)))

-- no turn is left
pub all_done : (list : List Turn) (last : Turn) (rest : List Turn) (i : ℕ) → length rest ≤ i →
    list ++ joined_from last (drop i rest) ≡ list ++ last ∷ []
all_done list last rest i past = ap (λ (us : List Turn). list ++ us) (at_drop_all (joined_from last) rest i past)
