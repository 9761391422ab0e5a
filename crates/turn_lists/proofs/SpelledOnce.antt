-- No two turns, and no two lists of turns, are spelled alike.
use Rattle.std.proofs.Common.{◌≡◌, ◌≢◌, ◌∙◌, refl, sym, ap, subst, ℕ, ◌<◌, List, [], ◌∷◌, ◌++◌, arith, length, get_or}
use Rattle.std.proofs.Common.{drop}
use Rattle.std.proofs.Common.{true, decimal}
use Rattle.std.specs.Prelude.{codes}
use Rattle.std.proofs.lemmas.Fmt.{decimal_injective}
use Rattle.std.proofs.lemmas.List.{append-nil, get_or_append_left, length-append}
use Rattle.rtr_types.specs.declared.TheConstants.{CORES_MAX}
use Rattle.turn_lists.specs.Actors.{core_of}
use Rattle.turn_lists.specs.declared.actor.Actor.{Actor}
use Rattle.turn_lists.specs.declared.actor.Actor.TheVariants.{Buffer, Core}
use Rattle.turn_lists.specs.declared.actor.Turn.{Turn}
use Rattle.turn_lists.specs.Texts.{SpelledOnce, are_turns, is_turn, spelled_actor, spelled_more, spelled_turn}
use Rattle.turn_lists.specs.Texts.{spelled_turns}
use Rattle.turn_lists.proofs.ReadingPlaces.{and_left, and_right}
use Rattle.turn_lists.proofs.TextLemmas.{actor_lacks, decimal_lacks, first_cut, is_turn_core, is_turn_count, lacks_at}
use Rattle.turn_lists.proofs.TextLemmas.{no_cut}
use Rattle.turn_lists.proofs.TextLemmas.{turn_lacks}

not_w : (c d : ℕ) → c < CORES_MAX → decimal c ≢ 119 ∷ decimal d
not_w c d small is =
    let some : 0 < length (decimal c) = subst (λ (xs : List ℕ). 0 < length xs) (sym is) (omega arith) in
    lacks_at 119 (decimal c) (decimal_lacks 119 c refl (omega arith)) 0 some (ap (λ (xs : List ℕ). get_or xs 0 0) is)

actor_once : (a b : Actor) → core_of a < CORES_MAX → core_of b < CORES_MAX → spelled_actor a ≡ spelled_actor b → a ≡ b
actor_once (Core c) (Core d) small other is = ap Core (decimal_injective c d (omega arith) (omega arith) is)
actor_once (Core c) (Buffer d) small other is = absurd (not_w c d small is)
actor_once (Buffer c) (Core d) small other is = absurd (not_w d c other (sym is))
actor_once (Buffer c) (Buffer d) small other is =
    ap Buffer (decimal_injective c d (omega arith) (omega arith) (ap (drop 1) is))

turn_once : (t u : Turn) → is_turn t ≡ true → is_turn u ≡ true → spelled_turn t ≡ spelled_turn u → t ≡ u
turn_once t u fits other is =
    let parts = first_cut 42 (spelled_actor t.actor) (decimal t.count) (spelled_actor u.actor) (decimal u.count) is
    (lacks_at 42 (spelled_actor t.actor) (actor_lacks 42 t.actor (omega arith) (is_turn_core t fits)))
    (lacks_at 42 (spelled_actor u.actor) (actor_lacks 42 u.actor (omega arith) (is_turn_core u other))) in
    let actor = actor_once t.actor u.actor (is_turn_core t fits) (is_turn_core u other) parts.0 in
    let count = decimal_injective t.count u.count (omega (arith, is_turn_count t fits))
    (omega (arith, is_turn_count u other)) parts.1 in
    λ i. record { actor = actor i; count = count i }

plain : (t : Turn) → is_turn t ≡ true → (i : ℕ) → i < length (spelled_turn t) → get_or (spelled_turn t) i 0 ≢ 44
plain t fits = lacks_at 44 (spelled_turn t) (turn_lacks 44 t (omega arith) (omega arith) fits)

all_once : (ts us : List Turn) (t u : Turn) → is_turn t ≡ true → are_turns ts ≡ true → is_turn u ≡ true →
    are_turns us ≡ true → spelled_turn t ++ spelled_more ts ≡ spelled_turn u ++ spelled_more us →
    t ∷ ts ≡ u ∷ us
all_once [] [] t u fits fit other fit' is =
    let same = turn_once t u fits other (sym (append-nil (spelled_turn t)) ∙ is ∙ append-nil (spelled_turn u)) in
    ap (λ (v : Turn). v ∷ []) same
all_once [] (v ∷ vs) t u fits fit other fit' is =
    absurd (no_cut 44 (spelled_turn t) (spelled_turn u) (spelled_turn v ++ spelled_more vs) (plain t fits)
    (sym (append-nil (spelled_turn t)) ∙ is))
all_once (w ∷ ws) [] t u fits fit other fit' is =
    absurd (no_cut 44 (spelled_turn u) (spelled_turn t) (spelled_turn w ++ spelled_more ws) (plain u other)
    (sym (append-nil (spelled_turn u)) ∙ sym is))
all_once (w ∷ ws) (v ∷ vs) t u fits fit other fit' is =
    let parts = first_cut 44 (spelled_turn t) (spelled_turn w ++ spelled_more ws) (spelled_turn u)
    (spelled_turn v ++ spelled_more vs) is (plain t fits) (plain u other) in
    let same = turn_once t u fits other parts.0 in
    let rest = all_once ws vs w v (and_left (is_turn w) (are_turns ws) fit) (and_right (is_turn w) (are_turns ws) fit)
    (and_left (is_turn v) (are_turns vs) fit') (and_right (is_turn v) (are_turns vs) fit') parts.1 in
    λ i. same i ∷ rest i

dash_is_none : (u : Turn) (us : List Turn) → is_turn u ≡ true → codes "-" ≢ spelled_turn u ++ spelled_more us
dash_is_none u us fits is =
    let some : 0 < length (spelled_turn u) =
    (let long = length-append (spelled_actor u.actor) (42 ∷ decimal u.count) in omega (arith, long)) in
    lacks_at 45 (spelled_turn u) (turn_lacks 45 u (omega arith) (omega arith) fits) 0 some
    (sym (get_or_append_left (spelled_turn u) (spelled_more us) 0 0 some)
    ∙ sym (ap (λ (xs : List ℕ). get_or xs 0 0) is))

pub spelled_once : SpelledOnce
unfolding spelled_turns
spelled_once [] [] fit fit' is = refl
spelled_once [] (u ∷ us) fit fit' is = absurd (dash_is_none u us (and_left (is_turn u) (are_turns us) fit') is)
spelled_once (t ∷ ts) [] fit fit' is = absurd (dash_is_none t ts (and_left (is_turn t) (are_turns ts) fit) (sym is))
spelled_once (t ∷ ts) (u ∷ us) fit fit' is =
    all_once ts us t u (and_left (is_turn t) (are_turns ts) fit) (and_right (is_turn t) (are_turns ts) fit)
    (and_left (is_turn u) (are_turns us) fit') (and_right (is_turn u) (are_turns us) fit') is
