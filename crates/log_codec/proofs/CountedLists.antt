-- Lists with how many items there are before them, and a list for each pair.
use Rattle.std.proofs.Common.{◌≡◌, ℕ, ◌^◌, ◌<◌, ◌≤◌, List, ◌++◌, length, Result, Ok, sym, ap, subst, ◌∙◌}
use Rattle.std.proofs.Common.{append_assoc}
use Rattle.std.specs.Prelude.{All}
use Rattle.rtr_types.specs.Pairs.{pair_count}
use Rattle.rtr_types.specs.Turns.{StandInTurn, count_up}
use Rattle.race_log.specs.Validity.{bound_at}
use Rattle.race_log.proofs.Parts.{bound-small}
use Rattle.log_codec.specs.Laws.{IsBytes}
use Rattle.log_codec.specs.Reading.{counted_at, number_at}
use Rattle.log_codec.specs.Spelling.{number}
use Rattle.log_codec.specs.Turns.{alike, read_in_turn, spelled_in_turn}
use Rattle.log_codec.proofs.FieldLaws.{number_again, number_takes}
use Rattle.log_codec.proofs.InTurn.{turns_again, turns_take}
use Rattle.log_codec.proofs.ReadingSteps.{Takes, Takes-then, bind_ok}

-- ---- how many, and these

abbrev counted_text : {S X : Type 0} → (S → X → List ℕ) → (S → X → S) → S → List X → List ℕ
counted_text text next s xs = number (length xs) ++ spelled_in_turn text next s xs

pub counted_takes : {S X : Type 0} (item : S → List ℕ → Result (X × List ℕ) ℕ) (next : S → X → S)
    (text : S → X → List ℕ) (stands : S → X → Type 0)
    → ((s : S) (bytes : List ℕ) (x : X) (rest : List ℕ) → IsBytes bytes → item s bytes ≡ Ok (x, rest) →
    Takes bytes (text s x) rest × stands s x)
    → (part : ℕ) (s : S) (bytes : List ℕ) (xs : List X) (rest : List ℕ) → IsBytes bytes →
    counted_at item next part s bytes ≡ Ok (xs, rest)
    → Takes bytes (counted_text text next s xs) rest × StandInTurn stands next s xs
counted_takes item next text stands one part s bytes xs rest are e =
    let n = bind_ok (number_at part bytes) (λ count. read_in_turn item next count.0 s count.1) (xs, rest) e in
    let t = number_takes part bytes n.0.0 n.0.1 are n.1 in
    let items = turns_take item next text stands one n.0.0 s n.0.1 xs rest t.0.rest_fits n.2 in
    let both = Takes-then bytes (number n.0.0) n.0.1 (spelled_in_turn text next s xs) rest t.0 items.0 in (
      subst (λ (k : ℕ). Takes bytes (number k ++ spelled_in_turn text next s xs) rest) (sym items.1) both,
      items.2,
    )

pub counted_again : {S X : Type 0} (item : S → List ℕ → Result (X × List ℕ) ℕ) (next : S → X → S)
    (text : S → X → List ℕ) (stands : S → X → Type 0)
    → ((s : S) (x : X) (rest : List ℕ) → stands s x → item s (text s x ++ rest) ≡ Ok (x, rest))
    → (part : ℕ) (s : S) (xs : List X) (rest : List ℕ) → length xs < 2 ^ 32 → StandInTurn stands next s xs →
    counted_at item next part s (counted_text text next s xs ++ rest)
    ≡ Ok (xs, rest)
counted_again item next text stands one part s xs rest few h =
    let items = turns_again item next text stands one s xs rest h in
    ap (counted_at item next part s) (append_assoc (number (length xs)) (spelled_in_turn text next s xs) rest)
    ∙ rw (number_again part (length xs) (spelled_in_turn text next s xs ++ rest) few) items

-- ---- a list for each pair, at most what the totals allow

pub pair_by_pair_again : {X : Type 0} (item : ℕ × ℕ → List ℕ → Result (X × List ℕ) ℕ) (text : X → List ℕ)
    (stands : ℕ × ℕ → X → Type 0)
    → ((most : ℕ × ℕ) (x : X) (rest : List ℕ) → most.0 < 2 ^ 32 → most.1 < 2 ^ 32 → stands most x →
    item most (text x ++ rest) ≡ Ok (x, rest))
    → (limit : ℕ) (totals : List ℕ) (xs : List X) (rest : List ℕ) → limit < 2 ^ 32 → All (λ t. t ≤ limit) totals →
    length xs ≡ pair_count (length totals) →
    StandInTurn (λ place. stands (bound_at totals place)) count_up 0 xs →
    read_in_turn (λ place. item (bound_at totals place)) count_up (pair_count (length totals)) 0
    (spelled_in_turn (alike text) count_up 0 xs ++ rest)
    ≡ Ok (xs, rest)
pair_by_pair_again item text stands one limit totals xs rest small most long h =
    let again = turns_again (λ place. item (bound_at totals place)) count_up (alike text)
    (λ place. stands (bound_at totals place))
    (λ place x r h. let b = bound-small limit totals place small most in
    one (bound_at totals place) x r b.source b.target h) 0 xs rest h in
    subst (λ (n : ℕ). read_in_turn (λ place. item (bound_at totals place)) count_up n 0
    (spelled_in_turn (alike text) count_up 0 xs ++ rest)
    ≡ Ok (xs, rest)) long again
