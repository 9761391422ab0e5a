-- The fifth part: what is read is spelled so, and what is spelled is read again.
use Rattle.std.proofs.Common.{◌≡◌, ℕ, ◌+◌, ◌-◌, ◌^◌, ◌<◌, ◌≤◌, true, cond, ◌&&◌, nat_lt, nat_le, List, [], ◌∷◌, ◌++◌}
use Rattle.std.proofs.Common.{length, get_or, Ok, Err, refl, sym, ap}
use Rattle.std.proofs.Common.{subst, ◌∙◌, append_assoc, arith}
use Rattle.std.specs.Prelude.{slice_index}
use Rattle.std.proofs.lemmas.Bool.{and_parts}
use Rattle.std.proofs.lemmas.Bool.Decides.{nat_tests}
use Rattle.rtr_types.specs.Turns.{StandInTurn, count_up}
use Rattle.log_codec.specs.Faults.{◌>>=◌}
use Rattle.log_codec.specs.Laws.{IsBytes}
use Rattle.log_codec.specs.Reading.{number_at}
use Rattle.log_codec.specs.Spelling.{number}
use Rattle.log_codec.specs.Turns.{read_in_turn, spelled_in_turn, alike}
use Rattle.log_codec.proofs.ReadingSteps.{bind_ok, guard_ok, Takes, Takes-then}
use Rattle.log_codec.proofs.FieldLaws.{number_again, number_takes}
use Rattle.log_codec.proofs.InTurn.{turns_take, turns_again}
use Rattle.log_codec.proofs.PartNames.{Names, bind-names, guard-names, number-names, turns-name}
use Rattle.tso_codec.specs.declared.recording.TheConstants.{VALUES}
use Rattle.tso_codec.specs.Reading.{value_at, values_at, values_of_at, all_values_at}
use Rattle.tso_codec.specs.Spelling.{value_text, values_text, all_values_text}
use Rattle.tso_codec.specs.Validity.{ValueStands, AreValues, AreValuesOf, count_of}

-- ---- a logged load

value_takes : (total last : ℕ) (bytes : List ℕ) (v : ℕ × ℕ) (rest : List ℕ) → IsBytes bytes →
    value_at total last bytes ≡ Ok (v, rest) →
    Takes bytes (value_text last v) rest × ValueStands total last v
unfolding value_at
value_takes total last bytes v rest are e =
    let a = bind_ok (number_at VALUES bytes)
    (λ rise. number_at VALUES rise.1 >>= λ word. cond (nat_lt 0 rise.0 && nat_le (last + rise.0) total)
    (Ok ((last + rise.0, word.0), word.1)) (Err VALUES))
    (v, rest) e in
    let b = bind_ok (number_at VALUES a.0.1)
    (λ word. cond (nat_lt 0 a.0.0 && nat_le (last + a.0.0) total) (Ok ((last + a.0.0, word.0), word.1)) (Err VALUES))
    (v, rest) a.2 in
    let g = guard_ok (nat_lt 0 a.0.0 && nat_le (last + a.0.0) total) VALUES ((last + a.0.0, b.0.0), b.0.1) (v, rest) b.2
    in
    let t = and_parts (nat_lt 0 a.0.0) (nat_le (last + a.0.0) total) g.0 in
    let rises : 0 < a.0.0 = let k = t.0 in grind (arith, nat_tests) in
    let most : last + a.0.0 ≤ total = let k = t.1 in grind (arith, nat_tests) in
    let ta = number_takes VALUES bytes a.0.0 a.0.1 are a.1 in
    let tb = number_takes VALUES a.0.1 b.0.0 b.0.1 ta.0.rest_fits b.1 in
    let both = Takes-then bytes (number a.0.0) a.0.1 (number b.0.0) b.0.1 ta.0 tb.0 in
    let back : a.0.0 ≡ (last + a.0.0) - last = omega arith in
    let named : Takes bytes (value_text last (last + a.0.0, b.0.0)) b.0.1 =
    subst (λ (n : ℕ). Takes bytes (number n ++ number b.0.0) b.0.1) back both in
    let stands : ValueStands total last (last + a.0.0, b.0.0) =
    record { rises = omega arith; most = most; word = tb.1 } in
    subst (λ (y : (ℕ × ℕ) × List ℕ). Takes bytes (value_text last y.0) y.1 × ValueStands total last y.0) g.1
    (named, stands)

value_again : (total last : ℕ) (v : ℕ × ℕ) (rest : List ℕ) → total < 2 ^ 32 → ValueStands total last v →
    value_at total last (value_text last v ++ rest) ≡ Ok (v, rest)
unfolding value_at
value_again total last v rest small h =
    let up = h.rises in
    let le = h.most in
    let back : last + (v.0 - last) ≡ v.0 = omega arith in
    let one : nat_lt 0 (v.0 - last) ≡ true = let k : 0 < v.0 - last = omega arith in grind (arith, nat_tests) in
    let two : nat_le (last + (v.0 - last)) total ≡ true = let k : last + (v.0 - last) ≤ total = omega arith in
    grind (arith, nat_tests) in
    ap (value_at total last) (append_assoc (number (v.0 - last)) (number v.1) rest)
    ∙ rw (
      number_again VALUES (v.0 - last) (number v.1 ++ rest) (omega arith),
      number_again VALUES v.1 rest h.word,
      one,
      two,
      back,
    ) refl

-- ---- the logged loads of a core

-- there are no more of them than the core's total says
pub few_values : (total last : ℕ) (values : List (ℕ × ℕ)) → StandInTurn (ValueStands total) count_of last values →
    last ≤ total → length values + last ≤ total
few_values total last [] h le = omega arith
few_values total last (v ∷ values) h le =
    let up = h.0.rises in let most = h.0.most in let rest = few_values total v.0 values h.1 most in omega arith

values_take : (total : ℕ) (bytes : List ℕ) (values : List (ℕ × ℕ)) (rest : List ℕ) → IsBytes bytes →
    values_at total bytes ≡ Ok (values, rest) →
    Takes bytes (values_text values) rest × AreValues total values
unfolding values_at
values_take total bytes values rest are e =
    let n = bind_ok (number_at VALUES bytes) (λ count. read_in_turn (value_at total) count_of count.0 0 count.1)
    (values, rest) e in
    let t = number_takes VALUES bytes n.0.0 n.0.1 are n.1 in
    let items = turns_take (value_at total) count_of value_text (ValueStands total)
    (λ s b x d. value_takes total s b x d) n.0.0 0 n.0.1 values rest
    t.0.rest_fits n.2 in
    let both =
    Takes-then bytes (number n.0.0) n.0.1 (spelled_in_turn value_text count_of 0 values) rest t.0 items.0 in (
      subst (λ (k : ℕ). Takes bytes (number k ++ spelled_in_turn value_text count_of 0 values) rest) (sym items.1) both,
      items.2,
    )

values_again : (total : ℕ) (values : List (ℕ × ℕ)) (rest : List ℕ) → total < 2 ^ 32 → AreValues total values →
    values_at total (values_text values ++ rest) ≡ Ok (values, rest)
unfolding values_at
values_again total values rest small h =
    let few = few_values total 0 values h (omega arith) in
    let items = turns_again (value_at total) count_of value_text (ValueStands total)
    (λ s x d stands. value_again total s x d small stands) 0 values rest h in
    ap (values_at total) (append_assoc (number (length values)) (spelled_in_turn value_text count_of 0 values) rest)
    ∙ rw (number_again VALUES (length values) (spelled_in_turn value_text count_of 0 values ++ rest) (omega arith))
    items

-- ---- the logged loads of each core

pub all_values_take : (cores : ℕ) (totals bytes : List ℕ) (values : List (List (ℕ × ℕ))) (rest : List ℕ) →
    IsBytes bytes →
    all_values_at cores totals bytes ≡ Ok (values, rest) →
    Takes bytes (all_values_text values) rest × (length values ≡ cores) ×
    StandInTurn (AreValuesOf totals) count_up 0 values
all_values_take cores totals bytes values rest are e =
    turns_take (values_of_at totals) count_up (alike values_text) (AreValuesOf totals)
    (λ c b x d. values_take (slice_index totals c) b x d) cores 0 bytes values
    rest are e

pub all_values_again : (cores : ℕ) (totals : List ℕ) (values : List (List (ℕ × ℕ))) (rest : List ℕ) →
    ((c : ℕ) → slice_index totals c < 2 ^ 32) →
    length values ≡ cores → StandInTurn (AreValuesOf totals) count_up 0 values →
    all_values_at cores totals (all_values_text values ++ rest) ≡ Ok (values, rest)
all_values_again cores totals values rest small each h =
    ap (λ (n : ℕ). all_values_at n totals (all_values_text values ++ rest)) (sym each)
    ∙ turns_again (values_of_at totals) count_up (alike values_text) (AreValuesOf totals)
    (λ c x d stands. values_again (slice_index totals c) x d (small c) stands) 0 values rest h

-- ---- the fifth part's reader names that part alone

value-names : (total last : ℕ) (bytes : List ℕ) → Names VALUES (value_at total last bytes)
unfolding value_at
value-names total last bytes =
    bind-names VALUES (number_at VALUES bytes) _ (number-names VALUES bytes) (λ rise.
    bind-names VALUES (number_at VALUES rise.1) _ (number-names VALUES rise.1) (λ word.
    guard-names VALUES (nat_lt 0 rise.0 && nat_le (last + rise.0) total) ((last + rise.0, word.0), word.1)))

values-name : (total : ℕ) (bytes : List ℕ) → Names VALUES (values_at total bytes)
unfolding values_at
values-name total bytes =
    bind-names VALUES (number_at VALUES bytes) _ (number-names VALUES bytes)
    (λ count. turns-name VALUES (value_at total) count_of (λ s b. value-names total s b) count.0 0 count.1)

pub all-values-name : (cores : ℕ) (totals bytes : List ℕ) → Names VALUES (all_values_at cores totals bytes)
all-values-name cores totals bytes =
    turns-name VALUES (values_of_at totals) count_up (λ c b. values-name (slice_index totals c) b) cores 0 bytes
