-- A count of each core: what is read is spelled so, what is spelled is read again, and a fault names the part.
use Rattle.std.proofs.Common.{◌≡◌, ℕ, ◌^◌, ◌<◌, ◌≤◌, true, cond, nat_le, List, ◌++◌, length, Ok, Err, refl, sym, ap}
use Rattle.std.proofs.Common.{subst, ◌∙◌, arith}
use Rattle.std.specs.Prelude.{slice_index}
use Rattle.std.proofs.lemmas.Bool.Decides.{nat_tests}
use Rattle.rtr_types.specs.Turns.{count_up}
use Rattle.log_codec.specs.CoreCounts.{AreCounts, CountStands, count_at, counts_at, counts_text}
use Rattle.log_codec.specs.Laws.{IsBytes}
use Rattle.log_codec.specs.Reading.{number_at}
use Rattle.log_codec.specs.Spelling.{number}
use Rattle.log_codec.specs.Turns.{read_in_turn, spelled_in_turn, alike}
use Rattle.log_codec.proofs.ReadingSteps.{bind_ok, guard_ok, Takes}
use Rattle.log_codec.proofs.FieldLaws.{number_again, number_takes}
use Rattle.log_codec.proofs.InTurn.{turns_take, turns_again}
use Rattle.log_codec.proofs.PartNames.{Names, bind-names, guard-names, number-names, turns-name}

count_takes : (part : ℕ) (totals : List ℕ) (core : ℕ) (bytes : List ℕ) (n : ℕ) (rest : List ℕ) → IsBytes bytes →
    count_at part totals core bytes ≡ Ok (n, rest) → Takes bytes (number n) rest × CountStands totals core n
unfolding count_at
count_takes part totals core bytes n rest are e =
    let p = bind_ok (number_at part bytes) (λ m. cond (nat_le m.0 (slice_index totals core)) (Ok m) (Err part))
    (n, rest) e in
    let g = guard_ok (nat_le p.0.0 (slice_index totals core)) part p.0 (n, rest) p.2 in
    let t = number_takes part bytes p.0.0 p.0.1 are p.1 in
    let le : p.0.0 ≤ slice_index totals core = let k = g.0 in grind (arith, nat_tests) in
    subst (λ (y : ℕ × List ℕ). Takes bytes (number y.0) y.1 × CountStands totals core y.0) g.1 (t.0, le)

count_again : (part : ℕ) (totals : List ℕ) (core n : ℕ) (rest : List ℕ) → slice_index totals core < 2 ^ 32 →
    CountStands totals core n → count_at part totals core (number n ++ rest) ≡ Ok (n, rest)
unfolding count_at
count_again part totals core n rest small le =
    let test : nat_le n (slice_index totals core) ≡ true = grind (arith, nat_tests) in
    rw (number_again part n rest (omega arith), test) refl

pub counts_take : (part : ℕ) (totals bytes counts rest : List ℕ) → IsBytes bytes →
    counts_at part totals bytes ≡ Ok (counts, rest) → Takes bytes (counts_text counts) rest × AreCounts totals counts
counts_take part totals bytes counts rest are e =
    let t = turns_take (count_at part totals) count_up (alike number) (CountStands totals)
    (λ c b n r. count_takes part totals c b n r) (length totals) 0 bytes counts rest are e in
    (t.0, record { each_core = t.1; most = t.2 })

pub counts_again : (part : ℕ) (totals counts rest : List ℕ) → ((c : ℕ) → slice_index totals c < 2 ^ 32) →
    AreCounts totals counts → counts_at part totals (counts_text counts ++ rest) ≡ Ok (counts, rest)
counts_again part totals counts rest small h =
    ap (λ (n : ℕ). read_in_turn (count_at part totals) count_up n 0
    (spelled_in_turn (alike number) count_up 0 counts ++ rest))
    (sym h.each_core)
    ∙ turns_again (count_at part totals) count_up (alike number) (CountStands totals)
    (λ c n r stands. count_again part totals c n r (small c) stands) 0 counts rest h.most

count-names : (part : ℕ) (totals : List ℕ) (core : ℕ) (bytes : List ℕ) → Names part (count_at part totals core bytes)
unfolding count_at
count-names part totals core bytes =
    bind-names part (number_at part bytes) _ (number-names part bytes)
    (λ n. guard-names part (nat_le n.0 (slice_index totals core)) n)

pub counts-name : (part : ℕ) (totals bytes : List ℕ) → Names part (counts_at part totals bytes)
counts-name part totals bytes =
    turns-name part (count_at part totals) count_up (λ c b. count-names part totals c b) (length totals) 0 bytes
