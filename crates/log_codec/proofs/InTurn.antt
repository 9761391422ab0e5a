-- Items in turn, as loops read and write them, and as the laws take them.
use Rattle.std.proofs.Common.{◌≡◌, ℕ, zero, suc, ◌+◌, ◌-◌, ◌<◌, ◌≤◌, List, [], ◌∷◌, ◌++◌, length, get_or, drop, Result}
use Rattle.std.proofs.Common.{Ok, Err, refl, sym, ap}
use Rattle.std.proofs.Common.{subst, ◌∙◌, append_assoc, arith}
use Rattle.std.proofs.lemmas.List.{append-nil, drop_more, drop_all}
use Rattle.log_codec.specs.declared.codec_fault.CodecFault.{CodecFault}
use Rattle.log_codec.specs.declared.codec_fault.CodecFault.TheVariants as faults
use Rattle.log_codec.specs.Faults.{◌>>=◌, Fails}
use Rattle.rtr_types.specs.Turns.{StandInTurn}
use Rattle.log_codec.specs.Turns.{read_in_turn, spelled_in_turn}
use Rattle.log_codec.specs.Laws.{IsBytes}
use Rattle.log_codec.proofs.ReadingSteps.{bind_ok, ok_is, Takes, Takes-then, Takes-none}

-- ---- a loop that reads

-- what was read before, and what is still read
abbrev pub with_front : {X : Type 0} → List X → Result (List X × List ℕ) ℕ → Result (List X × List ℕ) ℕ
with_front front read = read >>= λ x. Ok (front ++ x.0, x.1)

regroup : {X : Type 0} (front : List X) (n : X) (read : Result (List X × List ℕ) ℕ) →
    with_front front (read >>= λ x. Ok (n ∷ x.0, x.1))
    ≡ with_front (front ++ n ∷ []) read
regroup {X} front n (Ok x) = ap (λ (ns : List X). Ok (ns, x.1)) (simp append_assoc)
regroup front n (Err p) = refl

whole : {X : Type 0} (read : Result (List X × List ℕ) ℕ) → with_front [] read ≡ read
whole (Ok x) = refl
whole (Err p) = refl

pub begins : {S X : Type 0} (item : S → List ℕ → Result (X × List ℕ) ℕ) (next : S → X → S) (count : ℕ) (s : S)
    (bytes : List ℕ) →
    with_front [] (read_in_turn item next (count - 0) s bytes) ≡ read_in_turn item next count s bytes
begins item next count s bytes =
    let all : count - 0 ≡ count = omega arith in
    rw all (whole (read_in_turn item next count s bytes))

pub goes_on : {S X : Type 0} (item : S → List ℕ → Result (X × List ℕ) ℕ) (next : S → X → S) (front : List X)
    (count i : ℕ) (s : S) (bytes : List ℕ) (n : X)
    (after : List ℕ) (total : Result (List X × List ℕ) ℕ)
    → i < count → item s bytes ≡ Ok (n, after) → with_front front (read_in_turn item next (count - i) s bytes) ≡ total
    → with_front (front ++ n ∷ []) (read_in_turn item next (count - (i + 1)) (next s n) after) ≡ total
unfolding read_in_turn
goes_on item next front count i s bytes n after total lt h so_far =
    let k : count - i ≡ suc (count - (i + 1)) = omega arith in
    let one : with_front front (read_in_turn item next (count - i) s bytes)
    ≡ with_front (front ++ n ∷ []) (read_in_turn item next (count - (i + 1)) (next s n) after) =
    rw (k, h) (regroup front n (read_in_turn item next (count - (i + 1)) (next s n) after)) in
    sym one ∙ so_far

pub ends : {S X : Type 0} (item : S → List ℕ → Result (X × List ℕ) ℕ) (next : S → X → S) (e : CodecFault)
    (front : List X) (count i : ℕ) (s : S)
    (bytes : List ℕ) (total : Result (List X × List ℕ) ℕ)
    → i < count → Fails e (item s bytes) → with_front front (read_in_turn item next (count - i) s bytes) ≡ total →
    Fails e total
unfolding read_in_turn
ends item next faults.OutOfMemory front count i s bytes total lt h so_far = tt
ends item next (faults.Bad p) front count i s bytes total lt h so_far =
    let k : count - i ≡ suc (count - (i + 1)) = omega arith in
    let one : with_front front (read_in_turn item next (count - i) s bytes) ≡ Err p = rw (k, h) refl in
    sym so_far ∙ one

pub is_done : {S X : Type 0} (item : S → List ℕ → Result (X × List ℕ) ℕ) (next : S → X → S) (front : List X)
    (count i : ℕ) (s : S) (bytes : List ℕ)
    (total : Result (List X × List ℕ) ℕ)
    → count ≤ i → with_front front (read_in_turn item next (count - i) s bytes) ≡ total → total ≡ Ok (front, bytes)
unfolding read_in_turn
is_done {S} {X} item next front count i s bytes total le so_far =
    let k : count - i ≡ 0 = omega arith in
    let one : with_front front (read_in_turn item next (count - i) s bytes) ≡ Ok (front, bytes) =
    rw k (ap (λ (ns : List X). Ok (ns, bytes)) (append-nil front)) in
    sym so_far ∙ one

-- of so many items that are read in turn from these bytes, the front is read, and the others are read from the rest on
pub record HasRead (S X : Type 0) (item : S → List ℕ → Result (X × List ℕ) ℕ) (next : S → X → S) (count : ℕ) (from : S)
    (bytes : List ℕ) (i : ℕ) (s : S) (front : List X) (rest : List ℕ) : Type 0 where
  pub others : with_front front (read_in_turn item next (count - i) s rest) ≡ read_in_turn item next count from bytes

pub reads_none : {S X : Type 0} (item : S → List ℕ → Result (X × List ℕ) ℕ) (next : S → X → S) (count : ℕ) (from : S)
    (bytes : List ℕ) → HasRead S X item next count from bytes 0 from [] bytes
reads_none item next count from bytes = record { others = begins item next count from bytes }

pub reads_one : {S X : Type 0} {item : S → List ℕ → Result (X × List ℕ) ℕ} {next : S → X → S} {count : ℕ} {from : S}
    {bytes : List ℕ} {i : ℕ} {s : S} {front : List X} {rest : List ℕ} {x : X} {after : List ℕ}
    → HasRead S X item next count from bytes i s front rest → i < count → item s rest ≡ Ok (x, after)
    → HasRead S X item next count from bytes (i + 1) (next s x) (front ++ x ∷ []) after
reads_one {S} {X} {item} {next} {count} {from} {bytes} {i} {s} {front} {rest} {x} {after} read lt one = record {
  others = goes_on item next front count i s rest x after (read_in_turn item next count from bytes) lt one read.others;
}

pub reads_no_more : {S X : Type 0} {item : S → List ℕ → Result (X × List ℕ) ℕ} {next : S → X → S} {count : ℕ}
    {from : S} {bytes : List ℕ} {i : ℕ} {s : S} {front : List X} {rest : List ℕ} (e : CodecFault)
    → HasRead S X item next count from bytes i s front rest → i < count → Fails e (item s rest)
    → Fails e (read_in_turn item next count from bytes)
reads_no_more {S} {X} {item} {next} {count} {from} {bytes} {i} {s} {front} {rest} e read lt fails =
    ends item next e front count i s rest (read_in_turn item next count from bytes) lt fails read.others

pub reads_all : {S X : Type 0} {item : S → List ℕ → Result (X × List ℕ) ℕ} {next : S → X → S} {count : ℕ} {from : S}
    {bytes : List ℕ} {i : ℕ} {s : S} {front : List X} {rest : List ℕ}
    → HasRead S X item next count from bytes i s front rest → count ≤ i
    → read_in_turn item next count from bytes ≡ Ok (front, rest)
reads_all {S} {X} {item} {next} {count} {from} {bytes} {i} {s} {front} {rest} read le =
    is_done item next front count i s rest (read_in_turn item next count from bytes) le read.others

pub ruleset reading = (reads_none, reads_one, reads_no_more, reads_all)

-- ---- a loop that writes

pub puts_on : {S X : Type 0} (text : S → X → List ℕ) (next : S → X → S) (out new whole : List ℕ) (s : S) (xs : List X)
    (i : ℕ) (d : X)
    → i < length xs → new ≡ out ++ text s (get_or xs i d) → out ++ spelled_in_turn text next s (drop i xs) ≡ whole →
    new ++ spelled_in_turn text next (next s (get_or xs i d)) (drop (i + 1) xs) ≡ whole
unfolding spelled_in_turn
puts_on text next out new whole s xs i d lt is so_far =
    let split = drop_more xs i d lt in
    let x = get_or xs i d in
    let one : out ++ spelled_in_turn text next s (drop i xs)
    ≡ out ++ (text s x ++ spelled_in_turn text next (next s x) (drop (i + 1) xs)) = rw split refl in
    rw is (append_assoc out (text s x) (spelled_in_turn text next (next s x) (drop (i + 1) xs)) ∙ sym one ∙ so_far)

pub puts_done : {S X : Type 0} (text : S → X → List ℕ) (next : S → X → S) (out whole : List ℕ) (s : S) (xs : List X)
    (i : ℕ)
    → length xs ≤ i → out ++ spelled_in_turn text next s (drop i xs) ≡ whole → out ≡ whole
unfolding spelled_in_turn
puts_done text next out whole s xs i le so_far =
    let none = drop_all i xs le in
    let one : out ++ spelled_in_turn text next s (drop i xs) ≡ out = rw none (append-nil out) in
    sym one ∙ so_far

-- ---- the laws

pub turns_take : {S X : Type 0} (item : S → List ℕ → Result (X × List ℕ) ℕ) (next : S → X → S) (text : S → X → List ℕ)
    (stands : S → X → Type 0)
    → ((s : S) (bytes : List ℕ) (x : X) (rest : List ℕ) → IsBytes bytes → item s bytes ≡ Ok (x, rest) →
    Takes bytes (text s x) rest × stands s x)
    → (n : ℕ) (s : S) (bytes : List ℕ) (xs : List X) (rest : List ℕ) → IsBytes bytes →
    read_in_turn item next n s bytes ≡ Ok (xs, rest)
    → Takes bytes (spelled_in_turn text next s xs) rest × (length xs ≡ n) × StandInTurn stands next s xs
unfolding read_in_turn spelled_in_turn
turns_take {S} {X} item next text stands one zero s bytes xs rest fits e =
    subst (λ (y : List X × List ℕ). Takes bytes (spelled_in_turn text next s y.0) y.1 × (length y.0 ≡ 0) ×
    StandInTurn stands next s y.0)
    (ok_is ([], bytes) (xs, rest) e) (Takes-none bytes fits, refl, tt)
turns_take {S} {X} item next text stands one (suc n) s bytes xs rest fits e =
    let a = bind_ok (item s bytes)
    (λ first. read_in_turn item next n (next s first.0) first.1 >>= λ others. Ok (first.0 ∷ others.0, others.1))
    (xs, rest) e in
    let b = bind_ok (read_in_turn item next n (next s a.0.0) a.0.1) (λ others. Ok (a.0.0 ∷ others.0, others.1))
    (xs, rest) a.2 in
    let first = one s bytes a.0.0 a.0.1 fits a.1 in
    let others = turns_take item next text stands one n (next s a.0.0) a.0.1 b.0.0 b.0.1 first.0.rest_fits b.1 in
    let both = Takes-then bytes (text s a.0.0) a.0.1 (spelled_in_turn text next (next s a.0.0) b.0.0) b.0.1 first.0
    others.0 in
    subst (λ (y : List X × List ℕ). Takes bytes (spelled_in_turn text next s y.0) y.1 × (length y.0 ≡ suc n) ×
    StandInTurn stands next s y.0)
    (ok_is (a.0.0 ∷ b.0.0, b.0.1) (xs, rest) b.2) (both, ap suc others.1, (first.1, others.2))

pub turns_again : {S X : Type 0} (item : S → List ℕ → Result (X × List ℕ) ℕ) (next : S → X → S) (text : S → X → List ℕ)
    (stands : S → X → Type 0)
    → ((s : S) (x : X) (rest : List ℕ) → stands s x → item s (text s x ++ rest) ≡ Ok (x, rest))
    → (s : S) (xs : List X) (rest : List ℕ) → StandInTurn stands next s xs →
    read_in_turn item next (length xs) s (spelled_in_turn text next s xs ++ rest)
    ≡ Ok (xs, rest)
unfolding read_in_turn spelled_in_turn
turns_again item next text stands one s [] rest h = refl
turns_again item next text stands one s (x ∷ xs) rest h =
    let others = turns_again item next text stands one (next s x) xs rest h.1 in
    let first = one s x (spelled_in_turn text next (next s x) xs ++ rest) h.0 in
    ap (read_in_turn item next (suc (length xs)) s)
    (append_assoc (text s x) (spelled_in_turn text next (next s x) xs) rest) ∙ rw (first, others) refl
