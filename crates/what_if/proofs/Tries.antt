-- Cores that go on if they can: one more, and rounds of them.
use Rattle.std.proofs.Common.{◌≡◌, ℕ, zero, suc, ◌+◌, ◌-◌, ◌<◌, ◌≤◌}
use Rattle.std.proofs.Common.{Bool, true, false, List, [], ◌∷◌, ◌++◌, length, drop}
use Rattle.std.proofs.Common.{◌⊎◌, inl, inr, cond, get_or, refl, sym}
use Rattle.std.proofs.Common.{ap, subst, ◌∙◌, add-one, append_assoc, append-nil, arith}
use Rattle.std.proofs.Common.{eq-eqb, true≢false}
use Rattle.std.proofs.lemmas.Bool.{cases_Bool}
use Rattle.std.proofs.lemmas.Bool.Decides.{nat_tests}
use Rattle.rtr_types.proofs.Ranges.{range_more}
use Rattle.replay_core.specs.Answers.{UnderWay}
use Rattle.what_if.specs.Going.{HasTried}
use Rattle.std.proofs.Math.Seq.{drop-cons}
use Rattle.std.proofs.lemmas.List.{drop_all}
use Rattle.std.specs.Prelude.{nat_eq, not, ◌&&◌, if◌then◌else◌}
use Rattle.std.specs.List.{range_with_len}
use Rattle.rv_core.specs.declared.outcome.Outcome.{Outcome}
use Rattle.rv_core.specs.Steps.{is_done}
use Rattle.replay_core.specs.Plans.{Plan}
use Rattle.replay_core.specs.Orders.{counts_in, is_ready}
use Rattle.replay_core.specs.Play.{need_at, place}
use Rattle.what_if.specs.Others.{goes_on, left_by, less, round, rounds, tried}

-- ---- one core

-- a core that isn't ready stays
pub not_ready : (p : Plan) (s : Outcome) (c : ℕ) → is_ready p (counts_in s) c ≡ false → goes_on p s c ≡ false
not_ready p s c isnt = ap (λ (b : Bool). b && not (is_done (need_at p s c))) isnt

-- nor does one that is done
pub done_stays : (p : Plan) (s : Outcome) (c : ℕ) → is_ready p (counts_in s) c ≡ true →
    is_done (need_at p s c) ≡ true → goes_on p s c ≡ false
done_stays p s c ready done =
    ap (λ (b : Bool). b && not (is_done (need_at p s c))) ready ∙ ap (λ (b : Bool). not b) done

pub going_goes : (p : Plan) (s : Outcome) (c : ℕ) → is_ready p (counts_in s) c ≡ true →
    is_done (need_at p s c) ≡ false → goes_on p s c ≡ true
going_goes p s c ready going =
    ap (λ (b : Bool). b && not (is_done (need_at p s c))) ready ∙ ap (λ (b : Bool). not b) going

pub tried_stays : (p : Plan) (s : Outcome) (c : ℕ) → goes_on p s c ≡ false → tried p s c ≡ s
tried_stays p s c isnt = ap (λ (b : Bool). if b then place p s c else s) isnt

pub tried_goes : (p : Plan) (s : Outcome) (c : ℕ) → goes_on p s c ≡ true → tried p s c ≡ place p s c
tried_goes p s c goes = ap (λ (b : Bool). if b then place p s c else s) goes

-- ---- some cores, one after the other

pub left_more : (p : Plan) (s : Outcome) (places : List ℕ) (i : ℕ) → i < length places →
    left_by p s (drop i places) ≡ left_by p (tried p s (get_or places i 0)) (drop (i + 1) places)
unfolding left_by
left_more p s places i inside =
    ap (λ (l : List ℕ). left_by p s l)
    (drop-cons places i 0 inside ∙ ap (λ (k : ℕ). get_or places i 0 ∷ drop k places) (sym (add-one i)))

pub left_none : (p : Plan) (s : Outcome) (places : List ℕ) (i : ℕ) → length places ≤ i →
    left_by p s (drop i places) ≡ s
unfolding left_by
left_none p s places i past = ap (λ (l : List ℕ). left_by p s l) (drop_all i places past)

pub left_on : (p : Plan) (s : Outcome) (xs ys : List ℕ) → left_by p s (xs ++ ys) ≡ left_by p (left_by p s xs) ys
unfolding left_by
left_on p s [] ys = refl
left_on p s (c ∷ cs) ys = left_on p (tried p s c) cs ys

pub left_one : (p : Plan) (s : Outcome) (xs : List ℕ) (c : ℕ) →
    left_by p s (xs ++ c ∷ []) ≡ tried p (left_by p s xs) c
unfolding left_by
left_one p s xs c = left_on p s xs (c ∷ [])

pub left_start : (p : Plan) (s : Outcome) → left_by p s [] ≡ s
unfolding left_by
left_start p s = refl

-- ---- rounds

pub no_rounds : (p : Plan) (s : Outcome) (n : ℕ) → n ≡ 0 → rounds p s n ≡ s
unfolding rounds
no_rounds p s n none = ap (λ (k : ℕ). rounds p s k) none

pub round_more : (p : Plan) (s : Outcome) (n m : ℕ) → n ≡ suc m → rounds p s n ≡ rounds p (round p s) m
unfolding rounds
round_more p s n m is = ap (λ (k : ℕ). rounds p s k) is

-- rounds in which nothing changes
pub rounds_idle : (p : Plan) (s : Outcome) (n : ℕ) → round p s ≡ s → rounds p s n ≡ s
unfolding rounds
rounds_idle p s zero idle = refl
rounds_idle p s (suc n) idle = ap (λ (t : Outcome). rounds p t n) idle ∙ rounds_idle p s n idle

-- ---- replays

-- a core more of a list was tried
pub walked_on : (p : Plan) (s : Outcome) (u v : UnderWay) (places : List ℕ) (i : ℕ) (went : Bool) → u.plan ≡ p →
    i < length places → left_by p u.state (drop i places) ≡ left_by p s places →
    HasTried u (get_or places i 0) went v → left_by p v.state (drop (i + 1) places) ≡ left_by p s places
walked_on p s u v places i went same inside so_far one =
    ap (λ (t : Outcome). left_by p t (drop (i + 1) places))
    (one.state ∙ ap (λ (q : Plan). tried q u.state (get_or places i 0)) same)
    ∙ sym (left_more p u.state places i inside) ∙ so_far

pub walked : (p : Plan) (s : Outcome) (u : UnderWay) (places : List ℕ) (i : ℕ) → length places ≤ i →
    left_by p u.state (drop i places) ≡ left_by p s places → u.state ≡ left_by p s places
walked p s u places i past so_far = sym (left_none p u.state places i past) ∙ so_far

-- a core more of a round
pub round_on : (p : Plan) (s : Outcome) (u v : UnderWay) (core : ℕ) (went : Bool) → u.plan ≡ p →
    u.state ≡ left_by p s (range_with_len 0 core) → HasTried u core went v →
    v.state ≡ left_by p s (range_with_len 0 (core + 1))
round_on p s u v core went same so_far one =
    one.state ∙ ap (λ (q : Plan). tried q u.state core) same ∙ ap (λ (t : Outcome). tried p t core) so_far
    ∙ sym (left_one p s (range_with_len 0 core) core)
    ∙ ap (λ (l : List ℕ). left_by p s l) (sym (range_more core))

-- a core that can't go on changes nothing
pub stays_so : (u v : UnderWay) (core : ℕ) (went : Bool) → HasTried u core went v → went ≡ false → v.state ≡ u.state
stays_so u v core went one idle =
    one.state ∙ tried_stays u.plan u.state core (sym one.went_is ∙ idle)

-- ---- without a place

pub less_none : (c : ℕ) (places : List ℕ) (i : ℕ) → length places ≤ i → less c (drop i places) ≡ []
unfolding less
less_none c places i past = ap (λ (l : List ℕ). less c l) (drop_all i places past)

less_by : (c : ℕ) (places : List ℕ) (i : ℕ) → i < length places →
    less c (drop i places)
    ≡ (if nat_eq (get_or places i 0) c then drop (i + 1) places else
    get_or places i 0 ∷ less c (drop (i + 1) places))
unfolding less
less_by c places i inside =
    ap (λ (l : List ℕ). less c l)
    (drop-cons places i 0 inside ∙ ap (λ (k : ℕ). get_or places i 0 ∷ drop k places) (sym (add-one i)))

pub less_here : (c : ℕ) (places : List ℕ) (i : ℕ) → i < length places → nat_eq (get_or places i 0) c ≡ true →
    less c (drop i places) ≡ drop (i + 1) places
less_here c places i inside same =
    less_by c places i inside
    ∙ ap (λ (b : Bool). if b then drop (i + 1) places else get_or places i 0 ∷ less c (drop (i + 1) places)) same

pub less_else : (c : ℕ) (places : List ℕ) (i : ℕ) → i < length places → nat_eq (get_or places i 0) c ≡ false →
    less c (drop i places) ≡ get_or places i 0 ∷ less c (drop (i + 1) places)
less_else c places i inside other =
    less_by c places i inside
    ∙ ap (λ (b : Bool). if b then drop (i + 1) places else get_or places i 0 ∷ less c (drop (i + 1) places)) other

-- a place that is left out, or kept, of those so far
pub less_taken : (c : ℕ) (old places behind : List ℕ) (i : ℕ) → i < length behind → get_or behind i 0 ≡ c →
    places ++ less c (drop i behind) ≡ old ++ less c behind → places ++ drop (i + 1) behind ≡ old ++ less c behind
less_taken c old places behind i inside same so_far =
    ap (λ (l : List ℕ). places ++ l) (sym (less_here c behind i inside (eq-eqb (get_or behind i 0) c same))) ∙ so_far

pub differ_so : (x c : ℕ) → (x ≡ c → ⊥) → nat_eq x c ≡ false
differ_so x c differ = by (cases_Bool (nat_eq x c))
  where
    by : (nat_eq x c ≡ true) ⊎ (nat_eq x c ≡ false) → nat_eq x c ≡ false
    by (inl t) = absurd (differ (grind (arith, nat_tests)))
    by (inr f) = f

pub less_kept : (c : ℕ) (old places more behind : List ℕ) (i : ℕ) → i < length behind → (get_or behind i 0 ≡ c → ⊥) →
    more ≡ places ++ get_or behind i 0 ∷ [] → places ++ less c (drop i behind) ≡ old ++ less c behind →
    more ++ less c (drop (i + 1) behind) ≡ old ++ less c behind
less_kept c old places more behind i inside other is so_far =
    ap (λ (l : List ℕ). l ++ less c (drop (i + 1) behind)) is
    ∙ append_assoc places (get_or behind i 0 ∷ []) (less c (drop (i + 1) behind))
    ∙ ap (λ (l : List ℕ). places ++ l)
    (sym (less_else c behind i inside (differ_so (get_or behind i 0) c other))) ∙ so_far

pub rest_kept : (old places more behind all : List ℕ) (i : ℕ) → i < length behind →
    more ≡ places ++ get_or behind i 0 ∷ [] → places ++ drop i behind ≡ all → more ++ drop (i + 1) behind ≡ all
rest_kept old places more behind all i inside is so_far =
    ap (λ (l : List ℕ). l ++ drop (i + 1) behind) is
    ∙ append_assoc places (get_or behind i 0 ∷ []) (drop (i + 1) behind)
    ∙ ap (λ (l : List ℕ). places ++ l)
    (sym (drop-cons behind i 0 inside ∙ ap (λ (k : ℕ). get_or behind i 0 ∷ drop k behind) (sym (add-one i)))) ∙ so_far

pub less_end : (c : ℕ) (old places behind : List ℕ) (i : ℕ) (taken : Bool) → length behind ≤ i →
    (taken ≡ false → places ++ less c (drop i behind) ≡ old ++ less c behind) →
    (taken ≡ true → places ++ drop i behind ≡ old ++ less c behind) → places ≡ old ++ less c behind
less_end c old places behind i taken past before after = by (cases_Bool taken)
  where
    by : (taken ≡ true) ⊎ (taken ≡ false) → places ≡ old ++ less c behind
    by (inl t) =
        sym (ap (λ (l : List ℕ). places ++ l) (drop_all i behind past) ∙ append-nil places) ∙ after t
    by (inr f) =
        sym (ap (λ (l : List ℕ). places ++ l) (less_none c behind i past) ∙ append-nil places) ∙ before f
