-- Trials of vectors, one after the other.
use Rattle.std.proofs.Common.{◌≡◌, ℕ, zero, suc, ◌+◌, ◌<◌, ◌⊎◌, inl, inr, List, [], ◌∷◌, ◌++◌, length, take, drop}
use Rattle.std.proofs.Common.{get_or, cond, refl, sym, ap, subst}
use Rattle.std.proofs.Common.{◌∙◌, true, false}
use Rattle.std.proofs.Common.{append-nil, arith, nat_lt}
use Rattle.std.specs.Prelude.{Bool}
use Rattle.std.proofs.lemmas.Bool.Decides.{nat_tests}
use Rattle.std.proofs.lemmas.List.{drop_more, drop_all, take_more, length_push}
use Rattle.vector_reduce.specs.declared.pair_vector.PairVector.{PairVector}
use Rattle.vector_reduce.specs.declared.thinned.Shown.{Shown}
use Rattle.vector_reduce.specs.Arrivals.{Tries}
use Rattle.vector_reduce.specs.Kept.{beside, kept}
use Rattle.vector_reduce.specs.Showing.{IsLeastShown, no_shown}
use Rattle.vector_reduce.specs.Thinning.{EachNeeded, IsThinned, Thins}
use Rattle.vector_reduce.specs.Vectors.{no_vector, others_of, vector_at}
use Rattle.vector_reduce.proofs.KeptVectors.{kept_none, kept_push}
use Rattle.vector_reduce.proofs.ThinningAnswers.{never_both, shown_is_needed}

-- ---- which stay

-- what is left of the rest is left of all
abbrev pub SoFar : List PairVector → List Bool → Type 0
SoFar vs stays = (left : List PairVector) → Thins (kept vs stays) (drop (length stays) vs) left → IsThinned vs left

pub so_far_none : (vs : List PairVector) → SoFar vs []
so_far_none vs left t = subst (λ (l : List PairVector). Thins l vs left) (kept_none vs) t

pub so_far_more : (vs : List PairVector) (stays : List Bool) (s : Shown) (b : Bool) → length stays < length vs →
    SoFar vs stays →
    Tries (beside vs stays) (vector_at vs (length stays)) s → b ≡ nat_lt s.edge (vector_at vs (length stays)).vector.n →
    SoFar vs (stays ++ b ∷ [])
so_far_more vs stays s b lt before tries is left t =
    before left (subst (λ (l : List PairVector). Thins (kept vs stays) l left) (sym split) (by tries))
  where
    k : ℕ
    k = length stays

    v : PairVector
    v = vector_at vs k

    next : k + 1 ≡ suc k
    next = omega arith

    split : drop k vs ≡ v ∷ drop (suc k) vs
    split = drop_more vs k no_vector lt ∙ ap (λ (i : ℕ). v ∷ drop i vs) next

    rest : drop (length (stays ++ b ∷ [])) vs ≡ drop (suc k) vs
    rest = ap (λ (i : ℕ). drop i vs) (length_push stays b ∙ next)

    pushed : kept vs (stays ++ b ∷ []) ≡ kept vs stays ++ cond b (v ∷ []) []
    pushed = kept_push vs stays b no_vector lt

    further : Thins (kept vs stays ++ cond b (v ∷ []) []) (drop (suc k) vs) left
    further = subst (λ (l : List PairVector). Thins l (drop (suc k) vs) left) pushed
        (subst (λ (l : List PairVector). Thins (kept vs (stays ++ b ∷ [])) l left) rest t)

    by : Tries (beside vs stays) v s → Thins (kept vs stays) (v ∷ drop (suc k) vs) left
    by (inl least) =
        let within = least.shown.within in
        let yes : b ≡ true = is ∙ (let h : nat_lt s.edge v.vector.n ≡ true = grind (arith, nat_tests) in h) in
        inr (
          shown_is_needed (beside vs stays) v s least.shown,
          subst (λ (c : Bool). Thins (kept vs stays ++ cond c (v ∷ []) []) (drop (suc k) vs) left) yes further,
        )
    by (inr implied) =
        let past = implied.0 in
        let not : b ≡ false = is ∙ (let h : nat_lt s.edge v.vector.n ≡ false = grind (arith, nat_tests) in h) in
        inl (
          implied.1,
          subst (λ (l : List PairVector). Thins l (drop (suc k) vs) left) (append-nil (kept vs stays))
              (subst (λ (c : Bool). Thins (kept vs stays ++ cond c (v ∷ []) []) (drop (suc k) vs) left) not further),
        )

pub so_far_all : (vs : List PairVector) (stays : List Bool) → length stays ≡ length vs → SoFar vs stays →
    IsThinned vs (kept vs stays)
so_far_all vs stays all before =
    before (kept vs stays) (subst (λ (l : List PairVector). Thins (kept vs stays) l (kept vs stays))
    (sym (drop_all (length stays) vs (omega (arith, all)))) refl)

-- ---- what shows that each is needed

-- all that were tried stay
pub record AllStay (vs : List PairVector) (stays : List Bool) (k : ℕ) : Type 0 where
  pub number : length stays ≡ k
  pub kept_is : kept vs stays ≡ take k vs

pub none_stay : (vs : List PairVector) → AllStay vs [] 0
none_stay vs = record { number = refl; kept_is = kept_none vs }

pub one_more_stays : (vs : List PairVector) (stays : List Bool) (k : ℕ) → k < length vs → AllStay vs stays k →
    AllStay vs (stays ++ true ∷ []) (k + 1)
one_more_stays vs stays k lt all = record {
  number = length_push stays true ∙ ap (λ (i : ℕ). i + 1) all.number;
  kept_is =
      kept_push vs stays true no_vector (subst (λ (i : ℕ). i < length vs) (sym all.number) lt)
      ∙ ap (λ (i : ℕ). kept vs stays ++ vector_at vs i ∷ []) all.number
      ∙ ap (λ (l : List PairVector). l ++ vector_at vs k ∷ []) all.kept_is
      ∙ sym (take_more vs k no_vector lt);
}

pub tried_is_shown : (vs : List PairVector) (stays : List Bool) (k : ℕ) (s : Shown) → k < length vs →
    AllStay vs stays k → EachNeeded vs →
    Tries (beside vs stays) (vector_at vs (length stays)) s → IsLeastShown (others_of vs k) (vector_at vs k) s
tried_is_shown vs stays k s lt all needed tries =
    by (subst (λ (i : ℕ). Tries (others_of vs k) (vector_at vs i) s) all.number
    (subst (λ (l : List PairVector). Tries l (vector_at vs (length stays)) s) others tries))
  where
    others : beside vs stays ≡ others_of vs k
    others = ap (λ (l : List PairVector). l ++ drop (suc (length stays)) vs) all.kept_is
        ∙ ap (λ (i : ℕ). take k vs ++ drop (suc i) vs) all.number

    by : Tries (others_of vs k) (vector_at vs k) s → IsLeastShown (others_of vs k) (vector_at vs k) s
    by (inl least) = least
    by (inr implied) = absurd (never_both (others_of vs k) (vector_at vs k) implied.1 (needed k lt))

-- ---- a longer list

pub more_at : (P : ℕ → Shown → Type 0) (shown new : List Shown) (k : ℕ) (s : Shown) → length shown ≡ k →
    new ≡ shown ++ s ∷ [] →
    ((j : ℕ) → j < k → P j (get_or shown j no_shown)) → P k s → (j : ℕ) → j < k + 1 → P j (get_or new j no_shown)
more_at P shown new k s all is before here j lt =
    subst (λ (l : List Shown). P j (get_or l j no_shown)) (sym is) (by (split j k lt))
  where
    split : (i m : ℕ) → i < m + 1 → (i < m) ⊎ (i ≡ m)
    split i m h = grind arith

    front : (l : List Shown) (i : ℕ) → i < length l → get_or (l ++ s ∷ []) i no_shown ≡ get_or l i no_shown
    front [] i less = absurd (omega (arith, less))
    front (x ∷ l) zero less = refl
    front (x ∷ l) (suc i) less = front l i (omega (arith, less))

    last : (l : List Shown) → get_or (l ++ s ∷ []) (length l) no_shown ≡ s
    last [] = refl
    last (x ∷ l) = last l

    by : (j < k) ⊎ (j ≡ k) → P j (get_or (shown ++ s ∷ []) j no_shown)
    by (inl less) = subst (λ (x : Shown). P j x) (sym (front shown j (omega (arith, less, all)))) (before j less)
    by (inr e) =
        let place : j ≡ length shown = omega (arith, e, all) in
        let own : get_or (shown ++ s ∷ []) j no_shown ≡ s =
        ap (λ (i : ℕ). get_or (shown ++ s ∷ []) i no_shown) place ∙ last shown in
        subst (λ (x : Shown). P j x) (sym own) (subst (λ (i : ℕ). P i s) (sym e) here)
