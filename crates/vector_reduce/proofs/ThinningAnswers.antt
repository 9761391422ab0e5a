-- What thinning leaves.
use Rattle.std.proofs.Common.{◌≡◌, ℕ, zero, suc, ◌<◌, ◌⊎◌, inl, inr, List, [], ◌∷◌, ◌++◌, length, take, drop, refl, sym}
use Rattle.std.proofs.Common.{ap, subst, ◌∙◌}
use Rattle.std.proofs.Common.{append_assoc, append-nil, arith}
use Rattle.std.proofs.lemmas.List.{take-append-le, drop-append-le, length-append}
use Rattle.rtr_types.specs.declared.instr.Instr.{Instr}
use Rattle.clock_core.specs.Order.{Before, Among, Within}
use Rattle.clock_core.proofs.Paths.{one, mapped, more}
use Rattle.clock_core.proofs.EdgeLists.{among_cases}
use Rattle.vector_reduce.specs.declared.pair_vector.PairVector.{PairVector}
use Rattle.vector_reduce.specs.Laws.{NeededStaysLaw, OneThinningLaw, ShownIsNeededLaw, ThinnedIsNeededLaw}
use Rattle.vector_reduce.specs.Laws.{ThinnedIsSameLaw}
use Rattle.vector_reduce.specs.Thinning.{EachNeeded, IsImplied, IsNeeded, Thins}
use Rattle.vector_reduce.specs.Vectors.{edge_at, edges_in, edges_of_all, others_of, vector_at}
use Rattle.vector_reduce.specs.Cuts.{counts_in}
use Rattle.vector_reduce.proofs.ClosedCuts.{cut_shows}
use Rattle.vector_reduce.proofs.Edges.{all_cases, all_left, all_right, among_edge}

abbrev E : List PairVector → Instr → Instr → Type 0
E vs x y = Among (edges_of_all vs) x y

-- ---- the same is before

onto : (stayed vs : List PairVector) (v : PairVector) → (stayed ++ v ∷ []) ++ vs ≡ stayed ++ v ∷ vs
onto stayed vs v = append_assoc stayed (v ∷ []) vs

-- fewer edges
pub among_fewer : (stayed vs : List PairVector) (v : PairVector) (x y : Instr) → E (stayed ++ vs) x y →
    E (stayed ++ v ∷ vs) x y
among_fewer stayed vs v x y a = elim (all_cases stayed vs x y a) [
  | inl b ↦ all_left stayed (v ∷ vs) x y b
  | inr b ↦ all_right stayed (v ∷ vs) x y (all_right (v ∷ []) vs x y b)
]

without_implied : (stayed vs : List PairVector) (v : PairVector) → IsImplied (stayed ++ vs) v → (x y : Instr) →
    E (stayed ++ v ∷ vs) x y →
    Before (E (stayed ++ vs)) x y
without_implied stayed vs v implied x y a = elim (all_cases stayed (v ∷ vs) x y a) [
  | inl b ↦ one (E (stayed ++ vs)) x y (inr (all_left stayed vs x y b))
  | inr b ↦ elim (among_cases (edges_in v) (edges_of_all vs) x y b) [
    | inl d ↦ implied x y d
    | inr d ↦ one (E (stayed ++ vs)) x y (inr (all_right stayed vs x y d))
  ]
]

same_to : (stayed vs left : List PairVector) (x y : Instr) → Thins stayed vs left → Before (E (stayed ++ vs)) x y →
    Before (E left) x y
same_to stayed [] left x y t b = subst (λ (l : List PairVector). Before (E l) x y) (append-nil stayed ∙ sym t) b
same_to stayed (v ∷ vs) left x y (inl t) b =
    same_to stayed vs left x y t.1
    (mapped (E (stayed ++ v ∷ vs)) (E (stayed ++ vs)) (without_implied stayed vs v t.0) x y b)
same_to stayed (v ∷ vs) left x y (inr t) b =
    same_to (stayed ++ v ∷ []) vs left x y t.1
    (subst (λ (l : List PairVector). Before (E l) x y) (sym (onto stayed vs v)) b)

same_from : (stayed vs left : List PairVector) (x y : Instr) → Thins stayed vs left → Before (E left) x y →
    Before (E (stayed ++ vs)) x y
same_from stayed [] left x y t b = subst (λ (l : List PairVector). Before (E l) x y) (t ∙ sym (append-nil stayed)) b
same_from stayed (v ∷ vs) left x y (inl t) b =
    more (E (stayed ++ vs)) (E (stayed ++ v ∷ vs)) (among_fewer stayed vs v) x y (same_from stayed vs left x y t.1 b)
same_from stayed (v ∷ vs) left x y (inr t) b =
    subst (λ (l : List PairVector). Before (E l) x y) (onto stayed vs v)
    (same_from (stayed ++ v ∷ []) vs left x y t.1 b)

pub thinned_is_same : ThinnedIsSameLaw
thinned_is_same vectors left x y t = (same_to [] vectors left x y t, same_from [] vectors left x y t)

-- ---- each that is left is needed

pub needed_fewer : (others fewer : List PairVector) (v : PairVector) → Within (E fewer) (E others) → IsNeeded others v →
    IsNeeded fewer v
needed_fewer others fewer v within n = record {
  from = n.from;
  to = n.to;
  edge = n.edge;
  not_before = λ b. n.not_before (more (E fewer) (E others) within n.from n.to b);
}

-- of a longer list, all but one of its front
others_front : (xs ys : List PairVector) (k : ℕ) → k < length xs → others_of (xs ++ ys) k ≡ others_of xs k ++ ys
others_front xs ys k lt =
    ap (λ (l : List PairVector). l ++ drop (suc k) (xs ++ ys)) (take-append-le k xs ys (omega (arith, lt)))
    ∙ ap (λ (l : List PairVector). take k xs ++ l) (drop-append-le (suc k) xs ys (omega (arith, lt)))
    ∙ sym (append_assoc (take k xs) (drop (suc k) xs) ys)

-- all but the one after the front
pub others_after : (xs ys : List PairVector) (v : PairVector) → others_of (xs ++ v ∷ ys) (length xs) ≡ xs ++ ys
others_after [] ys v = refl
others_after (x ∷ xs) ys v = ap (λ (l : List PairVector). x ∷ l) (others_after xs ys v)

pub at_after : (xs ys : List PairVector) (v : PairVector) → vector_at (xs ++ v ∷ ys) (length xs) ≡ v
at_after [] ys v = refl
at_after (x ∷ xs) ys v = at_after xs ys v

at_front : (xs ys : List PairVector) (k : ℕ) → k < length xs → vector_at (xs ++ ys) k ≡ vector_at xs k
at_front [] ys k lt = absurd (omega (arith, lt))
at_front (x ∷ xs) ys zero lt = refl
at_front (x ∷ xs) ys (suc k) lt = at_front xs ys k (omega (arith, lt))

-- each that stayed is needed among those that stayed and those that are still to be tried
abbrev NeededSoFar : List PairVector → List PairVector → Type 0
NeededSoFar stayed vs = (k : ℕ) → k < length stayed → IsNeeded (others_of stayed k ++ vs) (vector_at stayed k)

still_needed : (stayed vs : List PairVector) (v : PairVector) → NeededSoFar stayed (v ∷ vs) → NeededSoFar stayed vs
still_needed stayed vs v n k lt =
    needed_fewer (others_of stayed k ++ v ∷ vs) (others_of stayed k ++ vs) (vector_at stayed k)
    (among_fewer (others_of stayed k) vs v) (n k lt)

one_more_needed : (stayed vs : List PairVector) (v : PairVector) → NeededSoFar stayed (v ∷ vs) →
    IsNeeded (stayed ++ vs) v →
    NeededSoFar (stayed ++ v ∷ []) vs
one_more_needed stayed vs v n own k lt = by (below k (length stayed) (omega (arith, lt, length-append stayed (v ∷ []))))
  where
    below : (i m : ℕ) → i < suc m → (i < m) ⊎ (i ≡ m)
    below i m h = grind arith

    by : (k < length stayed) ⊎ (k ≡ length stayed) →
        IsNeeded (others_of (stayed ++ v ∷ []) k ++ vs) (vector_at (stayed ++ v ∷ []) k)
    by (inl less) =
        let others : others_of (stayed ++ v ∷ []) k ++ vs ≡ others_of stayed k ++ v ∷ vs =
        ap (λ (l : List PairVector). l ++ vs) (others_front stayed (v ∷ []) k less) ∙ onto (others_of stayed k) vs v in
        subst (λ (w : PairVector). IsNeeded (others_of (stayed ++ v ∷ []) k ++ vs) w)
        (sym (at_front stayed (v ∷ []) k less))
        (subst (λ (l : List PairVector). IsNeeded l (vector_at stayed k)) (sym others) (n k less))
    by (inr same) =
        let others : others_of (stayed ++ v ∷ []) (length stayed) ++ vs ≡ stayed ++ vs =
        ap (λ (l : List PairVector). l ++ vs) (others_after stayed [] v ∙ append-nil stayed) in
        subst (λ (i : ℕ). IsNeeded (others_of (stayed ++ v ∷ []) i ++ vs) (vector_at (stayed ++ v ∷ []) i)) (sym same)
        (subst (λ (w : PairVector). IsNeeded (others_of (stayed ++ v ∷ []) (length stayed) ++ vs) w)
        (sym (at_after stayed [] v))
        (subst (λ (l : List PairVector). IsNeeded l v) (sym others) own))

left_needed : (stayed vs left : List PairVector) → Thins stayed vs left → NeededSoFar stayed vs → EachNeeded left
left_needed stayed [] left t n =
    subst EachNeeded (sym t) (λ k lt. subst (λ (l : List PairVector). IsNeeded l (vector_at stayed k))
    (append-nil (others_of stayed k)) (n k lt))
left_needed stayed (v ∷ vs) left (inl t) n = left_needed stayed vs left t.1 (still_needed stayed vs v n)
left_needed stayed (v ∷ vs) left (inr t) n =
    left_needed (stayed ++ v ∷ []) vs left t.1 (one_more_needed stayed vs v n t.0)

pub thinned_is_needed : ThinnedIsNeededLaw
thinned_is_needed vectors left t = left_needed [] vectors left t (λ k lt. absurd (omega (arith, lt)))

-- ---- implied or needed

pub never_both : (others : List PairVector) (v : PairVector) → IsImplied others v → IsNeeded others v → ⊥
never_both others v i n = n.not_before (i n.from n.to n.edge)

one_way : (stayed vs left other : List PairVector) → Thins stayed vs left → Thins stayed vs other → left ≡ other
one_way stayed [] left other t u = t ∙ sym u
one_way stayed (v ∷ vs) left other (inl t) (inl u) = one_way stayed vs left other t.1 u.1
one_way stayed (v ∷ vs) left other (inl t) (inr u) = absurd (never_both (stayed ++ vs) v t.0 u.0)
one_way stayed (v ∷ vs) left other (inr t) (inl u) = absurd (never_both (stayed ++ vs) v u.0 t.0)
one_way stayed (v ∷ vs) left other (inr t) (inr u) = one_way (stayed ++ v ∷ []) vs left other t.1 u.1

pub one_thinning : OneThinningLaw
one_thinning vectors left other t u = one_way [] vectors left other t u

all_stay : (stayed vs left : List PairVector) → EachNeeded (stayed ++ vs) → Thins stayed vs left → left ≡ stayed ++ vs
all_stay stayed [] left n t = t ∙ sym (append-nil stayed)
all_stay stayed (v ∷ vs) left n (inl t) = absurd (never_both (stayed ++ vs) v t.0 own)
  where
    own : IsNeeded (stayed ++ vs) v
    own = subst (λ (l : List PairVector). IsNeeded l v) (others_after stayed vs v)
        (subst (λ (w : PairVector). IsNeeded (others_of (stayed ++ v ∷ vs) (length stayed)) w) (at_after stayed vs v)
        (n (length stayed) (omega (arith, length-append stayed (v ∷ vs)))))
all_stay stayed (v ∷ vs) left n (inr t) =
    all_stay (stayed ++ v ∷ []) vs left (subst EachNeeded (sym (onto stayed vs v)) n) t.1 ∙ onto stayed vs v

pub needed_stays : NeededStaysLaw
needed_stays vectors left n t = all_stay [] vectors left n t

pub shown_is_needed : ShownIsNeededLaw
shown_is_needed others v s h = record {
  from = (edge_at v s.edge).from;
  to = (edge_at v s.edge).to;
  edge = among_edge v s.edge h.within;
  not_before = cut_shows (edges_of_all others) (counts_in s.cut) (edge_at v s.edge).from (edge_at v s.edge).to h.closed
      h.target h.source;
}
