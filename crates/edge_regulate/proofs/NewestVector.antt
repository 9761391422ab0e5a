-- What the newest of a pair's vectors makes of one edge more.
use Rattle.std.proofs.Common.{◌≡◌, ℕ, ◌+◌, ◌-◌, ◌^◌, ◌<◌, ◌≤◌, ◌⊎◌, inl, inr, true, false}
use Rattle.std.proofs.Common.{List, [], ◌∷◌, ◌++◌, length, get_or, ap, ◌∙◌, refl, arith}
use Rattle.std.specs.Prelude.{All, slice_set}
use Rattle.std.proofs.lemmas.List.{get_or-set_same, get_or_push, length_push, length-set}
use Rattle.std.proofs.lemmas.List.Elements.{All-get_or}
use Rattle.stride_vector.specs.declared.StrideVector.{StrideVector}
use Rattle.stride_vector.specs.Vectors.{last_of}
use Rattle.edge_regulate.specs.Awaiting.{newest}
use Rattle.edge_regulate.specs.Greedy.{Knows, opened, takes, taking, told}
use Rattle.edge_regulate.specs.Regulated.{IsGrowing, end_target}
use Rattle.edge_regulate.proofs.AwaitedPositions.{Rises, growing_rises}
use Rattle.edge_regulate.proofs.VectorEnds.{only, taking_ends}
use Rattle.edge_regulate.proofs.Online.{told_none, told_opened, told_taken}

-- ---- the newest vector

pub newest_rises : (vs : List StrideVector) → All IsGrowing vs → Rises (newest vs)
newest_rises [] growing many = absurd (many refl)
newest_rises (v ∷ vs) growing many =
    growing_rises (newest (v ∷ vs)) (All-get_or IsGrowing (v ∷ vs) (length (v ∷ vs) - 1) (opened (0, 0)) (omega arith)
    growing) many

pub newest_set : (vs : List StrideVector) (v : StrideVector) → 0 < length vs →
    newest (slice_set vs (length vs - 1) v) ≡ v
newest_set vs v some =
    ap (λ (n : ℕ). get_or (slice_set vs (length vs - 1) v) (n - 1) (opened (0, 0))) (length-set vs (length vs - 1) v)
    ∙ get_or-set_same vs (length vs - 1) v (opened (0, 0)) (omega arith)

pub newest_push : (vs : List StrideVector) (v : StrideVector) → newest (vs ++ v ∷ []) ≡ v
newest_push vs v =
    let back : length vs ≡ length (vs ++ v ∷ []) - 1 = (let more = length_push vs v in omega arith) in
    get_or_push vs v (opened (0, 0)) (length (vs ++ v ∷ []) - 1) back

-- ---- the vectors with the edge

pub told_on : (knows : Knows) (vs : List StrideVector) (e : ℕ × ℕ) → 0 < length vs → takes knows (newest vs) e ≡ true →
    told knows vs e ≡ slice_set vs (length vs - 1) (taking (newest vs) e)
told_on knows vs e some t = told_taken knows vs e (length vs - 1) (opened (0, 0)) (omega arith) t

pub told_new : (knows : Knows) (vs : List StrideVector) (e : ℕ × ℕ) →
    (length vs ≡ 0) ⊎ (takes knows (newest vs) e ≡ false) → told knows vs e ≡ vs ++ opened e ∷ []
told_new knows vs e (inl none) = told_none knows vs e none
told_new knows [] e (inr f) = told_none knows [] e refl
told_new knows (v ∷ vs) e (inr f) = told_opened knows (v ∷ vs) e (length (v ∷ vs) - 1) (opened (0, 0)) (omega arith) f

-- they end by the edge's target
pub told_ends : (knows : Knows) (vs : List StrideVector) (e : ℕ × ℕ) → 0 < length vs →
    takes knows (newest vs) e ≡ true →
    end_target vs < e.1 → end_target (slice_set vs (length vs - 1) (taking (newest vs) e)) ≤ e.1
told_ends knows vs e some t later =
    let below = taking_ends knows (newest vs) e (e.1 + 1) t (omega arith) (omega arith) in
    let is = ap (λ (v : StrideVector). (last_of v).1) (newest_set vs (taking (newest vs) e) some) in
    omega arith

pub new_ends : (vs : List StrideVector) (e : ℕ × ℕ) → end_target (vs ++ opened e ∷ []) ≤ e.1
new_ends vs e =
    let first = only (opened e) refl in
    let is = ap (λ (v : StrideVector). (last_of v).1) (newest_push vs (opened e)) in
    omega arith

pub opened_growing : (e : ℕ × ℕ) → 1 ≤ e.0 → 1 ≤ e.1 → e.0 < 2 ^ 32 → e.1 < 2 ^ 32 → IsGrowing (opened e)
opened_growing e source target source_fits target_fits =
    record {
      vector = record {
        some = omega arith;
        source_rises = λ many. absurd (omega arith);
        target_rises = λ many. absurd (omega arith);
        source_fits = omega arith;
        target_fits = omega arith;
      };
      some_source = source;
      some_target = target;
    }
