-- The scan for the latest open access.
use Rattle.std.proofs.Common.{inl, inr, ◌≡◌, ◌⊎◌, ℕ, List, [], ◌∷◌, ◌++◌, refl, ap, ◌∙◌, subst, true, false}
use Rattle.std.proofs.Common.{append_assoc}
use Rattle.std.specs.Prelude.{Option, Some, None}
use Rattle.rtr_types.specs.declared.instr.Instr.{Instr}
use Rattle.rtr_types.specs.declared.access.Access.{Access}
use Rattle.conflict_edge.specs.Conflicts.{StandsIn}
use Rattle.conflict_edge.proofs.AccessPlaces.{stands_which}
use Rattle.replay_audit.specs.Unordered.{is_open, AreCovered, IsLatest}

covered_snoc : (l : List Access) (a x : Access) (k : List ℕ) → AreCovered l a k → is_open x a k ≡ false →
    AreCovered (l ++ x ∷ []) a k
covered_snoc l a x k h t b s = by (stands_which l (x ∷ []) b s)
  where
    by : StandsIn l b ⊎ StandsIn (x ∷ []) b → is_open b a k ≡ false
    by (inl q) = h b q
    by (inr (inl e)) = subst (λ (z : Access). is_open z a k ≡ false) e t
    by (inr (inr q)) = absurd q

-- with one more at the end, an access stands where it stood
pub split_more : (list front rest : List Access) (b a : Access) → list ≡ front ++ b ∷ rest →
    list ++ a ∷ [] ≡ front ++ b ∷ (rest ++ a ∷ [])
split_more list front rest b a split = ap (λ (z : List Access). z ++ a ∷ []) split
    ∙ append_assoc front (b ∷ rest) (a ∷ [])

pub latest_skip : (l : List Access) (a x : Access) (k : List ℕ) (found : Option Instr) → IsLatest l a k found →
    is_open x a k ≡ false →
    IsLatest (l ++ x ∷ []) a k found
latest_skip l a x k None h t = covered_snoc l a x k h t
latest_skip l a x k (Some y) h t = record {
  older = h.older;
  earlier = h.earlier;
  newer = h.newer ++ x ∷ [];
  split = split_more l h.older h.newer h.earlier x h.split;
  at = h.at;
  is_left = h.is_left;
  latest = covered_snoc h.newer a x k h.latest t;
}

pub latest_found : (l : List Access) (a x : Access) (k : List ℕ) → is_open x a k ≡ true →
    IsLatest (l ++ x ∷ []) a k (Some x.at)
latest_found l a x k t = record {
  older = l;
  earlier = x;
  newer = [];
  split = refl;
  at = refl;
  is_left = t;
  latest =
      λ b s. absurd s;
}
