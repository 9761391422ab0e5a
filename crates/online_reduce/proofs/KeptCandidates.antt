-- Which candidates are kept, and the edges that they give.
use Rattle.std.proofs.Common.{◌≡◌, ◌≢◌, ◌<◌, ◌⊎◌, List, [], ◌∷◌, slice_index, refl, sym, ◌∙◌, ap, subst, inl, inr}
use Rattle.std.proofs.Common.{arith, true, false, Bool, cond, ◌&&◌, ◌||◌}
use Rattle.std.proofs.lemmas.Bool.{and_parts, or_cases}
use Rattle.std.specs.Prelude.{map}
use Rattle.std.specs.List.{filter, list_all}
use Rattle.std.proofs.lemmas.Bool.Decides.{nat_tests}
use Rattle.rtr_types.specs.declared.instr.Instr.{Instr}
use Rattle.clock_core.specs.Order.{Among}
use Rattle.clock_core.proofs.Paths.{same_instr}
use Rattle.online_reduce.specs.declared.source.Source.{Source}
use Rattle.online_reduce.specs.Rule.{is_above, lets_pass, is_kept, edge_to}
use Rattle.rtr_types.specs.Accesses.{is_same}
use Rattle.online_reduce.proofs.Loops.{chosen}
use Rattle.conflict_edge.specs.Conflicts.{StandsIn}

-- ---- the test

-- no other candidate's clock knows of it
abbrev pub Passes : List Source → Instr → Type 0
Passes found at = (s : Source) → StandsIn found s → s.at ≢ at → slice_index s.clock at.core < at.count

pub all_others : (found : List Source) (at : Instr) → is_kept found at ≡ true → Passes found at
all_others [] at e s one d = absurd one
all_others (r ∷ found) at e s (inl f) d =
    subst (λ (v : Source). v.at ≢ at → slice_index v.clock at.core < at.count) f
    (λ other. by other
    (or_cases (is_same r.at at) (is_above r.clock at)
    (and_parts (lets_pass at r) (list_all (lets_pass at) found) e).0)) d
  where
    by : r.at ≢ at → (is_same r.at at ≡ true) ⊎ (is_above r.clock at ≡ true) → slice_index r.clock at.core < at.count
    by other (inl same) = absurd (other (same_instr r.at at same))
    by other (inr above) = grind (arith, nat_tests)
all_others (r ∷ found) at e s (inr one) d = all_others found at
    (and_parts (lets_pass at r) (list_all (lets_pass at) found) e).1 s one d

pub others_all : (found : List Source) (at : Instr) → Passes found at → is_kept found at ≡ true
others_all [] at f = refl
others_all (r ∷ found) at f = by (is_same r.at at) refl (others_all found at (λ s one d. f s (inr one) d))
  where
    apart : is_same r.at at ≡ false → r.at ≢ at
    apart no_test e = let t : is_same r.at at ≡ true = ap (λ (v : Instr). is_same v at) e ∙ itself in
        let g : false ≡ true = sym no_test ∙ t in cc
      where
        itself : is_same at at ≡ true
        itself = grind (arith, nat_tests)

    by : (b : Bool) → is_same r.at at ≡ b → list_all (lets_pass at) found ≡ true → (b || is_above r.clock at) &&
        list_all (lets_pass at) found ≡ true
    by true t rest = rest
    by false t rest =
        let lt = f r (inl refl) (apart t) in
        let above : is_above r.clock at ≡ true = grind (arith, nat_tests) in
        rw (above, rest) refl

-- ---- the edges

-- the edge comes from one of some candidates, which is kept
abbrev pub ComesFrom : Instr → List Source → List Source → Instr → Instr → Type 0
ComesFrom at found some x y = (y ≡ at) × (s : Source) × StandsIn some s × (s.at ≡ x) × (is_kept found s.at ≡ true)

pub chosen_from : (at : Instr) (found some : List Source) (x y : Instr) → Among (chosen at found some) x y →
    ComesFrom at found some x y
chosen_from at found [] x y e = absurd e
chosen_from at found (s ∷ some) x y e = by (is_kept found s.at) refl e (λ f. chosen_from at found some x y f)
  where
    more : ComesFrom at found some x y → ComesFrom at found (s ∷ some) x y
    more q = (q.0, q.1, inr q.2, q.3, q.4)

    by : (b : Bool) → is_kept found s.at ≡ b →
        Among (map (edge_to at)
        (cond b (s ∷ filter (λ (r : Source). is_kept found r.at) some)
        (filter (λ (r : Source). is_kept found r.at) some))) x y →
        (Among (chosen at found some) x y → ComesFrom at found some x y) → ComesFrom at found (s ∷ some) x y
    by true t (inl f) later = (sym f.1, s, inl refl, f.0, t)
    by true t (inr f) later = more (later f)
    by false t f later = more (later f)

pub from_chosen : (at : Instr) (found some : List Source) (s : Source) → StandsIn some s → is_kept found s.at ≡ true →
    Among (chosen at found some) s.at at
from_chosen at found [] s one kept = absurd one
from_chosen at found (r ∷ some) s (inl e) kept = by (is_kept found r.at) (ap (λ (v : Source). is_kept found v.at) e
    ∙ kept)
  where
    by : (b : Bool) → b ≡ true →
        Among (map (edge_to at)
        (cond b (r ∷ filter (λ (v : Source). is_kept found v.at) some)
        (filter (λ (v : Source). is_kept found v.at) some))) s.at at
    by true t = inl (ap (λ (v : Source). v.at) e, refl)
    by false t = absurd cc
from_chosen at found (r ∷ some) s (inr one) kept = by (is_kept found r.at) (from_chosen at found some s one kept)
  where
    by : (b : Bool) → Among (chosen at found some) s.at at →
        Among (map (edge_to at)
        (cond b (r ∷ filter (λ (v : Source). is_kept found v.at) some)
        (filter (λ (v : Source). is_kept found v.at) some))) s.at at
    by true f = inr f
    by false f = f
