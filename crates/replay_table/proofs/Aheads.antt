-- Cores that are ahead by local instructions.
use Rattle.std.proofs.Common.{◌≡◌, ℕ, subst, zero, suc, ◌+◌, ◌≤◌, List, [], ◌∷◌, set, sym, refl, ap, ◌∙◌, arith}
use Rattle.std.specs.Prelude.{slice_index}
use Rattle.rv_core.specs.declared.core_state.Core.{Core}
use Rattle.rv_core.specs.declared.core_state.Need.TheVariants.{Local}
use Rattle.rv_core.specs.Steps.{need, after}
use Rattle.rv_core.proofs.LawLemmas.{count_law, number_law}
use Rattle.replay_core.specs.Plans.{Plan}
use Rattle.replay_audit.specs.Laws.{IsAhead}
use Rattle.replay_audit.proofs.Front.{sourced_more}
use Rattle.replay_table.specs.declared.view.Own.{Own}
use Rattle.replay_table.specs.declared.view.View.{View}
use Rattle.replay_table.specs.Aheads.{Due, Ahead}

-- ---- one instruction, and those after it

pub ahead_rest : (p : Plan) (f : ℕ → ℕ) (n : ℕ) (k a : Core) → Ahead p f (suc n) k a → Ahead p f n (after p.image k 0) a
ahead_rest p f n k a h = subst (λ (c : ℕ). IsAhead p f c n (after p.image k 0) a) (sym (number_law p.image k 0)) h.2

pub ahead_first : (p : Plan) (f : ℕ → ℕ) (n : ℕ) (k a : Core) → Due p f k → need p.image k ≡ Local
    → Ahead p f n (after p.image k 0) a → Ahead p f (suc n) k a
ahead_first p f n k a due is rest = (
  due,
  is,
  subst (λ (c : ℕ). IsAhead p f c n (after p.image k 0) a)
      (number_law p.image k 0) rest,
)

-- ---- where it ends

-- at the first instruction that isn't local there is one end
pub ahead_same : (p : Plan) (f g : ℕ → ℕ) (n m : ℕ) (k a b : Core) → Ahead p f n k a → Ahead p g m k b
    → (need p.image a ≡ Local → ⊥)
    → (need p.image b ≡ Local → ⊥) → a ≡ b
ahead_same p f g zero zero k a b h l na nb = sym h ∙ l
ahead_same p f g zero (suc m) k a b h l na nb = absurd (na (ap (λ (x : Core). need p.image x) (sym h) ∙ l.1))
ahead_same p f g (suc n) zero k a b h l na nb = absurd (nb (ap (λ (x : Core). need p.image x) (sym l) ∙ h.1))
ahead_same p f g (suc n) (suc m) k a b h l na nb = ahead_same p f g n m (after p.image k 0) a b
    (ahead_rest p f n k a h) (ahead_rest p g m k b l) na nb

ahead-unique : (p : Plan) (f : ℕ → ℕ) (n : ℕ) (k a b : Core) → Ahead p f n k a → Ahead p f n k b → a ≡ b
ahead-unique p f zero k a b h l = sym h ∙ l
ahead-unique p f (suc n) k a b h l = ahead-unique p f n (after p.image k 0) a b (ahead_rest p f n k a h)
    (ahead_rest p f n k b l)

pub ahead_adds : (p : Plan) (f : ℕ → ℕ) (n : ℕ) (k a : Core) → Ahead p f n k a → a.count ≡ k.count + n
ahead_adds p f zero k a h = let e = ap (λ (x : Core). x.count) h in omega arith
ahead_adds p f (suc n) k a h = let e = ahead_adds p f n (after p.image k 0) a (ahead_rest p f n k a h) in
    let b = count_law p.image k 0 in omega arith

pub ahead_equal : (p : Plan) (f : ℕ → ℕ) (n m : ℕ) (k a b : Core) → Ahead p f n k a → Ahead p f m k b
    → a.count ≡ b.count → a ≡ b
ahead_equal p f n m k a b h l e =
    let x = ahead_adds p f n k a h in let y = ahead_adds p f m k b l in let same : m ≡ n = omega arith in
    ahead-unique p f n k a b h (subst (λ (i : ℕ). Ahead p f i k b) same l)

pub ahead_id : (p : Plan) (f : ℕ → ℕ) (n : ℕ) (k a : Core) → Ahead p f n k a → a.id ≡ k.id
ahead_id p f zero k a h = ap (λ (x : Core). x.id) (sym h)
ahead_id p f (suc n) k a h = ahead_id p f n (after p.image k 0) a (ahead_rest p f n k a h) ∙ number_law p.image k 0

-- ---- one instruction more, and the rest of the way

pub ahead_one : (p : Plan) (f : ℕ → ℕ) (n : ℕ) (k a : Core) → Ahead p f n k a → Due p f a → need p.image a ≡ Local
    → Ahead p f (suc n) k (after p.image a 0)
ahead_one p f zero k a h due is = subst (λ (x : Core). Ahead p f (suc zero) x (after p.image a 0)) (sym h)
    (ahead_first p f zero a (after p.image a 0) due is refl)
ahead_one p f (suc n) k a h due is = ahead_first p f (suc n) k (after p.image a 0) h.0 h.1
    (ahead_one p f n (after p.image k 0) a (ahead_rest p f n k a h)
    due is)

pub ahead_between : (p : Plan) (f : ℕ → ℕ) (n m : ℕ) (k a b : Core) → Ahead p f n k a → Ahead p f m k b
    → (need p.image b ≡ Local → ⊥)
    → (i : ℕ) × Ahead p f i a b
ahead_between p f zero m k a b h l nb = (m, subst (λ (x : Core). Ahead p f m x b) h l)
ahead_between p f (suc n) zero k a b h l nb = absurd (nb (ap (λ (x : Core). need p.image x) (sym l) ∙ h.1))
ahead_between p f (suc n) (suc m) k a b h l nb = ahead_between p f n m (after p.image k 0) a b
    (ahead_rest p f n k a h) (ahead_rest p f m k b l) nb

-- ---- by more that was seen

pub due_more : (p : Plan) (f g : ℕ → ℕ) (k : Core) → ((i : ℕ) → f i ≤ g i) → Due p f k → Due p g k
due_more p f g k le d = record { below = d.below; sourced = sourced_more p.edges f g k.id (k.count + 1) le d.sourced }

pub ahead_more : (p : Plan) (f g : ℕ → ℕ) (n : ℕ) (k a : Core) → ((i : ℕ) → f i ≤ g i) → Ahead p f n k a
    → Ahead p g n k a
ahead_more p f g zero k a le h = h
ahead_more p f g (suc n) k a le h = ahead_first p g n k a (due_more p f g k le h.0) h.1
    (ahead_more p f g n (after p.image k 0) a le (ahead_rest p f n k a h))

pub set_rises : (l : List ℕ) (c found i : ℕ) → slice_index l c ≤ found → slice_index l i ≤ slice_index (set l c found) i
set_rises [] c found i h = omega arith
set_rises (x ∷ xs) zero found zero h = h
set_rises (x ∷ xs) zero found (suc i) h = omega arith
set_rises (x ∷ xs) (suc c) found zero h = omega arith
set_rises (x ∷ xs) (suc c) found (suc i) h = set_rises xs c found i h

pub own_same : (v : View) (a b : Own) → v.owned ≡ a ∷ [] → v.owned ≡ b ∷ [] → a ≡ b
own_same v a b h l = let e : a ∷ [] ≡ b ∷ [] = sym h ∙ l in cc
