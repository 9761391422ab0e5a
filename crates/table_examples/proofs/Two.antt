-- A table of two seats that are at their totals.
use Rattle.std.proofs.Common.{◌≡◌, ℕ, zero, suc, [], ◌∷◌, length, subst, arith}
use Rattle.std.specs.Prelude.{Some, slice_get, slice_index}
use Rattle.atomic_table.specs.Seated.{TableId}
use Rattle.replay_core.specs.Plans.{Plan}
use Rattle.replay_table.specs.Seats.{AtRest, Finished, Sitting}

-- a seat of this number, at its total
pub record Ended (p : Plan) (table : TableId) (k : ℕ) (x : Sitting) : Type 0 where
  pub table_is : x.table_id ≡ table
  pub id : x.core.id ≡ k
  pub total : x.core.count ≡ slice_index p.totals k
  pub rest : AtRest x

two : {A : Type 0} → (P : ℕ → A → Type 0) (a b : A) → P 0 a → P 1 b →
    (k : ℕ) (x : A) → slice_get (a ∷ b ∷ []) k ≡ Some x → P k x
two P a b one other zero x e = let q : a ≡ x = cc in subst (P 0) q one
two P a b one other (suc zero) x e = let q : b ≡ x = cc in subst (P 1) q other
two P a b one other (suc (suc k)) x e = absurd cc

pub two_finished : (p : Plan) (table : TableId) (a b : Sitting) → length p.totals ≡ 2 →
    Ended p table 0 a → Ended p table 1 b → Finished p table (a ∷ b ∷ [])
two_finished p table a b both one other =
    let each : (k : ℕ) (x : Sitting) → slice_get (a ∷ b ∷ []) k ≡ Some x → Ended p table k x =
    two (Ended p table) a b one other in
    record {
      all = let e = both in omega arith;
      tables = λ k x h. (each k x h).table_is;
      ids = λ k x h. (each k x h).id;
      totals = λ k x h. (each k x h).total;
      rest = λ k x h. (each k x h).rest;
    }
