-- What a core that runs ahead of its executed count has done.
use Rattle.std.specs.Prelude.{◌≡◌, ℕ, zero, suc, ◌<◌, ◌≤◌}
use Rattle.image_mem.specs.Contents.{Contents}
use Rattle.rv_core.specs.declared.core_state.Core.{Core}
use Rattle.rv_core.specs.declared.core_state.Need.TheVariants.{Local}
use Rattle.rv_core.specs.Steps.{need, after}
use Rattle.replay_core.specs.Plans.{Plan}
use Rattle.replay_audit.specs.Laws.{IsDue, IsAhead}

-- the core's next instruction is within its total, and its logged sources lie within the counts
abbrev pub Due : Plan → (ℕ → ℕ) → Core → Type 0
Due p f k = IsDue p f k.id k

-- the second core is the first after n local instructions, each of which was due
abbrev pub Ahead : Plan → (ℕ → ℕ) → ℕ → Core → Core → Type 0
Ahead p f n k at = IsAhead p f k.id n k at

-- the second core is the first after some local instructions, each of which was due: none of them is beyond the count
-- `until`
pub record GoesOn (p : Plan) (f : ℕ → ℕ) (until : ℕ) (k at : Core) : Type 0 where
  pub locals : ℕ
  pub ahead : Ahead p f locals k at
  pub most : 0 < locals → at.count ≤ until

-- the second core is the first after n local instructions
abbrev pub AreLocal : Contents → (n : ℕ) → Core → Core → Type 0
AreLocal image zero k a = a ≡ k
AreLocal image (suc n) k a = (mid : Core) × AreLocal image n k mid × (need image mid ≡ Local) × (a ≡ after image mid 0)
