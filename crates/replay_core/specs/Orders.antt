-- Rule: replay orders, the low order: IsReplayOrder, IsWhole, low_order
-- Replay orders of a log, whole ones, and the low order. How far a list has come is a count for each core, as a
-- function.
use Rattle.std.specs.Prelude.{◌≡◌, ℕ, zero, suc, ◌+◌, ◌<◌, ◌≤◌, ◌==◌, Bool, true, ◌&&◌, ◌||◌, not, nat_lt, nat_le}
use Rattle.std.specs.Prelude.{nat_eq, List, [], ◌∷◌, length, slice_index, sum, Option, Some, None, if◌then◌else◌}
use Rattle.rtr_types.specs.declared.instr.Edge.{Edge}
use Rattle.rv_core.specs.declared.outcome.Outcome.{Outcome}
use Rattle.replay_core.specs.Plans.{Plan}
use Rattle.replay_core.specs.Play.{core_at}

-- ---- counts

-- one more of core c
abbrev pub bump : (ℕ → ℕ) → ℕ → ℕ → ℕ
bump f c i = if i == c then f i + 1 else f i

abbrev pub counts : (ℕ → ℕ) → List ℕ → ℕ → ℕ
counts f [] = f
counts f (c ∷ cs) = counts (bump f c) cs

abbrev pub nought : ℕ → ℕ
nought i = 0

-- how many instructions each core has retired
abbrev pub counts_in : Outcome → ℕ → ℕ
counts_in s i = (core_at s i).count

-- ---- replay orders

-- each logged source of instruction n of core c lies within the counts
abbrev pub Sourced : List Edge → (ℕ → ℕ) → (c n : ℕ) → Type 0
Sourced [] f c n = Unit {0}
Sourced (e ∷ edges) f c n = (e.to.core ≡ c → e.to.count ≡ n → e.from.count ≤ f e.from.core) × Sourced edges f c n

-- core c is below its total, and the sources of its next instruction lie within the counts
pub record Ready (p : Plan) (f : ℕ → ℕ) (c : ℕ) : Type 0 where
  pub inside : c < length p.totals
  pub below : f c < slice_index p.totals c
  pub sourced : Sourced p.edges f c (f c + 1)

-- each place's core is ready there
abbrev pub Ordered : Plan → (ℕ → ℕ) → List ℕ → Type 0
Ordered p f [] = Unit {0}
Ordered p f (c ∷ cs) = Ready p f c × Ordered p (bump f c) cs

abbrev pub IsReplayOrder : Plan → List ℕ → Type 0
IsReplayOrder p order = Ordered p nought order

-- each core is at its total
pub record Full (p : Plan) (f : ℕ → ℕ) : Type 0 where
  pub each : (c : ℕ) → c < length p.totals → f c ≡ slice_index p.totals c

abbrev pub IsWhole : Plan → List ℕ → Type 0
IsWhole p order = Full p (counts nought order)

-- ---- the low order

abbrev pub is_met : Edge → (ℕ → ℕ) → (c n : ℕ) → Bool
is_met e f c n = not (nat_eq e.to.core c && nat_eq e.to.count n) || nat_le e.from.count (f e.from.core)

abbrev pub is_sourced : List Edge → (ℕ → ℕ) → (c n : ℕ) → Bool
is_sourced [] f c n = true
is_sourced (e ∷ edges) f c n = is_met e f c n && is_sourced edges f c n

abbrev pub is_ready : Plan → (ℕ → ℕ) → ℕ → Bool
is_ready p f c =
    nat_lt c (length p.totals) && (nat_lt (f c) (slice_index p.totals c) && is_sourced p.edges f c (f c + 1))

-- the lowest of the n cores c, c + 1, .. that is ready
abbrev pub lowest : Plan → (ℕ → ℕ) → (c n : ℕ) → Option ℕ
lowest p f c zero = None
lowest p f c (suc n) = if is_ready p f c then Some c else lowest p f (c + 1) n

abbrev pub lowest_ready : Plan → (ℕ → ℕ) → Option ℕ
lowest_ready p f = lowest p f 0 (length p.totals)

abbrev pub low_next : Option ℕ → (ℕ → List ℕ) → List ℕ
low_next None go = []
low_next (Some c) go = c ∷ go c

-- at most n places more, each of the lowest core that is ready
abbrev pub low_from : Plan → (n : ℕ) → (ℕ → ℕ) → List ℕ
low_from p zero f = []
low_from p (suc n) f = low_next (lowest_ready p f) (λ c. low_from p n (bump f c))

-- no replay order has more places than the totals have in all
unfoldable pub low_order : Plan → List ℕ
low_order p = low_from p (sum p.totals) nought
