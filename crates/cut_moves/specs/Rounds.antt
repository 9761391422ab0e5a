-- Rule: the order of a run by rounds: timeline_of
-- The timeline by rounds: in each round every core that is ready when the round begins retires one instruction, lower
-- cores first.
use Rattle.std.specs.Prelude.{◌≡◌, ℕ, zero, suc, ◌+◌, ◌<◌, true, false, List, [], ◌++◌, length, sum}
use Rattle.rtr_types.specs.CoreSets.{has}
use Rattle.rtr_types.specs.declared.core_set.CoreSet.{CoreSet}
use Rattle.rtr_types.specs.declared.pairs.Which.{Which}
use Rattle.race_log.specs.declared.recording.Recording.{Recording}
use Rattle.race_log.specs.Validity.{Valid}
use Rattle.replay_core.specs.Plans.{Plan, plan_of}
use Rattle.replay_core.specs.Orders.{counts, nought, is_ready, IsReplayOrder, IsWhole, Ready}
use Rattle.replay_audit.specs.Determinate.{IsDeterminate}
use Rattle.cut_moves.specs.Ways.{with_place}

-- of the n cores c, c + 1, .. those that are ready
abbrev pub ready_among : Plan → (ℕ → ℕ) → (c n : ℕ) → List ℕ
ready_among p f c zero = []
ready_among p f c (suc n) = with_place (is_ready p f c) c (ready_among p f (c + 1) n)

abbrev pub round : Plan → (ℕ → ℕ) → List ℕ
round p f = ready_among p f 0 (length p.totals)

-- at most n rounds
abbrev pub rounds_from : Plan → (n : ℕ) → (ℕ → ℕ) → List ℕ
rounds_from p zero f = []
rounds_from p (suc n) f = round p f ++ rounds_from p n (counts f (round p f))

-- each round but the last has a place, so no more are needed than the totals have in all
unfoldable pub timeline_of : Plan → List ℕ
timeline_of p = rounds_from p (sum p.totals) nought

-- the timeline of a recording by a log
abbrev pub rounds_of : Which → Recording → List ℕ
rounds_of which r = timeline_of (plan_of which r)

-- ---- laws

abbrev pub RoundsOrderedLaw : Type 0
RoundsOrderedLaw = (p : Plan) → IsReplayOrder p (timeline_of p)

-- at its end no core is ready
abbrev pub RoundsEndLaw : Type 0
RoundsEndLaw = (p : Plan) (c : ℕ) → Ready p (counts nought (timeline_of p)) c → ⊥

-- so it is whole where each replay order that isn't can go on
abbrev pub RoundsWholeLaw : Type 0
RoundsWholeLaw = (which : Which) (r : Recording) → Valid r → IsDeterminate which r →
    IsWhole (plan_of which r) (rounds_of which r)

-- ---- what the parts of the code ask and tell

-- the cores of the set are those that are ready
abbrev pub AreReady : Plan → (ℕ → ℕ) → CoreSet → Type 0
AreReady p f set = (c : ℕ) → c < length p.totals → has set c ≡ is_ready p f c

-- and there is one
pub record SomeAreReady (p : Plan) (f : ℕ → ℕ) (set : CoreSet) : Type 0 where
  pub each : AreReady p f set
  pub core : ℕ
  pub inside : core < length p.totals
  pub ready : is_ready p f core ≡ true

-- no core is
abbrev pub NoneAreReady : Plan → (ℕ → ℕ) → Type 0
NoneAreReady p f = (c : ℕ) → c < length p.totals → is_ready p f c ≡ false
