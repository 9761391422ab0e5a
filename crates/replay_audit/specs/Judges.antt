-- Determinacy by the accesses of the play of any whole replay order, without their values and in any order.
use Rattle.std.specs.Prelude.{◌≡◌, ℕ, ◌↔◌, List}
use Rattle.rtr_types.specs.declared.access.Access.{Access}
use Rattle.rtr_types.specs.declared.pairs.Which.{Which}
use Rattle.conflict_edge.specs.Conflicts.{StandsIn}
use Rattle.race_log.specs.declared.recording.Recording.{Recording}
use Rattle.race_log.specs.Sources.{log_edges}
use Rattle.race_log.specs.Validity.{Valid}
use Rattle.replay_core.specs.Plans.{plan_of}
use Rattle.replay_core.specs.Play.{accesses_of}
use Rattle.replay_audit.specs.Determinate.{IsDeterminate}
use Rattle.replay_audit.specs.Laws.{IsSettled, IsWholePlay}

-- the same access but for the values
pub record IsAlike (a b : Access) : Type 0 where
  pub at : a.at ≡ b.at
  pub word : a.word ≡ b.word
  pub kind : a.kind ≡ b.kind

-- the lists have the same accesses but for the values and the order
pub record AreAlike (xs ys : List Access) : Type 0 where
  pub forth : (a : Access) → StandsIn xs a → (b : Access) × StandsIn ys b × IsAlike a b
  pub back : (b : Access) → StandsIn ys b → (a : Access) × StandsIn xs a × IsAlike a b

-- whichever whole replay order was played, its accesses decide: the recording is determinate exactly where the log
-- orders each two that conflict
abbrev pub JudgeLaw : Type 0
JudgeLaw = (which : Which) (r : Recording) (order : List ℕ) (list : List Access) → Valid r →
    IsWholePlay (plan_of which r) order → AreAlike (accesses_of (plan_of which r) order) list →
    IsDeterminate which r ↔ IsSettled (log_edges which r) list
