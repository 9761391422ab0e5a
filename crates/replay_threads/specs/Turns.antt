-- Rule: how a worker's turn ends: EndsBy
-- What a worker's turn does, and how it ends.
use Rattle.std.specs.Prelude.{◌≡◌, ℕ, ◌+◌, ◌-◌, ◌^◌, ◌<◌, ◌≤◌, true, slice_index, sum_by}
use Rattle.rtr_types.specs.declared.instr.Instr.{Instr}
use Rattle.rtr_types.specs.declared.pairs.Which.{Which}
use Rattle.rv_core.specs.Steps.{need, is_done}
use Rattle.race_log.specs.declared.recording.Recording.{Recording}
use Rattle.race_log.specs.Sources.{HasEdge}
use Rattle.race_log.specs.Validity.{Valid}
use Rattle.replay_core.specs.Plans.{recorded_image, plan_of}
use Rattle.replay_core.specs.Play.{instr}
use Rattle.replay_audit.specs.Determinate.{IsDeterminate}
use Rattle.replay_table.specs.declared.view.Own.{Own}
use Rattle.replay_table.specs.declared.view.View.{View}
use Rattle.replay_table.specs.Rule.{seen_of, Reached}
use Rattle.replay_table.specs.Seats.{Sitting}
use Rattle.replay_threads.specs.declared.turns.Turn.{Turn}
use Rattle.replay_threads.specs.declared.turns.Turn.TheVariants.{Ended, Waiting, Short, Raced}

-- the parts of a worker belong to the recording and the log
pub record WorksOn (w : Which) (r : Recording) (which : Which) (recording : Recording) : Type 0 where
  pub valid : Valid r
  pub which_is : which ≡ w
  pub recording_is : recording ≡ r

-- ---- what moves

-- the same core of the same table, which has retired no fewer instructions; done words were loaded no fewer times, and
-- no fewer exchanges have failed
pub record Continues (x y : Sitting) : Type 0 where
  pub table : y.table_id ≡ x.table_id
  pub core : y.core.id ≡ x.core.id
  pub count : x.core.count ≤ y.core.count
  pub polls : (c : ℕ) → slice_index x.view.polls c ≤ slice_index y.view.polls c
  pub failed : x.view.failed ≤ y.view.failed

-- done words were loaded, and the core's count may have been published; nothing retired and nothing failed
pub record Looks (x y : Sitting) : Type 0 where
  pub goes_on : Continues x y
  pub core : y.core ≡ x.core

-- the core's count was published, which changes nothing that a turn's end speaks of
pub record Publishes (x y : Sitting) : Type 0 where
  pub core : y.core ≡ x.core
  pub seen : y.view.seen ≡ x.view.seen
  pub polls : y.view.polls ≡ x.view.polls
  pub failed : y.view.failed ≡ x.view.failed

-- how much the seen counts may still rise, added up
abbrev pub to_see : View → ℕ
to_see v = sum_by (λ n. 2 ^ 32 - n) v.seen

-- some replay order plays, and leaves of the seat's core what the seat has
pub record IsReached (which : Which) (r : Recording) (y : Sitting) : Type 0 where
  pub own : Own
  pub core : own.core ≡ y.core
  pub loads : own.loads ≡ y.loads
  pub touched : own.touched ≡ y.touched
  pub reached : Reached (plan_of which r) (seen_of y.view) own

-- ---- how a turn ends

-- the core is at its total
abbrev pub HasEnded : Recording → Sitting → Type 0
HasEnded r x = x.core.count ≡ slice_index r.totals x.core.id

-- the core's next instruction has this logged source, which isn't seen after at least 64 loads of its core's done word
pub record Awaits (which : Which) (r : Recording) (of : Instr) (x y : Sitting) : Type 0 where
  pub source : HasEdge which r of (instr y.core.id (y.core.count + 1))
  pub unseen : seen_of y.view of.core < of.count
  pub loads : slice_index x.view.polls of.core + 64 ≤ slice_index y.view.polls of.core

-- the core's program is done below its total, which no determinate recording has
pub record FallsShort (which : Which) (r : Recording) (y : Sitting) : Type 0 where
  pub below : y.core.count < slice_index r.totals y.core.id
  pub done : is_done (need (recorded_image r) y.core) ≡ true
  pub undetermined : IsDeterminate which r → ⊥

-- an exchange has failed, which none does where the recording is determinate
pub record HasRaced (which : Which) (r : Recording) (x y : Sitting) : Type 0 where
  pub failed : x.view.failed < y.view.failed
  pub undetermined : IsDeterminate which r → ⊥

-- why the turn from x to y ends
abbrev pub EndsBy : Which → Recording → (x : Sitting) → Turn → (y : Sitting) → Type 0
EndsBy which r x Ended y = HasEnded r y
EndsBy which r x (Waiting of) y = Awaits which r of x y
EndsBy which r x Short y = FallsShort which r y
EndsBy which r x Raced y = HasRaced which r x y
