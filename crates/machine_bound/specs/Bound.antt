-- How many steps a run may take. Each instruction pays for 2 P + 4 steps, P the number of cores. Of
-- these a core has earned, besides those of its retired instructions, the steps that the access under
-- way may have cost so far; what a message still brings to another core's access is owed.
use Rattle.std.specs.Prelude.{ℕ, ◌+◌, ◌*◌, ◌-◌, ◌/◌, ◌==◌, ◌≤◌, Bool, true, false, Option, Some, None, List, []}
use Rattle.std.specs.Prelude.{◌∷◌, length, if◌then◌else◌}
use Rattle.std.specs.List.{sum_by, zip}
use Rattle.access_times.specs.Riding.{Riding}
use Rattle.rtr_types.specs.declared.TheConstants.{BLOCK_WORDS}
use Rattle.image_mem.specs.Contents.{Contents}
use Rattle.rtr_types.specs.declared.access.Kind.{Kind}
use Rattle.rv_core.specs.declared.core_state.Core.{Core}
use Rattle.rv_core.specs.Steps.{need, is_done, access_of as need_access}
use Rattle.link_order.specs.Queue.{is_nil}
use Rattle.msi_cache.specs.declared.line.State.{State as LineState}
use Rattle.msi_cache.specs.declared.line.State.TheVariants.{I, S, M, IsD, ImD, SmD, MiA, SiA, IiA}
use Rattle.msi_cache.specs.declared.line.Line.{Line}
use Rattle.msi_cache.specs.declared.messages.FromHome.{FromHome}
use Rattle.msi_cache.specs.declared.messages.FromHome.TheVariants.{FwdGetS, FwdGetM, Inv, PutAck, BlockData}
use Rattle.msi_cache.specs.Lines.{line_for}
use Rattle.msi_memory.specs.declared.port.Mail.{Mail}
use Rattle.msi_memory.specs.declared.port.Port.{Port}
use Rattle.msi_state.specs.States.{State}

-- the steps that a message still brings to another core's access: its delivery, and that of its answer
abbrev pub debt : {R : Type 0} → FromHome R → ℕ
debt (FwdGetS block) = 2
debt (FwdGetM block) = 2
debt (Inv block) = 2
debt (PutAck block) = 0
debt (BlockData block words rider) = 0

abbrev pub debts : {R K : Type 0} → List (Mail (FromHome R) K) → ℕ
debts [] = 0
debts (mail ∷ rest) = debt mail.item + debts rest

-- what is owed on a port's links: a response still brings one step, its delivery
abbrev pub owed : {R K : Type 0} → Port R K → ℕ
owed p = debts p.messages.items + length p.responses.items

-- the steps that an access may have cost so far, of at most 2 P + 4: by the state of the line where its
-- block goes, whether the line holds that very block, and whether the home has taken the request
abbrev pub line_base : LineState → (same taken : Bool) → (cores : ℕ) → ℕ
line_base I same taken cores = 3
line_base S true taken cores = 3
line_base S false taken cores = 0
line_base M true taken cores = 3
line_base M false taken cores = 0
line_base IsD same true cores = 2 * cores + 3
line_base IsD same false cores = 4
line_base ImD same true cores = 2 * cores + 3
line_base ImD same false cores = 4
line_base SmD same true cores = 2 * cores + 3
line_base SmD same false cores = 4
line_base MiA same taken cores = if taken then 2 else 1
line_base SiA same taken cores = if taken then 2 else 1
line_base IiA same taken cores = if taken then 2 else 1

module _ {R : Type 0} where
  abbrev pub block_base : Line R → (block : ℕ) → (taken : Bool) → (cores : ℕ) → ℕ
  block_base line block taken cores = line_base line.state (line.block == block) taken cores

-- the steps that a core's instructions can pay for
abbrev pub capacity : (cores : ℕ) → Core → ℕ
capacity cores core = (2 * cores + 4) * core.limit

module _ {R K : Type 0} where
  -- the steps that a core's next instruction may have cost so far, by the access that the core needs and
  -- whether its program is done
  abbrev pub base_in : Option (Kind × ℕ) → (done : Bool) → Riding R → (cores : ℕ) → Port R K → ℕ
  base_in (Some (kind, word)) done riding cores p =
      let block = word / BLOCK_WORDS in
      block_base (line_for riding.fresh p.cache block) block (is_nil p.requests.items) cores
  base_in None true riding cores p = 0
  base_in None false riding cores p = 3

  -- the steps that a core's instructions have paid for, the core with its port
  abbrev pub earned : Contents → Riding R → (cores : ℕ) → Core × Port R K → ℕ
  earned image riding cores (core, p) =
      let needed = need image core in
      (2 * cores + 4) * core.count + base_in (need_access needed) (is_done needed) riding cores p

  abbrev pub total_owed : State R K → ℕ
  total_owed s = sum_by owed s.memory.ports

  abbrev pub total_earned : Riding R → State R K → ℕ
  total_earned riding s = sum_by (earned s.image riding (length s.cores)) (zip s.cores s.memory.ports)

  -- how many instructions have retired
  abbrev pub total_retired : State R K → ℕ
  total_retired s = sum_by (λ core. core.count) s.cores

  -- at most so many steps are to come
  abbrev pub left : Riding R → State R K → ℕ
  left riding s = sum_by (capacity (length s.cores)) s.cores + total_owed s - total_earned riding s

  -- a step from s to t is paid for
  abbrev pub Earns : Riding R → State R K → State R K → Type 0
  Earns riding s t = total_earned riding s + total_owed t + 1 ≤ total_earned riding t + total_owed s
