-- What holds of what an event tells, by its parts: an instruction that touches no data, and those behind a head that
-- leaves.
use Rattle.std.proofs.Common.{ℕ, ◌+◌, ◌-◌, Bool, true, false, List, [], ◌∷◌, ◌++◌}
use Rattle.std.specs.Prelude.{drop, map, if◌then◌else◌}
use Rattle.std.specs.List.{range_with_len}
use Rattle.link_order.specs.Queue.{is_nil}
use Rattle.rtr_types.specs.declared.instr.Instr.{Instr}
use Rattle.rv_core.specs.declared.core_state.Core.{Core}
use Rattle.tso_state.specs.declared.pending.Pending.{Pending}
use Rattle.tso_state.specs.Events.{Event, Nothing, Executes, Buffers, Performs, Drains, Logs, Told, Alone, Ordered}
use Rattle.tso_state.specs.Events.{Logged, count_before, locals_behind, tellings}
use Rattle.tso_state.specs.States.{BufferedCore}
use Rattle.tso_told.specs.Played.{AreInside}

-- of what is of the cores, the later part is
pub inside_last : (n : ℕ) (xs ys : List Told) → AreInside n (xs ++ ys) → AreInside n ys
inside_last n [] ys h = h
inside_last n (x ∷ xs) ys h = inside_last n xs ys h.1

-- what holds where nothing is told, and with one more instruction alone, holds of those behind
pub behind_have : (P : List Told → Type 0) → P [] → ((at : Instr) (list : List Told) → P list → P (Alone at ∷ list)) →
    (core : Core) (count : ℕ) (queue : List Pending) → P (locals_behind core count queue)
behind_have P none more core count queue = each (range_with_len (count + 1) (count_before core queue - count))
  where
    each : (ns : List ℕ) → P (map (λ n. Alone (record { core = core.id; count = n })) ns)
    each [] = none
    each (n ∷ ns) = more (record { core = core.id; count = n })
        (map (λ n. Alone (record { core = core.id; count = n })) ns) (each ns)

-- what holds of one that is told, and where nothing is, holds where it is told or not
pub if_told : (P : List Told → Type 0) (b : Bool) (x : Told) → P (x ∷ []) → P [] → P (if b then x ∷ [] else [])
if_told P true x one none = one
if_told P false x one none = none

-- what holds where nothing is told, of one alone, and of one with those behind it, holds of what an event tells
pub each_telling : (P : List Told → Type 0) → P [] → ((x : Told) → P (x ∷ [])) →
    ((x : Told) (core : Core) (count : ℕ) (queue : List Pending) → P (x ∷ locals_behind core count queue)) →
    (t : BufferedCore) (e : Event) → P (tellings t e)
each_telling P none one more t Nothing = none
each_telling P none one more t (Executes at) = if_told P (is_nil t.queue) (Alone at) (one (Alone at)) none
each_telling P none one more t (Buffers at x) = none
each_telling P none one more t (Performs a) = one (Ordered a)
each_telling P none one more t (Drains a) = more (Ordered a) t.core a.at.count (drop 1 t.queue)
each_telling P none one more t (Logs at word value) = more (Logged at word value) t.core at.count (drop 1 t.queue)
