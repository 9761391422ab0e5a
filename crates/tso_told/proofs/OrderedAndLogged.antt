-- The accesses that a run orders, and the loads that it logs, are those that are told.
use Rattle.std.proofs.Common.{◌≡◌, ◌∙◌, ap, refl, sym, ℕ, List, [], ◌∷◌, ◌++◌, Option}
use Rattle.std.proofs.Common.{Some, None, zero, suc}
use Rattle.std.specs.Prelude.{drop}
use Rattle.access_times.specs.Riding.{none_riding, none_carrying}
use Rattle.image_mem.specs.Contents.{Contents}
use Rattle.link_order.specs.Queue.{is_nil}
use Rattle.rtr_types.specs.declared.access.Access.{Access}
use Rattle.rtr_types.specs.declared.params.Params.{Params}
use Rattle.rv_core.specs.declared.core_state.Core.{Core}
use Rattle.tso_state.specs.declared.moves.Move.{Move}
use Rattle.tso_state.specs.declared.pending.Pending.{Pending}
use Rattle.tso_state.specs.Events.{Event, Nothing, Executes, Buffers, Performs, Drains, Logs, Told, Alone, Ordered}
use Rattle.tso_state.specs.Events.{Logged, locals_behind, tellings}
use Rattle.tso_state.specs.Moves.{core_of}
use Rattle.tso_state.specs.Runs.{LoggedLoad, accesses, all_told, chosen, event_at, event_by, logged_in}
use Rattle.tso_state.specs.Runs.{logged_loads, ordered_in, run, told_by}
use Rattle.tso_state.specs.States.{PlainState, BufferedCore, core_at}
use Rattle.tso_state.specs.Steps.{event}
use Rattle.tso_told.specs.Played.{logged_told, ordered_told}
use Rattle.tso_told.proofs.Tellings.{behind_have, if_told}

pub ordered-append : (xs ys : List Told) → ordered_told (xs ++ ys) ≡ ordered_told xs ++ ordered_told ys
ordered-append [] ys = refl
ordered-append (Alone at ∷ xs) ys = ordered-append xs ys
ordered-append (Ordered a ∷ xs) ys = ap (λ (l : List Access). a ∷ l) (ordered-append xs ys)
ordered-append (Logged at word value ∷ xs) ys = ordered-append xs ys

logged-append : (xs ys : List Told) → logged_told (xs ++ ys) ≡ logged_told xs ++ logged_told ys
logged-append [] ys = refl
logged-append (Alone at ∷ xs) ys = logged-append xs ys
logged-append (Ordered a ∷ xs) ys = logged-append xs ys
logged-append (Logged at word value ∷ xs) ys =
    let x : LoggedLoad = record { at = at; value = value } in ap (λ (l : List LoggedLoad). x ∷ l) (logged-append xs ys)

pub none_ordered : (core : Core) (count : ℕ) (queue : List Pending) → ordered_told (locals_behind core count queue) ≡ []
none_ordered = behind_have (λ (l : List Told). ordered_told l ≡ []) refl (λ at l h. h)

none_logged : (core : Core) (count : ℕ) (queue : List Pending) → logged_told (locals_behind core count queue) ≡ []
none_logged = behind_have (λ (l : List Told). logged_told l ≡ []) refl (λ at l h. h)

pub event_ordered : (t : BufferedCore) (e : Event) → ordered_told (tellings t e) ≡ ordered_in e
event_ordered t Nothing = refl
event_ordered t (Executes at) = if_told (λ (l : List Told). ordered_told l ≡ []) (is_nil t.queue) (Alone at) refl refl
event_ordered t (Buffers at x) = refl
event_ordered t (Performs a) = refl
event_ordered t (Drains a) = ap (λ (l : List Access). a ∷ l) (none_ordered t.core a.at.count (drop 1 t.queue))
event_ordered t (Logs at word value) = none_ordered t.core at.count (drop 1 t.queue)

event_logged : (t : BufferedCore) (e : Event) → logged_told (tellings t e) ≡ logged_in e
event_logged t Nothing = refl
event_logged t (Executes at) = if_told (λ (l : List Told). logged_told l ≡ []) (is_nil t.queue) (Alone at) refl refl
event_logged t (Buffers at x) = refl
event_logged t (Performs a) = refl
event_logged t (Drains a) = none_logged t.core a.at.count (drop 1 t.queue)
event_logged t (Logs at word value) =
    let x : LoggedLoad = record { at = at; value = value } in
    ap (λ (l : List LoggedLoad). x ∷ l) (none_logged t.core at.count (drop 1 t.queue))

-- A part of what is told that is, event by event, what a run gathers, is what it has gathered.
gathered_told : {X : Type 0} (part : List Told → List X) (kind : Event → List X) (image : Contents) (params : Params)
    (choices : ℕ → ℕ) (gathered : ℕ → List X) → part [] ≡ gathered 0 →
    ((t : ℕ) → gathered (suc t) ≡ gathered t ++ kind (event_at image params choices t)) → part [] ≡ kind Nothing →
    ((xs ys : List Told) → part (xs ++ ys) ≡ part xs ++ part ys) →
    ((c : BufferedCore) (e : Event) → part (tellings c e) ≡ kind e) → (t : ℕ) →
    part (all_told image params choices t) ≡ gathered t
gathered_told part kind image params choices gathered start more none appended told zero = start
gathered_told {X = X} part kind image params choices gathered start more none appended told (suc t) =
    let s : PlainState = run image params choices t in
    let taken : Option Move = chosen s (choices t) in
    appended (all_told image params choices t) (told_by s taken)
    ∙ (ap (λ (l : List X). l ++ part (told_by s taken)) (gathered_told part kind image params choices gathered start
    more none appended told t)
    ∙ (ap (λ (l : List X). gathered t ++ l) (by_taken s taken) ∙ sym (more t)))
  where
    by_taken : (s : PlainState) (o : Option Move) → part (told_by s o) ≡ kind (event_by s o)
    by_taken s None = none
    by_taken s (Some m) = told (core_at s.cores (core_of m)) (event none_riding none_carrying s m)

pub accesses_told : (image : Contents) (params : Params) (choices : ℕ → ℕ) (t : ℕ) →
    ordered_told (all_told image params choices t) ≡ accesses image params choices t
accesses_told image params choices =
    gathered_told ordered_told ordered_in image params choices (accesses image params choices) refl (λ t. refl) refl
    ordered-append event_ordered

pub loads_told : (image : Contents) (params : Params) (choices : ℕ → ℕ) (t : ℕ) →
    logged_told (all_told image params choices t) ≡ logged_loads image params choices t
loads_told image params choices =
    gathered_told logged_told logged_in image params choices (logged_loads image params choices) refl (λ t. refl) refl
    logged-append event_logged
