-- How many places each core has in the order of retirement: as many as it has retired instructions.
use Rattle.std.proofs.Common.{◌≡◌, ◌∙◌, sym, ap, ℕ, zero, suc, ◌+◌, ◌<◌, ◌≤◌, ◌^◌, ◌==◌, List, [], ◌∷◌, Option, Some}
use Rattle.std.proofs.Common.{None, inl, inr}
use Rattle.std.specs.Prelude.{map, if◌then◌else◌}
use Rattle.std.specs.List.{range_with_len}
use Rattle.std.proofs.lemmas.Bool.{cases_eq}
use Rattle.std.proofs.lemmas.List.{map-append}
use Rattle.image_mem.specs.Contents.{Contents}
use Rattle.rtr_types.specs.declared.TheConstants.{CORES_MAX}
use Rattle.rtr_types.specs.declared.access.Kind.{Kind}
use Rattle.rtr_types.specs.declared.instr.Instr.{Instr}
use Rattle.rtr_types.specs.declared.params.Params.{Params}
use Rattle.rv_core.specs.declared.core_state.Core.{Core}
use Rattle.rv_core.specs.States.{starting}
use Rattle.rv_core.proofs.LawLemmas.{start_law}
use Rattle.msi_state.specs.Events.{Event, Nothing, Retires, Accesses}
use Rattle.msi_state.specs.Runs.{event_at, retired_in, retirements}
use Rattle.replay_core.specs.Orders.{bump, counts, nought}
use Rattle.replay_core.proofs.Counts.{bump_same, bump_else, counts_on}
use Rattle.run_outcome.specs.Retirement.{retired_count}
use Rattle.run_outcome.proofs.RetiredCounts.{core_counts, other_counts, own_count}
use Rattle.run_outcome.proofs.RunCores.{cores_at, event_cores}
use Rattle.run_outcome.proofs.CoreMoves.{CoresAfter, Retiring}
use Rattle.run_replays.specs.Orders.{cores_of}
use Rattle.run_replays.proofs.RunPlay.{order_at}

retiring_counts : (image : Contents) (old new : List Core) (at : Instr) (used : Option (Kind × ℕ)) (found : ℕ)
    → Retiring image old at used found new → (c : ℕ) → core_counts new c ≡ bump (core_counts old) at.core c
retiring_counts image old new at used found h c = elim (cases_eq c at.core) [
  | inl same ↦
      ap (core_counts new) same
      ∙ own_count image old new at used found h
      ∙ ap (λ d. core_counts old d + 1) (sym same)
      ∙ sym (bump_same (core_counts old) at.core c same)
  | inr other ↦ other_counts image old new at used found h c other ∙ sym (bump_else (core_counts old) at.core c other)
]

event_counts : (image : Contents) (old new : List Core) (e : Event) → CoresAfter image old e new → (c : ℕ)
    → core_counts new c ≡ counts (core_counts old) (cores_of (retired_in e)) c
event_counts image old new Nothing h c = ap (λ (l : List Core). core_counts l c) h
event_counts image old new (Retires at) h c = retiring_counts image old new at None 0 h c
event_counts image old new (Accesses a) h c =
    retiring_counts image old new a.at (Some (a.kind, a.word)) a.before h.retires c

counts_same : (f g : ℕ → ℕ) (xs : List ℕ) → ((c : ℕ) → f c ≡ g c) → (c : ℕ) → counts f xs c ≡ counts g xs c
counts_same f g [] same c = same c
counts_same f g (x ∷ xs) same c =
    counts_same (bump f x) (bump g x) xs (λ d. ap (λ n. if d == x then n + 1 else n) (same d)) c

start_counts : (limit : ℕ) (ids : List ℕ) (c : ℕ)
    → core_counts (map (λ id. starting id limit) ids) c ≡ 0
start_counts limit [] c = (start_law 0 0).2
start_counts limit (id ∷ ids) zero = (start_law id limit).2
start_counts limit (id ∷ ids) (suc c) = start_counts limit ids c

pub order_counts : (image : Contents) (params : Params) (choices : ℕ → ℕ) (t : ℕ) → params.cores ≤ CORES_MAX
    → params.limit < 2 ^ 32 → (c : ℕ)
    → retired_count image params choices t c ≡ counts nought (order_at image params choices t) c
order_counts image params choices zero few small c = start_counts params.limit (range_with_len 0 params.cores) c
order_counts image params choices (suc t) few small c =
    let e : Event = event_at image params choices t in
    let now : List Core = cores_at image params choices t in
    event_counts image now (cores_at image params choices (suc t)) e (event_cores image params choices t few small) c
    ∙ counts_same (core_counts now) (counts nought (order_at image params choices t)) (cores_of (retired_in e))
    (order_counts image params choices t few small) c
    ∙ ap (λ (f : ℕ → ℕ). f c) (sym (counts_on nought (order_at image params choices t) (cores_of (retired_in e))))
    ∙ ap (λ (order : List ℕ). counts nought order c)
    (sym (map-append (λ (at : Instr). at.core) (retirements image params choices t) (retired_in e)))
