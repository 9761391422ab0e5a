-- The edges stand by rising source core, as the candidates do.
use Rattle.std.proofs.Common.{◌+◌, ◌≤◌, List, [], ◌∷◌, ℕ, arith, true, false, Bool, cond}
use Rattle.std.specs.Prelude.{map}
use Rattle.std.specs.List.{filter}
use Rattle.rtr_types.specs.declared.instr.Instr.{Instr}
use Rattle.rtr_types.specs.declared.instr.Edge.{Edge}
use Rattle.online_reduce.specs.declared.source.Source.{Source}
use Rattle.online_reduce.specs.Rule.{edge_to, is_kept}
use Rattle.online_reduce.specs.Exact.{SourcesRise}
use Rattle.online_reduce.proofs.CandidateLists.{CoresRise}
use Rattle.online_reduce.proofs.Loops.{chosen}

sources_lower : (low high : ℕ) (edges : List Edge) → low ≤ high → SourcesRise high edges → SourcesRise low edges
sources_lower low high [] le rise = tt
sources_lower low high (e ∷ edges) le rise = (let first = rise.0 in omega arith, rise.1)

pub chosen_rise : (low : ℕ) (at : Instr) (found some : List Source) → CoresRise low some
    → SourcesRise low (chosen at found some)
chosen_rise low at found [] rise = tt
chosen_rise low at found (s ∷ some) rise = by (is_kept found s.at) (chosen_rise (s.at.core + 1) at found some rise.1)
  where
    by : (b : Bool) → SourcesRise (s.at.core + 1) (chosen at found some) →
        SourcesRise low (map (edge_to at)
        (cond b (s ∷ filter (λ (r : Source). is_kept found r.at) some)
        (filter (λ (r : Source). is_kept found r.at) some)))
    by true rest = (rise.0, rest)
    by false rest = sources_lower low (s.at.core + 1) (chosen at found some) (let first = rise.0 in omega arith) rest
