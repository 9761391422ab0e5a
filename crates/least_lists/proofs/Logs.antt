-- The reduced log of a recording with the lists of the covering pairs.
use Rattle.std.proofs.Common.{sym, subst, ℕ, List, []}
use Rattle.std.specs.Prelude.{slice_index_or}
use Rattle.std.specs.List.{Contains}
use Rattle.rtr_types.specs.Pairs.{pair_place}
use Rattle.rtr_types.specs.declared.instr.Edge.{Edge}
use Rattle.rtr_types.specs.declared.instr.Instr.{Instr}
use Rattle.rtr_types.specs.declared.pairs.Which.TheVariants.{Reduced as ReducedLog}
use Rattle.clock_core.proofs.EdgeLists.{contains_among, among_contains}
use Rattle.clock_core.specs.Order.{Among}
use Rattle.conflict_edge.proofs.TwoForms.{covering_law}
use Rattle.conflict_edge.specs.Least.{Covering}
use Rattle.race_log.proofs.SourceLaws.{edges-are-paired}
use Rattle.race_log.specs.Sources.{log_edges}
use Rattle.least_lists.proofs.LeastLists.{least_lists_law}
use Rattle.least_lists.specs.LeastLists.{LeastLogLaw}

-- a recording whose lists are those of the covering pairs has the least set as its reduced log
pub least_log : LeastLogLaw
least_log r list rise of is = (covering_law list edges rise).1 (λ x y. (to x y, back x y))
  where
    edges : List Edge
    edges = log_edges ReducedLog r

    to : (x y : Instr) → Among (log_edges ReducedLog r) x y → Covering list x y
    to x y s =
        let q = (edges-are-paired ReducedLog r x y).0 (among_contains (log_edges ReducedLog r) x y s) in
        (least_lists_law r.params.cores list rise of x y).1 (
          q.0,
          subst (λ (ls : List (List (ℕ × ℕ))). Contains (slice_index_or ls (pair_place r.params.cores x.core y.core)
              []) (x.count, y.count)) is q.1,
        )

    back : (x y : Instr) → Covering list x y → Among (log_edges ReducedLog r) x y
    back x y cover =
        let q = (least_lists_law r.params.cores list rise of x y).0 cover in
        contains_among (log_edges ReducedLog r) x y
        ((edges-are-paired ReducedLog r x y).1 (
          q.0,
          subst (λ (ls : List (List (ℕ × ℕ))). Contains (slice_index_or ls (pair_place r.params.cores x.core y.core) [])
              (x.count, y.count))
              (sym is) q.1,
        ))
