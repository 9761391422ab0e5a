use Rattle.std.proofs.Common.{rules, arith, ℕ, List}
use Rattle.std.specs.Prelude.{slice_index}
use Rattle.std.proofs.lemmas.List.FromFn.{map-range_with_len_more}
use Rattle.clock_entries.specs.Ends.{ends_to}
use Rattle.certificate_codec.specs.Ends.{reduced_edges}
use Rattle.certificate_codec.proofs.edge_ends.ends_of.Goals as goal

pub loop-core-preserved : goal.loop-core-preserved
loop-core-preserved c =
    let ends_at : ℕ → List ℕ =
    λ k. ends_to (reduced_edges c.args.recording.now) k (slice_index c.args.recording.now.totals k) in
    let more = map-range_with_len_more ends_at 0 c.loop-core.core c.loop-core.core (omega arith) in
    search (rules, more)
