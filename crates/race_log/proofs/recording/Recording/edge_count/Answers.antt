use Rattle.std.proofs.Common.{◌≡◌, ◌∙◌, sym, ap, ℕ, List, length}
use Rattle.std.specs.Prelude.{sum_by}
use Rattle.rtr_types.specs.declared.pairs.Which.{Which}
use Rattle.rtr_types.specs.declared.pairs.Which.TheVariants.{Reduced, Regulated}
use Rattle.race_log.specs.Counts.{edge_count_of, position_count}
use Rattle.race_log.specs.Sources.{log_edges}
use Rattle.race_log.specs.Validity.{Valid}
use Rattle.race_log.specs.declared.recording.Recording.{Recording}
use Rattle.race_log.proofs.CountedEdges.{edges_fit, positions_fit}
use Rattle.race_log.proofs.EdgeCounts.{edges-counted}
use Rattle.race_log.proofs.recording.Recording.edge_count.Goals as goal

pub item_count-requires : goal.item_count-requires
item_count-requires c = rw c.as_slice.ensures (edges_fit c.args.self.now c.requires)

pub positions_of_all-requires : goal.positions_of_all-requires
positions_of_all-requires c = rw c.as_slice-in-Regulated.ensures (positions_fit c.args.self.now c.requires)

-- the chosen log has as many edges as its list
listed : (chosen which : Which) (r : Recording) (result : ℕ) → Valid r → chosen ≡ which → result ≡ edge_count_of which r
    → result ≡ length (log_edges chosen r)
listed chosen which r result valid is counted =
    counted ∙ sym (edges-counted which r valid) ∙ ap (λ (w : Which). length (log_edges w r)) (sym is)

pub returns-in-Reduced-clause-listed : goal.returns-in-Reduced-clause-listed
returns-in-Reduced-clause-listed c =
    listed c.args.which Reduced c.args.self.now c.item_count.result c.requires c.in-Reduced.is
    (c.item_count.ensures ∙ ap (sum_by (λ (edges : List (ℕ × ℕ)). length edges)) c.as_slice.ensures)

pub returns-in-Regulated-clause-listed : goal.returns-in-Regulated-clause-listed
returns-in-Regulated-clause-listed c =
    listed c.args.which Regulated c.args.self.now c.positions_of_all.result c.requires c.in-Regulated.is
    (c.positions_of_all.ensures ∙ ap (sum_by position_count) c.as_slice-in-Regulated.ensures)
