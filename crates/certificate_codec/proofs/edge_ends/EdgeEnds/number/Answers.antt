use Rattle.std.proofs.Common.{◌≡◌, ◌≤◌, ℕ, leb, rules, subst, sym, length, List, true, false}
use Rattle.std.specs.Prelude.{slice_index}
use Rattle.std.specs.List.Sorted.{IsNonDecreasingBy, IsPartitionPoint}
use Rattle.std.proofs.lemmas.List.Sorted.{IsPartitionPoint-from_clause, IsPartitionedBy-leb}
use Rattle.clock_entries.proofs.Numbers.{counted, ends_fall_not}
use Rattle.certificate_codec.specs.Ends.{reduced_edges}
use Rattle.certificate_codec.proofs.edge_ends.EdgeEnds.number.Goals as goal

pub returns : goal.returns
returns c =
    let r = c.args.self.now in
    let core = c.args.at.core in
    let most = c.args.at.count in
    let total = slice_index r.totals core in
    let is = c.of_core.ensures in
    let f = c.partition_point.ensures in
    let rise : IsNonDecreasingBy (λ (x : ℕ). x) c.of_core.result.now =
    subst (λ (l : List ℕ). IsNonDecreasingBy (λ (x : ℕ). x) l) (sym is) (ends_fall_not (reduced_edges r) core total) in
    let parted = IsPartitionPoint-from_clause (λ v. leb v most) c.of_core.result.now c.partition_point.result
    f.partitioned
    (IsPartitionedBy-leb (λ (v : ℕ). v) c.of_core.result.now most rise) (λ a r g called. search rules) in
    let place = c.partition_point.result in
    counted (reduced_edges r) core most total place c.requires.count
    (subst (λ (l : List ℕ). place ≤ length l) is f.bound)
    (subst (λ (l : List ℕ). IsPartitionPoint (λ v. leb v most ≡ true) (λ v. leb v most ≡ false) l place) is parted)
