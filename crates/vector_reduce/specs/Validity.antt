-- Which thinned recordings have a spelling.
use Rattle.std.specs.Prelude.{◌≡◌, ℕ, ◌<◌, ◌^◌, List, length, map, take, slice_index}
use Rattle.std.specs.List.{range_with_len}
use Rattle.rtr_types.specs.declared.TheConstants.{CORES_MAX}
use Rattle.rtr_types.specs.declared.cut.Cut.{Cut}
use Rattle.rtr_types.specs.Turns.{StandInTurn, stay}
use Rattle.log_codec.specs.CoreCounts.{AreCounts}
use Rattle.race_log.specs.Validity.{Valid}
use Rattle.vector_reduce.specs.declared.thinned.Shown.{Shown}
use Rattle.vector_reduce.specs.declared.thinned.Thinned.{Thinned}
use Rattle.vector_reduce.specs.Vectors.{vectors_of}

-- the cut with these counts, one for each core, and 0 at the other places
abbrev pub cut_of : List ℕ → Cut
cut_of counts = record {
  cores = length counts;
  counts = map (λ core. slice_index counts core) (range_with_len 0 CORES_MAX);
}

-- a count of each core of the cut
abbrev pub counts_of : Cut → List ℕ
counts_of cut = take cut.cores cut.counts

-- the edge's number is any that can be spelled, and the cut has a count of each core, at most its total
pub record ShownStands (totals : List ℕ) (s : Unit {0}) (x : Shown) : Type 0 where
  pub edge : x.edge < 2 ^ 32
  pub cut : x.cut ≡ cut_of (counts_of x.cut)
  pub counts : AreCounts totals (counts_of x.cut)

-- the thinned recording has a spelling
pub record IsThin (t : Thinned) : Type 0 where
  pub recording : Valid t.recording
  pub each_vector : length t.shown ≡ length (vectors_of t.recording)
  pub shown : StandInTurn (ShownStands t.recording.totals) stay tt t.shown
