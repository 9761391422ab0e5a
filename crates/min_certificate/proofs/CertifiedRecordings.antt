-- What certificates of determinate recordings show.
use Rattle.std.proofs.Common.{inl, inr, ◌⊎◌, ◌≡◌, ◌≤◌, arith}
use Rattle.std.specs.Prelude.{slice_index}
use Rattle.std.proofs.Math.Nat.{eq-zero-or-pos}
use Rattle.rtr_types.specs.declared.instr.Instr.{Instr}
use Rattle.rtr_types.specs.declared.pairs.Which.TheVariants.{Reduced}
use Rattle.clock_core.specs.Order.{Among}
use Rattle.race_log.specs.declared.recording.Recording.{Recording}
use Rattle.race_log.specs.Validity.{Valid}
use Rattle.clock_entries.specs.Ends.{instr, IsEnd}
use Rattle.clock_entries.proofs.LastEntries.{last_entry_law, end_edge}
use Rattle.clock_entries.proofs.Exact.{exact_is_good, implied_law}
use Rattle.clock_entries.proofs.Least.{good_shows_least, least_is_needed, amiss_law}
use Rattle.replay_audit.specs.Determinate.{low_accesses}
use Rattle.replay_audit.proofs.Logs.{recorded_log, leads_back}
use Rattle.certificate_codec.specs.Ends.{reduced_edges, IsWithin}
use Rattle.min_certificate.specs.Places.{entry_in, IsKnownOtherwiseIn}
use Rattle.min_certificate.specs.Laws.{IsConflictIn, IsAmissIn, PassedIsLeastLaw, LeastPassesLaw, NotLeastLaw}
use Rattle.min_certificate.specs.Laws.{AmissByEntriesLaw, ExactFitsLaw}
use Rattle.min_certificate.proofs.Lows.{low_rise, low_acyclic}
use Rattle.replay_core.proofs.Sources.{edge_within}

pub passed_is_least : PassedIsLeastLaw
passed_is_least c valid d p =
    good_shows_least (low_accesses Reduced c.recording) (reduced_edges c.recording) (entry_in c) (low_rise c.recording)
    (recorded_log Reduced c.recording valid) (last_entry_law (reduced_edges c.recording) c.clocks) p.conflicts
    d.suffices p.good p.needed

pub least_passes : LeastPassesLaw
least_passes c valid d l exact = record {
  conflicts = l.conflict;
  good = exact_is_good (reduced_edges c.recording) (entry_in c) (recorded_log Reduced c.recording valid)
      (low_acyclic c.recording valid d)
      (last_entry_law (reduced_edges c.recording) c.clocks) exact;
  needed = least_is_needed (low_accesses Reduced c.recording) (reduced_edges c.recording) (entry_in c)
      (low_rise c.recording)
      (recorded_log Reduced c.recording valid) (low_acyclic c.recording valid d)
      (last_entry_law (reduced_edges c.recording) c.clocks) exact l;
}

pub not_least : NotLeastLaw
not_least r valid d = amiss_law (low_accesses Reduced r) (reduced_edges r) (low_rise r) d.suffices

pub amiss_by_entries : AmissByEntriesLaw
amiss_by_entries c x y valid d exact a = (to, back)
  where
    to : IsAmissIn c.recording x y → (IsConflictIn c.recording x y → ⊥) ⊎ IsKnownOtherwiseIn c x y
    to (inl f) = inl f
    to (inr p) = inr ((implied_law (reduced_edges c.recording) (entry_in c) x y (recorded_log Reduced c.recording valid)
        (low_acyclic c.recording valid d)
        (last_entry_law (reduced_edges c.recording) c.clocks) exact a).0 p)

    back : (IsConflictIn c.recording x y → ⊥) ⊎ IsKnownOtherwiseIn c x y → IsAmissIn c.recording x y
    back (inl f) = inl f
    back (inr k) = inr ((implied_law (reduced_edges c.recording) (entry_in c) x y
        (recorded_log Reduced c.recording valid) (low_acyclic c.recording valid d)
        (last_entry_law (reduced_edges c.recording) c.clocks) exact a).1 k)

-- ---- exact entries fit

-- an edge end lies within the recording
pub end_within : (r : Recording) (x : Instr) → Valid r → IsEnd (reduced_edges r) x → IsWithin r x
end_within r x valid end = by (end_edge (reduced_edges r) x end)
  where
    by : (y : Instr) × (Among (reduced_edges r) x y ⊎ Among (reduced_edges r) y x) → IsWithin r x
    by (y, inl a) = let w = edge_within Reduced r x y valid a in record { core = w.pair.source; count = w.source_most }
    by (y, inr a) = let w = edge_within Reduced r y x valid a in record { core = w.pair.target; count = w.target_most }

-- what leads to an instruction within the totals is within them
pub totals_closed : (r : Recording) → Valid r → (x y : Instr) → Among (reduced_edges r) x y →
    y.count ≤ slice_index r.totals y.core →
    x.count ≤ slice_index r.totals x.core
totals_closed r valid x y a le = (edge_within Reduced r x y valid a).source_most

pub exact_fits : ExactFitsLaw
exact_fits c x i valid exact end = by (eq-zero-or-pos (entry_in c x i))
  where
    by : (entry_in c x i ≡ 0) ⊎ (1 ≤ entry_in c x i) → entry_in c x i ≤ slice_index c.recording.totals i
    by (inl e) = omega arith
    by (inr pos) =
        leads_back (reduced_edges c.recording) (λ k. slice_index c.recording.totals k) (instr i (entry_in c x i)) x
        (totals_closed c.recording valid)
        ((exact x end (instr i (entry_in c x i)) pos).0 (omega arith)) (end_within c.recording x valid end).count
