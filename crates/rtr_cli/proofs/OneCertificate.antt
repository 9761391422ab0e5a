-- A recording has one certificate with exact clocks.
use Rattle.std.proofs.Common.{◌≡◌, ◌∙◌, ℕ, suc, ◌+◌, ◌<◌, List, [], length, get_or, refl, sym, ap, subst, arith}
use Rattle.std.specs.Prelude.{slice_index}
use Rattle.rtr_types.specs.declared.instr.Edge.{Edge}
use Rattle.rtr_types.specs.declared.instr.Instr.{Instr}
use Rattle.clock_core.proofs.Reach.{one_clock_law}
use Rattle.clock_entries.specs.Ends.{Clocks, IsEnd, ends_to, entry_at, entry_of, instr}
use Rattle.clock_entries.proofs.Numbers.{at_low}
use Rattle.log_codec.specs.CoreCounts.{AreCounts}
use Rattle.race_log.specs.Validity.{Valid}
use Rattle.race_log.specs.declared.recording.Recording.{Recording}
use Rattle.race_log.proofs.InTurn.{stand-places}
use Rattle.certificate_codec.specs.Ends.{end_count, reduced_edges}
use Rattle.certificate_codec.specs.Validity.{AreEntries, IsCertificate}
use Rattle.certificate_codec.specs.declared.certificate.Certificate.{Certificate}
use Rattle.min_certificate.specs.Answers.{Certifies}
use Rattle.min_certificate.specs.Places.{AreExactIn}
use Rattle.min_certificate.proofs.First.{IsListed, end_number}
use Rattle.rtr_cli.proofs.ItemLists.{each_stands, same_items}

abbrev with_clocks : Recording → Clocks → Certificate
with_clocks r clocks = record { recording = r; clocks = clocks }

-- these clocks of the recording can be spelled, and are exact
record AreClocks (r : Recording) (clocks : Clocks) : Type 0 where
  certificate : IsCertificate (with_clocks r clocks)
  exact : AreExactIn (with_clocks r clocks)

clocks_of : (r : Recording) (c : Certificate) → Certifies r c → AreClocks r c.clocks
clocks_of r c h = subst (λ (q : Recording). AreClocks q c.clocks) h.recording (record {
  certificate = h.certificate;
  exact = h.exact;
})

-- a core's entries
entries_of : (r : Recording) (clocks : Clocks) → AreClocks r clocks → (core : ℕ) → core < r.params.cores
    → AreEntries r core (get_or clocks core [])
entries_of r clocks h core inside =
    let all = h.certificate.each_core in
    let same : 0 + core ≡ core = omega arith in
    subst (λ (c : ℕ). AreEntries r c (get_or clocks core [])) same
    (stand-places (AreEntries r) 0 clocks h.certificate.entries core [] (omega arith))

module _ (r : Recording) (first second : Clocks) (a : AreClocks r first) (b : AreClocks r second) where
  -- at the k-th end of a core both are the clock of that end
  same_count : (core k i : ℕ) → core < r.params.cores → k < end_count r core
      → get_or (get_or (get_or first core []) k []) i 0 ≡ get_or (get_or (get_or second core []) k []) i 0
  same_count core k i inside lt =
      let edges : List Edge = reduced_edges r in
      let ends : List ℕ = ends_to (reduced_edges r) core (slice_index r.totals core) in
      let listed : IsListed r core k ends = record {
        valid = a.certificate.recording;
        core = inside;
        is = refl;
        lt =
            lt;
      } in
      let x : Instr = instr core (get_or ends k 0) in
      let number : length (ends_to (reduced_edges r) core (get_or ends k 0)) ≡ suc k =
      let n = end_number r core k ends listed in omega arith in
      let end : IsEnd (reduced_edges r) x = (at_low (reduced_edges r) core (slice_index r.totals core) k lt).2 in
      let same = one_clock_law (reduced_edges r) x (entry_of edges first x) (entry_of edges second x) (a.exact x end)
      (b.exact x end) i in
      subst (λ (n : ℕ). get_or (entry_at first core n) i 0 ≡ get_or (entry_at second core n) i 0) number same

  same_entry : (core k : ℕ) → core < r.params.cores → k < end_count r core
      → get_or (get_or first core []) k [] ≡ get_or (get_or second core []) k []
  same_entry core k inside lt =
      let p = entries_of r first a core inside in
      let q = entries_of r second b core inside in
      let p_long = (each_stands (AreCounts r.totals) (get_or first core []) p.each k [] (let n = p.number in omega
      arith)).each_core in
      let q_long = (each_stands (AreCounts r.totals) (get_or second core []) q.each k [] (let n = q.number in omega
      arith)).each_core in
      same_items 0 (get_or (get_or first core []) k []) (get_or (get_or second core []) k []) (p_long ∙ sym q_long)
      (λ i within. same_count core k i inside lt)

  same_clocks : first ≡ second
  same_clocks = same_items [] first second (a.certificate.each_core ∙ sym b.certificate.each_core) each
    where
      each : (core : ℕ) → core < length first → get_or first core [] ≡ get_or second core []
      each core lt =
          let all = a.certificate.each_core in
          let inside : core < r.params.cores = omega arith in
          let p = (entries_of r first a core inside).number in
          let q = (entries_of r second b core inside).number in
          same_items [] (get_or first core []) (get_or second core []) (p
          ∙ sym q) (λ k within. same_entry core k inside (omega arith))

pub one_certificate : (r : Recording) (c d : Certificate) → Certifies r c → Certifies r d → c ≡ d
one_certificate r c d made also =
    ap (λ (q : Recording). with_clocks q c.clocks) made.recording
    ∙ ap (λ (clocks : Clocks). with_clocks r clocks) (same_clocks r c.clocks d.clocks (clocks_of r c made) (clocks_of
    r d also))
    ∙ sym (ap (λ (q : Recording). with_clocks q d.clocks) also.recording)
