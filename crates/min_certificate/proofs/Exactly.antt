-- Exact clocks at edge ends make a certificate.
use Rattle.std.proofs.Common.{inl, inr, ◌≡◌, ◌⊎◌, ◌↔◌, ℕ, suc, ◌+◌, ◌<◌, ◌≤◌, List, [], ◌∷◌, ◌++◌, length, get_or, refl}
use Rattle.std.proofs.Common.{sym, ap, ◌∙◌, subst, arith}
use Rattle.std.specs.Prelude.{slice_index}
use Rattle.std.proofs.lemmas.List.{get_or_past, get_or_default, get_or_append_left, get_or_push}
use Rattle.std.proofs.lemmas.Bool.{cases_lt}
use Rattle.std.proofs.Math.Nat.{eq-zero-or-pos}
use Rattle.rtr_types.specs.declared.instr.Instr.{Instr}
use Rattle.rtr_types.specs.declared.pairs.Which.TheVariants.{Reduced}
use Rattle.clock_core.specs.Order.{Among, IsOrLeads}
use Rattle.clock_core.specs.Reach.{IsClock}
use Rattle.race_log.specs.declared.recording.Recording.{Recording}
use Rattle.race_log.specs.Validity.{Valid}
use Rattle.race_log.proofs.InTurn.{places-stand, all-stand}
use Rattle.clock_entries.specs.Ends.{Clocks, instr, ends_to, entry_at}
use Rattle.clock_entries.proofs.LastEntries.{end_counts}
use Rattle.replay_audit.proofs.Logs.{recorded_log, leads_back}
use Rattle.certificate_codec.specs.declared.certificate.Certificate.{Certificate}
use Rattle.certificate_codec.specs.Ends.{reduced_edges, IsWithin}
use Rattle.log_codec.specs.CoreCounts.{AreCounts, CountStands}
use Rattle.certificate_codec.specs.Validity.{AreEntries, IsCertificate}
use Rattle.min_certificate.specs.Clocks.{end_of, IsEntryOf, AreClocksOf, HasClocks}
use Rattle.min_certificate.specs.Places.{AreExactIn}
use Rattle.min_certificate.proofs.First.{Placed, place_of, IsListed, end_in_list}
use Rattle.min_certificate.proofs.CertifiedRecordings.{end_within, totals_closed}

-- ---- the counts of a clock

-- the first counts of a clock are the clock of an instruction of the recording, since nothing leads to it from other
-- cores
pub front_exact : (r : Recording) (y : Instr) (clock counts : List ℕ) → Valid r → IsWithin r y →
    IsClock (Among (reduced_edges r)) y (λ i. slice_index clock i) → length counts ≡ r.params.cores →
    ((i : ℕ) → i < r.params.cores → slice_index counts i ≡ slice_index clock i) →
    IsClock (Among (reduced_edges r)) y (λ i. slice_index counts i)
front_exact r y clock counts valid within exact all each x pos = by (cases_lt x.core r.params.cores)
  where
    leads_within : IsOrLeads (Among (reduced_edges r)) x y → x.count ≤ slice_index r.totals x.core
    leads_within l = leads_back (reduced_edges r) (λ k. slice_index r.totals k) x y (totals_closed r valid) l
        within.count

    none : r.params.cores ≤ x.core → IsOrLeads (Among (reduced_edges r)) x y → ⊥
    none past l = let e = leads_within l in let z =
        get_or_past r.totals x.core 0 (let n = valid.each_core in omega arith) in omega arith

    by : (x.core < r.params.cores) ⊎ (r.params.cores ≤ x.core) → (x.count ≤ slice_index counts x.core) ↔
        IsOrLeads (Among (reduced_edges r)) x y
    by (inl lt) = let e = each x.core lt in
        ((λ le. (exact x pos).0 (omega arith)), λ l. let le = (exact x pos).1 l in omega arith)
    by (inr past) = let z = get_or_past counts x.core 0 (omega arith) in
        ((λ le. absurd (omega arith)), λ l. absurd (none past l))

-- ---- the entries of a certificate

-- the entry at an end of a core is one of the core's list
entry_there : (c : Certificate) (core count : ℕ) → Valid c.recording → HasClocks c.recording c.clocks →
    IsWithin c.recording (instr core count) →
    Placed (reduced_edges c.recording) core (slice_index c.recording.totals core) count →
    IsEntryOf c.recording core count (entry_at c.clocks core (length (ends_to (reduced_edges c.recording) core count)))
entry_there c core count valid h w p =
    subst (λ (n : ℕ). IsEntryOf c.recording core count (entry_at c.clocks core n)) (sym number)
    (subst (λ (n : ℕ). IsEntryOf c.recording core n entry) p.at (each.each p.place lt))
  where
    each : AreClocksOf c.recording core (get_or c.clocks core [])
    each = h.each core w.core

    entry : List ℕ
    entry = get_or (get_or c.clocks core []) p.place []

    lt : p.place < length (get_or c.clocks core [])
    lt = let a = each.all in let b = p.within in omega arith

    number : length (ends_to (reduced_edges c.recording) core count) ≡ suc p.place
    number = let e = p.number in omega arith

pub exact_in : (c : Certificate) → Valid c.recording → HasClocks c.recording c.clocks → AreExactIn c
exact_in c valid h x end =
    (entry_there c x.core x.count valid h w
    (place_of (reduced_edges c.recording) x.core (slice_index c.recording.totals x.core) x.count w.count
    (end_counts (reduced_edges c.recording) x (recorded_log Reduced c.recording valid) end) end)).exact
  where
    w : IsWithin c.recording x
    w = end_within c.recording x valid end

-- ---- they have a spelling

-- an exact count is at most its core's total
count_fits : (r : Recording) (y : Instr) (entry : List ℕ) (i : ℕ) → Valid r → IsWithin r y →
    IsClock (Among (reduced_edges r)) y (λ k. slice_index entry k) →
    slice_index entry i ≤ slice_index r.totals i
count_fits r y entry i valid w exact = by (eq-zero-or-pos (slice_index entry i))
  where
    by : (slice_index entry i ≡ 0) ⊎ (1 ≤ slice_index entry i) → slice_index entry i ≤ slice_index r.totals i
    by (inl e) = omega arith
    by (inr pos) = leads_back (reduced_edges r) (λ k. slice_index r.totals k) (instr i (slice_index entry i)) y
        (totals_closed r valid)
        ((exact (instr i (slice_index entry i)) pos).0 (omega arith)) w.count

is_entry : (r : Recording) (core count : ℕ) (entry : List ℕ) → Valid r → IsWithin r (instr core count) →
    IsEntryOf r core count entry → AreCounts r.totals entry
is_entry r core count entry valid w h = record {
  each_core = h.each_core ∙ sym valid.each_core;
  most = places-stand (CountStands r.totals) 0 entry 0 (λ i lt. let same : i ≡ 0 + i = omega arith in
      subst (λ (k : ℕ). get_or entry i 0 ≤ slice_index r.totals k) same
      (count_fits r (instr core count) entry i valid w h.exact));
}

are_entries : (r : Recording) (core : ℕ) (entries : List (List ℕ)) → Valid r → core < r.params.cores →
    AreClocksOf r core entries → AreEntries r core entries
are_entries r core entries valid core_lt h = record {
  number = h.all;
  each = all-stand (AreCounts r.totals) entries
      (λ k d lt. subst (λ (e : List ℕ). AreCounts r.totals e) (get_or_default entries k [] d lt)
      (is_entry r core (end_of r core k) (get_or entries k []) valid (within k lt) (h.each k lt)));
}
  where
    within : (k : ℕ) → k < length entries → IsWithin r (instr core (end_of r core k))
    within k lt = (end_in_list r core k (ends_to (reduced_edges r) core (slice_index r.totals core))
        (record { valid = valid; core = core_lt; is = refl; lt = let e = h.all in omega arith })).0

pub is_certificate : (c : Certificate) → Valid c.recording → HasClocks c.recording c.clocks → IsCertificate c
is_certificate c valid h = record {
  recording = valid;
  each_core = h.all;
  entries = places-stand (AreEntries c.recording) 0 c.clocks []
      (λ i lt. let same : i ≡ 0 + i = omega arith in let e = h.all in
      subst (λ (k : ℕ). AreEntries c.recording k (get_or c.clocks i [])) same
      (are_entries c.recording i (get_or c.clocks i []) valid (omega arith) (h.each i (omega arith))));
}

-- ---- as code makes them

pub entry_of_clock : (r : Recording) (core k : ℕ) (ends clock counts : List ℕ) → IsListed r core k ends →
    IsClock (Among (reduced_edges r)) (instr core (get_or ends k 0)) (λ i. slice_index clock i) →
    length counts ≡ r.params.cores →
    ((i : ℕ) → i < r.params.cores → slice_index counts i ≡ slice_index clock i) →
    IsEntryOf r core (end_of r core k) counts
entry_of_clock r core k ends clock counts h exact all each =
    subst (λ (n : ℕ). IsEntryOf r core n counts) (ap (λ (l : List ℕ). get_or l k 0) h.is)
    (record {
      each_core = all;
      exact =
          front_exact r (instr core (get_or ends k 0)) clock counts h.valid (end_in_list r core k ends h).0 exact all
          each;
    })

-- one more entry of a core
pub clocks_more : (r : Recording) (core k : ℕ) (old new : List (List ℕ)) (entry : List ℕ) → length old ≡ k →
    ((j : ℕ) → j < k → IsEntryOf r core (end_of r core j) (get_or old j [])) → new ≡ old ++ entry ∷ [] →
    IsEntryOf r core (end_of r core k) entry →
    (j : ℕ) → j < k + 1 → IsEntryOf r core (end_of r core j) (get_or new j [])
clocks_more r core k old new entry len before is here j lt =
    subst (λ (l : List (List ℕ)). IsEntryOf r core (end_of r core j) (get_or l j [])) (sym is)
    (by (last_or_before j k lt))
  where
    last_or_before : (j k : ℕ) → j < k + 1 → (j ≡ k) ⊎ (j < k)
    last_or_before j k lt = grind arith

    by : (j ≡ k) ⊎ (j < k) → IsEntryOf r core (end_of r core j) (get_or (old ++ entry ∷ []) j [])
    by (inl e) = subst (λ (l : List ℕ). IsEntryOf r core (end_of r core j) l)
        (sym (get_or_push old entry [] j (len ∙ sym e)))
        (subst (λ (i : ℕ). IsEntryOf r core (end_of r core i) entry) (sym e) here)
    by (inr less) = subst (λ (l : List ℕ). IsEntryOf r core (end_of r core j) l)
        (sym (get_or_append_left old (entry ∷ []) [] j (omega arith))) (before j less)

-- the clocks of one core more
pub cores_more : (r : Recording) (k : ℕ) (old new : Clocks) (entries : List (List ℕ)) → length old ≡ k →
    ((j : ℕ) → j < k → AreClocksOf r j (get_or old j [])) → new ≡ old ++ entries ∷ [] → AreClocksOf r k entries →
    (j : ℕ) → j < k + 1 → AreClocksOf r j (get_or new j [])
cores_more r k old new entries len before is here j lt =
    subst (λ (l : Clocks). AreClocksOf r j (get_or l j [])) (sym is) (by (last_or_before j k lt))
  where
    last_or_before : (j k : ℕ) → j < k + 1 → (j ≡ k) ⊎ (j < k)
    last_or_before j k lt = grind arith

    by : (j ≡ k) ⊎ (j < k) → AreClocksOf r j (get_or (old ++ entries ∷ []) j [])
    by (inl e) = subst (λ (l : List (List ℕ)). AreClocksOf r j l) (sym (get_or_push old entries [] j (len ∙ sym e)))
        (subst (λ (i : ℕ). AreClocksOf r i entries) (sym e) here)
    by (inr less) = subst (λ (l : List (List ℕ)). AreClocksOf r j l)
        (sym (get_or_append_left old (entries ∷ []) [] j (omega arith))) (before j less)
