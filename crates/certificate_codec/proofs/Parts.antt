-- The sixth part: what is read is spelled so, and what is spelled is read again.
use Rattle.std.proofs.Common.{◌≡◌, ℕ, ◌^◌, ◌<◌, true, nat_eq, List, ◌++◌, length, get_or, ◌+◌, Ok}
use Rattle.std.proofs.Common.{sym, ap, subst, ◌∙◌, append_assoc, arith}
use Rattle.std.specs.Prelude.{slice_index}
use Rattle.std.proofs.lemmas.Bool.Decides.{nat_tests}
use Rattle.race_log.specs.declared.recording.Recording.{Recording}
use Rattle.log_codec.specs.CoreCounts.{counts_text}
use Rattle.log_codec.specs.Faults.{◌>>=◌}
use Rattle.log_codec.specs.Laws.{IsBytes}
use Rattle.log_codec.specs.Reading.{number_at}
use Rattle.log_codec.specs.Spelling.{number}
use Rattle.rtr_types.specs.Turns.{StandInTurn, stay, count_up}
use Rattle.log_codec.specs.Turns.{read_in_turn, spelled_in_turn, alike}
use Rattle.race_log.specs.Validity.{Valid}
use Rattle.log_codec.proofs.ReadingSteps.{bind_ok, guard_ok, Takes, Takes-then}
use Rattle.log_codec.proofs.CoreCountLaws.{counts_again, counts_take}
use Rattle.log_codec.proofs.FieldLaws.{number_again, number_takes}
use Rattle.log_codec.proofs.InTurn.{turns_take, turns_again}
use Rattle.race_log.proofs.InTurn.{stand-places}
use Rattle.race_log.proofs.CountedEdges.{totals_small}
use Rattle.clock_entries.proofs.Numbers.{few}
use Rattle.certificate_codec.specs.declared.certificate.TheConstants.{CLOCKS}
use Rattle.certificate_codec.specs.Ends.{reduced_edges, end_count}
use Rattle.certificate_codec.specs.declared.certificate.Certificate.{Certificate}
use Rattle.certificate_codec.specs.Validity.{EntryStands, AreEntries, IsCertificate}
use Rattle.certificate_codec.specs.Spelling.{entries_text, clocks_text}
use Rattle.certificate_codec.specs.Reading.{entry_at, true_number, entries_at, clocks_at}

-- ---- the entries of a core

entries_take : (r : Recording) (core : ℕ) (bytes : List ℕ) (entries : List (List ℕ)) (rest : List ℕ) → IsBytes bytes →
    entries_at r core bytes ≡ Ok (entries, rest) → Takes bytes (entries_text entries) rest × AreEntries r core entries
unfolding entries_at
entries_take r core bytes entries rest are e =
    let p = bind_ok (number_at CLOCKS bytes)
    (λ n. true_number r core n.0 n.1 >>= λ count. read_in_turn (entry_at r.totals) stay count.0 tt count.1)
    (entries, rest) e in
    let q = bind_ok (true_number r core p.0.0 p.0.1) (λ count. read_in_turn (entry_at r.totals) stay count.0 tt count.1)
    (entries, rest) p.2 in
    let g = guard_ok (nat_eq p.0.0 (end_count r core)) CLOCKS (p.0.0, p.0.1) q.0 q.1 in
    let same : p.0.0 ≡ end_count r core = let k = g.0 in grind (arith, nat_tests) in
    let n_is : p.0.0 ≡ q.0.0 = ap (λ (y : ℕ × List ℕ). y.0) g.1 in
    let rest_is : p.0.1 ≡ q.0.1 = ap (λ (y : ℕ × List ℕ). y.1) g.1 in
    let t = number_takes CLOCKS bytes p.0.0 p.0.1 are p.1 in
    let first : Takes bytes (number q.0.0) q.0.1 = subst (λ (y : ℕ × List ℕ). Takes bytes (number y.0) y.1) g.1 t.0 in
    let items = turns_take (entry_at r.totals) stay (alike counts_text) (EntryStands r.totals)
    (λ s b x d. counts_take CLOCKS r.totals b x d) q.0.0 tt q.0.1 entries rest first.rest_fits q.2 in
    let both = Takes-then bytes (number q.0.0) q.0.1 (spelled_in_turn (alike counts_text) stay (tt {0}) entries) rest
    first items.0 in (
      subst (λ (k : ℕ). Takes bytes (number k ++ spelled_in_turn (alike counts_text) stay (tt {0}) entries) rest)
          (sym items.1) both,
      record { number = items.1 ∙ sym n_is ∙ same; each = items.2 },
    )

entries_again : (r : Recording) (core : ℕ) (entries : List (List ℕ)) (rest : List ℕ) →
    ((c : ℕ) → slice_index r.totals c < 2 ^ 32) →
    end_count r core < 2 ^ 32 → AreEntries r core entries →
    entries_at r core (entries_text entries ++ rest) ≡ Ok (entries, rest)
unfolding entries_at
entries_again r core entries rest small few h =
    let e = h.number in
    let test : nat_eq (length entries) (end_count r core) ≡ true = grind (arith, nat_tests) in
    let items = turns_again (entry_at r.totals) stay (alike counts_text) (EntryStands r.totals)
    (λ s x d stands. counts_again CLOCKS r.totals x d small stands) tt entries rest h.each in
    ap (entries_at r core) (append_assoc (number (length entries))
    (spelled_in_turn (alike counts_text) stay (tt {0}) entries) rest)
    ∙ rw (
      number_again CLOCKS (length entries) (spelled_in_turn (alike counts_text) stay (tt {0}) entries ++ rest)
          (omega arith),
      test,
    ) items

-- ---- the entries of each core

pub clocks_take : (r : Recording) (bytes : List ℕ) (clocks : List (List (List ℕ))) (rest : List ℕ) → IsBytes bytes →
    clocks_at r bytes ≡ Ok (clocks, rest) →
    Takes bytes (clocks_text clocks) rest × (length clocks ≡ r.params.cores) ×
    StandInTurn (AreEntries r) count_up 0 clocks
clocks_take r bytes clocks rest are e =
    turns_take (entries_at r) count_up (alike entries_text) (AreEntries r) (λ c b x d. entries_take r c b x d)
    r.params.cores 0 bytes clocks rest are e

pub few_ends : (r : Recording) → Valid r → (c : ℕ) → end_count r c < 2 ^ 32
few_ends r valid c = let a = few (reduced_edges r) c (slice_index r.totals c) in let b = totals_small r valid c in
    omega arith

pub entries_few : (c : Certificate) → IsCertificate c → (core : ℕ) (d : List (List ℕ)) → core < length c.clocks →
    length (get_or c.clocks core d) < 2 ^ 32
entries_few c v core d lt =
    let e = (stand-places (AreEntries c.recording) 0 c.clocks v.entries core d lt).number in
    let f = few_ends c.recording v.recording (0 + core) in
    omega arith

pub clocks_again : (r : Recording) (clocks : List (List (List ℕ))) (rest : List ℕ) → Valid r →
    length clocks ≡ r.params.cores →
    StandInTurn (AreEntries r) count_up 0 clocks → clocks_at r (clocks_text clocks ++ rest) ≡ Ok (clocks, rest)
clocks_again r clocks rest valid each h =
    ap (λ (n : ℕ). read_in_turn (entries_at r) count_up n 0
    (spelled_in_turn (alike entries_text) count_up 0 clocks ++ rest)) (sym each)
    ∙ turns_again (entries_at r) count_up (alike entries_text) (AreEntries r)
    (λ c x d stands. entries_again r c x d (totals_small r valid) (few_ends r valid c) stands) 0 clocks rest h
