-- Edge end by edge end: behind what the list had stand the counts of the exact clocks of the ends so far.
use Rattle.std.proofs.Common.{◌≡◌, ◌+◌, ◌*◌, ◌++◌, ◌∷◌, ◌∙◌, [], ap, arith, get_or, length, subst, suc, suc-mul, sym}
use Rattle.std.proofs.Common.{take, ℕ, List}
use Rattle.std.specs.Prelude.{slice_index}
use Rattle.std.proofs.lemmas.List.{get_or-take, length-append}
use Rattle.rtr_types.specs.declared.pairs.Which.{Which}
use Rattle.clock_core.specs.Order.{Among}
use Rattle.clock_core.specs.Reach.{IsClock}
use Rattle.race_log.specs.declared.recording.Recording.{Recording}
use Rattle.race_log.specs.Sources.{log_edges}
use Rattle.clock_entries.specs.Ends.{instr}
use Rattle.certificate_codec.specs.Ends.{reduced_edges}
use Rattle.certificate_codec.specs.Rows.{rows}
use Rattle.certificate_codec.proofs.RowLaws.{length-rows, one_row_more}
use Rattle.min_certificate.specs.Clocks.{end_of, AreClocksOf, IsEntryOf}
use Rattle.min_certificate.proofs.Exactly.{entry_of_clock, clocks_more}
use Rattle.min_certificate.proofs.First.{IsListed, end_in_list}
use Rattle.min_certificate.proofs.exact_clocks.clocks_of_core.Goals as goal

pub clock_near-clock-requires : goal.clock_near-clock-requires
clock_near-clock-requires c =
    let r = c.args.audited.now.recording in
    let valid = c.recording.ensures.valid in
    let h : IsListed r c.args.core c.loop-count.count-index c.args.ends.now =
    record { valid = valid; core = c.requires.core; is = c.requires.ends; lt = c.loop-count-test.true } in
    let w = end_in_list r c.args.core c.loop-count.count-index c.args.ends.now h in
    let each = valid.each_core in
    record { core = omega (arith, c.requires.core); some = w.1; most = w.0.count }

pub loop-count-preserved : goal.loop-count-preserved
loop-count-preserved c =
    let r = c.args.audited.now.recording in
    let k = c.loop-count.count-index in
    let cores = c.recording.result.now.params.cores in
    let counts = c.loop-count.counts in
    let new = c.put_counts.new.counts in
    let clock = c.clock_near-clock.result in
    let entry = take cores clock in
    let put = c.in_ok-put_counts.ensures.counts in
    let valid = c.recording.ensures.valid in
    let h : IsListed r c.args.core k c.args.ends.now =
    record { valid = valid; core = c.requires.core; is = c.requires.ends; lt = c.loop-count-test.true } in
    let same : cores ≡ r.params.cores = ap (λ (q : Recording). q.params.cores) c.recording.ensures.recording in
    let exact : IsClock (Among (reduced_edges r)) (instr c.args.core (get_or c.args.ends.now k 0))
    (λ i. slice_index clock i) =
    subst (λ (w : Which). IsClock (Among (log_edges w r)) (instr c.args.core (get_or c.args.ends.now k 0))
    (λ i. slice_index clock i))
    c.requires.which c.clock_near-clock.ensures in
    let wide : length entry ≡ cores =
    omega (arith, ap length put, length-append counts entry, c.in_ok-put_counts.ensures.all) in
    let here : IsEntryOf r c.args.core (end_of r c.args.core k) entry =
    entry_of_clock r c.args.core k c.args.ends.now clock entry h exact (wide ∙ same)
    (λ i lt. get_or-take cores clock i 0 (omega (arith, lt, same))) in
    let next : k + 1 ≡ suc k = omega arith in
    let rows_are : rows cores (k + 1) new ≡ rows cores k counts ++ entry ∷ [] =
    ap (λ (n : ℕ). rows cores n new) next ∙ ap (rows cores (suc k)) put
    ∙ one_row_more cores k counts entry c.loop-count.invariant.long wide in
    record {
      long = omega (
        arith,
        c.loop-count.invariant.long,
        c.in_ok-put_counts.ensures.all,
        suc-mul k cores,
        ap (λ (n : ℕ). n * cores) next,
      );
      each = clocks_more r c.args.core k (rows cores k counts) (rows cores (k + 1) new) entry
          (length-rows cores k counts)
          c.loop-count.invariant.each rows_are here;
    }

pub returns : goal.returns
returns c =
    let r = c.args.audited.now.recording in
    let cores = c.recording.result.now.params.cores in
    let counts = c.loop-count.counts in
    let all = length-rows cores (length c.args.ends.now) counts in
    let last : c.loop-count.count-index ≡ length c.args.ends.now =
    omega (arith, c.loop-count-test.false, c.loop-count.auto.count-index-end) in
    subst (λ (entries : List (List ℕ)). AreClocksOf r c.args.core entries) (sym c.new.ensures)
    (record {
      all = all ∙ ap length c.requires.ends;
      each = λ k lt. subst
          (λ (n : ℕ). IsEntryOf r c.args.core (end_of r c.args.core k) (get_or (rows cores n counts) k []))
          last (c.loop-count.invariant.each k (omega (arith, lt, all, last)));
    })
