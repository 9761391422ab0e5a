-- A recording that is read is the one that is spelled, and what is spelled is read again.
use Rattle.std.proofs.Common.{◌≡◌, ℕ, zero, suc, ◌+◌, ◌*◌, ◌^◌, ◌<◌, ◌≤◌, cond, List, [], ◌++◌, length, take}
use Rattle.std.proofs.Common.{drop, Result, Ok, Err, Bool, true, false}
use Rattle.std.proofs.Common.{refl, sym, ap, subst, ◌∙◌, append_assoc, nat_eq, arith}
use Rattle.std.specs.Prelude.{replicate, slice_index}
use Rattle.std.specs.List.{starts_with}
use Rattle.std.specs.Cmp.Lexicographic.{same_text}
use Rattle.std.proofs.lemmas.List.{length-replicate, take-append-drop}
use Rattle.rtr_types.specs.declared.params.Params.{Params}
use Rattle.rtr_types.specs.Pairs.{pair_count}
use Rattle.rtr_types.specs.Turns.{StandInTurn, count_up}
use Rattle.stride_vector.specs.declared.StrideVector.{StrideVector}
use Rattle.log_codec.specs.declared.codec_fault.TheConstants.{HEADER}
use Rattle.log_codec.specs.declared.version.Version.TheVariants.{Two}
use Rattle.log_codec.specs.Faults.{◌>>=◌}
use Rattle.log_codec.specs.Laws.{IsBytes}
use Rattle.log_codec.specs.Reading.{sizes_at, image_at, totals_at, targets_at}
use Rattle.log_codec.specs.Spelling.{sizes_text, totals_text, targets_text}
use Rattle.race_log.specs.Validity.{AreVectors, bound_at}
use Rattle.log_codec.proofs.FieldLaws.{sizes_take, sizes_again, image_takes, image_again}
use Rattle.log_codec.proofs.PartNames.{Names}
use Rattle.log_codec.proofs.ReducedLaws.{reduced_takes, reduced_again}
use Rattle.race_log.proofs.Parts.{total-small}
use Rattle.log_codec.proofs.Wholes.{SpellingLaws, Taken, spelling_laws}
use Rattle.log_codec.proofs.ReadingSteps.{bind_ok, guard_ok, ok_is, bytes-drop, Takes, Takes-then}
use Rattle.log_codec.proofs.RecordingLaws.{after_header, after_image, after_totals, totals_take}
use Rattle.log_codec.proofs.RecordingLaws.{totals_again, totals_fit}
use Rattle.race_log.proofs.Parts.{valid-made, edges-placed}
use Rattle.tso_codec.specs.declared.recording.TheConstants.{END}
use Rattle.tso_codec.specs.declared.recording.TsoRecording.{TsoRecording}
use Rattle.tso_codec.specs.Laws.{SpelledIsRead}
use Rattle.tso_codec.specs.Reading.{magic_at, all_values_at, parts_at, tso_at}
use Rattle.tso_codec.specs.Spelling.{tso_magic, all_values_text, tso_spelling}
use Rattle.tso_codec.specs.Validity.{IsTso, plain_of}
use Rattle.tso_codec.proofs.Values.{all_values_take, all_values_again}

-- ---- the first bytes

pub magic_takes : (bytes rest : List ℕ) → IsBytes bytes → magic_at bytes ≡ Ok rest → Takes bytes tso_magic rest
unfolding magic_at
magic_takes bytes rest are e =
    let g = guard_ok (starts_with nat_eq bytes tso_magic) HEADER (drop 4 bytes) rest e in
    let front : tso_magic ≡ take 4 bytes = same_text tso_magic (take 4 bytes) (sym g.0) in
    let parts : bytes ≡ tso_magic ++ drop 4 bytes =
    sym (take-append-drop 4 bytes) ∙ ap (λ (t : List ℕ). t ++ drop 4 bytes) (sym front) in
    subst (λ (y : List ℕ). Takes bytes tso_magic y) g.1 (record { parts = parts; rest_fits = bytes-drop 4 bytes are })

pub magic_again : (rest : List ℕ) → magic_at (tso_magic ++ rest) ≡ Ok rest
unfolding magic_at
magic_again rest = refl

pub magic-names : (bytes : List ℕ) → Names HEADER (magic_at bytes)
unfolding magic_at
magic-names bytes p e = by (starts_with nat_eq bytes tso_magic) e
  where
    by : (b : Bool) → cond {A = Result (List ℕ) ℕ} b (Ok (drop 4 bytes)) (Err HEADER) ≡ Err p → p ≡ HEADER
    by true f = absurd cc
    by false f = cc

-- ---- the parts together

abbrev pub made_of : Params → List ℕ → List ℕ → List (List (ℕ × ℕ)) → List (List (ℕ × ℕ)) → TsoRecording
made_of params image totals reduced values =
    record { params = params; image = image; totals = totals; reduced = reduced; values = values }

abbrev pub after_reduced : Params → List ℕ → List ℕ → List (List (ℕ × ℕ)) × List ℕ → Result (TsoRecording × List ℕ) ℕ
after_reduced p image totals reduced =
    all_values_at p.cores totals reduced.1 >>= λ values. Ok (made_of p image totals reduced.0 values.0, values.1)

abbrev pub after_sizes : Params × ℕ × List ℕ → Result (TsoRecording × List ℕ) ℕ
after_sizes sizes = after_header after_reduced (Two, sizes.0, sizes.1, sizes.2)

abbrev pub after_magic : List ℕ → Result (TsoRecording × List ℕ) ℕ
after_magic rest = sizes_at Two rest >>= after_sizes

-- no vectors stand
no-vectors : (totals : List ℕ) (s n : ℕ) →
    StandInTurn (λ place vs. AreVectors (bound_at totals place) vs) count_up s (replicate n [])
no-vectors totals s zero = tt
no-vectors totals s (suc n) = (tt, no-vectors totals (s + 1) n)

pub parts_take : (bytes : List ℕ) (r : TsoRecording) (rest : List ℕ) → IsBytes bytes → parts_at bytes ≡ Ok (r, rest) →
    Taken IsTso tso_spelling bytes r rest
unfolding parts_at tso_spelling
parts_take bytes r rest are e =
    let m = bind_ok (magic_at bytes) after_magic (r, rest) e in
    let h = bind_ok (sizes_at Two m.0) after_sizes (r, rest) m.2 in
    let p = h.0.0 in
    let i = bind_ok (image_at h.0.1 h.0.2) (after_image after_reduced Two p) (r, rest) h.2 in
    let t = bind_ok (totals_at p.limit p.cores i.0.1) (after_totals after_reduced Two p i.0.0) (r, rest) i.2 in
    let d = bind_ok (targets_at t.0.0 t.0.1) (after_reduced p i.0.0 t.0.0) (r, rest) t.2 in
    let v = bind_ok (all_values_at p.cores t.0.0 d.0.1) (λ values. Ok (made_of p i.0.0 t.0.0 d.0.0 values.0, values.1))
    (r, rest) d.2 in
    let tm = magic_takes bytes m.0 are m.1 in
    let th = sizes_take Two m.0 p h.0.1 h.0.2 tm.rest_fits h.1 in
    let ti = image_takes h.0.1 h.0.2 i.0.0 i.0.1 th.0.rest_fits i.1 in
    let tt' = totals_take p.limit p.cores i.0.1 t.0.0 t.0.1 ti.0.rest_fits t.1 in
    let td = reduced_takes Two t.0.0 t.0.1 d.0.0 d.0.1 tt'.0.rest_fits d.1 in
    let tv = all_values_take p.cores t.0.0 d.0.1 v.0.0 v.0.1 td.0.rest_fits v.1 in
    let reduced : Takes t.0.1 (targets_text p.cores d.0.0) d.0.1 =
    subst (λ (n : ℕ). Takes t.0.1 (targets_text n d.0.0) d.0.1) tt'.1 td.0 in
    let t1 = Takes-then t.0.1 (targets_text p.cores d.0.0) d.0.1 (all_values_text v.0.0) v.0.1 reduced tv.0 in
    let t2 = Takes-then i.0.1 (totals_text t.0.0) t.0.1 (targets_text p.cores d.0.0 ++ all_values_text v.0.0) v.0.1
    tt'.0 t1 in
    let t3 = Takes-then h.0.2 i.0.0 i.0.1 (totals_text t.0.0 ++ (targets_text p.cores d.0.0 ++ all_values_text v.0.0))
    v.0.1 ti.0 t2 in
    let t4 = Takes-then m.0 (sizes_text p h.0.1) h.0.2
    (i.0.0 ++ (totals_text t.0.0 ++ (targets_text p.cores d.0.0 ++ all_values_text v.0.0))) v.0.1 th.0 t3 in
    let t5 = Takes-then bytes tso_magic m.0
    (sizes_text p h.0.1 ++ (i.0.0 ++ (totals_text t.0.0 ++ (targets_text p.cores d.0.0 ++ all_values_text v.0.0))))
    v.0.1 tm t4 in
    let made = made_of p i.0.0 t.0.0 d.0.0 v.0.0 in
    let named : Takes bytes (tso_spelling made) v.0.1 =
    subst (λ (len : ℕ). Takes bytes
    (tso_magic ++ (sizes_text p len
    ++ (i.0.0 ++ (totals_text t.0.0 ++ (targets_text p.cores d.0.0 ++ all_values_text v.0.0))))) v.0.1) (sym ti.1)
    t5 in
    let room : length i.0.0 ≤ 4 * p.words = subst (λ (len : ℕ). len ≤ 4 * p.words) (sym ti.1) th.1.image in
    let none : List (List StrideVector) = replicate (pair_count p.cores) [] in
    let each : length none ≡ pair_count (length t.0.0) =
    length-replicate (pair_count p.cores) [] ∙ ap (λ (n : ℕ). pair_count n) (sym tt'.1) in
    let valid : IsTso made = record {
      plain = valid-made p i.0.0 t.0.0 d.0.0 none th.1.params room tt'.1 tt'.2 td.1 td.2 each
          (no-vectors t.0.0 0 (pair_count p.cores));
      each_core = tv.1;
      values = tv.2;
    } in
    subst (λ (y : TsoRecording × List ℕ). Taken IsTso tso_spelling bytes y.0 y.1)
    (ok_is (made, v.0.1) (r, rest) v.2)
    (record { valid = valid; taken = named })

-- a core's total can be spelled
pub small-total : (r : TsoRecording) → IsTso r → (c : ℕ) → slice_index r.totals c < 2 ^ 32
small-total r v c =
    let params = v.plain.params in
    let le = total-small r.params.limit r.totals c v.plain.totals in
    omega arith

pub parts_again : (r : TsoRecording) (rest : List ℕ) → IsTso r → parts_at (tso_spelling r ++ rest) ≡ Ok (r, rest)
unfolding parts_at tso_spelling
parts_again r rest v =
    let valid = v.plain in
    let params = valid.params in
    let p = r.params in
    let sizes = totals_fit Two p r.totals params valid.each_core in
    let v_text = all_values_text r.values ++ rest in
    let d_text = targets_text p.cores r.reduced ++ v_text in
    let t_text = totals_text r.totals ++ d_text in
    let i_text = r.image ++ t_text in
    let regrouped : tso_spelling r ++ rest ≡ tso_magic ++ (sizes_text p (length r.image) ++ i_text) =
    simp append_assoc in
    let m = magic_again (sizes_text p (length r.image) ++ i_text) in
    let h = sizes_again Two p (length r.image) i_text (record { params = params; image = valid.image }) in
    let i = image_again r.image t_text in
    let t = subst (λ (n : ℕ). totals_at p.limit n t_text ≡ Ok (r.totals, d_text)) valid.each_core
    (totals_again p.limit r.totals d_text sizes.small valid.totals) in
    let back : pair_count p.cores ≡ pair_count (length r.totals) = ap (λ (n : ℕ). pair_count n) (sym valid.each_core) in
    let d = subst (λ (n : ℕ). targets_at r.totals (targets_text n r.reduced ++ v_text) ≡ Ok (r.reduced, v_text))
    valid.each_core
    (reduced_again Two p.limit r.totals r.reduced v_text sizes.small sizes.together sizes.few valid.totals
    (valid.each_reduced ∙ back)
    (edges-placed (plain_of r) valid)) in
    let w = all_values_again p.cores r.totals r.values rest (small-total r v) v.each_core v.values in
    ap parts_at regrouped ∙ rw (m, h, i, t, d, w) refl

-- ---- the laws

pub laws : SpellingLaws tso_at IsTso tso_spelling
unfolding tso_at
laws = let l = spelling_laws parts_at END IsTso tso_spelling parts_take parts_again in
    record { read = l.read; spelled = l.spelled; prefix = l.prefix }

pub spelled_is_read : SpelledIsRead
spelled_is_read = laws.spelled
