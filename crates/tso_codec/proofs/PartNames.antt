-- A part is named exactly where the parts below are spelled by a front of the bytes and no valid one follows.
use Rattle.std.proofs.Common.{◌≡◌, ℕ, ◌^◌, ◌<◌, inl, inr, List, ◌++◌, Result, Ok, Err}
use Rattle.std.proofs.Common.{refl, sym, ap, subst, ◌∙◌, append_assoc}
use Rattle.std.proofs.Common.{arith}
use Rattle.rtr_types.specs.declared.params.Params.{Params}
use Rattle.log_codec.specs.declared.codec_fault.TheConstants.{HEADER, IMAGE, TOTALS, REDUCED}
use Rattle.log_codec.specs.declared.version.Version.{Version}
use Rattle.log_codec.specs.declared.version.Version.TheVariants.{Two}
use Rattle.log_codec.specs.BadParts.{IsTotals, NoHeader, NoImage, NoReduced, NoTotals, UpToHeader, UpToReduced}
use Rattle.log_codec.specs.Faults.{◌>>=◌}
use Rattle.log_codec.specs.Laws.{IsBytes}
use Rattle.log_codec.specs.Reading.{sizes_at}
use Rattle.log_codec.specs.Spelling.{sizes_text}
use Rattle.log_codec.specs.Versions.{FitsIn}
use Rattle.log_codec.proofs.BadPartLaws.{at_end, end-names, end-some, some-end}
use Rattle.log_codec.proofs.FieldLaws.{Headed, sizes_take, sizes_again}
use Rattle.log_codec.proofs.FourParts as four
use Rattle.log_codec.proofs.FourParts.{NamesFour, ReadsHeader, never-both, no-reading, rest-bytes}
use Rattle.log_codec.proofs.LastParts.{last_part}
use Rattle.log_codec.proofs.PartNames.{Missing, Names, bind-names, missing_within, sizes-name}
use Rattle.race_log.proofs.Parts.{total-small}
use Rattle.log_codec.proofs.ReadingSteps.{bind_ok, ok_is}
use Rattle.log_codec.proofs.RecordingLaws.{after_header}
use Rattle.tso_codec.specs.declared.recording.TheConstants.{VALUES, END}
use Rattle.tso_codec.specs.declared.recording.TsoRecording.{TsoRecording}
use Rattle.tso_codec.specs.BadParts.{AreAllValues, BadPart, BytesAfter, IsTsoHeader, NoValues, UpToValues}
use Rattle.tso_codec.specs.Reading.{magic_at, all_values_at, parts_at, tso_at}
use Rattle.tso_codec.specs.Spelling.{tso_magic}
use Rattle.tso_codec.proofs.Values.{all_values_take, all_values_again, all-values-name}
use Rattle.tso_codec.proofs.RecordingLaws.{after_magic, after_reduced, after_sizes, made_of, magic_takes, magic_again}
use Rattle.tso_codec.proofs.RecordingLaws.{magic-names}

-- ---- the header as one step

abbrev with_two : Params × ℕ × List ℕ → Result Headed ℕ
with_two sizes = Ok (Two, sizes.0, sizes.1, sizes.2)

abbrev after_letters : List ℕ → Result Headed ℕ
after_letters rest = sizes_at Two rest >>= with_two

abbrev header_at : List ℕ → Result Headed ℕ
header_at bytes = magic_at bytes >>= after_letters

header-names : (bytes : List ℕ) → Names HEADER (header_at bytes)
header-names bytes =
    bind-names HEADER (magic_at bytes) after_letters (magic-names bytes)
    (λ rest. bind-names HEADER (sizes_at Two rest) with_two (sizes-name Two rest) (λ sizes p e. absurd cc))

header-again : (bytes : List ℕ) (v : Version) (p : Params) (len : ℕ) (rest : List ℕ) →
    IsTsoHeader bytes v p len rest → header_at bytes ≡ Ok (v, p, len, rest)
header-again bytes v p len rest h =
    subst (λ (w : Version). header_at bytes ≡ Ok (w, p, len, rest)) (sym h.version)
    (ap header_at h.spelled ∙ ap (λ r. r >>= after_letters) (magic_again (sizes_text p len ++ rest))
    ∙ ap (λ r. r >>= with_two) (sizes_again Two p len rest (record { params = h.limits; image = h.room })))

header-takes : (bytes : List ℕ) (v : Version) (p : Params) (len : ℕ) (rest : List ℕ) → IsBytes bytes →
    header_at bytes ≡ Ok (v, p, len, rest) → IsTsoHeader bytes v p len rest
header-takes bytes v p len rest are e =
    let m = bind_ok (magic_at bytes) after_letters (v, p, len, rest) e in
    let s = bind_ok (sizes_at Two m.0) with_two (v, p, len, rest) m.2 in
    let tm = magic_takes bytes m.0 are m.1 in
    let ts = sizes_take Two m.0 s.0.0 s.0.1 s.0.2 tm.rest_fits s.1 in
    subst (λ (h : Headed). IsTsoHeader bytes h.0 h.1 h.2 h.3)
    (ok_is (Two, s.0.0, s.0.1, s.0.2) (v, p, len, rest) s.2) (record {
      version = refl;
      limits = ts.1.params;
      room = ts.1.image;
      spelled = tm.parts ∙ ap (λ (t : List ℕ). tso_magic ++ t) ts.0.parts;
    })

head : ReadsHeader IsTsoHeader header_at
head = record {
  again = header-again;
  takes = header-takes;
  names = header-names;
  limits = λ bytes v p len rest h. subst (λ (w : Version). FitsIn w p) (sym h.version) h.limits;
  rest_fits = λ bytes v p len rest are h. rest-bytes bytes (tso_magic ++ sizes_text p len) rest are
      (h.spelled ∙ sym (append_assoc tso_magic (sizes_text p len) rest));
}

-- the parts after the magic, from the header on
parts-from : (bytes : List ℕ) → parts_at bytes ≡ (header_at bytes >>= after_header after_reduced)
unfolding parts_at
parts-from bytes = by (magic_at bytes)
  where
    sizes_then : (s : Result (Params × ℕ × List ℕ) ℕ) →
        (s >>= after_sizes) ≡ ((s >>= with_two) >>= after_header after_reduced)
    sizes_then (Ok sizes) = refl
    sizes_then (Err part) = refl

    by : (r : Result (List ℕ) ℕ) → (r >>= after_magic) ≡ ((r >>= after_letters) >>= after_header after_reduced)
    by (Ok rest) = sizes_then (sizes_at Two rest)
    by (Err part) = refl

after-4 : (bytes rest : List ℕ) (u : UpToReduced IsTsoHeader bytes rest) →
    parts_at bytes ≡ after_reduced u.three.two.first.params u.three.two.image u.three.totals (u.reduced, rest)
after-4 bytes rest u = parts-from bytes ∙ four.after-4 IsTsoHeader header_at head after_reduced bytes rest u

-- ---- the values

small-limit : (bytes rest : List ℕ) → (u : UpToHeader IsTsoHeader bytes rest) → u.params.limit < 2 ^ 32
small-limit bytes rest u = let f = u.header.limits in omega (arith, f.limit)

values-read : (bytes before : List ℕ) (u : UpToReduced IsTsoHeader bytes before) (values : List (List (ℕ × ℕ)))
    (rest : List ℕ) → AreAllValues u.three.totals before values rest →
    all_values_at u.three.two.first.params.cores u.three.totals before ≡ Ok (values, rest)
values-read bytes before u values rest h =
    let p = u.three.two.first.params in
    let totals = u.three.totals in
    let t = u.three.third in
    let small = small-limit bytes u.three.two.before u.three.two.first in
    ap (all_values_at p.cores totals) h.spelled
    ∙ all_values_again p.cores totals values rest (λ c. let le = total-small p.limit totals c t.most in omega arith)
    (h.each_core ∙ t.each_core) h.stand

read-values : (p : Params) (before totals mid bytes : List ℕ) (values : List (List (ℕ × ℕ))) (rest : List ℕ) →
    IsBytes bytes →
    IsTotals p before totals mid → all_values_at p.cores totals bytes ≡ Ok (values, rest) →
    AreAllValues totals bytes values rest
read-values p before totals mid bytes values rest are t e =
    let v = all_values_take p.cores totals bytes values rest are e in
    record { each_core = v.1 ∙ sym t.each_core; stand = v.2; spelled = v.0.parts }

abbrev made : (bytes rest : List ℕ) → UpToValues bytes rest → TsoRecording
made bytes rest u =
    made_of u.four.three.two.first.params u.four.three.two.image u.four.three.totals u.four.reduced u.values

after-5 : (bytes rest : List ℕ) (u : UpToValues bytes rest) → parts_at bytes ≡ Ok (made bytes rest u, rest)
after-5 bytes rest u =
    parts-from bytes
    ∙ four.after-5 IsTsoHeader header_at head (λ p totals. all_values_at p.cores totals) made_of bytes u.before rest
    u.four u.values (values-read bytes u.before u.four u.values rest u.fifth)

-- ---- no valid part, then its name

then_end : (bytes : List ℕ) (part : ℕ) → parts_at bytes ≡ Err part → tso_at bytes ≡ Err part
unfolding tso_at
then_end bytes part e = ap (λ r. r >>= at_end END) e

name-values : (bytes : List ℕ) → IsBytes bytes → NoValues bytes → tso_at bytes ≡ Err VALUES
name-values bytes are (rest, u, none) =
    let here = four.reduced-bytes IsTsoHeader header_at head bytes rest are u in
    let t = u.three in
    let p = t.two.first.params in
    then_end bytes VALUES
    (after-4 bytes rest u
    ∙ ap (λ x. x >>= λ values. Ok (made_of p t.two.image t.totals u.reduced values.0, values.1))
    (no-reading VALUES (all_values_at p.cores t.totals rest) (all-values-name p.cores t.totals rest)
    (λ x e. none x.0 x.1 (read-values p t.before t.totals u.before rest x.0 x.1 here t.third e))))

name-end : (bytes : List ℕ) → BytesAfter bytes → tso_at bytes ≡ Err END
unfolding tso_at
name-end bytes (rest, u, some) =
    ap (λ r. r >>= at_end END) (after-5 bytes rest u) ∙ some-end END (made bytes rest u, rest) some

-- ---- a name, then no valid part

-- where a reading ends
abbrev Ends : List ℕ → ℕ → Type 0
Ends bytes = Missing (NoHeader IsTsoHeader bytes) (NoImage IsTsoHeader bytes) (NoTotals IsTsoHeader bytes)
    (NoReduced IsTsoHeader bytes) (NoValues bytes) (BytesAfter bytes)

-- the last step
ends-after-5 : (bytes rest : List ℕ) (q : ℕ) → (u : UpToValues bytes rest) →
    at_end END (made bytes rest u, rest) ≡ Err q → Ends bytes q
ends-after-5 bytes rest q u e =
    let named = end-names END (made bytes rest u, rest) q e in
    let some = end-some END (made bytes rest u, rest)
    (subst (λ (k : ℕ). at_end END (made bytes rest u, rest) ≡ Err k) named e) in
    subst (Ends bytes) (sym named) (rest, u, some)

ends-after-4 : (bytes rest : List ℕ) (q : ℕ) → IsBytes bytes → (u : UpToReduced IsTsoHeader bytes rest) →
    (after_reduced u.three.two.first.params u.three.two.image u.three.totals (u.reduced, rest) >>= at_end END) ≡ Err q →
    Ends bytes q
ends-after-4 bytes rest q are u e =
    let t = u.three in
    let p = t.two.first.params in
    elim (last_part (all_values_at p.cores t.totals rest) (made_of p t.two.image t.totals u.reduced) END q e) [
      | inl none ↦ subst (Ends bytes) (sym (all-values-name p.cores t.totals rest q none)) (
        rest,
        u,
        λ values after is. never-both q (all_values_at p.cores t.totals rest) (values, after) none
            (values-read bytes rest u values after is),
      )
      | inr k ↦
          let here = four.reduced-bytes IsTsoHeader header_at head bytes rest are u in
          let fifth = read-values p t.before t.totals u.before rest k.0 k.1 here t.third k.2 in
          ends-after-5 bytes k.1 q (record { before = rest; four = u; values = k.0; fifth = fifth }) k.3
    ]

ends : (bytes : List ℕ) (q : ℕ) → IsBytes bytes → tso_at bytes ≡ Err q → Ends bytes q
unfolding tso_at
ends bytes q are e =
    elim (four.stops_or IsTsoHeader header_at head after_reduced (NoValues bytes) (BytesAfter bytes) bytes are) [
      | inl (p, named, missing) ↦
          let both : Err p ≡ Err q = sym (then_end bytes p (parts-from bytes ∙ named)) ∙ e in
          let same : p ≡ q = cc in
          subst (Ends bytes) same missing
      | inr (rest, u) ↦ ends-after-4 bytes rest q are u (ap (λ r. r >>= at_end END) (sym (after-4 bytes rest u)) ∙ e)
    ]

pub bad_part : BadPart
bad_part bytes are = record {
  five = record {
    header = (λ e. ends bytes HEADER are e, λ x. in_four HEADER (named.header x));
    image = (λ e. ends bytes IMAGE are e, λ x. in_four IMAGE (named.image x));
    totals = (λ e. ends bytes TOTALS are e, λ x. in_four TOTALS (named.totals x));
    reduced = (λ e. ends bytes REDUCED are e, λ x. in_four REDUCED (named.reduced x));
    fifth = (λ e. ends bytes VALUES are e, name-values bytes are);
    no_other = λ part e. missing_within (NoHeader IsTsoHeader bytes) (NoImage IsTsoHeader bytes)
        (NoTotals IsTsoHeader bytes) (NoReduced IsTsoHeader bytes) (NoValues bytes) (BytesAfter bytes) part
        (ends bytes part are e);
  };
  end = (λ e. ends bytes END are e, name-end bytes);
}
  where
    named : NamesFour IsTsoHeader bytes (TsoRecording × List ℕ) (header_at bytes >>= after_header after_reduced)
    named = four.names_four IsTsoHeader header_at head after_reduced bytes are

    in_four : (part : ℕ) → (header_at bytes >>= after_header after_reduced) ≡ Err part → tso_at bytes ≡ Err part
    in_four part e = then_end bytes part (parts-from bytes ∙ e)
