-- A part is named exactly where the parts below are spelled by a front of the bytes and no valid one follows.
use Rattle.std.proofs.Common.{◌≡◌, ◌≢◌, ℕ, ◌+◌, ◌<◌, ◌≤◌, inl, inr, ◌⊎◌, Bool, true, false, cond, eqb, List}
use Rattle.std.proofs.Common.{[], length, get_or, Result}
use Rattle.std.proofs.Common.{Ok, Err, refl, sym, ap, subst, ◌∙◌, arith}
use Rattle.std.proofs.lemmas.Bool.{eq-eqb, ne_eqb}
use Rattle.std.proofs.lemmas.List.{nil_from_length}
use Rattle.stride_vector.specs.declared.StrideVector.{StrideVector}
use Rattle.log_codec.specs.declared.codec_fault.TheConstants.{HEADER, IMAGE, TOTALS, REDUCED, REGULATED, END}
use Rattle.race_log.specs.declared.recording.Recording.{Recording}
use Rattle.log_codec.specs.BadParts.{BadPart, FrontNames, IsHeader, IsRegulated, NoHeader, NoImage, NoReduced}
use Rattle.log_codec.specs.BadParts.{NoRegulated, NoTotals, UpToReduced, UpToRegulated, WholeNames, recording_up_to}
use Rattle.log_codec.specs.Faults.{◌>>=◌}
use Rattle.log_codec.specs.Laws.{IsBytes}
use Rattle.log_codec.specs.Reading.{front_at, header_at, regulated_at, whole_at}
use Rattle.log_codec.specs.Spelling.{header_text}
use Rattle.race_log.specs.Validity.{AreVectors, bound_at}
use Rattle.log_codec.proofs.FieldLaws.{header_again, header_takes}
use Rattle.log_codec.proofs.FourParts as four
use Rattle.log_codec.proofs.FourParts.{NamesFour, ReadsHeader, never-both, no-reading, rest-bytes}
use Rattle.race_log.proofs.InTurn.{places-stand, stand-places}
use Rattle.log_codec.proofs.PartNames.{Missing, Names, bind-err, guard-names}
use Rattle.log_codec.proofs.PartNames.{header-names, missing_within, regulated-names}
use Rattle.log_codec.proofs.ReadingSteps.{bind_ok, ok_is}
use Rattle.log_codec.proofs.RecordingLaws.{after_header, after_reduced, regulated_again, regulated_takes, totals_fit}
use Rattle.race_log.proofs.Parts.{made_of}

-- ---- the first four parts

head : ReadsHeader IsHeader header_at
head = record {
  again = λ bytes v p len rest h.
      ap header_at h.spelled ∙ header_again v p len rest (record { params = h.limits; image = h.room });
  takes = λ bytes v p len rest are e. let t = header_takes bytes v p len rest are e in
      record { limits = t.1.params; room = t.1.image; spelled = t.0.parts };
  names = header-names;
  limits = λ bytes v p len rest h. h.limits;
  rest_fits = λ bytes v p len rest are h. rest-bytes bytes (header_text v p len) rest are h.spelled;
}

front-is : (bytes : List ℕ) → front_at bytes ≡ (header_at bytes >>= after_header after_reduced)
unfolding front_at
front-is bytes = refl

after-4 : (bytes rest : List ℕ) (u : UpToReduced IsHeader bytes rest) →
    front_at bytes ≡ after_reduced u.three.two.first.params u.three.two.image u.three.totals (u.reduced, rest)
after-4 bytes rest u = front-is bytes ∙ four.after-4 IsHeader header_at head after_reduced bytes rest u

reduced-bytes : (bytes rest : List ℕ) → IsBytes bytes → UpToReduced IsHeader bytes rest → IsBytes rest
reduced-bytes = four.reduced-bytes IsHeader header_at head

-- ---- the regulated log

regulated-read : (bytes before : List ℕ) (u : UpToReduced IsHeader bytes before) (regulated : List (List StrideVector))
    (rest : List ℕ) → IsRegulated u.three.totals before regulated rest →
    regulated_at u.three.totals before ≡ Ok (regulated, rest)
regulated-read bytes before u regulated rest h =
    let f = u.three.two.first in
    let totals = u.three.totals in
    let t = u.three.third in
    let sizes = totals_fit f.version f.params totals f.header.limits t.each_core in
    let stand = places-stand (λ place vs. AreVectors (bound_at totals place) vs) 0 regulated []
    (λ i lt. let same : i ≡ 0 + i = omega arith in
    subst (λ (k : ℕ). AreVectors (bound_at totals k) (get_or regulated i [])) same
    (h.vectors i (subst (λ (n : ℕ). i < n) h.pairs lt))) in
    ap (regulated_at totals) h.spelled
    ∙ regulated_again f.params.limit totals regulated rest sizes.small t.most h.pairs stand

read-regulated : (totals bytes : List ℕ) (regulated : List (List StrideVector)) (rest : List ℕ) → IsBytes bytes →
    regulated_at totals bytes
    ≡ Ok (regulated, rest) → IsRegulated totals bytes regulated rest
read-regulated totals bytes regulated rest are e =
    let t = regulated_takes totals bytes regulated rest are e in
    record {
      pairs = t.1;
      vectors = λ place below. let same : 0 + place ≡ place = omega arith in
          subst (λ (k : ℕ). AreVectors (bound_at totals k) (get_or regulated place [])) same
          (stand-places (λ place vs. AreVectors (bound_at totals place) vs) 0 regulated t.2 place []
          (subst (λ (n : ℕ). place < n) (sym t.1) below));
      spelled = t.0.parts;
    }

pub after-5 : (bytes rest : List ℕ) (u : UpToRegulated bytes rest) →
    front_at bytes ≡ Ok (
      made_of u.four.three.two.first.params u.four.three.two.image u.four.three.totals u.four.reduced
          u.regulated,
      rest,
    )
after-5 bytes rest u =
    front-is bytes
    ∙ four.after-5 IsHeader header_at head (λ p. regulated_at) made_of bytes u.before rest u.four u.regulated
    (regulated-read bytes u.before u.four u.regulated rest u.fifth)

-- ---- no valid part, then its name

name-regulated : (bytes : List ℕ) → IsBytes bytes → NoRegulated bytes → front_at bytes ≡ Err REGULATED
name-regulated bytes are (rest, u, none) =
    let here = reduced-bytes bytes rest are u in
    let t = u.three in
    after-4 bytes rest u
    ∙ ap (λ x. x >>= λ regulated. Ok
    (made_of t.two.first.params t.two.image t.totals u.reduced regulated.0, regulated.1))
    (no-reading REGULATED (regulated_at t.totals rest) (regulated-names t.totals rest)
    (λ x e. none x.0 x.1 (read-regulated t.totals rest x.0 x.1 here e)))

-- ---- a name, then no valid part

-- where a reading of the front ends
abbrev Ends : List ℕ → ℕ → Type 0
Ends bytes = Missing (NoHeader IsHeader bytes) (NoImage IsHeader bytes) (NoTotals IsHeader bytes)
    (NoReduced IsHeader bytes) (NoRegulated bytes) ⊥

ends-after-4 : (bytes rest : List ℕ) (p : ℕ) → (u : UpToReduced IsHeader bytes rest) →
    after_reduced u.three.two.first.params u.three.two.image u.three.totals (u.reduced, rest) ≡ Err p → Ends bytes p
ends-after-4 bytes rest p u e =
    elim (bind-err (regulated_at u.three.totals rest)
    (λ regulated. Ok (
      made_of u.three.two.first.params u.three.two.image u.three.totals u.reduced regulated.0,
      regulated.1,
    )) p e) [
      | inl bad ↦
          subst (Ends bytes) (sym (regulated-names u.three.totals rest p bad)) (
            rest,
            u,
            λ regulated after is. never-both p (regulated_at u.three.totals rest) (regulated, after) bad
                (regulated-read bytes rest u regulated after is),
          )
      | inr more ↦ absurd (let f = more.2 in cc)
    ]

front-ends : (bytes : List ℕ) (p : ℕ) → IsBytes bytes → front_at bytes ≡ Err p → Ends bytes p
front-ends bytes p are e = elim (four.stops_or IsHeader header_at head after_reduced (NoRegulated bytes) ⊥ bytes are) [
  | inl (q, named, missing) ↦
      let both : Err q ≡ Err p = sym (front-is bytes ∙ named) ∙ e in
      let same : q ≡ p = cc in
      subst (Ends bytes) same missing
  | inr (rest, u) ↦ ends-after-4 bytes rest p u (sym (after-4 bytes rest u) ∙ e)
]

front_names : (bytes : List ℕ) → IsBytes bytes → FrontNames bytes
front_names bytes are = record {
  header = (λ e. front-ends bytes HEADER are e, λ x. front-is bytes ∙ named.header x);
  image = (λ e. front-ends bytes IMAGE are e, λ x. front-is bytes ∙ named.image x);
  totals = (λ e. front-ends bytes TOTALS are e, λ x. front-is bytes ∙ named.totals x);
  reduced = (λ e. front-ends bytes REDUCED are e, λ x. front-is bytes ∙ named.reduced x);
  fifth = (λ e. front-ends bytes REGULATED are e, name-regulated bytes are);
  no_other = λ part e. within part (front-ends bytes part are e);
}
  where
    named : NamesFour IsHeader bytes (Recording × List ℕ) (header_at bytes >>= after_header after_reduced)
    named = four.names_four IsHeader header_at head after_reduced bytes are

    within : (part : ℕ) → Ends bytes part → (1 ≤ part) × (part ≤ 5)
    within part ended =
        let six : part ≡ 6 → ⊥ = λ is. subst (Ends bytes) is ended in
        let range = missing_within (NoHeader IsHeader bytes) (NoImage IsHeader bytes) (NoTotals IsHeader bytes)
        (NoReduced IsHeader bytes) (NoRegulated bytes) ⊥ part ended in
        (range.0, omega (arith, range.1, six))

-- ---- the end

-- all parts but for the end are valid, and are the recording's
pub read-all : (bytes : List ℕ) (r : Recording) (rest : List ℕ) → IsBytes bytes → front_at bytes ≡ Ok (r, rest) →
    (u : UpToRegulated bytes rest) × (r ≡ recording_up_to bytes rest u)
read-all bytes r rest are e = elim (four.stops_or IsHeader header_at head after_reduced ⊥ ⊥ bytes are) [
  | inl (q, named, missing) ↦ absurd (never-both q (front_at bytes) (r, rest) (front-is bytes ∙ named) e)
  | inr (before, u) ↦
      let t = u.three in
      let f = t.two.first in
      let g = bind_ok (regulated_at t.totals before)
      (λ regulated. Ok (made_of f.params t.two.image t.totals u.reduced regulated.0, regulated.1)) (r, rest)
      (sym (after-4 bytes before u) ∙ e) in
      let fifth = read-regulated t.totals before g.0.0 g.0.1 (reduced-bytes bytes before are u) g.1 in
      subst (λ (x : Recording × List ℕ). (u : UpToRegulated bytes x.1) × (x.0 ≡ recording_up_to bytes x.1 u))
      (ok_is (made_of f.params t.two.image t.totals u.reduced g.0.0, g.0.1) (r, rest) g.2)
      (record { before = before; four = u; regulated = g.0.0; fifth = fifth }, refl)
]

-- the last step, which wants no byte more
abbrev pub at_end : {A : Type 0} → ℕ → A × List ℕ → Result A ℕ
at_end part front = cond (eqb (length front.1) 0) (Ok front.0) (Err part)

pub end-names : {A : Type 0} (part : ℕ) (front : A × List ℕ) → Names part (at_end part front)
end-names part front = guard-names part (eqb (length front.1) 0) front.0

pub end-some : {A : Type 0} (part : ℕ) (front : A × List ℕ) → at_end part front ≡ Err part → front.1 ≢ []
end-some part front e none =
    let zero_is : eqb (length front.1) 0 ≡ true = eq-eqb (length front.1) 0 (ap (λ (l : List ℕ). length l) none) in
    let done : Ok front.0 ≡ Err part = subst (λ (b : Bool). cond b (Ok front.0) (Err part) ≡ Err part) zero_is e in
    absurd cc

pub some-end : {A : Type 0} (part : ℕ) (front : A × List ℕ) → front.1 ≢ [] → at_end part front ≡ Err part
some-end part front some =
    let long : eqb (length front.1) 0 ≡ false =
    ne_eqb (length front.1) 0 (λ none. some (nil_from_length front.1 none)) in
    rw long refl

whole_names : (bytes : List ℕ) → IsBytes bytes → WholeNames bytes
unfolding whole_at
whole_names bytes are = record {
  below = λ part not. (λ e. below part not e, λ e. ap (λ r. r >>= at_end END) e);
  end = (
    λ e. forth (bind-err (front_at bytes) (at_end END) END e),
    λ x. ap (λ r. r >>= at_end END) (after-5 bytes x.0 x.1) ∙ back x.0 x.1 x.2,
  );
  no_other = λ part e. within part (bind-err (front_at bytes) (at_end END) part e);
}
  where
    within : (part : ℕ) → (front_at bytes ≡ Err part)
        ⊎ ((x : Recording × List ℕ) × (front_at bytes ≡ Ok x) × (at_end END x ≡ Err part)) →
        (1 ≤ part) × (part ≤ 6)
    within part (inl bad) = let range = (front_names bytes are).no_other part bad in let a = range.0 in let b =
        range.1 in (omega arith, omega arith)
    within part (inr more) = let is = end-names END more.0 part more.2 in (omega arith, omega arith)

    below : (part : ℕ) → part ≢ END → whole_at bytes ≡ Err part → front_at bytes ≡ Err part
    below part not e = elim (bind-err (front_at bytes) (at_end END) part e) [
      | inl bad ↦ bad
      | inr more ↦ absurd (not (end-names END more.0 part more.2))
    ]

    forth : (front_at bytes ≡ Err END)
        ⊎ ((x : Recording × List ℕ) × (front_at bytes ≡ Ok x) × (at_end END x ≡ Err END)) → (rest : List ℕ)
        × UpToRegulated bytes rest × (rest ≢ [])
    forth (inl bad) = absurd (let no = (front_names bytes are).no_other END bad in let le = no.1 in omega arith)
    forth (inr more) = (more.0.1, (read-all bytes more.0.0 more.0.1 are more.1).0, end-some END more.0 more.2)

    back : (rest : List ℕ) (u : UpToRegulated bytes rest) → rest ≢ [] →
        at_end END (
          made_of u.four.three.two.first.params u.four.three.two.image u.four.three.totals u.four.reduced
              u.regulated,
          rest,
        ) ≡ Err END
    back rest u some = some-end END (
      made_of u.four.three.two.first.params u.four.three.two.image u.four.three.totals u.four.reduced u.regulated,
      rest,
    ) some

pub bad_part : BadPart
bad_part bytes are = (front_names bytes are, whole_names bytes are)
