-- The first four parts of bytes, whichever header they have: either all four are there, or the reading names one that
-- is missing. What reads the parts after them is any function.
use Rattle.std.proofs.Common.{◌≡◌, ℕ, inl, inr, ◌⊎◌, List, [], ◌∷◌, ◌++◌, length, Result, Ok, Err}
use Rattle.std.proofs.Common.{refl, sym, ap, subst, ◌∙◌}
use Rattle.rtr_types.specs.declared.params.Params.{Params}
use Rattle.log_codec.specs.declared.codec_fault.TheConstants.{HEADER, IMAGE, TOTALS, REDUCED}
use Rattle.log_codec.specs.declared.version.Version.{Version}
use Rattle.log_codec.specs.BadParts.{HeaderRelation, IsImage, IsReduced, IsTotals, NoHeader, NoImage, NoReduced}
use Rattle.log_codec.specs.BadParts.{NoTotals, UpToHeader, UpToImage, UpToReduced, UpToTotals}
use Rattle.log_codec.specs.Faults.{◌>>=◌}
use Rattle.log_codec.specs.Laws.{IsBytes}
use Rattle.log_codec.specs.Reading.{image_at, reduced_at, totals_at}
use Rattle.log_codec.specs.Spelling.{reduced_text, totals_text}
use Rattle.log_codec.specs.Versions.{FitsIn}
use Rattle.log_codec.proofs.FieldLaws.{Headed, image_again, image_takes}
use Rattle.log_codec.proofs.PartNames.{Missing, Names, image-names, reduced-names, totals-name}
use Rattle.log_codec.proofs.ReducedLaws.{reduced_again, reduced_takes}
use Rattle.log_codec.proofs.RecordingLaws.{AfterFour, after_header, after_image, after_totals, totals_again, totals_fit}
use Rattle.log_codec.proofs.RecordingLaws.{totals_take}

-- ---- a part that is read, and one that isn't

bytes-after : (a b : List ℕ) → IsBytes (a ++ b) → IsBytes b
bytes-after [] b h = h
bytes-after (x ∷ a) b h = bytes-after a b h.1

pub rest-bytes : (bytes text rest : List ℕ) → IsBytes bytes → bytes ≡ text ++ rest → IsBytes rest
rest-bytes bytes text rest are is = bytes-after text rest (subst IsBytes is are)

pub no-reading : {A : Type 0} (k : ℕ) (r : Result A ℕ) → Names k r → ((x : A) → r ≡ Ok x → ⊥) → r ≡ Err k
no-reading k (Ok x) names none = absurd (none x refl)
no-reading {A} k (Err p) names none = ap (λ (n : ℕ). let x : Result A ℕ = Err n in x) (names p refl)

pub never-both : {A : Type 0} (k : ℕ) (r : Result A ℕ) (x : A) → r ≡ Err k → r ≡ Ok x → ⊥
never-both k r x e f = let both : Err k ≡ Ok x = sym e ∙ f in absurd cc

image-read : (len : ℕ) (bytes image rest : List ℕ) → IsImage len bytes image rest →
    image_at len bytes ≡ Ok (image, rest)
image-read len bytes image rest h =
    subst (λ (n : ℕ). image_at n bytes ≡ Ok (image, rest)) h.long
    (ap (image_at (length image)) h.spelled ∙ image_again image rest)

read-image : (len : ℕ) (bytes image rest : List ℕ) → IsBytes bytes → image_at len bytes ≡ Ok (image, rest) →
    IsImage len bytes image rest
read-image len bytes image rest are e = let t = image_takes len bytes image rest are e in
    record { long = t.1; spelled = t.0.parts }

totals-read : (v : Version) (p : Params) (bytes totals rest : List ℕ) → FitsIn v p → IsTotals p bytes totals rest →
    totals_at p.limit p.cores bytes
    ≡ Ok (totals, rest)
totals-read v p bytes totals rest fits h =
    let sizes = totals_fit v p totals fits h.each_core in
    ap (totals_at p.limit p.cores) h.spelled
    ∙ subst (λ (n : ℕ). totals_at p.limit n (totals_text totals ++ rest) ≡ Ok (totals, rest)) h.each_core
    (totals_again p.limit totals rest sizes.small h.most)

read-totals : (p : Params) (bytes totals rest : List ℕ) → IsBytes bytes →
    totals_at p.limit p.cores bytes ≡ Ok (totals, rest) → IsTotals p bytes totals rest
read-totals p bytes totals rest are e = let t = totals_take p.limit p.cores bytes totals rest are e in
    record { each_core = t.1; most = t.2; spelled = t.0.parts }

reduced-read : (v : Version) (p : Params) (before totals bytes : List ℕ) (reduced : List (List (ℕ × ℕ)))
    (rest : List ℕ) → FitsIn v p →
    IsTotals p before totals bytes → IsReduced v totals bytes reduced rest →
    reduced_at v totals bytes ≡ Ok (reduced, rest)
reduced-read v p before totals bytes reduced rest fits t h =
    let sizes = totals_fit v p totals fits t.each_core in
    ap (reduced_at v totals) h.spelled
    ∙ reduced_again v p.limit totals reduced rest sizes.small sizes.together sizes.few t.most h.pairs h.edges

read-reduced : (v : Version) (totals bytes : List ℕ) (reduced : List (List (ℕ × ℕ))) (rest : List ℕ) →
    IsBytes bytes → reduced_at v totals bytes
    ≡ Ok (reduced, rest) → IsReduced v totals bytes reduced rest
read-reduced v totals bytes reduced rest are e = let t = reduced_takes v totals bytes reduced rest are e in
    record { pairs = t.1; edges = t.2; spelled = t.0.parts }

-- ---- a header's reader

-- it reads just the headers, fails by their part's name, and leaves bytes
pub record ReadsHeader (Header : HeaderRelation) (header_at : List ℕ → Result Headed ℕ) : Type 0 where
  pub again : (bytes : List ℕ) (v : Version) (p : Params) (len : ℕ) (rest : List ℕ) → Header bytes v p len rest →
      header_at bytes ≡ Ok (v, p, len, rest)
  pub takes : (bytes : List ℕ) (v : Version) (p : Params) (len : ℕ) (rest : List ℕ) → IsBytes bytes →
      header_at bytes ≡ Ok (v, p, len, rest) → Header bytes v p len rest
  pub names : (bytes : List ℕ) → Names HEADER (header_at bytes)
  pub limits : (bytes : List ℕ) (v : Version) (p : Params) (len : ℕ) (rest : List ℕ) → Header bytes v p len rest →
      FitsIn v p
  pub rest_fits : (bytes : List ℕ) (v : Version) (p : Params) (len : ℕ) (rest : List ℕ) → IsBytes bytes →
      Header bytes v p len rest → IsBytes rest

-- a missing part is named by a reading
pub record NamesFour (Header : HeaderRelation) (bytes : List ℕ) (A : Type 0) (read : Result A ℕ) : Type 0 where
  pub header : NoHeader Header bytes → read ≡ Err HEADER
  pub image : NoImage Header bytes → read ≡ Err IMAGE
  pub totals : NoTotals Header bytes → read ≡ Err TOTALS
  pub reduced : NoReduced Header bytes → read ≡ Err REDUCED

-- the reading of a fifth part, and of what is made of all five
abbrev with_fifth : {V A : Type 0} → (Params → List ℕ → List ℕ → Result (V × List ℕ) ℕ) →
    (Params → List ℕ → List ℕ → List (List (ℕ × ℕ)) → V → A) → AfterFour (A × List ℕ)
with_fifth fifth_at made p image totals reduced =
    fifth_at p totals reduced.1 >>= λ fifth. Ok (made p image totals reduced.0 fifth.0, fifth.1)

module _ (Header : HeaderRelation) (header_at : List ℕ → Result Headed ℕ) (head : ReadsHeader Header header_at) where
  pub limits-fit : (bytes rest : List ℕ) (u : UpToHeader Header bytes rest) → FitsIn u.version u.params
  limits-fit bytes rest u = head.limits bytes u.version u.params u.len rest u.header

  -- ---- what follows valid parts is bytes

  header-bytes : (bytes rest : List ℕ) → IsBytes bytes → UpToHeader Header bytes rest → IsBytes rest
  header-bytes bytes rest are u = head.rest_fits bytes u.version u.params u.len rest are u.header

  image-bytes : (bytes rest : List ℕ) → IsBytes bytes → UpToImage Header bytes rest → IsBytes rest
  image-bytes bytes rest are u =
      rest-bytes u.before u.image rest (header-bytes bytes u.before are u.first) u.second.spelled

  totals-bytes : (bytes rest : List ℕ) → IsBytes bytes → UpToTotals Header bytes rest → IsBytes rest
  totals-bytes bytes rest are u =
      rest-bytes u.before (totals_text u.totals) rest (image-bytes bytes u.before are u.two) u.third.spelled

  pub reduced-bytes : (bytes rest : List ℕ) → IsBytes bytes → UpToReduced Header bytes rest → IsBytes rest
  reduced-bytes bytes rest are u =
      rest-bytes u.before (reduced_text u.three.two.first.version (length u.three.totals) u.reduced) rest
      (totals-bytes bytes u.before are u.three) u.fourth.spelled

  module _ {A : Type 0} (next : AfterFour A) where
    -- ---- the reading after valid parts

    after-1 : (bytes rest : List ℕ) (u : UpToHeader Header bytes rest) →
        (header_at bytes >>= after_header next) ≡ after_header next (u.version, u.params, u.len, rest)
    after-1 bytes rest u =
        ap (λ r. r >>= after_header next) (head.again bytes u.version u.params u.len rest u.header)

    after-2 : (bytes rest : List ℕ) (u : UpToImage Header bytes rest) →
        (header_at bytes >>= after_header next) ≡ after_image next u.first.version u.first.params (u.image, rest)
    after-2 bytes rest u =
        after-1 bytes u.before u.first
        ∙ ap (λ r. r >>= after_image next u.first.version u.first.params)
        (image-read u.first.len u.before u.image rest u.second)

    after-3 : (bytes rest : List ℕ) (u : UpToTotals Header bytes rest) → (header_at bytes >>= after_header next)
        ≡ after_totals next u.two.first.version u.two.first.params u.two.image (u.totals, rest)
    after-3 bytes rest u =
        let f = u.two.first in
        after-2 bytes u.before u.two
        ∙ ap (λ r. r >>= after_totals next f.version f.params u.two.image)
        (totals-read f.version f.params u.before u.totals rest (limits-fit bytes u.two.before f) u.third)

    pub after-4 : (bytes rest : List ℕ) (u : UpToReduced Header bytes rest) → (header_at bytes >>= after_header next)
        ≡ next u.three.two.first.params u.three.two.image u.three.totals (u.reduced, rest)
    after-4 bytes rest u =
        let t = u.three in
        let f = t.two.first in
        after-3 bytes u.before t
        ∙ ap (λ r. r >>= next f.params t.two.image t.totals)
        (reduced-read f.version f.params t.before t.totals u.before u.reduced rest
        (limits-fit bytes t.two.before f) t.third u.fourth)

    -- ---- no valid part, then its name

    name-header : (bytes : List ℕ) → IsBytes bytes → NoHeader Header bytes →
        (header_at bytes >>= after_header next) ≡ Err HEADER
    name-header bytes are none =
        ap (λ r. r >>= after_header next)
        (no-reading HEADER (header_at bytes) (head.names bytes)
        (λ x e. none x.0 x.1 x.2 x.3 (head.takes bytes x.0 x.1 x.2 x.3 are e)))

    name-image : (bytes : List ℕ) → IsBytes bytes → NoImage Header bytes →
        (header_at bytes >>= after_header next) ≡ Err IMAGE
    name-image bytes are (rest, u, none) =
        let here = header-bytes bytes rest are u in
        after-1 bytes rest u
        ∙ ap (λ r. r >>= after_image next u.version u.params)
        (no-reading IMAGE (image_at u.len rest) (image-names u.len rest)
        (λ x e. none x.0 x.1 (read-image u.len rest x.0 x.1 here e)))

    name-totals : (bytes : List ℕ) → IsBytes bytes → NoTotals Header bytes →
        (header_at bytes >>= after_header next) ≡ Err TOTALS
    name-totals bytes are (rest, u, none) =
        let here = image-bytes bytes rest are u in
        let p = u.first.params in
        after-2 bytes rest u
        ∙ ap (λ r. r >>= after_totals next u.first.version p u.image)
        (no-reading TOTALS (totals_at p.limit p.cores rest) (totals-name p.limit p.cores rest)
        (λ x e. none x.0 x.1 (read-totals p rest x.0 x.1 here e)))

    name-reduced : (bytes : List ℕ) → IsBytes bytes → NoReduced Header bytes →
        (header_at bytes >>= after_header next) ≡ Err REDUCED
    name-reduced bytes are (rest, u, none) =
        let here = totals-bytes bytes rest are u in
        let v = u.two.first.version in
        after-3 bytes rest u
        ∙ ap (λ r. r >>= next u.two.first.params u.two.image u.totals)
        (no-reading REDUCED (reduced_at v u.totals rest) (reduced-names v u.totals rest)
        (λ x e. none x.0 x.1 (read-reduced v u.totals rest x.0 x.1 here e)))

    pub names_four : (bytes : List ℕ) → IsBytes bytes → NamesFour Header bytes A (header_at bytes >>= after_header next)
    names_four bytes are = record {
      header = name-header bytes are;
      image = name-image bytes are;
      totals = name-totals bytes are;
      reduced = name-reduced bytes are;
    }

    -- ---- the four parts are there, or one is missing and named

    -- what else may be missing is of the parts after these
    abbrev StopsOr : (last end : Type 0) (bytes : List ℕ) → Type 0
    StopsOr last end bytes = ((part : ℕ) × ((header_at bytes >>= after_header next) ≡ Err part)
        × Missing (NoHeader Header bytes) (NoImage Header bytes) (NoTotals Header bytes) (NoReduced Header bytes) last
        end part) ⊎ ((rest : List ℕ) × UpToReduced Header bytes rest)

    stops-3 : (last end : Type 0) (bytes rest : List ℕ) → IsBytes bytes → UpToTotals Header bytes rest →
        StopsOr last end bytes
    stops-3 last end bytes rest are u = by (reduced_at f.version u.totals rest) refl
      where
        f : UpToHeader Header bytes u.two.before
        f = u.two.first

        by : (r : Result (List (List (ℕ × ℕ)) × List ℕ) ℕ) → reduced_at f.version u.totals rest ≡ r →
            StopsOr last end bytes
        by (Err k) e =
            let fits = limits-fit bytes u.two.before f in
            let none : NoReduced Header bytes = (
              rest,
              u,
              λ reduced after is. never-both k (reduced_at f.version u.totals rest) (reduced, after) e
                  (reduced-read f.version f.params u.before u.totals rest reduced after fits u.third is),
            ) in
            inl (REDUCED, name-reduced bytes are none, none)
        by (Ok x) e =
            let fourth = read-reduced f.version u.totals rest x.0 x.1 (totals-bytes bytes rest are u) e in
            inr (x.1, record { before = rest; three = u; reduced = x.0; fourth = fourth })

    stops-2 : (last end : Type 0) (bytes rest : List ℕ) → IsBytes bytes → UpToImage Header bytes rest →
        StopsOr last end bytes
    stops-2 last end bytes rest are u = by (totals_at p.limit p.cores rest) refl
      where
        p : Params
        p = u.first.params

        by : (r : Result (List ℕ × List ℕ) ℕ) → totals_at p.limit p.cores rest ≡ r → StopsOr last end bytes
        by (Err k) e =
            let fits = limits-fit bytes u.before u.first in
            let none : NoTotals Header bytes = (
              rest,
              u,
              λ totals after is. never-both k (totals_at p.limit p.cores rest) (totals, after) e
                  (totals-read u.first.version p rest totals after fits is),
            ) in
            inl (TOTALS, name-totals bytes are none, none)
        by (Ok x) e =
            let third = read-totals p rest x.0 x.1 (image-bytes bytes rest are u) e in
            stops-3 last end bytes x.1 are (record { before = rest; two = u; totals = x.0; third = third })

    stops-1 : (last end : Type 0) (bytes rest : List ℕ) → IsBytes bytes → UpToHeader Header bytes rest →
        StopsOr last end bytes
    stops-1 last end bytes rest are u = by (image_at u.len rest) refl
      where
        by : (r : Result (List ℕ × List ℕ) ℕ) → image_at u.len rest ≡ r → StopsOr last end bytes
        by (Err k) e =
            let none : NoImage Header bytes = (
              rest,
              u,
              λ image after is. never-both k (image_at u.len rest) (image, after) e
                  (image-read u.len rest image after is),
            ) in
            inl (IMAGE, name-image bytes are none, none)
        by (Ok x) e =
            let second = read-image u.len rest x.0 x.1 (header-bytes bytes rest are u) e in
            stops-2 last end bytes x.1 are (record { before = rest; first = u; image = x.0; second = second })

    pub stops_or : (last end : Type 0) (bytes : List ℕ) → IsBytes bytes → StopsOr last end bytes
    stops_or last end bytes are = by (header_at bytes) refl
      where
        by : (r : Result Headed ℕ) → header_at bytes ≡ r → StopsOr last end bytes
        by (Err k) e =
            let none : NoHeader Header bytes = λ v p len rest is.
            never-both k (header_at bytes) (v, p, len, rest) e (head.again bytes v p len rest is) in
            inl (HEADER, name-header bytes are none, none)
        by (Ok h) e =
            let header = head.takes bytes h.0 h.1 h.2 h.3 are e in
            stops-1 last end bytes h.3 are (record { version = h.0; params = h.1; len = h.2; header = header })

  -- ---- a fifth part after them

  pub after-5 : {V A : Type 0} (fifth_at : Params → List ℕ → List ℕ → Result (V × List ℕ) ℕ)
      (made : Params → List ℕ → List ℕ → List (List (ℕ × ℕ)) → V → A)
      (bytes before rest : List ℕ) (u : UpToReduced Header bytes before) (v : V) →
      fifth_at u.three.two.first.params u.three.totals before ≡ Ok (v, rest) →
      (header_at bytes >>= after_header (with_fifth fifth_at made))
      ≡ Ok (made u.three.two.first.params u.three.two.image u.three.totals u.reduced v, rest)
  after-5 fifth_at made bytes before rest u v read =
      let t = u.three in
      let p = t.two.first.params in
      after-4 (with_fifth fifth_at made) bytes before u
      ∙ ap (λ x. x >>= λ fifth. Ok (made p t.two.image t.totals u.reduced fifth.0, fifth.1)) read
