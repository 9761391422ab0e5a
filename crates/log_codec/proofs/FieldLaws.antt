-- A field that is read is the one that is spelled, and what is spelled is read again: the header, the
-- image and the totals.
use Rattle.std.proofs.Common.{◌≡◌, ℕ, ◌*◌, ◌^◌, ◌<◌, ◌≤◌, Bool, true, false, cond, ◌&&◌, nat_lt, nat_le, nat_eq, List}
use Rattle.std.proofs.Common.{◌++◌, length, take, drop, Result, Ok}
use Rattle.std.proofs.Common.{Err, refl, sym, ap, subst, ◌∙◌, append_assoc, arith}
use Rattle.std.specs.List.{starts_with}
use Rattle.std.specs.Cmp.Lexicographic.{same_text}
use Rattle.std.proofs.lemmas.Bool.Decides.{nat_tests}
use Rattle.std.proofs.lemmas.List.{take_at, drop_at, take-append-drop, length-append, length-take}
use Rattle.std.proofs.lemmas.Bool.{and_parts}
use Rattle.rtr_types.specs.declared.params.Params.{Params}
use Rattle.varint_core.specs.declared.Varint.{Varint}
use Rattle.varint_core.specs.Leb128.{reading}
use Rattle.varint_core.proofs.ShortestSpelling as varint
use Rattle.log_codec.specs.declared.codec_fault.TheConstants.{HEADER, IMAGE, TOTALS}
use Rattle.log_codec.specs.Faults.{◌>>=◌}
use Rattle.log_codec.specs.Laws.{IsBytes}
use Rattle.log_codec.specs.declared.version.Version.{Version}
use Rattle.log_codec.specs.declared.version.Version.TheVariants.{One, Two}
use Rattle.log_codec.specs.Versions.{magic, FitsIn, fits_in}
use Rattle.log_codec.specs.Spelling.{number, sizes_text, header_text}
use Rattle.log_codec.specs.Reading.{after_number, number_at, version_at, params_of, sizes_at, header_at, image_at}
use Rattle.log_codec.specs.Reading.{total_at}
use Rattle.log_codec.proofs.Limits.{fits-true, true-fits}
use Rattle.log_codec.proofs.ReadingSteps.{bind_ok, guard_ok, refuse_ok, ok_is, bytes-drop, Takes, Takes-then}

-- ---- numbers

pub number_again : (part n : ℕ) (rest : List ℕ) → n < 2 ^ 32 → number_at part (number n ++ rest) ≡ Ok (n, rest)
unfolding number_at
number_again part n rest below =
    rw (varint.round_trip n rest below)
    (ap (λ (t : List ℕ). Ok (n, t)) (drop_at (number n) rest (length (number n)) refl))

pub number_takes : (part : ℕ) (bytes : List ℕ) (n : ℕ) (rest : List ℕ) → IsBytes bytes →
    number_at part bytes ≡ Ok (n, rest) → Takes bytes (number n) rest
    × (n < 2 ^ 32)
unfolding number_at
number_takes part bytes n rest are e = by (reading bytes) refl e
  where
    by : (r : Result (ℕ × ℕ) Varint) → reading bytes ≡ r → after_number part bytes r ≡ Ok (n, rest) →
        Takes bytes (number n) rest × (n < 2 ^ 32)
    by (Err f) is g = absurd cc
    by (Ok r) is g =
        let p = ok_is (r.0, drop r.1 bytes) (n, rest) g in
        let n_is : r.0 ≡ n = ap (λ (q : ℕ × List ℕ). q.0) p in
        let rest_is : drop r.1 bytes ≡ rest = ap (λ (q : ℕ × List ℕ). q.1) p in
        let o = varint.one_spelling bytes r.0 r.1 are is in
        let parts : bytes ≡ number n ++ rest =
        sym (take-append-drop r.1 bytes) ∙ ap (λ (t : List ℕ). t ++ drop r.1 bytes) o.2
        ∙ ap (λ (m : ℕ). number m ++ drop r.1 bytes) n_is ∙ ap (λ (t : List ℕ). number n ++ t) rest_is in (
          record { parts = parts; rest_fits = subst IsBytes rest_is (bytes-drop r.1 bytes are) },
          subst (λ (m : ℕ). m < 2 ^ 32) n_is o.0,
        )

-- ---- the header

version_takes : (bytes : List ℕ) (v : Version) (rest : List ℕ) → IsBytes bytes → version_at bytes ≡ Ok (v, rest) →
    Takes bytes (magic v) rest
unfolding version_at
version_takes bytes v rest are e = first (starts_with nat_eq bytes (magic One)) refl e
  where
    taken : (w : Version) → length (magic w) ≡ 4 → starts_with nat_eq bytes (magic w) ≡ true →
        ◌≡◌ {A = Result (Version × List ℕ) ℕ} (Ok (w, drop 4 bytes)) (Ok (v, rest)) → Takes bytes (magic v) rest
    taken w long is f =
        let p = ok_is (w, drop 4 bytes) (v, rest) f in
        let front : magic w ≡ take 4 bytes =
        subst (λ (n : ℕ). magic w ≡ take n bytes) long
        (same_text (magic w) (take (length (magic w)) bytes) (sym is)) in
        let parts : bytes ≡ magic w ++ drop 4 bytes =
        sym (take-append-drop 4 bytes) ∙ ap (λ (t : List ℕ). t ++ drop 4 bytes) (sym front) in
        subst (λ (y : Version × List ℕ). Takes bytes (magic y.0) y.1) p
        (record { parts = parts; rest_fits = bytes-drop 4 bytes are })

    second : (b : Bool) → starts_with nat_eq bytes (magic Two) ≡ b →
        cond {A = Result (Version × List ℕ) ℕ} b (Ok (Two, drop 4 bytes)) (Err HEADER)
        ≡ Ok (v, rest) → Takes bytes (magic v) rest
    second true is f = taken Two refl is f
    second false is f = absurd cc

    first : (b : Bool) → starts_with nat_eq bytes (magic One) ≡ b →
        cond {A = Result (Version × List ℕ) ℕ} b (Ok (One, drop 4 bytes))
        (cond (starts_with nat_eq bytes (magic Two)) (Ok (Two, drop 4 bytes)) (Err HEADER))
        ≡ Ok (v, rest) → Takes bytes (magic v) rest
    first true is f = taken One refl is f
    first false is f = second (starts_with nat_eq bytes (magic Two)) refl f

version_again : (v : Version) (rest : List ℕ) → version_at (magic v ++ rest) ≡ Ok (v, rest)
unfolding version_at
version_again One rest = refl
version_again Two rest = refl

-- what a header that was read is
pub record HeaderFits (v : Version) (p : Params) (len : ℕ) : Type 0 where
  pub params : FitsIn v p
  pub image : len ≤ 4 * p.words

params_fit : (v : Version) (cores limit words len : ℕ) (p : Params) → params_of v cores limit words len ≡ Ok p →
    HeaderFits v p len × (cores ≡ p.cores)
    × (limit ≡ p.limit) × (words ≡ p.words)
unfolding params_of
params_fit v cores limit words len p e =
    let made : Params = record { cores = cores; limit = limit; words = words } in
    let g = guard_ok (fits_in v made && nat_le len (4 * words)) HEADER made p e in
    let a = and_parts (fits_in v made) (nat_le len (4 * words)) g.0 in
    let long = a.1 in
    let whole : HeaderFits v made len = record { params = fits-true v made a.0; image = grind (arith, nat_tests) } in (
      subst (λ (q : Params). HeaderFits v q len) g.1 whole,
      ap (λ (q : Params). q.cores) g.1,
      ap (λ (q : Params). q.limit) g.1,
      ap (λ (q : Params). q.words) g.1,
    )

params_again : (v : Version) (p : Params) (len : ℕ) → HeaderFits v p len →
    params_of v p.cores p.limit p.words len ≡ Ok p
unfolding params_of
params_again v p len h =
    let a = true-fits v p h.params in
    let b : nat_le len (4 * p.words) ≡ true = grind (arith, nat_tests) in
    rw (a, b) refl

-- a version, parameters, a length, and bytes
abbrev pub Headed : Type 0
Headed = Version × Params × ℕ × List ℕ

-- parameters, a length, and bytes
abbrev pub Sized : Type 0
Sized = Params × ℕ × List ℕ

abbrev after_len : Version → ℕ → ℕ → ℕ → ℕ × List ℕ → Result Sized ℕ
after_len v cores limit words len = params_of v cores limit words len.0 >>= λ params. Ok (params, len.0, len.1)

abbrev after_words : Version → ℕ → ℕ → ℕ × List ℕ → Result Sized ℕ
after_words v cores limit words = number_at HEADER words.1 >>= λ len. after_len v cores limit words.0 len

abbrev after_limit : Version → ℕ → ℕ × List ℕ → Result Sized ℕ
after_limit v cores limit = number_at HEADER limit.1 >>= λ words. after_words v cores limit.0 words

abbrev after_cores : Version → ℕ × List ℕ → Result Sized ℕ
after_cores v cores = number_at HEADER cores.1 >>= λ limit. after_limit v cores.0 limit

abbrev after_version : Version × List ℕ → Result Headed ℕ
after_version version = sizes_at version.0 version.1 >>= λ sizes. Ok (version.0, sizes.0, sizes.1, sizes.2)

pub sizes_take : (v : Version) (bytes : List ℕ) (p : Params) (len : ℕ) (rest : List ℕ) → IsBytes bytes →
    sizes_at v bytes ≡ Ok (p, len, rest) →
    Takes bytes (sizes_text p len) rest × HeaderFits v p len
unfolding sizes_at
sizes_take v bytes p len rest are e =
    let c = bind_ok (number_at HEADER bytes) (after_cores v) (p, len, rest) e in
    let l = bind_ok (number_at HEADER c.0.1) (after_limit v c.0.0) (p, len, rest) c.2 in
    let w = bind_ok (number_at HEADER l.0.1) (after_words v c.0.0 l.0.0) (p, len, rest) l.2 in
    let i = bind_ok (number_at HEADER w.0.1) (after_len v c.0.0 l.0.0 w.0.0) (p, len, rest) w.2 in
    let q = bind_ok (params_of v c.0.0 l.0.0 w.0.0 i.0.0) (λ params. Ok (params, i.0.0, i.0.1)) (p, len, rest) i.2 in
    let tc = number_takes HEADER bytes c.0.0 c.0.1 are c.1 in
    let tl = number_takes HEADER c.0.1 l.0.0 l.0.1 tc.0.rest_fits l.1 in
    let tw = number_takes HEADER l.0.1 w.0.0 w.0.1 tl.0.rest_fits w.1 in
    let ti = number_takes HEADER w.0.1 i.0.0 i.0.1 tw.0.rest_fits i.1 in
    let f = params_fit v c.0.0 l.0.0 w.0.0 i.0.0 q.0 q.1 in
    let t1 = Takes-then l.0.1 (number w.0.0) w.0.1 (number i.0.0) i.0.1 tw.0 ti.0 in
    let t2 = Takes-then c.0.1 (number l.0.0) l.0.1 (number w.0.0 ++ number i.0.0) i.0.1 tl.0 t1 in
    let t3 = Takes-then bytes (number c.0.0) c.0.1 (number l.0.0 ++ (number w.0.0 ++ number i.0.0)) i.0.1 tc.0 t2 in
    let made : Sized = (q.0, i.0.0, i.0.1) in
    let named : Takes bytes (sizes_text q.0 i.0.0) i.0.1 = rw (← f.1, ← f.2, ← f.3) t3 in
    subst (λ (y : Sized). Takes bytes (sizes_text y.0 y.1) y.2 × HeaderFits v y.0 y.1) (ok_is made (p, len, rest) q.2)
    (named, f.0)

pub header_takes : (bytes : List ℕ) (v : Version) (p : Params) (len : ℕ) (rest : List ℕ) → IsBytes bytes →
    header_at bytes ≡ Ok (v, p, len, rest) →
    Takes bytes (header_text v p len) rest × HeaderFits v p len
unfolding header_at
header_takes bytes v p len rest are e =
    let m = bind_ok (version_at bytes) after_version (v, p, len, rest) e in
    let q = bind_ok (sizes_at m.0.0 m.0.1) (λ sizes. Ok (m.0.0, sizes.0, sizes.1, sizes.2)) (v, p, len, rest) m.2 in
    let tm = version_takes bytes m.0.0 m.0.1 are m.1 in
    let ts = sizes_take m.0.0 m.0.1 q.0.0 q.0.1 q.0.2 tm.rest_fits q.1 in
    let made : Headed = (m.0.0, q.0.0, q.0.1, q.0.2) in
    let named : Takes bytes (header_text m.0.0 q.0.0 q.0.1) q.0.2 =
    Takes-then bytes (magic m.0.0) m.0.1 (sizes_text q.0.0 q.0.1) q.0.2 tm ts.0 in
    subst (λ (y : Headed). Takes bytes (header_text y.0 y.1 y.2) y.3 × HeaderFits y.0 y.1 y.2)
    (ok_is made (v, p, len, rest) q.2) (named, ts.1)

-- the numbers of a header can be spelled
record HeaderSmall (p : Params) (len : ℕ) : Type 0 where
  cores : p.cores < 2 ^ 32
  limit : p.limit < 2 ^ 32
  words : p.words < 2 ^ 32
  image : len < 2 ^ 32

header-small : (v : Version) (p : Params) (len : ℕ) → HeaderFits v p len → HeaderSmall p len
header-small One p len h = let f = h.params in
    record { cores = omega arith; limit = omega arith; words = omega arith; image = omega arith }
header-small Two p len h = let f = h.params in
    record { cores = omega arith; limit = omega arith; words = omega arith; image = omega arith }

pub sizes_again : (v : Version) (p : Params) (len : ℕ) (rest : List ℕ) → HeaderFits v p len →
    sizes_at v (sizes_text p len ++ rest) ≡ Ok (p, len, rest)
unfolding sizes_at
sizes_again v p len rest h =
    let regrouped : sizes_text p len ++ rest
    ≡ number p.cores ++ (number p.limit ++ (number p.words ++ (number len ++ rest))) = simp append_assoc in
    let small = header-small v p len h in
    let c = number_again HEADER p.cores (number p.limit ++ (number p.words ++ (number len ++ rest))) small.cores in
    let l = number_again HEADER p.limit (number p.words ++ (number len ++ rest)) small.limit in
    let w = number_again HEADER p.words (number len ++ rest) small.words in
    let i = number_again HEADER len rest small.image in
    ap (sizes_at v) regrouped ∙ rw (c, l, w, i, params_again v p len h) refl

pub header_again : (v : Version) (p : Params) (len : ℕ) (rest : List ℕ) → HeaderFits v p len →
    header_at (header_text v p len ++ rest) ≡ Ok (v, p, len, rest)
unfolding header_at
header_again v p len rest h =
    ap header_at (append_assoc (magic v) (sizes_text p len) rest)
    ∙ rw (version_again v (sizes_text p len ++ rest), sizes_again v p len rest h) refl

-- ---- the image

pub image_takes : (len : ℕ) (bytes image rest : List ℕ) → IsBytes bytes → image_at len bytes ≡ Ok (image, rest) →
    Takes bytes image rest × (length image ≡ len)
unfolding image_at
image_takes len bytes image rest are e =
    let g = refuse_ok (nat_lt (length bytes) len) IMAGE (take len bytes, drop len bytes) (image, rest) e in
    let test = g.0 in
    let long : len ≤ length bytes = grind (arith, nat_tests) in
    let front : length (take len bytes) ≡ len = omega (arith, length-take len bytes) in
    let whole : Takes bytes (take len bytes) (drop len bytes) =
    record { parts = sym (take-append-drop len bytes); rest_fits = bytes-drop len bytes are } in
    subst (λ (y : List ℕ × List ℕ). Takes bytes y.0 y.1 × (length y.0 ≡ len)) g.1 (whole, front)

pub image_again : (image rest : List ℕ) → image_at (length image) (image ++ rest) ≡ Ok (image, rest)
unfolding image_at
image_again image rest =
    let long : nat_lt (length (image ++ rest)) (length image) ≡ false =
    grind (arith, nat_tests, length-append image rest) in
    rw (long, take_at image rest (length image) refl, drop_at image rest (length image) refl) refl

-- ---- the totals

pub total_takes : (limit : ℕ) (bytes : List ℕ) (t : ℕ) (rest : List ℕ) → IsBytes bytes →
    total_at limit bytes ≡ Ok (t, rest) → Takes bytes (number t) rest
    × (t ≤ limit)
unfolding total_at
total_takes limit bytes t rest are e =
    let n = bind_ok (number_at TOTALS bytes) (λ total. cond (nat_le total.0 limit) (Ok total) (Err TOTALS)) (t, rest) e
    in
    let g = guard_ok (nat_le n.0.0 limit) TOTALS n.0 (t, rest) n.2 in
    let test = g.0 in
    let most : n.0.0 ≤ limit = grind (arith, nat_tests) in
    let taken = number_takes TOTALS bytes n.0.0 n.0.1 are n.1 in
    subst (λ (y : ℕ × List ℕ). Takes bytes (number y.0) y.1 × (y.0 ≤ limit)) g.1 (taken.0, most)

pub total_again : (limit t : ℕ) (rest : List ℕ) → limit < 2 ^ 32 → t ≤ limit →
    total_at limit (number t ++ rest) ≡ Ok (t, rest)
unfolding total_at
total_again limit t rest small most =
    let test : nat_le t limit ≡ true = grind (arith, nat_tests) in
    rw (number_again TOTALS t rest (omega arith), test) refl
