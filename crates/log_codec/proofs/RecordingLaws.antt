-- A recording that is read is the one that is spelled, and what is spelled is read again.
use Rattle.std.proofs.Common.{◌≡◌, ℕ, ◌+◌, ◌-◌, ◌*◌, ◌^◌, ◌<◌, ◌≤◌, List, [], ◌++◌, length, take, drop}
use Rattle.std.proofs.Common.{Result, Ok, refl, sym}
use Rattle.std.proofs.Common.{ap, subst, ◌∙◌, append_assoc, arith}
use Rattle.std.specs.Prelude.{All}
use Rattle.std.proofs.lemmas.List.{append-nil, take_at, drop_at, length-append}
use Rattle.rtr_types.specs.declared.params.Params.{Params}
use Rattle.rtr_types.specs.Pairs.{pair_count}
use Rattle.stride_vector.specs.declared.StrideVector.{StrideVector}
use Rattle.log_codec.specs.declared.codec_fault.TheConstants.{END}
use Rattle.race_log.specs.declared.recording.Recording.{Recording}
use Rattle.log_codec.specs.declared.codec_fault.CodecFault.{CodecFault}
use Rattle.log_codec.specs.Faults.{◌>>=◌, Fails}
use Rattle.rtr_types.specs.Turns.{StandInTurn, stay, count_up}
use Rattle.log_codec.specs.Turns.{alike}
use Rattle.log_codec.specs.declared.version.Version.{Version}
use Rattle.log_codec.specs.declared.version.Version.TheVariants.{One, Two}
use Rattle.log_codec.specs.Incoming.{IncomingStands, incoming_edges, remember}
use Rattle.race_log.specs.Validity.{Valid, AreVectors, bound_at}
use Rattle.log_codec.specs.Incoming.{IsLog}
use Rattle.log_codec.specs.Versions.{FitsIn}
use Rattle.rtr_types.specs.Parameters.{Fits}
use Rattle.log_codec.specs.Spelling.{Spells, header_text, totals_text, reduced_text, vectors_text, regulated_text}
use Rattle.log_codec.specs.Spelling.{spelling_in, number}
use Rattle.log_codec.specs.Reading.{header_at, image_at, total_at, totals_at, reduced_at, vectors_at, regulated_at}
use Rattle.log_codec.specs.Reading.{front_at, whole_at}
use Rattle.log_codec.specs.Laws.{IsBytes, ReadIsSpelled, SpelledIsRead, SpelledIsFront, FrontIsSpelled, PrefixFree}
use Rattle.log_codec.specs.Laws.{ReadAndSpelled, IntoTheTarget}
use Rattle.log_codec.proofs.ReadingSteps.{bind_ok, ok_is, Takes, Takes-then}
use Rattle.log_codec.proofs.Wholes.{front_read, one_front, read_front}
use Rattle.log_codec.proofs.InTurn.{turns_take, turns_again}
use Rattle.race_log.proofs.InTurn.{stand-all, all-stand}
use Rattle.log_codec.proofs.Limits.{limits_nest}
use Rattle.log_codec.proofs.ReducedLaws.{AllRise, reduced_takes, reduced_again}
use Rattle.log_codec.proofs.ReducedLaws.{edges-rise, into-stands, into-pair}
use Rattle.log_codec.proofs.ReducedLaws.{few-into}
use Rattle.log_codec.proofs.CountedLists.{pair_by_pair_again}
use Rattle.log_codec.proofs.FieldLaws.{Headed, header_takes, header_again, image_takes, image_again, total_takes}
use Rattle.log_codec.proofs.FieldLaws.{total_again}
use Rattle.log_codec.proofs.Logs.{vectors_take, vectors_again}
use Rattle.race_log.proofs.Parts.{edges-placed, edges_listed, made_of, valid-made}
use Rattle.race_log.proofs.Parts.{vectors-stand}

-- ---- part by part

pub totals_take : (limit cores : ℕ) (bytes totals rest : List ℕ) → IsBytes bytes →
    totals_at limit cores bytes ≡ Ok (totals, rest) →
    Takes bytes (totals_text totals) rest × (length totals ≡ cores) × All (λ t. t ≤ limit) totals
totals_take limit cores bytes totals rest are e =
    let t = turns_take (λ (s : Unit {0}). total_at limit) stay (alike number) (λ (s : Unit {0}) t. t ≤ limit)
    (λ s b x r. total_takes limit b x r) cores tt bytes totals rest are e in
    (t.0, t.1, stand-all (λ (t : ℕ). t ≤ limit) totals t.2)

pub totals_again : (limit : ℕ) (totals rest : List ℕ) → limit < 2 ^ 32 → All (λ t. t ≤ limit) totals →
    totals_at limit (length totals) (totals_text totals ++ rest) ≡ Ok (totals, rest)
totals_again limit totals rest small h =
    turns_again (λ (s : Unit {0}). total_at limit) stay (alike number) (λ (s : Unit {0}) t. t ≤ limit)
    (λ s x r most. total_again limit x r small most) tt totals rest (all-stand (λ (t : ℕ). t ≤ limit) totals h)

pub regulated_takes : (totals bytes : List ℕ) (regulated : List (List StrideVector)) (rest : List ℕ) → IsBytes bytes →
    regulated_at totals bytes
    ≡ Ok (regulated, rest) →
    Takes bytes (regulated_text regulated) rest × (length regulated ≡ pair_count (length totals))
    × StandInTurn (λ place vs. AreVectors (bound_at totals place) vs) count_up 0 regulated
regulated_takes totals bytes regulated rest are e =
    turns_take (λ place. vectors_at (bound_at totals place)) count_up (alike vectors_text)
    (λ place vs. AreVectors (bound_at totals place) vs)
    (λ place. vectors_take (bound_at totals place)) (pair_count (length totals)) 0 bytes regulated rest are e

pub regulated_again : (limit : ℕ) (totals : List ℕ) (regulated : List (List StrideVector)) (rest : List ℕ) →
    limit < 2 ^ 32 → All (λ t. t ≤ limit) totals →
    length regulated ≡ pair_count (length totals) →
    StandInTurn (λ place vs. AreVectors (bound_at totals place) vs) count_up 0 regulated →
    regulated_at totals (regulated_text regulated ++ rest) ≡ Ok (regulated, rest)
regulated_again = pair_by_pair_again vectors_at vectors_text AreVectors vectors_again

-- ---- the parts together

abbrev pub after_reduced : Params → List ℕ → List ℕ → List (List (ℕ × ℕ)) × List ℕ → Result (Recording × List ℕ) ℕ
after_reduced params image totals reduced =
    regulated_at totals reduced.1 >>= λ regulated. Ok (made_of params image totals reduced.0 regulated.0, regulated.1)

-- what reads the parts after the reduced log, by the parameters, the image, the totals, and that log with its rest
abbrev pub AfterFour : Type 0 → Type 0
AfterFour A = Params → List ℕ → List ℕ → List (List (ℕ × ℕ)) × List ℕ → Result A ℕ

abbrev pub after_totals : {A : Type 0} → AfterFour A → Version → Params → List ℕ → List ℕ × List ℕ → Result A ℕ
after_totals next v params image totals = reduced_at v totals.0 totals.1 >>= next params image totals.0

abbrev pub after_image : {A : Type 0} → AfterFour A → Version → Params → List ℕ × List ℕ → Result A ℕ
after_image next v params image =
    totals_at params.limit params.cores image.1 >>= after_totals next v params image.0

abbrev pub after_header : {A : Type 0} → AfterFour A → Headed → Result A ℕ
after_header next header = image_at header.2 header.3 >>= after_image next header.0 header.1

-- the limits of either version lie within those of version 2
pub within-new : (v : Version) (p : Params) → FitsIn v p → Fits p
within-new One p f = limits_nest p f
within-new Two p f = f

-- the parts of a front that is read, and the bytes after each
pub record PartsRead (bytes : List ℕ) (r : Recording) (rest : List ℕ) : Type 0 where
  pub version : Version
  pub len : ℕ
  pub after_header : List ℕ
  pub after_image : List ℕ
  pub after_totals : List ℕ
  pub after_reduced : List ℕ
  pub header : header_at bytes ≡ Ok (version, r.params, len, after_header)
  pub image : image_at len after_header ≡ Ok (r.image, after_image)
  pub totals : totals_at r.params.limit r.params.cores after_image ≡ Ok (r.totals, after_totals)
  pub reduced : reduced_at version r.totals after_totals ≡ Ok (r.reduced, after_reduced)
  pub regulated : regulated_at r.totals after_reduced ≡ Ok (r.regulated, rest)

pub parts_read : (bytes : List ℕ) (r : Recording) (rest : List ℕ) → front_at bytes ≡ Ok (r, rest) →
    PartsRead bytes r rest
unfolding front_at
parts_read bytes r rest e =
    let h = bind_ok (header_at bytes) (after_header after_reduced) (r, rest) e in
    let p = h.0.1 in
    let i = bind_ok (image_at h.0.2 h.0.3) (after_image after_reduced h.0.0 p) (r, rest) h.2 in
    let t = bind_ok (totals_at p.limit p.cores i.0.1) (after_totals after_reduced h.0.0 p i.0.0) (r, rest) i.2 in
    let d = bind_ok (reduced_at h.0.0 t.0.0 t.0.1) (after_reduced p i.0.0 t.0.0) (r, rest) t.2 in
    let g = bind_ok (regulated_at t.0.0 d.0.1) (λ regulated. Ok (made_of p i.0.0 t.0.0 d.0.0 regulated.0, regulated.1))
    (r, rest) d.2 in
    let made : Recording × List ℕ = (made_of p i.0.0 t.0.0 d.0.0 g.0.0, g.0.1) in
    subst (λ (y : Recording × List ℕ). PartsRead bytes y.0 y.1) (ok_is made (r, rest) g.2)
    (record {
      version = h.0.0;
      len = h.0.2;
      after_header = h.0.3;
      after_image = i.0.1;
      after_totals = t.0.1;
      after_reduced = d.0.1;
      header = h.1;
      image = i.1;
      totals = t.1;
      reduced = d.1;
      regulated = g.1;
    })

-- the front of the bytes, and the version in which it is spelled
pub record FrontTaken (bytes : List ℕ) (r : Recording) (rest : List ℕ) : Type 0 where
  pub valid : Valid r
  pub version : Version
  pub limits : FitsIn version r.params
  pub taken : Takes bytes (spelling_in version r) rest

pub front_takes : (bytes : List ℕ) (r : Recording) (rest : List ℕ) → IsBytes bytes → front_at bytes ≡ Ok (r, rest) →
    FrontTaken bytes r rest
unfolding spelling_in
front_takes bytes r rest are e =
    let read = parts_read bytes r rest e in
    let w = read.version in
    let p = r.params in
    let th = header_takes bytes w p read.len read.after_header are read.header in
    let ti = image_takes read.len read.after_header r.image read.after_image th.0.rest_fits read.image in
    let tt' = totals_take p.limit p.cores read.after_image r.totals read.after_totals ti.0.rest_fits read.totals in
    let td = reduced_takes w r.totals read.after_totals r.reduced read.after_reduced tt'.0.rest_fits read.reduced in
    let tg = regulated_takes r.totals read.after_reduced r.regulated rest td.0.rest_fits read.regulated in
    let reduced : Takes read.after_totals (reduced_text w p.cores r.reduced) read.after_reduced =
    subst (λ (n : ℕ). Takes read.after_totals (reduced_text w n r.reduced) read.after_reduced) tt'.1 td.0 in
    let regulated = regulated_text r.regulated in
    let t1 = Takes-then read.after_totals (reduced_text w p.cores r.reduced) read.after_reduced regulated rest reduced
    tg.0 in
    let logs = reduced_text w p.cores r.reduced ++ regulated in
    let t2 = Takes-then read.after_image (totals_text r.totals) read.after_totals logs rest tt'.0 t1 in
    let t3 = Takes-then read.after_header r.image read.after_image (totals_text r.totals ++ logs) rest ti.0 t2 in
    let t4 = Takes-then bytes (header_text w p read.len) read.after_header (r.image ++ (totals_text r.totals ++ logs))
    rest th.0 t3 in
    let named : Takes bytes (spelling_in w r) rest =
    subst (λ (len : ℕ). Takes bytes (header_text w p len ++ (r.image ++ (totals_text r.totals ++ logs))) rest)
    (sym ti.1) t4 in
    let room : length r.image ≤ 4 * p.words = subst (λ (len : ℕ). len ≤ 4 * p.words) (sym ti.1) th.1.image in
    record {
      valid = valid-made p r.image r.totals r.reduced r.regulated (within-new w p th.1.params) room tt'.1 tt'.2 td.1
          td.2 tg.1 tg.2;
      version = w;
      limits = th.1.params;
      taken = named;
    }

-- the sizes of the totals fit 32 bits
pub record TotalsFit (limit : ℕ) (totals : List ℕ) : Type 0 where
  pub small : limit < 2 ^ 32
  pub few : length totals < 2 ^ 32
  pub together : length totals * limit < 2 ^ 32

pub totals_fit : (v : Version) (p : Params) (totals : List ℕ) → FitsIn v p → length totals ≡ p.cores →
    TotalsFit p.limit totals
totals_fit v p totals fits each =
    let params = within-new v p fits in
    let all = params.instructions in
    record {
      small = omega arith;
      few = omega arith;
      together = subst (λ (n : ℕ). n * p.limit < 2 ^ 32) (sym each) (omega arith);
    }

-- the parts one after the other, with the rest after them
abbrev from_totals : Version → Recording → List ℕ → List ℕ
from_totals w r rest =
    totals_text r.totals ++ (reduced_text w r.params.cores r.reduced ++ (regulated_text r.regulated ++ rest))

part_by_part : (w : Version) (r : Recording) (rest : List ℕ) →
    spelling_in w r ++ rest ≡ header_text w r.params (length r.image) ++ (r.image ++ from_totals w r rest)
unfolding spelling_in
part_by_part w r rest = simp append_assoc

pub front_again : SpelledIsFront
unfolding front_at
front_again w r rest v fits =
    let p = r.params in
    let sizes = totals_fit w p r.totals fits v.each_core in
    let h = header_again w p (length r.image) (r.image ++ from_totals w r rest)
    (record { params = fits; image = v.image }) in
    let i = image_again r.image (from_totals w r rest) in
    let t = subst (λ (n : ℕ). totals_at p.limit n (from_totals w r rest)
    ≡ Ok (r.totals, reduced_text w p.cores r.reduced ++ (regulated_text r.regulated ++ rest))) v.each_core
    (totals_again p.limit r.totals (reduced_text w p.cores r.reduced ++ (regulated_text r.regulated ++ rest))
    sizes.small v.totals) in
    let back : pair_count p.cores ≡ pair_count (length r.totals) = ap (λ (n : ℕ). pair_count n) (sym v.each_core) in
    let d = subst (λ (n : ℕ). reduced_at w r.totals (reduced_text w n r.reduced ++ (regulated_text r.regulated ++ rest))
    ≡ Ok (r.reduced, regulated_text r.regulated ++ rest)) v.each_core
    (reduced_again w p.limit r.totals r.reduced (regulated_text r.regulated ++ rest) sizes.small sizes.together
    sizes.few v.totals
    (v.each_reduced ∙ back) (edges-placed r v)) in
    let g = regulated_again p.limit r.totals r.regulated rest sizes.small v.totals (v.each_regulated ∙ back)
    (vectors-stand r v) in
    ap front_at (part_by_part w r rest) ∙ rw (h, i, t, d, g) refl

-- ---- the laws

pub front_is_spelled : FrontIsSpelled
front_is_spelled bytes r rest are e = let t = front_takes bytes r rest are e in
    (t.valid, (t.version, t.limits, t.taken.parts))

pub read_is_spelled : ReadIsSpelled
unfolding whole_at
read_is_spelled bytes r are e =
    let t = front_takes bytes r [] are (read_front front_at END bytes r e) in
    (t.valid, (t.version, t.limits, t.taken.parts ∙ append-nil (spelling_in t.version r)))

pub spelled_is_read : SpelledIsRead
unfolding whole_at
spelled_is_read w r v fits = front_read front_at END (spelling_in w r) r (front_again w r [] v fits)

-- the version shows at the front
version-of : (w : Version) (r : Recording) (rest : List ℕ) → FitsIn w r.params → length r.image ≤ 4 * r.params.words →
    header_at (spelling_in w r ++ rest)
    ≡ Ok (w, r.params, length r.image, r.image ++ from_totals w r rest)
version-of w r rest fits room =
    ap header_at (part_by_part w r rest)
    ∙ header_again w r.params (length r.image) (r.image ++ from_totals w r rest)
    (record { params = fits; image = room })

pub prefix_free : PrefixFree
prefix_free v w r s x y vr fr vs fs e =
    let same = one_front front_at (spelling_in v r ++ x) (spelling_in w s ++ y) r s x y (front_again v r x vr fr)
    (front_again w s y vs fs) e in
    let heads = sym (version-of v r x fr vr.image) ∙ ap header_at e ∙ version-of w s y fs vs.image in
    (ap (λ (h : Headed). h.0) (ok_is _ _ heads), same.0, same.1)

-- what is read and spelled anew is read the same
pub read_and_spelled : ReadAndSpelled
read_and_spelled bytes r are e =
    let found = read_is_spelled bytes r are e in
    spelled_is_read Two r found.0 found.0.params ∙ sym e

-- ---- what a call that reads returns

-- where the front ends
pub record FrontFound (bytes : List ℕ) (r : Recording) (rest : List ℕ) : Type 0 where
  pub valid : Valid r
  pub within : length rest ≤ length bytes
  pub text : Spells (take (length bytes - length rest) bytes) r
  pub rest_is : drop (length bytes - length rest) bytes ≡ rest

pub front_found : (bytes : List ℕ) (r : Recording) (rest : List ℕ) → IsBytes bytes → front_at bytes ≡ Ok (r, rest) →
    FrontFound bytes r rest
front_found bytes r rest are e =
    let t = front_takes bytes r rest are e in
    let parts = t.taken.parts in
    let text = spelling_in t.version r in
    let sizes : length bytes ≡ length text + length rest =
    ap (λ (x : List ℕ). length x) parts ∙ length-append text rest in
    let size : length text ≡ length bytes - length rest = omega arith in
    record {
      valid = t.valid;
      within = omega arith;
      text = (
        t.version,
        t.limits,
        ap (take (length bytes - length rest)) parts
            ∙ take_at text rest (length bytes - length rest) size,
      );
      rest_is = ap (drop (length bytes - length rest)) parts ∙ drop_at text rest (length bytes - length rest) size;
    }

-- a fault that is answered is the reading's
pub no_fault : (bytes : List ℕ) (e : CodecFault) (w : Version) (r : Recording) (rest : List ℕ) → Valid r →
    FitsIn w r.params →
    bytes ≡ spelling_in w r ++ rest → Fails e (front_at bytes) → Fails {Y = Recording × List ℕ} e (Ok (r, rest))
no_fault bytes e w r rest valid fits is fails =
    subst (λ (x : Result (Recording × List ℕ) ℕ). Fails e x) (ap front_at is ∙ front_again w r rest valid fits) fails

-- ---- what the writer needs

-- the reduced log can be spelled in either version
pub is_log : (r : Recording) → Valid r → IsLog r.params.cores r.reduced
is_log r v =
    let few = v.params.cores in
    let together = v.params.instructions in
    record {
      few = few;
      pairs = v.each_reduced;
      listed = edges_listed r v;
      into = λ target inside.
          let lt : target < length r.totals = subst (λ (n : ℕ). target < n) (sym v.each_core) inside in
          let count = few-into r.params.limit r.totals r.reduced target lt v.totals (edges-placed r v) in
          let all : length (incoming_edges r.params.cores r.reduced target) ≤ r.params.cores * r.params.limit =
          subst (λ (n : ℕ). length (incoming_edges n r.reduced target) ≤ n * r.params.limit) v.each_core count in
          omega arith;
    }

pub into_the_target : IntoTheTarget
into_the_target r target v inside =
    let lt : target < length r.totals = subst (λ (n : ℕ). target < n) (sym v.each_core) inside in
    let cores : length r.totals ≡ r.params.cores = v.each_core in (
      subst (λ (n : ℕ). StandInTurn (IncomingStands r.totals target) remember [] (incoming_edges n r.reduced target))
          cores
          (into-stands r.totals r.reduced target lt (edges-placed r v)),
      λ source pair. into-pair r.params.cores r.reduced source target pair
          (subst (λ (n : ℕ). AllRise n r.reduced) cores (edges-rise r.totals r.reduced (edges-placed r v))),
    )
