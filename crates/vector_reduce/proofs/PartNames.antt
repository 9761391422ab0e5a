-- Which part of a thinned recording is named. Bytes that don't begin as version 2 does have no header there; for all
-- others the first five parts are named as a recording's are, and then the sixth and the end.
use Rattle.std.proofs.Common.{◌≡◌, ◌≢◌, ℕ, ◌≤◌, inl, inr, Bool, true, false, nat_eq, List, [], ◌++◌}
use Rattle.std.proofs.Common.{length, Result, Ok, Err}
use Rattle.std.proofs.Common.{refl, sym, ap, subst, ◌∙◌, arith}
use Rattle.std.specs.List.{starts_with}
use Rattle.rtr_types.specs.declared.params.Params.{Params}
use Rattle.rtr_types.specs.Turns.{stay}
use Rattle.race_log.specs.declared.recording.Recording.{Recording}
use Rattle.log_codec.specs.declared.version.Version.{Version}
use Rattle.log_codec.specs.declared.version.Version.TheVariants.{One, Two}
use Rattle.log_codec.specs.BadParts as recordings
use Rattle.log_codec.specs.BadParts.{FrontNames, IsHeader, IsReduced, UpToHeader, UpToRegulated, recording_up_to}
use Rattle.log_codec.specs.Faults.{◌>>=◌}
use Rattle.log_codec.specs.Laws.{IsBytes}
use Rattle.log_codec.specs.Reading.{front_at, number_at}
use Rattle.log_codec.specs.Spelling.{header_text}
use Rattle.log_codec.specs.CoreCounts.{counts_at}
use Rattle.log_codec.specs.Versions.{magic}
use Rattle.log_codec.proofs.BadPartLaws.{after-5, at_end, bad_part, some-end}
use Rattle.log_codec.proofs.FourParts.{no-reading}
use Rattle.log_codec.proofs.CoreCountLaws.{counts-name}
use Rattle.log_codec.proofs.LastParts.{StopsAt, stops_at}
use Rattle.log_codec.proofs.PartNames.{Names, bind-names, number-names, turns-name}
use Rattle.log_codec.proofs.RecordingLaws.{front_takes}
use Rattle.vector_reduce.specs.declared.thinned.Shown.{Shown}
use Rattle.vector_reduce.specs.declared.thinned.Thinned.{Thinned}
use Rattle.vector_reduce.specs.declared.thinned.TheConstants.{END, SHOWN}
use Rattle.vector_reduce.specs.BadParts.{AreShown, BadPart, NoHeader, NoReduced, NoShown}
use Rattle.vector_reduce.specs.BadParts.{ThinNames, UpToShown}
use Rattle.vector_reduce.specs.Reading.{front_two_at, made_of, one_at, parts_at, shown_in, thinned_at}
use Rattle.vector_reduce.specs.Vectors.{vectors_of}
use Rattle.vector_reduce.proofs.Parts.{few_totals, shown_again, shown_take}

-- ---- the version

-- the bytes begin as version 2 does
abbrev begins_two : List ℕ → Bool
begins_two bytes = starts_with nat_eq bytes (magic Two)

header-two : (p : Params) (len : ℕ) (rest : List ℕ) → begins_two (header_text Two p len ++ rest) ≡ true
header-two p len rest = refl

header-one : (p : Params) (len : ℕ) (rest : List ℕ) → begins_two (header_text One p len ++ rest) ≡ false
header-one p len rest = refl

-- a header says how the bytes begin
header-begins : (bytes : List ℕ) (p : Params) (len : ℕ) (rest : List ℕ) → IsHeader bytes Two p len rest → begins_two
    bytes ≡ true
header-begins bytes p len rest h = ap (λ (b : List ℕ). begins_two b) h.spelled ∙ header-two p len rest

-- and how they begin says the version
header-version : (bytes : List ℕ) (v : Version) (p : Params) (len : ℕ) (rest : List ℕ) → begins_two bytes ≡ true →
    IsHeader bytes v p len rest → v ≡ Two
header-version bytes Two p len rest two h = refl
header-version bytes One p len rest two h =
    let not : begins_two bytes ≡ false = ap (λ (b : List ℕ). begins_two b) h.spelled ∙ header-one p len rest in
    absurd cc

version-two : (bytes rest : List ℕ) → begins_two bytes ≡ true → (u : UpToHeader IsHeader bytes rest) → u.version ≡ Two
version-two bytes rest two u = header-version bytes u.version u.params u.len rest two u.header

version-begins : (bytes rest : List ℕ) (u : UpToHeader IsHeader bytes rest) → u.version ≡ Two → begins_two bytes ≡ true
version-begins bytes rest u two =
    header-begins bytes u.params u.len rest (subst (λ (v : Version). IsHeader bytes v u.params u.len rest) two u.header)

front-two : (bytes : List ℕ) → begins_two bytes ≡ true → front_two_at bytes ≡ front_at bytes
unfolding front_two_at
front-two bytes two = rw two refl

front-one : (bytes : List ℕ) → begins_two bytes ≡ false → front_two_at bytes ≡ Err 1
unfolding front_two_at
front-one bytes one = rw one refl

-- ---- the sixth part's reader names that part alone

one-names : (totals : List ℕ) (s : Unit {0}) (bytes : List ℕ) → Names SHOWN (one_at totals s bytes)
unfolding one_at
one-names totals s bytes =
    bind-names SHOWN (number_at SHOWN bytes) _ (number-names SHOWN bytes) (λ edge.
    bind-names SHOWN (counts_at SHOWN totals edge.1) _ (counts-name SHOWN totals edge.1) (λ counts p e. absurd cc))

shown-name : (r : Recording) (bytes : List ℕ) → Names SHOWN (shown_in r bytes)
shown-name r bytes = turns-name SHOWN (one_at r.totals) stay (λ s b. one-names r.totals s b) (length (vectors_of r))
    tt bytes

-- ---- after five valid parts

abbrev with_shown : Recording → List Shown × List ℕ → Result (Thinned × List ℕ) ℕ
with_shown r shown = Ok (made_of r shown.0, shown.1)

abbrev after_front : Recording × List ℕ → Result (Thinned × List ℕ) ℕ
after_front front = shown_in front.0 front.1 >>= with_shown front.0

-- all parts of bytes that begin as version 2 does
thinned-two : (bytes : List ℕ) → begins_two bytes ≡ true → thinned_at bytes ≡
    ((front_at bytes >>= after_front) >>= at_end END)
unfolding thinned_at parts_at
thinned-two bytes two = ap (λ (r : Result (Recording × List ℕ) ℕ). (r >>= after_front) >>= at_end END)
    (front-two bytes two)

thinned-one : (bytes : List ℕ) → begins_two bytes ≡ false → thinned_at bytes ≡ Err 1
unfolding thinned_at parts_at
thinned-one bytes one = ap (λ (r : Result (Recording × List ℕ) ℕ). (r >>= after_front) >>= at_end END)
    (front-one bytes one)

thinned-after : (bytes rest : List ℕ) (u : UpToRegulated bytes rest) → begins_two bytes ≡ true →
    thinned_at bytes ≡ (after_front (recording_up_to bytes rest u, rest) >>= at_end END)
thinned-after bytes rest u two = thinned-two bytes two ∙ ap (λ r. (r >>= after_front) >>= at_end END)
    (after-5 bytes rest u)

shown-read : (bytes rest : List ℕ) → IsBytes bytes → (u : UpToRegulated bytes rest) (shown : List Shown)
    (after : List ℕ) →
    AreShown (recording_up_to bytes rest u) rest shown after → shown_in (recording_up_to bytes rest u) rest ≡ Ok
    (shown, after)
shown-read bytes rest are u shown after is =
    let r = recording_up_to bytes rest u in
    ap (shown_in r) is.spelled ∙ shown_again r shown after
    (front_takes bytes r rest are (after-5 bytes rest u)).valid is.each_vector is.stand

read-shown : (bytes rest : List ℕ) → IsBytes bytes → (u : UpToRegulated bytes rest) (shown : List Shown)
    (after : List ℕ) →
    shown_in (recording_up_to bytes rest u) rest ≡ Ok (shown, after) → AreShown (recording_up_to bytes rest u) rest
    shown after
read-shown bytes rest are u shown after e =
    let r = recording_up_to bytes rest u in
    let f = front_takes bytes r rest are (after-5 bytes rest u) in
    let t = shown_take r rest shown after (few_totals r f.valid) f.taken.rest_fits e in
    record { each_vector = t.1; stand = t.2; spelled = t.0.parts }

-- ---- which part is named

abbrev BytesAfter : List ℕ → Type 0
BytesAfter bytes = (rest : List ℕ) × UpToShown bytes rest × (rest ≢ [])

name-shown : (bytes : List ℕ) → IsBytes bytes → NoShown bytes → thinned_at bytes ≡ Err SHOWN
name-shown bytes are (rest, u, two, none) =
    let r = recording_up_to bytes rest u in
    let bad = no-reading SHOWN (shown_in r rest) (shown-name r rest)
    (λ x e. none x.0 x.1 (read-shown bytes rest are u x.0 x.1 e)) in
    thinned-after bytes rest u (version-begins bytes _ u.four.three.two.first two) ∙ ap
    (λ x. (x >>= with_shown r) >>= at_end END) bad

name-end : (bytes : List ℕ) → IsBytes bytes → BytesAfter bytes → thinned_at bytes ≡ Err END
name-end bytes are (rest, u, some) =
    let r = recording_up_to bytes u.before u.five in
    let read = shown-read bytes u.before are u.five u.shown rest u.sixth in
    thinned-after bytes u.before u.five (version-begins bytes _ u.five.four.three.two.first u.version)
    ∙ ap (λ x. (x >>= with_shown r) >>= at_end END) read ∙ some-end END (made_of r u.shown, rest) some

-- where a reading of bytes that begin as version 2 does ends
abbrev Stops : List ℕ → ℕ → Type 0
Stops = StopsAt AreShown SHOWN END

stops : (bytes : List ℕ) (p : ℕ) → IsBytes bytes → begins_two bytes ≡ true → thinned_at bytes ≡ Err p → Stops bytes p
stops bytes p are two e = stops_at AreShown shown_in made_of SHOWN END shown-name bytes are
    (λ rest. shown-read bytes rest are) (λ rest. read-shown bytes rest are) p (sym (thinned-two bytes two) ∙ e)

front-named : (bytes : List ℕ) (p : ℕ) → begins_two bytes ≡ true → front_at bytes ≡ Err p → thinned_at bytes ≡ Err p
front-named bytes p two e = thinned-two bytes two ∙ ap (λ r. (r >>= after_front) >>= at_end END) e

-- of bytes that begin as version 2 does
names-two : (bytes : List ℕ) → IsBytes bytes → begins_two bytes ≡ true → ThinNames bytes
names-two bytes are two = record {
  five = record {
    header = (
      λ e. λ p len rest is. f.header.0 (below 1 (omega arith) e) Two p len rest is,
      λ none. named 1
          (f.header.1 (no_header none)),
    );
    image = (
      λ e. let x = f.image.0 (below 2 (omega arith) e) in (x.0, x.1, version-two bytes _ two x.1, x.2),
      λ x. named 2 (f.image.1 (x.0, x.1, x.3)),
    );
    totals = (
      λ e. let x = f.totals.0 (below 3 (omega arith) e) in (x.0, x.1, version-two bytes _ two x.1.first, x.2),
      λ x. named 3 (f.totals.1 (x.0, x.1, x.3)),
    );
    reduced = (λ e. reduced_two (f.reduced.0 (below 4 (omega arith) e)), λ x. named 4 (f.reduced.1 (reduced_any x)));
    fifth = (
      λ e. let x = f.fifth.0 (below 5 (omega arith) e) in
          (x.0, x.1, version-two bytes _ two x.1.three.two.first, x.2),
      λ x. named 5 (f.fifth.1 (x.0, x.1, x.3)),
    );
    no_other = λ part e. within part (stops bytes part are two e);
  };
  shown = (λ e. at_shown (stops bytes SHOWN are two e), name-shown bytes are);
  end = (λ e. at_bytes (stops bytes END are two e), name-end bytes are);
}
  where
    f : FrontNames bytes
    f = (bad_part bytes are).0

    named : (part : ℕ) → front_at bytes ≡ Err part → thinned_at bytes ≡ Err part
    named part e = front-named bytes part two e

    in_front : (part : ℕ) → part ≤ 5 → Stops bytes part → front_at bytes ≡ Err part
    in_front part le (inl e) = e
    in_front part le (inr (inl x)) = absurd (let is = x.0 in omega arith)
    in_front part le (inr (inr x)) = absurd (let is = x.0 in omega arith)

    below : (part : ℕ) → part ≤ 5 → thinned_at bytes ≡ Err part → front_at bytes ≡ Err part
    below part le e = in_front part le (stops bytes part are two e)

    no_header : NoHeader bytes → recordings.NoHeader IsHeader bytes
    no_header none v p len rest is =
        none p len rest (subst (λ (w : Version). IsHeader bytes w p len rest)
        (header-version bytes v p len rest two is) is)

    reduced_two : recordings.NoReduced IsHeader bytes → NoReduced bytes
    reduced_two (rest, u, none) =
        let v = version-two bytes _ two u.two.first in (
          rest,
          u,
          v,
          λ reduced after is. none reduced after
              (subst (λ (w : Version). IsReduced w u.totals rest reduced after) (sym v) is),
        )

    reduced_any : NoReduced bytes → recordings.NoReduced IsHeader bytes
    reduced_any (rest, u, v, none) = (
      rest,
      u,
      λ reduced after is. none reduced after
          (subst (λ (w : Version). IsReduced w u.totals rest reduced after) v is),
    )

    at_shown : Stops bytes SHOWN → NoShown bytes
    at_shown (inl e) = absurd (let no = (f.no_other SHOWN e).1 in omega arith)
    at_shown (inr (inl x)) = let m = x.1 in (m.0, m.1, version-two bytes _ two m.1.four.three.two.first, m.2)
    at_shown (inr (inr x)) = absurd (let is = x.0 in omega arith)

    at_bytes : Stops bytes END → BytesAfter bytes
    at_bytes (inl e) = absurd (let no = (f.no_other END e).1 in omega arith)
    at_bytes (inr (inl x)) = absurd (let is = x.0 in omega arith)
    at_bytes (inr (inr x)) =
        let m = x.1 in
        let all : UpToShown bytes m.3 = record {
          before = m.0;
          five = m.1;
          version = version-two bytes _ two m.1.four.three.two.first;
          shown = m.2;
          sixth = m.4;
        } in
        (m.3, all, m.5)

    within : (part : ℕ) → Stops bytes part → (1 ≤ part) × (part ≤ 7)
    within part (inl e) = let is = f.no_other part e in let a = is.0 in let b = is.1 in (omega arith, omega arith)
    within part (inr (inl x)) = let is = x.0 in (omega arith, omega arith)
    within part (inr (inr x)) = let is = x.0 in (omega arith, omega arith)

-- of all others part 1 is named, and none of them has a header of version 2
names-one : (bytes : List ℕ) → begins_two bytes ≡ false → ThinNames bytes
names-one bytes one = record {
  five = record {
    header = (λ e. λ p len rest is. never (header-begins bytes p len rest is), λ none. thinned-one bytes one);
    image = (λ e. absurd (other 2 e (omega arith)), λ x. absurd (never (version-begins bytes _ x.1 x.2)));
    totals = (λ e. absurd (other 3 e (omega arith)), λ x. absurd (never (version-begins bytes _ x.1.first x.2)));
    reduced = (λ e. absurd (other 4 e (omega arith)), λ x. absurd (never (version-begins bytes _ x.1.two.first x.2)));
    fifth = (
      λ e. absurd (other 5 e (omega arith)),
      λ x. absurd
          (never (version-begins bytes _ x.1.three.two.first x.2)),
    );
    no_other = λ part e. let is = part-is part e in (omega arith, omega arith);
  };
  shown = (
    λ e. absurd (other 6 e (omega arith)),
    λ x. absurd
        (never (version-begins bytes _ x.1.four.three.two.first x.2)),
  );
  end = (
    λ e. absurd (other 7 e (omega arith)),
    λ x. absurd
        (never (version-begins bytes _ x.1.five.four.three.two.first x.1.version)),
  );
}
  where
    never : begins_two bytes ≡ true → ⊥
    never two = absurd cc

    part-is : (part : ℕ) → thinned_at bytes ≡ Err part → part ≡ 1
    part-is part e = let same : ◌≡◌ {A = Result Thinned ℕ} (Err part) (Err 1) = sym e ∙ thinned-one bytes one in cc

    other : (part : ℕ) → thinned_at bytes ≡ Err part → 2 ≤ part → ⊥
    other part e more = let is = part-is part e in absurd (omega arith)

pub bad_part_is_named : BadPart
bad_part_is_named bytes are = by (begins_two bytes) refl
  where
    by : (b : Bool) → begins_two bytes ≡ b → ThinNames bytes
    by true two = names-two bytes are two
    by false one = names-one bytes one
