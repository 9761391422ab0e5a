-- A part is named exactly where the parts below are spelled by a front of the bytes and no valid one follows.
use Rattle.std.proofs.Common.{◌≡◌, ◌≢◌, ℕ, ◌≤◌, inl, inr, nat_eq, List, [], Result, Ok, Err, ap}
use Rattle.std.proofs.Common.{◌∙◌, arith}
use Rattle.log_codec.specs.declared.codec_fault.TheConstants.{HEADER, REGULATED}
use Rattle.race_log.specs.declared.recording.Recording.{Recording}
use Rattle.log_codec.specs.BadParts.{UpToRegulated, recording_up_to}
use Rattle.log_codec.specs.Faults.{◌>>=◌}
use Rattle.log_codec.specs.Laws.{IsBytes}
use Rattle.log_codec.specs.Reading.{number_at, front_at}
use Rattle.rtr_types.specs.Turns.{stay, count_up}
use Rattle.log_codec.proofs.BadPartLaws.{after-5, at_end, bad_part, some-end}
use Rattle.log_codec.proofs.FourParts.{no-reading}
use Rattle.log_codec.proofs.CoreCountLaws.{counts-name}
use Rattle.log_codec.proofs.LastParts.{StopsAt, stops_at}
use Rattle.log_codec.proofs.PartNames.{Names, bind-names, guard-names, number-names, turns-name}
use Rattle.log_codec.proofs.RecordingLaws.{front_takes}
use Rattle.certificate_codec.specs.declared.certificate.Certificate.{Certificate}
use Rattle.certificate_codec.specs.declared.certificate.TheConstants.{CLOCKS, END}
use Rattle.certificate_codec.specs.BadParts.{AreClocks, BadPart, CertificateNames, NoClocks, UpToClocks}
use Rattle.certificate_codec.specs.Ends.{end_count}
use Rattle.certificate_codec.specs.Reading.{certificate_at, clocks_at, entries_at, entry_at, made_of, parts_at}
use Rattle.certificate_codec.specs.Reading.{true_number}
use Rattle.certificate_codec.proofs.Parts.{clocks_again, clocks_take}

-- ---- the sixth part's reader names that part alone

entries-name : (r : Recording) (core : ℕ) (bytes : List ℕ) → Names CLOCKS (entries_at r core bytes)
unfolding entries_at
entries-name r core bytes =
    bind-names CLOCKS (number_at CLOCKS bytes) _ (number-names CLOCKS bytes) (λ n.
    bind-names CLOCKS (true_number r core n.0 n.1) _ (guard-names CLOCKS (nat_eq n.0 (end_count r core)) (n.0, n.1))
    (λ count.
    turns-name CLOCKS (entry_at r.totals) stay (λ s b. counts-name CLOCKS r.totals b) count.0 tt count.1))

clocks-name : (r : Recording) (bytes : List ℕ) → Names CLOCKS (clocks_at r bytes)
clocks-name r bytes = turns-name CLOCKS (entries_at r) count_up (λ c b. entries-name r c b) r.params.cores 0 bytes

-- ---- after five valid parts

abbrev with_clocks : Recording → List (List (List ℕ)) × List ℕ → Result (Certificate × List ℕ) ℕ
with_clocks r clocks = Ok (made_of r clocks.0, clocks.1)

abbrev after_front : Recording × List ℕ → Result (Certificate × List ℕ) ℕ
after_front front = clocks_at front.0 front.1 >>= with_clocks front.0

parts-after : (bytes rest : List ℕ) (u : UpToRegulated bytes rest) →
    parts_at bytes ≡ after_front (recording_up_to bytes rest u, rest)
unfolding parts_at
parts-after bytes rest u = ap (λ r. r >>= after_front) (after-5 bytes rest u)

clocks-read : (bytes rest : List ℕ) → IsBytes bytes →
    (u : UpToRegulated bytes rest) (clocks : List (List (List ℕ))) (after : List ℕ) →
    AreClocks (recording_up_to bytes rest u) rest clocks after →
    clocks_at (recording_up_to bytes rest u) rest ≡ Ok (clocks, after)
clocks-read bytes rest are u clocks after is =
    let r = recording_up_to bytes rest u in
    ap (clocks_at r) is.spelled
    ∙ clocks_again r clocks after (front_takes bytes r rest are (after-5 bytes rest u)).valid is.each_core
    is.entries

read-clocks : (bytes rest : List ℕ) → IsBytes bytes →
    (u : UpToRegulated bytes rest) (clocks : List (List (List ℕ))) (after : List ℕ) →
    clocks_at (recording_up_to bytes rest u) rest ≡ Ok (clocks, after) →
    AreClocks (recording_up_to bytes rest u) rest clocks after
read-clocks bytes rest are u clocks after e =
    let r = recording_up_to bytes rest u in
    let t = clocks_take r rest clocks after (front_takes bytes r rest are (after-5 bytes rest u)).taken.rest_fits e in
    record { each_core = t.1; entries = t.2; spelled = t.0.parts }

-- ---- which part is named

abbrev BytesAfter : List ℕ → Type 0
BytesAfter bytes = (rest : List ℕ) × UpToClocks bytes rest × (rest ≢ [])

name-clocks : (bytes : List ℕ) → IsBytes bytes → NoClocks bytes → certificate_at bytes ≡ Err CLOCKS
unfolding certificate_at
name-clocks bytes are (rest, u, none) =
    let r = recording_up_to bytes rest u in
    let bad = no-reading CLOCKS (clocks_at r rest) (clocks-name r rest)
    (λ x e. none x.0 x.1 (read-clocks bytes rest are u x.0 x.1 e)) in
    ap (λ p. p >>= at_end END) (parts-after bytes rest u ∙ ap (λ x. x >>= with_clocks r) bad)

name-end : (bytes : List ℕ) → IsBytes bytes → BytesAfter bytes → certificate_at bytes ≡ Err END
unfolding certificate_at
name-end bytes are (rest, u, some) =
    let r = recording_up_to bytes u.before u.five in
    let read = clocks-read bytes u.before are u.five u.clocks rest u.sixth in
    ap (λ p. p >>= at_end END) (parts-after bytes u.before u.five ∙ ap (λ x. x >>= with_clocks r) read)
    ∙ some-end END (made_of r u.clocks, rest) some

-- where a reading ends
abbrev Stops : List ℕ → ℕ → Type 0
Stops = StopsAt AreClocks CLOCKS END

stops : (bytes : List ℕ) (p : ℕ) → IsBytes bytes → certificate_at bytes ≡ Err p → Stops bytes p
unfolding certificate_at parts_at
stops bytes p are =
    stops_at AreClocks clocks_at made_of CLOCKS END clocks-name bytes are (λ rest. clocks-read bytes rest are)
    (λ rest. read-clocks bytes rest are) p

front-named : (bytes : List ℕ) (p : ℕ) → front_at bytes ≡ Err p → certificate_at bytes ≡ Err p
unfolding certificate_at parts_at
front-named bytes p e = ap (λ r. (r >>= after_front) >>= at_end END) e

certificate_names : (bytes : List ℕ) → IsBytes bytes → CertificateNames bytes
certificate_names bytes are = record {
  front = λ part le. (λ e. in_front part le (stops bytes part are e), front-named bytes part);
  clocks = (λ e. at_clocks (stops bytes CLOCKS are e), name-clocks bytes are);
  end = (λ e. at_bytes (stops bytes END are e), name-end bytes are);
  no_other = λ part e. within part (stops bytes part are e);
}
  where
    least : (part : ℕ) → front_at bytes ≡ Err part → (HEADER ≤ part) × (part ≤ REGULATED)
    least part e = (bad_part bytes are).0.no_other part e

    in_front : (part : ℕ) → part ≤ REGULATED → Stops bytes part → front_at bytes ≡ Err part
    in_front part le (inl e) = e
    in_front part le (inr (inl x)) = absurd (let is = x.0 in omega arith)
    in_front part le (inr (inr x)) = absurd (let is = x.0 in omega arith)

    at_clocks : Stops bytes CLOCKS → NoClocks bytes
    at_clocks (inl e) = absurd (let no = (least CLOCKS e).1 in omega arith)
    at_clocks (inr (inl x)) = x.1
    at_clocks (inr (inr x)) = absurd (let is = x.0 in omega arith)

    at_bytes : Stops bytes END → BytesAfter bytes
    at_bytes (inl e) = absurd (let no = (least END e).1 in omega arith)
    at_bytes (inr (inl x)) = absurd (let is = x.0 in omega arith)
    at_bytes (inr (inr x)) =
        let m = x.1 in
        let all : UpToClocks bytes m.3 = record { before = m.0; five = m.1; clocks = m.2; sixth = m.4 } in
        (m.3, all, m.5)

    within : (part : ℕ) → Stops bytes part → (HEADER ≤ part) × (part ≤ END)
    within part (inl e) = let is = least part e in let a = is.0 in let b = is.1 in (omega arith, omega arith)
    within part (inr (inl x)) = let is = x.0 in (omega arith, omega arith)
    within part (inr (inr x)) = let is = x.0 in (omega arith, omega arith)

pub bad_part_is_named : BadPart
bad_part_is_named bytes are = ((bad_part bytes are).0, certificate_names bytes are)
