-- A sixth part after those of a recording, and the end of the bytes.
use Rattle.std.proofs.Common.{◌≡◌, ◌≢◌, ◌⊎◌, ◌∙◌, ℕ, inl, inr, List, [], Result, Ok, Err, refl, ap, subst}
use Rattle.race_log.specs.declared.recording.Recording.{Recording}
use Rattle.log_codec.specs.BadParts.{UpToRegulated, recording_up_to}
use Rattle.log_codec.specs.Faults.{◌>>=◌}
use Rattle.log_codec.specs.Laws.{IsBytes}
use Rattle.log_codec.specs.Reading.{front_at}
use Rattle.log_codec.proofs.BadPartLaws.{at_end, end-names, end-some, read-all}
use Rattle.log_codec.proofs.FourParts.{never-both}
use Rattle.log_codec.proofs.PartNames.{Names}

-- five valid parts, and no sixth after them
abbrev pub NoSixth : {K : Type 0} → (Recording → List ℕ → K → List ℕ → Type 0) → List ℕ → Type 0
NoSixth {K} IsSixth bytes = (rest : List ℕ) × (u : UpToRegulated bytes rest)
    × ((k : K) (after : List ℕ) → IsSixth (recording_up_to bytes rest u) rest k after → ⊥)

-- a sixth, and bytes after it
abbrev pub SixthAndMore : {K : Type 0} → (Recording → List ℕ → K → List ℕ → Type 0) → List ℕ → Type 0
SixthAndMore {K} IsSixth bytes = (rest : List ℕ) × (u : UpToRegulated bytes rest) × (k : K) × (after : List ℕ)
    × IsSixth (recording_up_to bytes rest u) rest k after × (after ≢ [])

-- where a reading of all these stops: in the recording, at the sixth part, or at the end
abbrev pub StopsAt : {K : Type 0} → (Recording → List ℕ → K → List ℕ → Type 0) → (sixth last : ℕ) → List ℕ → ℕ → Type 0
StopsAt IsSixth sixth last bytes p = (front_at bytes ≡ Err p)
    ⊎ (((p ≡ sixth) × NoSixth IsSixth bytes) ⊎ ((p ≡ last) × SixthAndMore IsSixth bytes))

-- where all bytes have no reading, the last part has none, or bytes follow it
pub last_part : {K A : Type 0} (part : Result (K × List ℕ) ℕ) (made : K → A) (last p : ℕ) →
    ((part >>= λ k. Ok (made k.0, k.1)) >>= at_end last) ≡ Err p →
    (part ≡ Err p) ⊎ ((k : K) × (after : List ℕ) × (part ≡ Ok (k, after)) × (at_end last (made k, after) ≡ Err p))
last_part (Ok k) made last p e = inr (k.0, k.1, refl, e)
last_part (Err q) made last p e = let same : q ≡ p = cc in inl (ap (λ (n : ℕ). Err n) same)

pub stops_at : {K A : Type 0} (IsSixth : Recording → List ℕ → K → List ℕ → Type 0)
    (part_at : Recording → List ℕ → Result (K × List ℕ) ℕ) (made : Recording → K → A) (sixth last : ℕ)
    → ((r : Recording) (bytes : List ℕ) → Names sixth (part_at r bytes)) → (bytes : List ℕ) → IsBytes bytes
    → ((rest : List ℕ) (u : UpToRegulated bytes rest) (k : K) (after : List ℕ) →
    IsSixth (recording_up_to bytes rest u) rest k after → part_at (recording_up_to bytes rest u) rest ≡ Ok (k, after))
    → ((rest : List ℕ) (u : UpToRegulated bytes rest) (k : K) (after : List ℕ) →
    part_at (recording_up_to bytes rest u) rest ≡ Ok (k, after) → IsSixth (recording_up_to bytes rest u) rest k after)
    → (p : ℕ)
    → ((front_at bytes >>= λ front. part_at front.0 front.1 >>= λ k. Ok (made front.0 k.0, k.1)) >>= at_end last)
    ≡ Err p → StopsAt IsSixth sixth last bytes p
stops_at {K} {A} IsSixth part_at made sixth last names bytes are part-read read-part p e = by (front_at bytes) refl e
  where
    after_front : Recording × List ℕ → Result (A × List ℕ) ℕ
    after_front front = part_at front.0 front.1 >>= λ k. Ok (made front.0 k.0, k.1)

    by : (front : Result (Recording × List ℕ) ℕ) → front_at bytes ≡ front →
        ((front >>= after_front) >>= at_end last) ≡ Err p → StopsAt IsSixth sixth last bytes p
    by (Err q) is f = let same : q ≡ p = cc in inl (is ∙ ap (λ (n : ℕ). Err n) same)
    by (Ok front) is f =
        let rest = front.1 in
        let all = read-all bytes front.0 rest are is in
        let u = all.0 in
        let r = recording_up_to bytes rest u in
        elim (last_part (part_at r rest) (made r) last p
        (subst (λ (q : Recording). (after_front (q, rest) >>= at_end last) ≡ Err p) all.1 f)) [
          | inl none ↦ inr (inl (
            names r rest p none,
            (rest, u, λ k after it. never-both p (part_at r rest) (k, after) none (part-read rest u k after it)),
          ))
          | inr k ↦
              let named = end-names last (made r k.0, k.1) p k.3 in
              let some = end-some last (made r k.0, k.1)
              (subst (λ (n : ℕ). at_end last (made r k.0, k.1) ≡ Err n) named k.3) in
              inr (inr (named, (rest, u, k.0, k.1, read-part rest u k.0 k.1 k.2, some)))
        ]
