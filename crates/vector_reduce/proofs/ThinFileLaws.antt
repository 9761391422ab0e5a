-- Whole thinned recordings: the laws.
use Rattle.std.proofs.Common.{◌≡◌, ℕ, cond, true, false, Bool, List, ◌++◌, Result, Ok, Err, nat_eq, refl, ap}
use Rattle.std.proofs.Common.{subst, ◌∙◌, append_assoc}
use Rattle.std.specs.List.{starts_with}
use Rattle.log_codec.specs.declared.codec_fault.TheConstants.{HEADER}
use Rattle.race_log.specs.declared.recording.Recording.{Recording}
use Rattle.log_codec.specs.declared.version.Version.{Version}
use Rattle.log_codec.specs.declared.version.Version.TheVariants.{One, Two}
use Rattle.log_codec.specs.Laws.{IsBytes}
use Rattle.log_codec.specs.Reading.{front_at}
use Rattle.log_codec.specs.Spelling as recordings
use Rattle.race_log.specs.Validity.{Valid}
use Rattle.log_codec.specs.Versions.{magic}
use Rattle.log_codec.proofs.ReadingSteps.{Takes, Takes-then}
use Rattle.log_codec.proofs.RecordingLaws.{front_takes, front_again}
use Rattle.log_codec.proofs.Wholes.{SpellingLaws, Taken, spelling_laws}
use Rattle.part_lists.proofs.ListedRecordings.{has_list}
use Rattle.vector_reduce.specs.declared.thinned.Thinned.{Thinned}
use Rattle.vector_reduce.specs.declared.thinned.TheConstants.{END}
use Rattle.vector_reduce.specs.Laws.{ReadIsSpelled, SpelledIsRead, PrefixFree}
use Rattle.vector_reduce.specs.Reading.{front_two_at, made_of, shown_in, parts_at, thinned_at}
use Rattle.vector_reduce.specs.Spelling.{spelling, shown_text}
use Rattle.vector_reduce.specs.Validity.{IsThin}
use Rattle.vector_reduce.proofs.Parts.{few_totals, shown_take, shown_again}

-- ---- version 2 alone

cond_ok : {A : Type 0} (b : Bool) (x : Result A ℕ) (p : ℕ) (y : A) → cond b x (Err p) ≡ Ok y → (b ≡ true) × (x ≡ Ok y)
cond_ok true x p y e = (refl, e)
cond_ok false x p y e = absurd cc

begins_two : (r : Recording) (rest : List ℕ) → starts_with nat_eq (recordings.spelling r ++ rest) (magic Two) ≡ true
unfolding recordings.spelling_in
begins_two r rest = refl

begins_one : (r : Recording) (rest : List ℕ) →
    starts_with nat_eq (recordings.spelling_in One r ++ rest) (magic Two) ≡ false
unfolding recordings.spelling_in
begins_one r rest = refl

pub front_two_takes : (bytes : List ℕ) (r : Recording) (rest : List ℕ) → IsBytes bytes →
    front_two_at bytes ≡ Ok (r, rest) →
    Takes bytes (recordings.spelling r) rest × Valid r
unfolding front_two_at
front_two_takes bytes r rest are e =
    let g = cond_ok (starts_with nat_eq bytes (magic Two)) (front_at bytes) HEADER (r, rest) e in
    let t = front_takes bytes r rest are g.1 in
    (by g.0 t.version t.taken, t.valid)
  where
    by : starts_with nat_eq bytes (magic Two) ≡ true → (v : Version) → Takes bytes (recordings.spelling_in v r) rest →
        Takes bytes (recordings.spelling r) rest
    by two Two t = t
    by two One t = absurd (let not : starts_with nat_eq bytes (magic Two) ≡ false =
        ap (λ (b : List ℕ). starts_with nat_eq b (magic Two)) t.parts ∙ begins_one r rest in cc)

front_two_again : (r : Recording) (rest : List ℕ) → Valid r →
    front_two_at (recordings.spelling r ++ rest) ≡ Ok (r, rest)
unfolding front_two_at
front_two_again r rest valid = rw (begins_two r rest) (front_again Two r rest valid valid.params)

-- ---- all parts

-- a thinned recording that was taken from the front of the bytes
parts_taken : (bytes : List ℕ) (t : Thinned) (rest : List ℕ) → IsBytes bytes → parts_at bytes ≡ Ok (t, rest) →
    Taken IsThin spelling bytes t rest
unfolding parts_at spelling
parts_taken bytes t rest are e =
    let h = has_list front_two_at shown_in made_of bytes t rest e in
    let tf = front_two_takes bytes h.recording h.middle are h.first in
    let tk = shown_take h.recording h.middle h.items rest (few_totals h.recording tf.1) tf.0.rest_fits h.then in
    let made : Taken IsThin spelling bytes (made_of h.recording h.items) rest = record {
      valid = record { recording = tf.1; each_vector = tk.1; shown = tk.2 };
      taken = Takes-then bytes (recordings.spelling h.recording) h.middle (shown_text h.items) rest tf.0 tk.0;
    } in
    subst (λ (u : Thinned). Taken IsThin spelling bytes u rest) h.made_is made

parts_again : (t : Thinned) (rest : List ℕ) → IsThin t → parts_at (spelling t ++ rest) ≡ Ok (t, rest)
unfolding parts_at spelling
parts_again t rest v =
    let after = shown_text t.shown ++ rest in
    let f : front_two_at (recordings.spelling t.recording ++ after) ≡ Ok (t.recording, after) =
    front_two_again t.recording after v.recording in
    let k = shown_again t.recording t.shown rest v.recording v.each_vector v.shown in
    ap parts_at (append_assoc (recordings.spelling t.recording) (shown_text t.shown) rest) ∙ rw (f, k) refl

-- ---- the laws

laws : SpellingLaws thinned_at IsThin spelling
unfolding thinned_at
laws = let l = spelling_laws parts_at END IsThin spelling parts_taken parts_again in
    record { read = l.read; spelled = l.spelled; prefix = l.prefix }

pub read_is_spelled : ReadIsSpelled
read_is_spelled = laws.read

pub spelled_is_read : SpelledIsRead
spelled_is_read = laws.spelled

pub prefix_free : PrefixFree
prefix_free = laws.prefix
