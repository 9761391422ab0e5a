-- Whole certificates: the laws.
use Rattle.std.proofs.Common.{◌≡◌, ℕ, List, [], ◌++◌, Ok, refl, sym, ap, subst, ◌∙◌}
use Rattle.std.proofs.Common.{append_assoc, append-nil}
use Rattle.log_codec.specs.Laws.{IsBytes}
use Rattle.log_codec.specs.Reading.{front_at}
use Rattle.log_codec.specs.Spelling as recordings
use Rattle.log_codec.specs.declared.version.Version.TheVariants.{Two}
use Rattle.log_codec.proofs.ReadingSteps.{Takes, Takes-then}
use Rattle.log_codec.proofs.RecordingLaws.{front_takes, front_again}
use Rattle.log_codec.proofs.Wholes.{front_read, one_front, read_front}
use Rattle.part_lists.proofs.ListedRecordings.{has_list}
use Rattle.certificate_codec.specs.declared.certificate.Certificate.{Certificate}
use Rattle.certificate_codec.specs.declared.certificate.TheConstants.{END}
use Rattle.certificate_codec.specs.Validity.{IsCertificate}
use Rattle.certificate_codec.specs.Spelling.{Spells, spelling, clocks_text}
use Rattle.certificate_codec.specs.Reading.{clocks_at, made_of, parts_at, certificate_at}
use Rattle.certificate_codec.specs.Laws.{ReadIsSpelled, SpelledIsRead, WrittenSpells, PrefixFree}
use Rattle.certificate_codec.proofs.Parts.{clocks_take, clocks_again}

-- a certificate that was taken from the front of the bytes
record PartsTaken (bytes : List ℕ) (c : Certificate) (rest : List ℕ) : Type 0 where
  text : List ℕ
  spells : Spells text c
  taken : Takes bytes text rest
  valid : IsCertificate c

parts_taken : (bytes : List ℕ) (c : Certificate) (rest : List ℕ) → IsBytes bytes → parts_at bytes ≡ Ok (c, rest) →
    PartsTaken bytes c rest
unfolding parts_at
parts_taken bytes c rest are e =
    let h = has_list front_at clocks_at made_of bytes c rest e in
    let tf = front_takes bytes h.recording h.middle are h.first in
    let tk = clocks_take h.recording h.middle h.items rest tf.taken.rest_fits h.then in
    let front = recordings.spelling_in tf.version h.recording in
    let made : PartsTaken bytes (made_of h.recording h.items) rest = record {
      text = front ++ clocks_text h.items;
      spells = record { front = front; recording = (tf.version, tf.limits, refl); parts = refl };
      taken = Takes-then bytes front h.middle (clocks_text h.items) rest tf.taken tk.0;
      valid = record { recording = tf.valid; each_core = tk.1; entries = tk.2 };
    } in
    subst (λ (d : Certificate). PartsTaken bytes d rest) h.made_is made

parts_again : (c : Certificate) (bytes rest : List ℕ) → IsCertificate c → Spells bytes c →
    parts_at (bytes ++ rest) ≡ Ok (c, rest)
unfolding parts_at
parts_again c bytes rest v s =
    let after = clocks_text c.clocks ++ rest in
    let f : front_at (s.front ++ after) ≡ Ok (c.recording, after) =
    ap (λ (b : List ℕ). front_at (b ++ after)) s.recording.2
    ∙ front_again s.recording.0 c.recording after v.recording s.recording.1 in
    let k = clocks_again c.recording c.clocks rest v.recording v.each_core v.entries in
    ap (λ (b : List ℕ). parts_at (b ++ rest)) s.parts ∙ ap parts_at (append_assoc s.front (clocks_text c.clocks) rest)
    ∙ rw (f, k) refl

pub read_is_spelled : ReadIsSpelled
unfolding certificate_at
read_is_spelled bytes c are e =
    let t = parts_taken bytes c [] are (read_front parts_at END bytes c e) in
    (t.valid, subst (λ (b : List ℕ). Spells b c) (sym (t.taken.parts ∙ append-nil t.text)) t.spells)

pub spelled_is_read : SpelledIsRead
unfolding certificate_at
spelled_is_read c bytes v s = front_read parts_at END bytes c (parts_again c bytes [] v s)

pub written_spells : WrittenSpells
unfolding spelling
written_spells c v = record {
  front = recordings.spelling c.recording;
  recording = (Two, v.recording.params, refl);
  parts = refl;
}

pub prefix_free : PrefixFree
prefix_free c d first second x y vc vd sc sd e =
    one_front parts_at (first ++ x) (second ++ y) c d x y (parts_again c first x vc sc) (parts_again d second y vd sd) e
