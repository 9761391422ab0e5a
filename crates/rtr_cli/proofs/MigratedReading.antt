-- What migrate makes of a recording is read as the recording is.
use Rattle.std.proofs.Common.{◌≡◌, ℕ, Result, Ok, Err, refl, sym, ap, subst, ◌∙◌}
use Rattle.race_log.specs.declared.recording.Recording.{Recording}
use Rattle.log_codec.specs.declared.version.Version.TheVariants.{Two}
use Rattle.log_codec.specs.Reading.{whole_at}
use Rattle.log_codec.specs.Spelling.{spelling}
use Rattle.log_codec.proofs.RecordingLaws.{read_and_spelled, spelled_is_read}
use Rattle.rtr_cli.specs.Inputs.{SpellsSome}
use Rattle.rtr_cli.specs.Laws.{MigratedReadsTheSame, NewestStays}

pub migrated_reads_the_same : MigratedReadsTheSame
migrated_reads_the_same input out are made = by (whole_at input) refl made
  where
    by : (read : Result Recording ℕ) → whole_at input ≡ read → SpellsSome read (λ r. out ≡ spelling r)
        → whole_at out ≡ whole_at input
    by (Ok r) is e = ap whole_at e ∙ read_and_spelled input r are is
    by (Err part) is e = absurd e

pub newest_stays : NewestStays
newest_stays r valid =
    subst (λ (read : Result Recording ℕ). SpellsSome read (λ (q : Recording). spelling r ≡ spelling q))
    (sym (spelled_is_read Two r valid valid.params)) refl
