-- No reader finds a header where a recording of another kind begins.
use Rattle.std.proofs.Common.{◌≡◌, List, ℕ, ◌++◌, Err, refl}
use Rattle.log_codec.specs.declared.codec_fault.TheConstants.{HEADER}
use Rattle.log_codec.specs.Reading.{front_at, header_at, version_at}
use Rattle.certificate_codec.specs.Reading.{certificate_at, parts_at as certificate_parts_at}
use Rattle.tool_words.specs.declared.command.Command.{Command}
use Rattle.tool_words.specs.declared.command.Command.TheVariants.{Record, Run, Print, Replay, Migrate, Certify, Check}
use Rattle.tool_words.specs.declared.command.Command.TheVariants.{Gen, Soak, At, Thin, CheckThin}
use Rattle.tool_words.specs.declared.command.Command.TheVariants.{TsoRecord, TsoRun, TsoReplay}
use Rattle.tso_codec.proofs.Others.{no_other, none_of_others}
use Rattle.tso_codec.specs.Spelling.{tso_magic}
use Rattle.vector_reduce.specs.Reading.{front_two_at, parts_at as thin_parts_at, thinned_at}
use Rattle.rtr_cli.specs.Commands.{IsUnread}
use Rattle.rtr_cli.specs.Laws.{ReadsEarlier, VersionsAreApart}

no_certificate : (rest : List ℕ) → certificate_at (tso_magic ++ rest) ≡ Err HEADER
unfolding version_at header_at front_at certificate_parts_at certificate_at
no_certificate rest = refl

no_thin_file : (rest : List ℕ) → thinned_at (tso_magic ++ rest) ≡ Err HEADER
unfolding version_at header_at front_at front_two_at thin_parts_at thinned_at
no_thin_file rest = refl

earlier : (command : Command) (rest : List ℕ) → ReadsEarlier command → IsUnread command (tso_magic ++ rest) HEADER
earlier (Record run) rest reads = absurd reads
earlier (Run run loads) rest reads = absurd reads
earlier Print rest reads = (no_other rest).0
earlier (Replay which threads loads) rest reads = (no_other rest).0
earlier Migrate rest reads = (no_other rest).0
earlier Certify rest reads = (no_other rest).0
earlier Check rest reads = no_certificate rest
earlier (Gen shape number) rest reads = absurd reads
earlier (Soak shape number params seed) rest reads = absurd reads
earlier (At which at latest loads) rest reads = (no_other rest).0
earlier (Thin certify) rest reads = (no_other rest).0
earlier CheckThin rest reads = no_thin_file rest
earlier (TsoRecord run) rest reads = absurd reads
earlier (TsoRun run loads) rest reads = absurd reads
earlier (TsoReplay loads) rest reads = absurd reads

pub versions_apart : VersionsAreApart
versions_apart = record { earlier = earlier; buffered = λ loads version rest. none_of_others version rest }
