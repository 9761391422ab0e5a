-- Readings and spellings of certificates are the same.
use Rattle.std.specs.Prelude.{◌≡◌, ℕ, List, ◌++◌, Ok}
use Rattle.log_codec.specs.Laws.{IsBytes}
use Rattle.certificate_codec.specs.declared.certificate.Certificate.{Certificate}
use Rattle.certificate_codec.specs.Validity.{IsCertificate}
use Rattle.certificate_codec.specs.Spelling.{Spells, spelling}
use Rattle.certificate_codec.specs.Reading.{certificate_at}

-- what is read is spelled so
abbrev pub ReadIsSpelled : Type 0
ReadIsSpelled = (bytes : List ℕ) (c : Certificate) → IsBytes bytes → certificate_at bytes ≡ Ok c → IsCertificate c
    × Spells bytes c

-- what is spelled is read
abbrev pub SpelledIsRead : Type 0
SpelledIsRead = (c : Certificate) (bytes : List ℕ) → IsCertificate c → Spells bytes c → certificate_at bytes ≡ Ok c

-- what is written spells the certificate
abbrev pub WrittenSpells : Type 0
WrittenSpells = (c : Certificate) → IsCertificate c → Spells (spelling c) c

-- no spelling begins another, whichever version the two recordings are in
abbrev pub PrefixFree : Type 0
PrefixFree = (c d : Certificate) (first second x y : List ℕ) → IsCertificate c → IsCertificate d →
    Spells first c → Spells second d → first ++ x ≡ second ++ y → (c ≡ d) × (x ≡ y)
