-- What passes over two streams: nothing, one piece after the other, a byte, and bytes that are said.
use Rattle.std.proofs.Common.{◌≡◌, refl, sym, ap, subst, ℕ, List, [], ◌∷◌, ◌++◌, Option, Some, None, append-nil}
use Rattle.std.specs.Io.KnownBytes.{Appends, Consumes}
use Rattle.rtr_io.proofs.MovedLemmas.{Appends-append, Consumes-append}
use Rattle.gdb_server.specs.Words.{Heard, Said, StreamsPassed, Word, heard_in, said_in, saying}

heard-append : (first more : List Word) → heard_in (first ++ more) ≡ heard_in first ++ heard_in more
heard-append [] more = refl
heard-append (Heard byte ∷ rest) more = ap (λ (l : List ℕ). byte ∷ l) (heard-append rest more)
heard-append (Said byte ∷ rest) more = heard-append rest more

said-append : (first more : List Word) → said_in (first ++ more) ≡ said_in first ++ said_in more
said-append [] more = refl
said-append (Heard byte ∷ rest) more = said-append rest more
said-append (Said byte ∷ rest) more = ap (λ (l : List ℕ). byte ∷ l) (said-append rest more)

nothing_taken : (left : Option (List ℕ)) → Consumes left left []
nothing_taken None = tt
nothing_taken (Some bytes) = refl

nothing_given : (got : Option (List ℕ)) → Appends got got []
nothing_given None = tt
nothing_given (Some bytes) = sym (append-nil bytes)

pub nothing_passed : (left got : Option (List ℕ)) → StreamsPassed left left got got []
nothing_passed left got = record { taken = nothing_taken left; given = nothing_given got }

pub passed_on : (left mid left' got been got' : Option (List ℕ)) (first more : List Word) →
    StreamsPassed left mid got been first → StreamsPassed mid left' been got' more →
    StreamsPassed left left' got got' (first ++ more)
passed_on left mid left' got been got' first more was then = record {
  taken = subst (λ (l : List ℕ). Consumes left left' l) (sym (heard-append first more))
      (Consumes-append left mid left' (heard_in first) (heard_in more) was.taken then.taken);
  given = subst (λ (l : List ℕ). Appends got got' l) (sym (said-append first more))
      (Appends-append got been got' (said_in first) (said_in more) was.given then.given);
}

heard-saying : (bytes : List ℕ) → heard_in (saying bytes) ≡ []
heard-saying [] = refl
heard-saying (byte ∷ rest) = heard-saying rest

said-saying : (bytes : List ℕ) → said_in (saying bytes) ≡ bytes
said-saying [] = refl
said-saying (byte ∷ rest) = ap (λ (l : List ℕ). byte ∷ l) (said-saying rest)

-- bytes are said
pub saying_passed : (left got got' : Option (List ℕ)) (bytes : List ℕ) → Appends got got' bytes →
    StreamsPassed left left got got' (saying bytes)
saying_passed left got got' bytes given = record {
  taken = subst (λ (l : List ℕ). Consumes left left l) (sym (heard-saying bytes)) (nothing_taken left);
  given = subst (λ (l : List ℕ). Appends got got' l) (sym (said-saying bytes)) given;
}

-- a byte is heard
pub hearing_passed : (left left' got : Option (List ℕ)) (byte : ℕ) → Consumes left left' (byte ∷ []) →
    StreamsPassed left left' got got (Heard byte ∷ [])
hearing_passed left left' got byte taken = record { taken = taken; given = nothing_given got }

-- or none
pub silence_passed : (left left' got : Option (List ℕ)) → Consumes left left' [] → StreamsPassed left left' got got []
silence_passed left left' got taken = record { taken = taken; given = nothing_given got }
