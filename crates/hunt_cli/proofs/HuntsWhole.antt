-- What a hunt's answer and the counts of faults say: it gives all that it finds of an input that is an image.
use Rattle.std.proofs.Common.{◌≡◌, ◌∙◌, inl, inr, refl, sym, ap, subst, ℕ, ◌≤◌, List, ◌++◌, length, arith, Ok, Err}
use Rattle.std.specs.Prelude.{Option, Some, None, Result}
use Rattle.std.specs.Io.KnownBytes.{Consumes, IsAtEnd}
use Rattle.std.proofs.lemmas.List.{append-nil, length-append}
use Rattle.state_text.specs.declared.exit.Exit.TheVariants as exits
use Rattle.rtr_cli.specs.Inputs.{loaded}
use Rattle.hunt_words.specs.declared.hunt.Hunt.{Hunt}
use Rattle.hunt_cli.specs.declared.exits.HuntExit.{HuntExit}
use Rattle.hunt_cli.specs.declared.exits.HuntExit.TheVariants.{As, Breaks, Whole}
use Rattle.hunt_cli.specs.Answers.{GivesWhole, HuntAnswers, Moved, TellsFaults}
use Rattle.hunt_cli.specs.Inputs.{as_run, setup_in}

-- no more is taken than there was
none_more : (left' : Option (List ℕ)) (input taken : List ℕ) → Consumes (Some input) left' taken →
    length taken ≤ length input
none_more None input taken was = absurd was
none_more (Some rest) input taken was = omega (arith, ap length was, length-append taken rest)

-- what was taken up to the end is all
all_taken : (left' : Option (List ℕ)) (input taken : List ℕ) → Consumes (Some input) left' taken → IsAtEnd left' →
    taken ≡ input
all_taken None input taken was end = absurd was
all_taken (Some rest) input taken was end =
    sym (append-nil taken) ∙ ap (λ (bytes : List ℕ). taken ++ bytes) (sym end) ∙ sym was

-- no bytes are an image and none
one_reading : {X E : Type 0} (read : Result X E) (x : X) (e : E) → read ≡ Ok x → read ≡ Err e → ⊥
one_reading read x e good bad =
    let wrong : Ok x ≡ Err e = sym good ∙ bad in
    absurd cc

module _ (hunt : Hunt) (m : Moved) (input bytes : List ℕ) (read read' written written' : ℕ) where
  pub gives-whole : (exit : HuntExit) → HuntAnswers hunt exit m → TellsFaults exit read read' written written' →
      GivesWhole hunt input bytes exit m.left read read' written written'
  gives-whole Breaks h t = λ is loads quiet still. inr (inl refl)
  gives-whole Whole h t = λ is loads quiet still. inr (inr (inl refl))
  gives-whole (As exits.Done) h t = λ is loads quiet still. inl refl
  gives-whole (As exits.OutOfMemory) h t = λ is loads quiet still. inr (inr (inr refl))
  gives-whole (As exits.ReadFault) h t = λ is loads quiet still. absurd (quiet (t.read_fault refl))
  gives-whole (As exits.WriteFault) h t = λ is loads quiet still. absurd (still (t.write_fault refl))
  gives-whole (As exits.TooLarge) h t = λ is loads quiet still.
      let taken = h.0.0 in
      let few : length taken ≤ length input =
      none_more m.left' input taken
      (subst (λ (left : Option (List ℕ)). Consumes left m.left' taken) is.0 h.0.2) in
      absurd (omega (arith, few, h.0.1, is.1))
  gives-whole (As (exits.Elf fault)) h t = λ is loads quiet still.
      let taken = h.0.0 in
      let all : taken ≡ input =
      all_taken m.left' input taken
      (subst (λ (left : Option (List ℕ)). Consumes left m.left' taken) is.0 h.0.1.taken) h.0.1.end in
      absurd (one_reading (loaded (as_run (setup_in hunt)) input) bytes fault loads
      (ap (loaded (as_run (setup_in hunt))) (sym all) ∙ h.0.2))
  gives-whole (As exits.Usage) h t = absurd h.0
  gives-whole (As (exits.Bad part)) h t = absurd h.0
  gives-whole (As (exits.Stuck cut)) h t = absurd h.0
  gives-whole (As (exits.Short core count)) h t = absurd h.0
  gives-whole (As (exits.Undetermined first second)) h t = absurd h.0
  gives-whole (As (exits.CheckFailed failure)) h t = absurd h.0
  gives-whole (As (exits.NoInstr at)) h t = absurd h.0
  gives-whole (As (exits.TooMany vectors edges)) h t = absurd h.0
  gives-whole (As (exits.NotShown vector)) h t = absurd h.0
