-- What is said of words is said by the log of the session that they ask for, if they do.
use Rattle.std.proofs.Common.{◌≡◌, ℕ, List, refl, inl, inr, subst, rules}
use Rattle.std.specs.Prelude.{Option, Some, None}
use Rattle.rtr_types.specs.declared.pairs.Which.{Which}
use Rattle.state_text.specs.declared.exit.Exit.{Exit}
use Rattle.state_text.specs.declared.exit.Exit.TheVariants as exits
use Rattle.gdb_cli.proofs.AnswerLemmas.{answers_memory, keeps}
use Rattle.gdb_cli.specs.Answers.{IsAnswerIn, IsAnswerOf, IsSessionIn}
use Rattle.gdb_cli.specs.Words.{file_name, moment_in}

module _ {F : Type 0} where
  pub core_answers : (opens : List ℕ → F → Type 0) (left_of : F → Option (List ℕ)) (faults_of : F → ℕ)
      (words : List (List ℕ)) (log : Option Which) (exit : Exit) (left left' got got' : Option (List ℕ))
      (read read' written written' : ℕ) → None ≡ log
      → IsAnswerOf (moment_in words) exit left left' got got' read read' written written'
      → IsAnswerIn opens left_of faults_of words log exit left left' got got' read read' written written'
  core_answers opens left_of faults_of words log exit left left' got got' read read' written written' is h =
      subst (λ (o : Option Which).
      IsAnswerIn opens left_of faults_of words o exit left left' got got' read read' written written') is h

  pub session_answers : (opens : List ℕ → F → Type 0) (left_of : F → Option (List ℕ)) (faults_of : F → ℕ)
      (words : List (List ℕ)) (log : Option Which) (which : Which) (exit : Exit)
      (left left' got got' : Option (List ℕ)) (read read' written written' : ℕ) → Some which ≡ log
      → (file : F) → opens (file_name words) file
      → IsSessionIn left_of faults_of which exit file left left' got got' read read' written written'
      → IsAnswerIn opens left_of faults_of words log exit left left' got got' read read' written written'
  session_answers opens left_of faults_of words log which exit left left' got got' read read' written written' is
      file opened h =
      subst (λ (o : Option Which).
      IsAnswerIn opens left_of faults_of words o exit left left' got got' read read' written written') is
      (inr (file, opened, h))

  -- for want of memory before anything was opened
  pub memory_answers : (opens : List ℕ → F → Type 0) (left_of : F → Option (List ℕ)) (faults_of : F → ℕ)
      (words : List (List ℕ)) (log : Option Which) (left got : Option (List ℕ)) (read written : ℕ)
      → IsAnswerIn opens left_of faults_of words log exits.OutOfMemory left left got got read read written written
  memory_answers opens left_of faults_of words None left got read written = record {
    answers = answers_memory (moment_in words) left got;
    read_fault = λ is. search rules;
    no_read_fault = inr refl;
    write_fault = λ is. search rules;
    no_write_fault = inr refl;
    complete = λ moment bytes asked has accepts reads writes. inr refl;
  }
  memory_answers opens left_of faults_of words (Some which) left got read written =
      inl (refl, keeps left, keeps got, refl, refl)
