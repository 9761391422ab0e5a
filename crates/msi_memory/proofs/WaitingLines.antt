-- What changes whether a line of a cache waits.
use Rattle.std.proofs.Common.{◌≡◌, refl, ap, ℕ, ◌%◌, Bool, false, ◌||◌, Option, Some, None, List, [], ◌∷◌, zero, suc}
use Rattle.std.proofs.Common.{get_or, arith}
use Rattle.std.proofs.Common.{◌∙◌}
use Rattle.std.specs.Prelude.{slice_set, slice_index_or, ◌==◌, is_some, IsTrue}
use Rattle.std.specs.List.{list_any}
use Rattle.access_times.specs.Riding.{Riding}
use Rattle.msi_cache.specs.Table.{Row, Signal, is_transient, row}
use Rattle.msi_cache.specs.declared.line.State.{State}
use Rattle.rtr_types.specs.declared.TheConstants.{LINES}
use Rattle.rtr_types.proofs.Truths.{second_true}
use Rattle.msi_cache.specs.declared.line.Line.{Line}
use Rattle.msi_cache.specs.declared.messages.FromHome.{FromHome}
use Rattle.msi_cache.specs.Lines.{answer, empty_line, has_row, line_after, line_by, lines_after, lines_put}
use Rattle.msi_cache.specs.Lines.{lines_riding, waits}
use Rattle.msi_cache.specs.Messages.{block_of, signal}
use Rattle.msi_memory.specs.Waiting.{ends_wait}

-- an element gives way to one that the test cannot tell from it
any_set_same : {X : Type 0} (test : X → Bool) (xs : List X) (i : ℕ) (y d : X) → test y ≡ test (get_or xs i d) →
    list_any test (slice_set xs i y)
    ≡ list_any test xs
any_set_same test [] i y d same = refl
any_set_same test (x ∷ xs) zero y d same = ap (λ (b : Bool). b || list_any test xs) same
any_set_same test (x ∷ xs) (suc i) y d same = ap (λ (b : Bool). test x || b) (any_set_same test xs i y d same)

-- the state after a row, or the same where there is none
abbrev next_of : Option Row → State → State
next_of None state = state
next_of (Some r) state = r.next

same_wait : (m : Signal) (state : State) → ends_wait m ≡ false →
    is_transient (next_of (row m state) state) ≡ is_transient state
same_wait m state other = grind arith

module _ {R : Type 0} where
  -- an access changes no line's state
  pub waits_put : (fresh : R) (lines : List (Line R)) (block slot value : ℕ) →
      waits (lines_put fresh lines block slot value) ≡ waits lines
  waits_put fresh lines block slot value =
      any_set_same (λ (line : Line R). is_transient line.state) lines (block % LINES)
      (record (slice_index_or lines (block % LINES) (empty_line fresh)) {
        words =
            slice_set (slice_index_or lines (block % LINES) (empty_line fresh)).words slot value;
      }) (empty_line fresh) refl

  pub waits_riding : (fresh : R) (lines : List (Line R)) (block : ℕ) (rider : R) →
      waits (lines_riding fresh lines block rider) ≡ waits lines
  waits_riding fresh lines block rider =
      any_set_same (λ (line : Line R). is_transient line.state) lines (block % LINES)
      (record (slice_index_or lines (block % LINES) (empty_line fresh)) { rider = rider }) (empty_line fresh) refl

  state_after : (riding : Riding R) (r : Option Row) (m : FromHome R) (line : Line R) →
      (line_by riding r m line).state ≡ next_of r line.state
  state_after riding None m line = refl
  state_after riding (Some r) m line = refl

  -- only two kinds of messages end a wait, and none begins one
  pub waits_kept : (riding : Riding R) (lines : List (Line R)) (m : FromHome R) → ends_wait (signal m) ≡ false →
      waits (lines_after riding lines m)
      ≡ waits lines
  waits_kept riding lines m other =
      let line : Line R = slice_index_or lines (block_of m % LINES) (empty_line riding.fresh) in
      any_set_same (λ (x : Line R). is_transient x.state) lines (block_of m % LINES) (line_after riding line m)
      (empty_line riding.fresh)
      (ap is_transient (state_after riding (row (signal m) line.state) m line)
      ∙ same_wait (signal m) line.state other)

  -- what ends a wait isn't answered, and what ends none is, where the table has a row for it
  pub unanswered : (line : Line R) (m : FromHome R) → IsTrue (ends_wait (signal m)) → answer line m ≡ None
  unanswered line m ends = grind arith

  pub is_answered : (line : Line R) (m : FromHome R) → ends_wait (signal m) ≡ false → IsTrue (has_row line m) →
      IsTrue (is_some (answer line m))
  is_answered line m other there =
      let has : IsTrue (is_some (row (signal m) line.state)) =
      second_true (line.block == block_of m) (is_some (row (signal m) line.state)) there in
      grind arith
