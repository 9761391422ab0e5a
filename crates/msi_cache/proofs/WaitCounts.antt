-- How many lines of a cache wait, as one line after the other changes.
use Rattle.std.proofs.Common.{arith, ◌≡◌, ◌∙◌, refl, sym, ap, ℕ, ◌+◌, ◌*◌, ◌%◌, ◌<◌, ◌≤◌, Bool, true, false}
use Rattle.std.proofs.Common.{◌||◌, List, [], ◌∷◌, get_or, set, length, replicate}
use Rattle.std.specs.Prelude.{nat_lt}
use Rattle.std.specs.List.{sum_by}
use Rattle.std.proofs.lemmas.List.{length-set}
use Rattle.std.proofs.lemmas.Nat.{mod_below}
use Rattle.std.proofs.lemmas.List.Sums.{sum_by-set, sum_by-cons}
use Rattle.std.proofs.lemmas.List.Folds.{sum_by-replicate}
use Rattle.msi_cache.specs.Table.{is_transient}
use Rattle.msi_cache.specs.Lines.{empty_line, waits}
use Rattle.msi_cache.specs.Waiting.{how_many_wait, one_if}
use Rattle.msi_cache.specs.declared.line.Line.{Line}
use Rattle.rtr_types.specs.declared.TheConstants.{LINES}

-- one or none
at_most_one : (b : Bool) → one_if b ≤ 1
at_most_one true = omega arith
at_most_one false = omega arith

-- one more are some, none more are as many
more : (b : Bool) (n : ℕ) (some : Bool) → nat_lt 0 n ≡ some → nat_lt 0 (one_if b + n) ≡ (b || some)
more true n some is = grind arith
more false n some is = grind arith

none_if : (n : ℕ) → nat_lt 0 n ≡ false → n ≡ 0
none_if n is = grind arith

none_of_none : (R : Type 0) → how_many_wait {R = R} [] ≡ 0
unfolding how_many_wait
none_of_none R = refl

module _ {R : Type 0} where
  -- the number changes as the one line does
  another_line : (lines : List (Line R)) (i : ℕ) (line d : Line R) → i < length lines →
      how_many_wait (set lines i line) + one_if (is_transient (get_or lines i d).state)
      ≡ how_many_wait lines + one_if (is_transient line.state)
  unfolding how_many_wait
  another_line lines i line d within = sum_by-set (λ (l : Line R). one_if (is_transient l.state)) lines i line d within

  first_of : (line : Line R) (lines : List (Line R)) →
      how_many_wait (line ∷ lines) ≡ one_if (is_transient line.state) + how_many_wait lines
  unfolding how_many_wait
  first_of line lines = sum_by-cons (λ (l : Line R). one_if (is_transient l.state)) line lines

  -- of empty lines none waits
  pub none_empty : (n : ℕ) (fresh : R) → how_many_wait (replicate n (empty_line fresh)) ≡ 0
  unfolding how_many_wait
  none_empty n fresh =
      let e : sum_by (λ (l : Line R). one_if (is_transient l.state)) (replicate n (empty_line fresh)) ≡ n * 0 =
      sum_by-replicate (λ (l : Line R). one_if (is_transient l.state)) n (empty_line fresh) in
      omega (arith, e)

  -- no more wait than there are
  few_wait : (lines : List (Line R)) → how_many_wait lines ≤ length lines
  few_wait [] = omega (arith, none_of_none R)
  few_wait (line ∷ lines) =
      omega (arith, first_of line lines, few_wait lines, at_most_one (is_transient line.state))

  -- some line waits where the number isn't 0
  pub some_wait : (lines : List (Line R)) → nat_lt 0 (how_many_wait lines) ≡ waits lines
  some_wait [] = ap (nat_lt 0) (none_of_none R)
  some_wait (line ∷ lines) =
      rw (first_of line lines)
      (more (is_transient line.state) (how_many_wait lines) (waits lines) (some_wait lines))

  -- what is known of the line as it was
  one_was : (lines : List (Line R)) (i : ℕ) (was : Line R) → was ≡ get_or lines i was →
      one_if (is_transient (get_or lines i was).state) ≡ one_if (is_transient was.state)
  one_was lines i was read = ap (λ (l : Line R). one_if (is_transient l.state)) (sym read)

  -- ---- the line of a cache where some block goes

  line_within : (lines : List (Line R)) (block : ℕ) → length lines ≡ LINES → block % LINES < length lines
  line_within lines block whole =
      let low : block % LINES < LINES = mod_below block LINES (omega arith) in
      omega (arith, low, whole)

  -- no more wait than a cache has lines
  pub few_of : (lines : List (Line R)) (waiting : ℕ) → (length lines ≡ LINES) × (waiting ≡ how_many_wait lines) →
      waiting ≤ LINES
  few_of lines waiting fits = omega (arith, few_wait lines, fits.0, fits.1)

  -- where it waits it is one of the number
  pub counted_in : (lines : List (Line R)) (block : ℕ) (was : Line R) → length lines ≡ LINES →
      one_if (is_transient (get_or lines (block % LINES) was).state) ≤ how_many_wait lines
  counted_in lines block was whole =
      let rest : how_many_wait (set lines (block % LINES) (empty_line was.rider))
      + one_if (is_transient (get_or lines (block % LINES) was).state) ≡ how_many_wait lines + 0 =
      another_line lines (block % LINES) (empty_line was.rider) was (line_within lines block whole) in
      omega (arith, rest)

  -- the number after it heard a message
  pub recounted : (lines : List (Line R)) (block : ℕ) (was line : Line R) (waiting result : ℕ) (waited waits : Bool) →
      (length lines ≡ LINES) × (waiting ≡ how_many_wait lines) → was ≡ get_or lines (block % LINES) was →
      waited ≡ is_transient was.state → waits ≡ is_transient line.state →
      result + one_if waited ≡ waiting + one_if waits →
      (length (set lines (block % LINES) line) ≡ LINES) × (result ≡ how_many_wait (set lines (block % LINES) line))
  recounted lines block was line waiting result waited waits fits read before after sums = (
    length-set lines (block % LINES) line ∙ fits.0,
    omega (
      arith,
      another_line lines (block % LINES) line was (line_within lines block fits.0),
      one_was lines (block % LINES) was read,
      fits.1,
      sums,
      ap one_if before,
      ap one_if after,
    ),
  )

  -- a line that is in the state in which it was
  pub same_state : (lines : List (Line R)) (i : ℕ) (was line : Line R) (waiting : ℕ) → i < length lines →
      was ≡ get_or lines i was → waiting ≡ how_many_wait lines → line.state ≡ was.state →
      waiting ≡ how_many_wait (set lines i line)
  same_state lines i was line waiting within read counted same =
      let one : one_if (is_transient line.state) ≡ one_if (is_transient was.state) =
      ap (λ s. one_if (is_transient s)) same in
      omega (arith, another_line lines i line was within, one_was lines i was read, counted, one)

  -- the first that waits is the only one
  pub one_waits : (lines : List (Line R)) (i : ℕ) (d line : Line R) → i < length lines → waits lines ≡ false →
      is_transient line.state ≡ true →
      1 ≡ how_many_wait (set lines i line)
  one_waits lines i d line within still is =
      let none : how_many_wait lines ≡ 0 = none_if (how_many_wait lines) (some_wait lines ∙ still) in
      let one : one_if (is_transient line.state) ≡ 1 = ap one_if is in
      let was : how_many_wait (set lines i (empty_line d.rider)) + one_if (is_transient (get_or lines i d).state)
      ≡ how_many_wait lines + 0 =
      another_line lines i (empty_line d.rider) d within in
      omega (arith, another_line lines i line d within, none, one, was)

-- what is known of the number before one line hears a message
pub ruleset counted_before = (few_of, counted_in)
