-- One end after the other: the first whose entry is wrong is the answer, and those before it are right.
use Rattle.std.proofs.Common.{◌≡◌, get_or, refl, sym, ap, arith, ◌+◌, ◌∙◌, ℕ}
use Rattle.clock_entries.specs.Ends.{entry_at, instr, last_entry}
use Rattle.certificate_codec.specs.Ends.{reduced_edges}
use Rattle.certificate_codec.specs.declared.certificate.Certificate.{Certificate}
use Rattle.min_certificate.proofs.First.{IsListed, end_in_list, end_number, number_before, bad_at, all_good}
use Rattle.min_certificate.proofs.First.{number_fits}
use Rattle.min_certificate.proofs.LookedUpEntries.{sources_below}
use Rattle.min_certificate.proofs.entries.Entries.first_bad_of.Goals as goal
use Rattle.min_certificate.proofs.entries.Entries.first_bad_of.Goals.{After-entry_at-here}

-- the end that stands in this place of the core's list
listed : (c : After-entry_at-here) → IsListed c.args.self.now.recording c.args.core c.loop-before.before
    c.ends_of-ends.result.now
listed c = record {
  valid = c.ends_of-ends.ensures.valid;
  core = c.requires.core;
  is = c.ends_of-ends.ensures.ends;
  lt = c.loop-before-test.true;
}

-- and its entry
here : (c : After-entry_at-here) → c.entry_at-here.result.now
    ≡ last_entry (reduced_edges c.args.self.now.recording) c.args.self.now.clocks
    (instr c.args.core (get_or c.ends_of-ends.result.now c.loop-before.before 0))
here c = c.entry_at-here.ensures
    ∙ ap (λ (d : Certificate). entry_at d.clocks c.args.core (c.loop-before.before + 1)) c.self.view_is
    ∙ ap (λ (k : ℕ). entry_at c.args.self.now.clocks c.args.core k) (sym (end_number _ _ _ _ (listed c)))

pub is_good_at-requires-clause-within : goal.is_good_at-requires-clause-within
is_good_at-requires-clause-within c =
    (end_in_list _ _ _ _ (listed (goal.at.is_good_at-requires-clause-within c).After-entry_at-here)).0

pub is_good_at-requires-clause-some : goal.is_good_at-requires-clause-some
is_good_at-requires-clause-some c =
    (end_in_list _ _ _ _ (listed (goal.at.is_good_at-requires-clause-some c).After-entry_at-here)).1

pub is_good_at-requires-clause-here : goal.is_good_at-requires-clause-here
is_good_at-requires-clause-here c = here (goal.at.is_good_at-requires-clause-here c).After-entry_at-here

pub is_good_at-requires-clause-before : goal.is_good_at-requires-clause-before
is_good_at-requires-clause-before c =
    c.entry_at-earlier.ensures
    ∙ ap (λ (d : Certificate). entry_at d.clocks c.args.core c.loop-before.before) c.self.view_is
    ∙ ap (λ (k : ℕ). entry_at c.args.self.now.clocks c.args.core k)
    (sym (number_before _ _ _ _ (listed (goal.at.is_good_at-requires-clause-before c).After-entry_at-here)))

pub is_good_at-requires-clause-known : goal.is_good_at-requires-clause-known
is_good_at-requires-clause-known c t = sources_below c.args.self.now _ c.entry_at-here.result.now
    (here (goal.at.is_good_at-requires-clause-known c).After-entry_at-here) (c.requires.known t)

pub overflow_cast-result : goal.overflow_cast-result
overflow_cast-result c =
    omega (arith, number_fits _ _ _ _ (listed (goal.at.overflow_cast-result c).After-entry_at-here))

pub overflow_add-result : goal.overflow_add-result
overflow_add-result c =
    omega (arith, number_fits _ _ _ _ (listed (goal.at.overflow_add-result c).After-entry_at-here))

pub returns-then-not-is_good_at : goal.returns-then-not-is_good_at
returns-then-not-is_good_at c = bad_at c.args.self.now c.args.core c.loop-before.before (c.loop-before.before + 1)
    c.ends_of-ends.result.now (listed (goal.at.returns-then-not-is_good_at c).After-entry_at-here) refl
    c.loop-before.invariant
    (λ g. let t = c.is_good_at.ensures.1 g in let f = c.if-not-is_good_at.true in absurd (cc))

pub returns : goal.returns
returns c = all_good c.args.self.now c.args.core c.loop-before.before c.ends_of-ends.result.now
    c.ends_of-ends.ensures.valid c.ends_of-ends.ensures.ends
    c.loop-before-test.false c.loop-before.invariant
