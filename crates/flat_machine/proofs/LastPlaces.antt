-- At the end the words of the entries, by their places, are the final memory; and each step is nearer to it.
use Rattle.std.proofs.Common.{◌≡◌, ◌∙◌, refl, sym, ap, subst, ℕ, ◌<◌, true, List, length, Option, Some, None}
use Rattle.std.specs.Prelude.{Bool, if◌then◌else◌}
use Rattle.std.proofs.lemmas.Bool.{lt-ltb}
use Rattle.access_times.specs.Riding.{none_riding, none_carrying}
use Rattle.image_mem.specs.Contents.{Contents}
use Rattle.machine_bound.proofs.Capacity.{nearer}
use Rattle.machine_data.proofs.Final.{final_current}
use Rattle.machine_data.specs.Coherent.{opening_memory}
use Rattle.machine_bound.specs.Bound.{left}
use Rattle.machine_invariant.proofs.MoveInvariant.{holds_kept}
use Rattle.msi_laws.specs.Moving.{links_empty}
use Rattle.msi_state.specs.FinalMemory.{final_words}
use Rattle.msi_state.specs.declared.moves.Move.{Move}
use Rattle.msi_state.specs.States.{PlainState}
use Rattle.msi_state.specs.Steps.{enabled}
use Rattle.flat_state.specs.declared.flat.Flat.{Flat}
use Rattle.flat_state.specs.Shows.{IsSomewhere, Makes, Stands, home_at}
use Rattle.flat_laws.specs.StepsLeft.{left_kept}
use Rattle.flat_laws.proofs.LeftSteps.{left_shown}
use Rattle.flat_machine.specs.Machines.{IsKept, place_in, words_at, words_noted}
use Rattle.flat_machine.specs.declared.machine.FlatMachine.{FlatMachine}

-- the words that are found by a block's place are the memory's
pub noted_words : (m : FlatMachine) (s : PlainState) (memory : ℕ → List ℕ) (block : ℕ) → Stands m.flat s memory →
    IsKept m → words_noted m block ≡ memory block
noted_words m s memory block stands kept = by (place_in m.places.items block) refl
  where
    by : (o : Option ℕ) → place_in m.places.items block ≡ o →
        words_at m.flat.home.items m.flat.program block o ≡ memory block
    by None is =
        ap (λ (i : Contents). opening_memory i block) stands.shows.image
        ∙ sym (stands.words.others block (λ i lies at.
        let e : Some i ≡ None = sym (kept.places.here i lies) ∙ (ap (place_in m.places.items) at ∙ is) in
        absurd (cc)))
    by (Some place) is =
        let lies = kept.places.there block place is in
        ap (λ (t : Bool). if t then (home_at m.flat.home.items place).words
        else opening_memory m.flat.program block) (lt-ltb place (length m.flat.home.items) lies)
        ∙ (stands.words.here place lies ∙ ap memory (kept.places.block block place is))

pub noted_final : (m : FlatMachine) (s : PlainState) (memory : ℕ → List ℕ) (block : ℕ) → Stands m.flat s memory →
    IsKept m → links_empty s.memory ≡ true →
    words_noted m block ≡ final_words none_riding none_carrying s block
noted_final m s memory block stands kept empty =
    noted_words m s memory block stands kept
    ∙ sym (final_current none_riding none_carrying s memory stands.holds empty stands.coherent block)

-- a move leaves fewer steps
pub made_nearer : (old new : Flat) (m : Move) (w : IsSomewhere old) → enabled none_riding none_carrying w.s m ≡ true →
    Makes old new m → left_kept new.nodes.items < left_kept old.nodes.items
made_nearer old new m w on makes =
    let stood = makes w.s w.memory w.stands on in
    let closer = nearer none_riding none_carrying w.s m tt on w.stands.holds
    (holds_kept none_riding none_carrying w.s m tt on w.stands.holds) in
    subst (λ (n : ℕ). left_kept new.nodes.items < n) (sym (left_shown old w.s w.memory w.stands))
    (subst (λ (n : ℕ). n < left none_riding w.s) (sym (left_shown new _ _ stood)) closer)
