-- What is promised of an invariant, by lemmas for any riders and carries: where the start has it and each enabled move
-- keeps it, each state that moves lead to has it.
use Rattle.std.proofs.Common.{◌≡◌, ℕ, ◌<◌, Bool, true, false, IsTrue, List, [], length}
use Rattle.access_times.specs.Riding.{Riding, Carrying}
use Rattle.image_mem.specs.Contents.{Contents}
use Rattle.msi_memory.specs.Acts.{Act, can_all}
use Rattle.msi_laws.specs.Moving.{links_empty}
use Rattle.msi_laws.proofs.MoveNumbers.{walked_keeps}
use Rattle.msi_state.specs.CoreStates.{CoresState}
use Rattle.machine_invariant.specs.Promises.{EachStartHas, IsInvariant, MovesOn}

module _ {C M R K : Type 0} {riding : Riding R} {carrying : Carrying K}
    {Holds : Riding R → Carrying K → CoresState C R K → Type 0}
    {enabled : Riding R → Carrying K → CoresState C R K → M → Bool} where
  pub is_invariant : {start : Riding R → Carrying K → Contents → (cores limit : ℕ) → CoresState C R K}
      {acts : Riding R → Carrying K → R → CoresState C R K → M → List (Act R)}
      {step : Riding R → Carrying K → R → CoresState C R K → M → CoresState C R K} →
      ((riding : Riding R) (carrying : Carrying K) → EachStartHas (start riding carrying) (Holds riding carrying)) →
      ((riding : Riding R) (carrying : Carrying K) (s : CoresState C R K) (m : M) (rider : R) →
      IsTrue (enabled riding carrying s m) → Holds riding carrying s →
      IsTrue (can_all riding carrying s.memory (acts riding carrying rider s m))) →
      ((riding : Riding R) (carrying : Carrying K) (s : CoresState C R K) (m : M) (rider : R) →
      IsTrue (enabled riding carrying s m) → Holds riding carrying s →
      Holds riding carrying (step riding carrying rider s m)) →
      IsInvariant riding carrying Holds start enabled acts step
  is_invariant {start = start} {step = step} started can kept = record {
    started = started riding carrying;
    can = can riding carrying;
    kept = kept riding carrying;
    walked = λ image cores limit few small taken.
        walked_keeps (enabled riding carrying) (step riding carrying)
        (λ (s : CoresState C R K). Holds riding carrying s)
        (λ s m rider is h. kept riding carrying s m rider is h) (start riding carrying image cores limit) taken
        (started riding carrying image cores limit few small);
  }

  pub moves_on : {moves : Riding R → Carrying K → CoresState C R K → List M}
      {has_row_for : Riding R → Carrying K → CoresState C R K → M → Bool}
      {HasRoomFor : Riding R → Carrying K → CoresState C R K → M → Type 0} {all_done : CoresState C R K → Bool} →
      ((riding : Riding R) (carrying : Carrying K) (s : CoresState C R K) (m : M) → Holds riding carrying s →
      IsTrue (enabled riding carrying s m) → IsTrue (has_row_for riding carrying s m)) →
      ((riding : Riding R) (carrying : Carrying K) (s : CoresState C R K) (m : M) → Holds riding carrying s →
      IsTrue (enabled riding carrying s m) → HasRoomFor riding carrying s m) →
      ((riding : Riding R) (carrying : Carrying K) (s : CoresState C R K) → Holds riding carrying s →
      all_done s ≡ false → 0 < length (moves riding carrying s)) →
      ((riding : Riding R) (carrying : Carrying K) (s : CoresState C R K) → Holds riding carrying s →
      all_done s ≡ true → links_empty s.memory ≡ true) →
      ((riding : Riding R) (carrying : Carrying K) (s : CoresState C R K) → Holds riding carrying s →
      all_done s ≡ true → moves riding carrying s ≡ []) →
      MovesOn riding carrying Holds enabled moves has_row_for HasRoomFor all_done
  moves_on rows rooms goes_on links stops = record {
    rows = rows riding carrying;
    rooms = rooms riding carrying;
    goes_on = goes_on riding carrying;
    links = links riding carrying;
    stops = stops riding carrying;
  }
