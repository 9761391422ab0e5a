-- What the loop over the reads of an access has after so many of them.
use Rattle.std.proofs.Common.{◌≡◌, ℕ, ◌≤◌, List, [], length, take, refl, sym, subst, ap, arith, IsTrue}
use Rattle.std.specs.Prelude.{All}
use Rattle.std.specs.List.{fold}
use Rattle.std.proofs.lemmas.List.Elements.{All-get_or}
use Rattle.roomy_lists.specs.Lists.{Listed, are_ready, items_in}
use Rattle.rtr_types.specs.Pairs.{IsPair, pair_count}
use Rattle.rtr_types.specs.PairEdges.{with_edges}
use Rattle.rtr_types.specs.declared.instr.Instr.{Instr}
use Rattle.rtr_types.specs.declared.instr.Edge.{Edge}
use Rattle.clock_core.specs.declared.clock.Clock.{Clock}
use Rattle.online_reduce.specs.Rule.{merged_with}
use Rattle.online_reduce.specs.declared.source.Source.{Source}
use Rattle.online_reduce.proofs.ListRests.{IsNext, seen}
use Rattle.online_reduce.proofs.Loops.{chosen}
use Rattle.online_reduce.proofs.Rooms.{HaveRoom, have_room}

-- the edges from the first n reads were added, their clocks were taken over, and the lists of the others have room
pub record Added (cores : ℕ) (at : Instr) (found : List Source) (before now : List (Listed (ℕ × ℕ)))
    (was clock : Clock) (edges : List Edge) (n : ℕ) : Type 0 where
  pub lists : items_in now ≡ with_edges cores (items_in before) (chosen at found (take n found))
  pub edges_are : edges ≡ chosen at found (take n found)
  pub few : length edges ≤ n
  pub clock_is : clock ≡ fold merged_with was (take n found)
  pub room : HaveRoom cores at found now n

pub none_added : (cores : ℕ) (at : Instr) (found : List Source) (pairs : List (Listed (ℕ × ℕ))) (clock : Clock)
    (edges : List Edge) → edges ≡ [] →
    length pairs ≡ pair_count cores → All (λ (s : Source). IsPair cores s.at.core at.core) found
    → IsTrue (are_ready pairs) →
    Added cores at found pairs pairs clock clock edges 0
unfolding with_edges
none_added cores at found pairs clock edges none long each ready =
    record {
      lists = refl;
      edges_are = none;
      few = omega (arith, ap length none);
      clock_is = refl;
      room = have_room cores at found pairs long each ready;
    }

-- the next read is of another core than the instruction
pub next_pair : (cores : ℕ) (at : Instr) (found left rest : List Source) (s : Source) → IsNext found left rest s →
    All (λ (s : Source). IsPair cores s.at.core at.core) found → IsPair cores s.at.core at.core
next_pair cores at found left rest s n each =
    subst (λ (v : Source). IsPair cores v.at.core at.core) (sym n.at)
    (All-get_or (λ (v : Source). IsPair cores v.at.core at.core) found (seen found left) s n.within each)
