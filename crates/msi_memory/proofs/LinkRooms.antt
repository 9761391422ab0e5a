-- Room on the links that the home pushes to.
use Rattle.std.proofs.Common.{◌≡◌, ◌∙◌, ap, subst, ℕ, ◌<◌, List, length, Option, Some, None, eq-eqb}
use Rattle.std.specs.Prelude.{slice_index_or}
use Rattle.std.proofs.lemmas.List.{get_or_default}
use Rattle.std.proofs.Common.{refl}
use Rattle.access_times.specs.Riding.{Carrying}
use Rattle.msi_cache.specs.declared.messages.FromHome.{FromHome}
use Rattle.msi_directory.specs.declared.entry.HomeAnswer.{HomeAnswer}
use Rattle.msi_memory.specs.declared.port.Port.{Port}
use Rattle.msi_memory.specs.Memories.{port_at, no_port}
use Rattle.msi_memory.specs.Rests.{hears_in, HasRoomTo, HasRoomIn}

module _ {R K : Type 0} where
  room_at : (carrying : Carrying K) (ns : List (Port R K)) (k : ℕ) (d : Port R K) → k < length ns →
      length (port_at carrying ns k).messages.items < (port_at carrying ns k).messages.room →
      length (slice_index_or ns k d).messages.items < (slice_index_or ns k d).messages.room
  room_at carrying ns k d within room =
      subst (λ (n : Port R K). length n.messages.items < n.messages.room) (get_or_default ns k (no_port carrying) d
      within) room

  pub room_sent : (carrying : Carrying K) (answer : HomeAnswer R) (ns : List (Port R K)) (to : ℕ) (m : FromHome R)
      (d : Port R K) →
      answer.send ≡ Some (to, m) → to < length ns → HasRoomTo carrying answer ns →
      length (slice_index_or ns to d).messages.items < (slice_index_or ns to d).messages.room
  room_sent carrying answer ns to m d is within room =
      room_at carrying ns to d within (room to within (ap (λ (o : Option (ℕ × FromHome R)). hears_in o answer.invalidate
      to) is ∙ eq-eqb to to refl))

  pub room_told : (carrying : Carrying K) (answer : HomeAnswer R) (ns : List (Port R K)) → answer.send ≡ None →
      HasRoomTo carrying answer ns →
      HasRoomIn answer.invalidate ns
  room_told carrying answer ns is room =
      λ k d within has_it. room_at carrying ns k d within
      (room k within (ap (λ (o : Option (ℕ × FromHome R)). hears_in o answer.invalidate k) is ∙ has_it))
