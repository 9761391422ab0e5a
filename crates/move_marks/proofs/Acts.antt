-- What is read of ports, one by one, and what an act that can be made there hangs on.
use Rattle.std.proofs.Common.{◌≡◌, ◌≢◌, ◌∙◌, ◌⊎◌, inl, inr, refl, sym, subst, ap, ℕ, zero, suc, ◌<◌, ◌≤◌, Bool, false}
use Rattle.std.proofs.Common.{List, [], ◌∷◌, length, get_or, nat_lt}
use Rattle.std.proofs.Common.{◌&&◌}
use Rattle.std.specs.Prelude.{map, slice_set}
use Rattle.std.proofs.lemmas.List.{get_or-map, get_or_past, get_or-set_other, length-map, map-set}
use Rattle.std.proofs.lemmas.Bool.{cases_lt}
use Rattle.access_times.specs.Riding.{Riding, Carrying}
use Rattle.msi_cache.specs.Lines.{waits}
use Rattle.msi_cache.specs.declared.messages.Request.{Request}
use Rattle.msi_memory.specs.declared.port.Mail.{Mail}
use Rattle.msi_memory.specs.declared.port.Port.{Port}
use Rattle.msi_memory.specs.Acts.{Act, can, can_at, port_of}
use Rattle.msi_memory.specs.Memories.{Memory, no_port, port_at}
use Rattle.msi_memory.specs.Rests.{requests_at}
use Rattle.move_marks.proofs.AnswerMarks.{below_is, past_is}

module _ {R K : Type 0} where
  -- what is read of a port, in the list of what is read of all
  at_map : {X : Type 0} (f : Port R K → X) (carrying : Carrying K) (ports : List (Port R K)) (d : ℕ) →
      f (port_at carrying ports d) ≡ get_or (map f ports) d (f (no_port carrying))
  at_map f carrying [] d = refl
  at_map f carrying (p ∷ ports) zero = refl
  at_map f carrying (p ∷ ports) (suc d) = at_map f carrying ports d

  pub same_at : {X : Type 0} (f : Port R K → X) (carrying : Carrying K) (new old : List (Port R K)) →
      map f new ≡ map f old → (d : ℕ) →
      f (port_at carrying new d) ≡ f (port_at carrying old d)
  same_at f carrying new old same d =
      at_map f carrying new d ∙ (λ i. get_or (same i) d (f (no_port carrying))) ∙ sym (at_map f carrying old d)

  -- a port that has the cache that it had waits as it did
  waits_through : (ports : List (Port R K)) →
      map waits (map (λ (p : Port R K). p.cache) ports) ≡ map (λ (p : Port R K). waits p.cache) ports
  waits_through [] = refl
  waits_through (p ∷ ports) = ap (λ (bs : List Bool). waits p.cache ∷ bs) (waits_through ports)

  pub waits_by : (new old : List (Port R K)) →
      map (λ (p : Port R K). p.cache) new ≡ map (λ (p : Port R K). p.cache) old →
      map (λ (p : Port R K). waits p.cache) new ≡ map (λ (p : Port R K). waits p.cache) old
  waits_by new old same = sym (waits_through new) ∙ ap (map waits) same ∙ waits_through old

  pub requests_within : (carrying : Carrying K) (ports : List (Port R K)) (d : ℕ) → d < length ports →
      requests_at ports d ≡ (port_at carrying ports d).requests.items
  requests_within carrying ports d within = get_or-map (λ (p : Port R K). p.requests.items) ports d (no_port carrying)
      [] within

  pub requests_past : (ports : List (Port R K)) (d : ℕ) → length ports ≤ d → requests_at ports d ≡ []
  requests_past ports d past =
      get_or_past (map (λ (p : Port R K). p.requests.items) ports) d []
      (subst (λ (n : ℕ). n ≤ d) (sym (length-map ports (λ (p : Port R K). p.requests.items))) past)

  -- one port is replaced
  pub set_elsewhere : (ports : List (Port R K)) (c d : ℕ) (port : Port R K) → d ≢ c →
      requests_at (slice_set ports c port) d ≡ requests_at ports d
  set_elsewhere ports c d port other =
      ap (λ (xs : List (List (Mail (Request R) K))). get_or xs d []) (map-set (λ (p : Port R K). p.requests.items) ports
      c port)
      ∙ get_or-set_other (map (λ (p : Port R K). p.requests.items) ports) c d port.requests.items [] other

  -- ---- an act can be made by what stands at its port
  pub can_here : (riding : Riding R) (carrying : Carrying K) (m : Memory R K) (act : Act R) →
      port_of act < length m.ports →
      can riding carrying m act ≡ can_at riding m.home (port_at carrying m.ports (port_of act)) act
  can_here riding carrying m act within =
      ap (λ (b : Bool). b && can_at riding m.home (port_at carrying m.ports (port_of act)) act)
      (below_is (port_of act) (length m.ports) within)

  pub can_past : (riding : Riding R) (carrying : Carrying K) (m : Memory R K) (act : Act R) →
      length m.ports ≤ port_of act →
      can riding carrying m act ≡ false
  can_past riding carrying m act past =
      ap (λ (b : Bool). b && can_at riding m.home (port_at carrying m.ports (port_of act)) act)
      (past_is (port_of act) (length m.ports) past)

  pub can_by : (riding : Riding R) (carrying : Carrying K) (m n : Memory R K) (act : Act R) →
      length n.ports ≡ length m.ports →
      (port_of act < length m.ports → can_at riding n.home (port_at carrying n.ports (port_of act)) act
      ≡ can_at riding m.home (port_at carrying m.ports (port_of act))
      act) → can riding carrying n act ≡ can riding carrying m act
  can_by riding carrying m n act count same = by (cases_lt (port_of act) (length m.ports))
    where
      by : (port_of act < length m.ports) ⊎ (length m.ports ≤ port_of act) →
          can riding carrying n act ≡ can riding carrying m act
      by (inl within) = (λ i. nat_lt (port_of act) (count i) && same within i)
      by (inr past) =
          can_past riding carrying n act (subst (λ (k : ℕ). k ≤ port_of act) (sym count) past)
          ∙ sym (can_past riding carrying m act past)
