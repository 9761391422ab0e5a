-- What a core's acts make of its port: they change that port alone.
use Rattle.std.proofs.Common.{◌≡◌, ◌∙◌, refl, sym, subst, ap, ℕ, ◌<◌, List, [], ◌∷◌, ◌++◌, length, Option, Some, None}
use Rattle.std.proofs.lemmas.List.{length-set}
use Rattle.access_times.specs.Riding.{Riding, Carrying}
use Rattle.rtr_types.specs.declared.access.Kind.{Kind}
use Rattle.link_order.specs.Queue.{Queue}
use Rattle.msi_cache.specs.declared.messages.FromHome.{FromHome}
use Rattle.msi_cache.specs.declared.messages.Response.{Response}
use Rattle.msi_memory.specs.declared.port.Mail.{Mail}
use Rattle.msi_memory.specs.declared.port.Port.{Port}
use Rattle.msi_memory.specs.Acts.{
  Act,
  Want,
  Touch,
  Retire,
  TakeRequest,
  TakeResponse,
  TakeMessage,
  after_act,
  after_acts,
  with_port,
}
use Rattle.msi_memory.specs.Acts.{port_asking, port_retiring, port_taking, port_touched}
use Rattle.msi_memory.specs.Memories.{Memory, port_at}
use Rattle.msi_laws.proofs.ActsInTurn.{port_again, port_same}
use Rattle.msi_laws.proofs.Waits.{port_there}
use Rattle.tso_state.specs.Events.{
  Event,
  Nothing,
  Executes,
  Buffers,
  Performs,
  Drains,
  Logs,
  Told,
  Alone,
  Ordered,
  Logged,
}
use Rattle.tso_state.specs.Steps.{acts_asking, acts_told}

-- the act is a core's own at its port
abbrev pub IsHere : {R : Type 0} → (c : ℕ) → Act R → Type 0
IsHere c (Want d block kind) = d ≡ c
IsHere c (Touch d block slot kind value rider) = d ≡ c
IsHere c (Retire d at) = d ≡ c
IsHere c (TakeMessage d) = d ≡ c
IsHere c (TakeRequest d) = ⊥
IsHere c (TakeResponse d) = ⊥

abbrev pub AreHere : {R : Type 0} → (c : ℕ) → List (Act R) → Type 0
AreHere c [] = Unit {0}
AreHere c (act ∷ later) = IsHere c act × AreHere c later

pub here_append : {R : Type 0} (c : ℕ) (first later : List (Act R)) → AreHere c first → AreHere c later →
    AreHere c (first ++ later)
here_append c [] later f l = l
here_append c (act ∷ first) later f l = (f.0, here_append c first later f.1 l)

pub asking_here : (R : Type 0) (c : ℕ) (wanted : Option (Kind × ℕ)) (e : Event) →
    AreHere {R = R} c (acts_asking c wanted e)
asking_here R c None Nothing = tt
asking_here R c (Some (kind, word)) Nothing = (refl, tt)
asking_here R c wanted (Executes at) = tt
asking_here R c wanted (Buffers at pending) = tt
asking_here R c wanted (Performs a) = tt
asking_here R c wanted (Drains a) = tt
asking_here R c wanted (Logs at word value) = tt

pub telling_here : {R : Type 0} (c : ℕ) (rider : R) (list : List Told) → AreHere c (acts_told c rider list)
telling_here c rider [] = tt
telling_here c rider (Alone at ∷ list) = (refl, telling_here c rider list)
telling_here c rider (Ordered a ∷ list) = (refl, (refl, telling_here c rider list))
telling_here c rider (Logged at word value ∷ list) = (refl, telling_here c rider list)

module _ {R K : Type 0} where
  -- the port after such acts
  abbrev pub port_acting : Riding R → Carrying K → Act R → Port R K → Port R K
  port_acting riding carrying (Want d block kind) p = port_asking riding p block kind
  port_acting riding carrying (Touch d block slot kind value rider) p =
      port_touched riding p block slot kind value rider
  port_acting riding carrying (Retire d at) p = port_retiring carrying p at
  port_acting riding carrying (TakeMessage d) p = port_taking riding carrying p p.messages.items
  port_acting riding carrying (TakeRequest d) p = p
  port_acting riding carrying (TakeResponse d) p = p

  abbrev pub port_acts : Riding R → Carrying K → List (Act R) → Port R K → Port R K
  port_acts riding carrying [] p = p
  port_acts riding carrying (act ∷ later) p = port_acts riding carrying later (port_acting riding carrying act p)

  one_here : (riding : Riding R) (carrying : Carrying K) (m : Memory R K) (c : ℕ) (act : Act R) → IsHere c act →
      after_act riding carrying m act ≡ with_port m c (port_acting riding carrying act (port_at carrying m.ports c))
  one_here riding carrying m c (Want d block kind) is =
      ap (λ (x : ℕ). with_port m x (port_asking riding (port_at carrying m.ports x) block kind)) is
  one_here riding carrying m c (Touch d block slot kind value rider) is =
      ap (λ (x : ℕ). with_port m x (port_touched riding (port_at carrying m.ports x) block slot kind value rider)) is
  one_here riding carrying m c (Retire d at) is =
      ap (λ (x : ℕ). with_port m x (port_retiring carrying (port_at carrying m.ports x) at)) is
  one_here riding carrying m c (TakeMessage d) is =
      ap (λ (x : ℕ). with_port m x (port_taking riding carrying (port_at carrying m.ports x)
      (port_at carrying m.ports x).messages.items)) is
  one_here riding carrying m c (TakeRequest d) is = absurd is
  one_here riding carrying m c (TakeResponse d) is = absurd is

  pub acts_here : (riding : Riding R) (carrying : Carrying K) (m : Memory R K) (c : ℕ) (todo : List (Act R)) →
      AreHere c todo → c < length m.ports →
      after_acts riding carrying m todo ≡ with_port m c (port_acts riding carrying todo (port_at carrying m.ports c))
  acts_here riding carrying m c [] here within = sym (port_same carrying m c)
  acts_here riding carrying m c (act ∷ later) here within =
      let p : Port R K = port_acting riding carrying act (port_at carrying m.ports c) in
      let rest : Port R K → Port R K = port_acts riding carrying later in
      ap (λ (n : Memory R K). after_acts riding carrying n later) (one_here riding carrying m c act here.0)
      ∙ acts_here riding carrying (with_port m c p) c later here.1 (subst (λ (k : ℕ). c < k)
      (sym (length-set m.ports c p)) within)
      ∙ port_again m c p (rest (port_at carrying (with_port m c p).ports c))
      ∙ ap (λ (q : Port R K). with_port m c (rest q)) (port_there carrying m c p within)

  -- ---- asking and telling change neither the port's responses nor its messages
  abbrev pub links : Port R K → Queue (Mail (Response R) K) × Queue (Mail (FromHome R) K)
  links p = (p.responses, p.messages)

  told_links : (riding : Riding R) (carrying : Carrying K) (c : ℕ) (rider : R) (list : List Told) (p : Port R K) →
      links (port_acts riding carrying (acts_told c rider list) p) ≡ links p
  told_links riding carrying c rider [] p = refl
  told_links riding carrying c rider (Alone at ∷ list) p =
      told_links riding carrying c rider list (port_retiring carrying p at)
  told_links riding carrying c rider (Ordered a ∷ list) p = told_links riding carrying c rider list _
  told_links riding carrying c rider (Logged at word value ∷ list) p =
      told_links riding carrying c rider list (port_retiring carrying p at)

  pub own_links : (riding : Riding R) (carrying : Carrying K) (c : ℕ) (rider : R) (wanted : Option (Kind × ℕ))
      (e : Event) (list : List Told) (p : Port R K) →
      links (port_acts riding carrying (acts_asking c wanted e ++ acts_told c rider list) p) ≡ links p
  own_links riding carrying c rider None Nothing list p = told_links riding carrying c rider list p
  own_links riding carrying c rider (Some (kind, word)) Nothing list p = told_links riding carrying c rider list _
  own_links riding carrying c rider wanted (Executes at) list p = told_links riding carrying c rider list p
  own_links riding carrying c rider wanted (Buffers at pending) list p = told_links riding carrying c rider list p
  own_links riding carrying c rider wanted (Performs a) list p = told_links riding carrying c rider list p
  own_links riding carrying c rider wanted (Drains a) list p = told_links riding carrying c rider list p
  own_links riding carrying c rider wanted (Logs at word value) list p = told_links riding carrying c rider list p
