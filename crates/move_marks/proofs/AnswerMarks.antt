-- What the home's answer changes at the ports, and tests.
use Rattle.std.proofs.Common.{◌≡◌, ◌∙◌, ◌⊎◌, inl, inr, refl, sym, ap, ℕ, zero}
use Rattle.std.proofs.Common.{suc, ◌<◌, ◌≤◌, Bool, true, false, cond, List}
use Rattle.std.proofs.Common.{length, nat_lt, arith, ◌&&◌, ◌||◌, ◌==◌, Option, Some, None}
use Rattle.std.specs.Prelude.{map, not}
use Rattle.std.proofs.Math.Seq.{map-set_same}
use Rattle.std.proofs.lemmas.Bool.{cases_eq}
use Rattle.std.proofs.lemmas.Bool.Decides.{nat_tests}
use Rattle.std.proofs.lemmas.List.{get_or-set_other, get_or-set_same}
use Rattle.access_times.specs.Riding.{Carrying}
use Rattle.rtr_types.specs.CoreSets.{has}
use Rattle.rtr_types.specs.declared.core_set.CoreSet.{CoreSet}
use Rattle.link_order.specs.Queue.{is_nil}
use Rattle.link_order.proofs.Queues.{more_nil}
use Rattle.msi_cache.specs.declared.messages.FromHome.{FromHome}
use Rattle.msi_cache.specs.declared.messages.FromHome.TheVariants.{Inv}
use Rattle.msi_laws.proofs.Views.{port_at-told}
use Rattle.msi_memory.specs.declared.port.Port.{Port}
use Rattle.msi_memory.specs.Rests.{hears_in}
use Rattle.msi_memory.specs.Memories.{no_port, port_at}
use Rattle.msi_memory.specs.Acts.{delivered_in, port_sent, ports_sent, ports_told}

pub below_is : (d n : ℕ) → d < n → nat_lt d n ≡ true
below_is d n within = grind (arith, nat_tests)

pub past_is : (d n : ℕ) → n ≤ d → nat_lt d n ≡ false
past_is d n past = grind (arith, nat_tests)

pub eq_is : (d n : ℕ) → d ≡ n → (d == n) ≡ true
eq_is d n same = grind (arith, nat_tests, same)

pub ne_is : (d n : ℕ) → (d ≡ n → ⊥) → (d == n) ≡ false
ne_is d n other = grind (arith, nat_tests, other)

pub and_true : (a : Bool) → (a && true) ≡ a
and_true true = refl
and_true false = refl

pub told_or : (b x : Bool) → (not x || b) ≡ not (cond b false x)
told_or true true = refl
told_or true false = refl
told_or false true = refl
told_or false false = refl

pub false_true : {X : Type 0} → false ≡ true → X
false_true e = grind arith

pub left_is : (a b : Bool) → (a && b) ≡ true → a ≡ true
left_is true b is = refl
left_is false b is = is

pub right_of : (a b : Bool) → (a && b) ≡ true → b ≡ true
right_of true b is = is
right_of false b is = false_true is

pub lt_of : (a b : ℕ) → nat_lt a b ≡ true → a < b
lt_of a b is = grind (arith, nat_tests)

module _ {R K : Type 0} where
  -- what a message on its way to a port doesn't change, no port has otherwise after it
  module _ {X : Type 0} (f : Port R K → X) (same : (n : Port R K) (m : FromHome R) (carry : K) →
      f (port_sent n m carry) ≡ f n) (carrying : Carrying K) where
    pub sent_same : (ports : List (Port R K)) (to : ℕ) (m : FromHome R) (carry : K) →
        map f (ports_sent carrying ports to m carry) ≡ map f ports
    sent_same ports to m carry =
        map-set_same f ports to (port_sent (port_at carrying ports to) m carry) (no_port carrying)
        (same (port_at carrying ports to) m carry)

    pub told_same : (set : CoreSet) (m : FromHome R) (carry : K) (n : ℕ) (ports : List (Port R K)) →
        map f (ports_told carrying set m carry n ports) ≡ map f ports
    told_same set m carry zero ports = refl
    told_same set m carry (suc n) ports = by (has set n) (told_same set m carry n ports)
      where
        by : (is : Bool) → map f (ports_told carrying set m carry n ports) ≡ map f ports
            → map f (cond is (ports_sent carrying (ports_told carrying set m carry n ports) n m carry)
            (ports_told carrying set m carry n ports)) ≡ map f ports
        by true before = sent_same (ports_told carrying set m carry n ports) n m carry ∙ before
        by false before = before

    pub delivered_same : (send : Option (ℕ × FromHome R)) (set : CoreSet) (block : ℕ) (carry : K)
        (ports : List (Port R K)) →
        map f (delivered_in send carrying set block carry ports) ≡ map f ports
    delivered_same (Some (to, m)) set block carry ports = sent_same ports to m carry
    delivered_same None set block carry ports = told_same set (Inv block) carry (length ports) ports

  -- no messages for the core
  abbrev pub silent : Carrying K → List (Port R K) → ℕ → Bool
  silent carrying ports d = is_nil (port_at carrying ports d).messages.items

  pub sent_silent : (carrying : Carrying K) (ports : List (Port R K)) (to : ℕ) (m : FromHome R) (carry : K) (d : ℕ) →
      d < length ports →
      silent carrying (ports_sent carrying ports to m carry) d ≡ cond (d == to) false (silent carrying ports d)
  sent_silent carrying ports to m carry d within = by d within (cases_eq d to)
    where
      by : (d : ℕ) → d < length ports → (d ≡ to) ⊎ (d ≡ to → ⊥) →
          is_nil (port_at carrying (ports_sent carrying ports to m carry) d).messages.items
          ≡ cond (d == to) false (is_nil (port_at carrying ports d).messages.items)
      by d within (inl same) =
          let here : to < length ports = omega arith in
          ap (λ (k : ℕ). is_nil (port_at carrying (ports_sent carrying ports to m carry) k).messages.items) same
          ∙ ap (λ (n : Port R K). is_nil n.messages.items)
          (get_or-set_same ports to (port_sent (port_at carrying ports to) m carry) (no_port carrying) here)
          ∙ more_nil (port_at carrying ports to).messages.items _
          ∙ ap (λ (b : Bool). cond b false (is_nil (port_at carrying ports d).messages.items)) (sym (eq_is d to same))
      by d within (inr other) =
          ap (λ (n : Port R K). is_nil n.messages.items) (get_or-set_other ports to d
          (port_sent (port_at carrying ports to) m carry) (no_port carrying) other)
          ∙ ap (λ (b : Bool). cond b false (is_nil (port_at carrying ports d).messages.items)) (sym (ne_is d to other))

  told_silent : (carrying : Carrying K) (set : CoreSet) (m : FromHome R) (carry : K) (ports : List (Port R K)) (d : ℕ) →
      d < length ports →
      silent carrying (ports_told carrying set m carry (length ports) ports) d ≡ cond (has set d) false
      (silent carrying ports d)
  told_silent carrying set m carry ports d within =
      ap (λ (p : Port R K). is_nil p.messages.items) (port_at-told carrying set m carry (length ports) ports d
      (omega arith))
      ∙ ap (λ (b : Bool). is_nil (cond (b && has set d) (port_sent p m carry) p).messages.items)
      (below_is d (length ports) within)
      ∙ by (has set d)
    where
      p : Port R K
      p = port_at carrying ports d

      by : (told : Bool) → is_nil (cond told (port_sent (port_at carrying ports d) m carry)
          (port_at carrying ports d)).messages.items
          ≡ cond told false (silent carrying ports d)
      by true = more_nil (port_at carrying ports d).messages.items _
      by false = refl

  pub delivered_silent : (send : Option (ℕ × FromHome R)) (carrying : Carrying K) (set : CoreSet) (block : ℕ)
      (carry : K) (ports : List (Port R K)) (d : ℕ) →
      d < length ports → silent carrying (delivered_in send carrying set block carry ports) d ≡ cond
      (hears_in send set d) false (silent carrying ports d)
  delivered_silent (Some (to, m)) carrying set block carry ports d within =
      sent_silent carrying ports to m carry d within
  delivered_silent None carrying set block carry ports d within =
      told_silent carrying set (Inv block) carry ports d within
