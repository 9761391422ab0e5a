-- The ports once the home's answer is on its way to them.
use Rattle.std.proofs.Common.{◌≡◌, ◌∙◌, refl, ℕ, ◌<◌, ◌≤◌, ◌==◌, Bool, true, false, nat_lt, ◌&&◌, List, length, Option}
use Rattle.std.proofs.Common.{Some, None, zero}
use Rattle.std.proofs.Common.{suc, arith}
use Rattle.std.specs.Prelude.{if◌then◌else◌, slice_set}
use Rattle.std.proofs.lemmas.List.{get_or-set_same, get_or-set_other, length-set}
use Rattle.std.proofs.lemmas.Bool.Decides.{nat_tests}
use Rattle.access_times.specs.Riding.{Carrying}
use Rattle.rtr_types.specs.declared.core_set.CoreSet.{CoreSet}
use Rattle.rtr_types.specs.CoreSets.{has}
use Rattle.msi_cache.specs.declared.messages.FromHome.{FromHome}
use Rattle.msi_cache.specs.declared.messages.FromHome.TheVariants.{Inv}
use Rattle.msi_directory.specs.declared.entry.HomeAnswer.{HomeAnswer}
use Rattle.msi_memory.specs.declared.port.Port.{Port}
use Rattle.msi_memory.specs.Memories.{port_at, no_port}
use Rattle.msi_memory.specs.Acts.{port_sent, ports_sent, ports_told, delivered, delivered_in}

module _ {R K : Type 0} where
  pub length-sent : (carrying : Carrying K) (ports : List (Port R K)) (to : ℕ) (m : FromHome R) (k : K) →
      length (ports_sent carrying ports to m k)
      ≡ length ports
  length-sent carrying ports to m k = length-set ports to (port_sent (port_at carrying ports to) m k)

  pub port_at-set : (carrying : Carrying K) (ports : List (Port R K)) (c : ℕ) (p : Port R K) (d : ℕ) →
      c < length ports → port_at carrying
      (slice_set ports c p) d
      ≡ (if d == c then p else port_at carrying ports d)
  port_at-set carrying ports c p d within =
      grind (
        arith,
        nat_tests,
        get_or-set_same ports c p (no_port carrying) within,
        get_or-set_other ports c d p
            (no_port carrying),
      )

  pub port_at-sent : (carrying : Carrying K) (ports : List (Port R K)) (to : ℕ) (m : FromHome R) (k : K) (d : ℕ) →
      to < length ports → port_at carrying
      (ports_sent carrying ports to m k) d ≡ (if d == to then port_sent (port_at carrying ports d) m k else port_at
      carrying ports d)
  port_at-sent carrying ports to m k d within =
      port_at-set carrying ports to (port_sent (port_at carrying ports to) m k) d within ∙ same (d == to)
      (λ (e : (d == to) ≡ true). grind (arith, nat_tests))
    where
      same : (t : Bool) → (t ≡ true → d ≡ to) →
          (if t then port_sent (port_at carrying ports to) m k else port_at carrying ports d)
          ≡ (if t then port_sent (port_at carrying ports d) m k else port_at carrying ports d)
      same true f = rw (f refl)
      same false f = refl

  length-if : (t : Bool) (a b : List (Port R K)) (n : ℕ) → length a ≡ n → length b ≡ n → length (if t then a else b) ≡ n
  length-if true a b n e f = e
  length-if false a b n e f = f

  pub length-told : (carrying : Carrying K) (set : CoreSet) (m : FromHome R) (k : K) (n : ℕ) (ports : List (Port R K)) →
      length (ports_told carrying set m k n ports)
      ≡ length ports
  length-told carrying set m k zero ports = refl
  length-told carrying set m k (suc n) ports =
      let before = ports_told carrying set m k n ports in
      let e : length (ports_told carrying set m k n ports) ≡ length ports = length-told carrying set m k n ports in
      length-if (has set n) (ports_sent carrying before n m k) before (length ports) (length-sent carrying before n m k
      ∙ e) e

  port_at-if : (carrying : Carrying K) (t : Bool) (a b : List (Port R K)) (d : ℕ) →
      port_at carrying (if t then a else b) d
      ≡ (if t then port_at carrying a d else port_at carrying b d)
  port_at-if carrying true a b d = refl
  port_at-if carrying false a b d = refl

  pub port_at-told : (carrying : Carrying K) (set : CoreSet) (m : FromHome R) (k : K) (n : ℕ) (ports : List (Port R K))
      (d : ℕ) → n ≤ length ports →
      port_at carrying
      (ports_told carrying set m k n ports) d ≡ (if nat_lt d n && has set d then port_sent (port_at carrying ports d) m
      k else port_at carrying ports d)
  port_at-told carrying set m k zero ports d within = grind (arith, nat_tests)
  port_at-told carrying set m k (suc n) ports d within =
      let before = ports_told carrying set m k n ports in
      let ih : port_at carrying (ports_told carrying set m k n ports) d
      ≡ (if nat_lt d n && has set d then port_sent (port_at carrying ports d) m k else port_at carrying ports d) =
      port_at-told carrying set m k n ports d
      (omega arith) in
      let long : n < length (ports_told carrying set m k n ports) =
      rw (length-told carrying set m k n ports) (omega arith) in
      port_at-if carrying (has set n) (ports_sent carrying before n m k) before d
      ∙ rw (port_at-sent carrying before n m k d long, ih)
      (one_more set n d (port_at carrying ports d) m k)
    where
      one_more : (set : CoreSet) (n d : ℕ) (x : Port R K) (m : FromHome R) (k : K) →
          (if has set n then (if d == n then port_sent (if nat_lt d n && has set d then port_sent x m k else x) m k else
          (if nat_lt d n && has set d then port_sent x m k else x)) else (if nat_lt d n && has set d then port_sent x m
          k else x))
          ≡ (if nat_lt d (suc n) && has set d then port_sent x m k else x)
      one_more set n d x m k = grind (arith, nat_tests)

  pub length-delivered : (carrying : Carrying K) (answer : HomeAnswer R) (block : ℕ) (k : K) (ports : List (Port R K)) →
      length (delivered carrying answer block k ports) ≡ length ports
  length-delivered carrying answer block k ports = by_send answer.send
    where
      by_send : (send : Option (ℕ × FromHome R)) →
          length (delivered_in send carrying answer.invalidate block k ports) ≡ length ports
      by_send None = length-told carrying answer.invalidate (Inv block) k (length ports) ports
      by_send (Some (to, m)) = length-sent carrying ports to m k
