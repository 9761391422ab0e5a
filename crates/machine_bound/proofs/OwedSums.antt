-- What is owed to others' accesses, summed over the ports, and what the home's answer adds to it.
use Rattle.std.proofs.Common.{◌≡◌, refl, ℕ, ◌+◌, ◌*◌, ◌<◌, ◌≤◌, Bool, true, false, cond, List, [], ◌∷◌, ◌++◌, length}
use Rattle.std.proofs.Common.{Option, Some, None, zero, suc}
use Rattle.std.proofs.Common.{arith, length-append}
use Rattle.std.specs.Prelude.{if◌then◌else◌}
use Rattle.std.specs.List.{sum_by, zip}
use Rattle.std.proofs.lemmas.Bool.Decides.{nat_tests}
use Rattle.access_times.specs.Riding.{Carrying}
use Rattle.rtr_types.specs.declared.core_set.CoreSet.{CoreSet}
use Rattle.rtr_types.specs.CoreSets.{has, no_cores}
use Rattle.rtr_types.proofs.Members.{has-no_cores}
use Rattle.msi_cache.specs.declared.messages.FromHome.{FromHome}
use Rattle.msi_cache.specs.declared.messages.FromHome.TheVariants.{Inv}
use Rattle.msi_cache.specs.declared.messages.Response.{Response}
use Rattle.msi_directory.specs.declared.entry.HomeAnswer.{HomeAnswer}
use Rattle.msi_memory.specs.declared.port.Mail.{Mail}
use Rattle.msi_memory.specs.declared.port.Port.{Port}
use Rattle.msi_memory.specs.Memories.{port_at, no_port}
use Rattle.msi_memory.specs.Acts.{port_sent, port_answering, ports_sent, ports_told, delivered, delivered_in}
use Rattle.machine_bound.specs.Bound.{debt, debts, owed}
use Rattle.machine_bound.proofs.Sums.{sum_most, sum_same}

-- how many answers a message gets
abbrev pub answers : {R : Type 0} → Option (Response R) → ℕ
answers None = 0
answers (Some response) = 1

module _ {R K : Type 0} where
  debts-snoc : (xs : List (Mail (FromHome R) K)) (mail : Mail (FromHome R) K) →
      debts (xs ++ mail ∷ []) ≡ debts xs + debt mail.item
  debts-snoc [] mail = omega arith
  debts-snoc (x ∷ xs) mail = rw (debts-snoc xs mail) (omega arith)

  owed-sent : (p : Port R K) (m : FromHome R) (k : K) → owed (port_sent p m k) ≡ owed p + debt m
  owed-sent p m k = rw (debts-snoc p.messages.items (record { item = m; carry = k })) (omega arith)

  pub owed_answering : (p : Port R K) (o : Option (Response R)) → owed (port_answering p o) ≡ owed p + answers o
  owed_answering p None = omega arith
  owed_answering p (Some response) =
      let e = length-append p.responses.items (record { item = response; carry = p.carry } ∷ []) in omega arith

  owed-ports_sent : (carrying : Carrying K) (ports : List (Port R K)) (to : ℕ) (m : FromHome R) (k : K) →
      sum_by owed (ports_sent carrying ports to m k) ≤ sum_by owed ports + debt m
  owed-ports_sent carrying ports to m k =
      sum_most owed ports to (port_sent (port_at carrying ports to) m k) (no_port carrying) (debt m)
      (let e = owed-sent (port_at carrying ports to) m k in omega arith)

-- how many of the first n cores the set has
abbrev pub members : CoreSet → ℕ → ℕ
members set zero = 0
members set (suc n) = members set n + cond (has set n) 1 0

-- what an answer of the home brings to others
abbrev pub answer_debt : {R : Type 0} → Option (ℕ × FromHome R) → CoreSet → ℕ → ℕ
answer_debt (Some (to, m)) set cores = debt m
answer_debt None set cores = members set cores * 2

module _ {R K : Type 0} where
  more : (carrying : Carrying K) (t : Bool) (before : List (Port R K)) (n : ℕ) (m : FromHome R) (k : K) (total : ℕ) →
      sum_by owed before ≤ total → sum_by owed (if t then ports_sent carrying before n m k else before) ≤ total + cond t
      1 0 * debt m
  more carrying true before n m k total le = let f = owed-ports_sent carrying before n m k in omega arith
  more carrying false before n m k total le = omega arith

  owed-ports_told : (carrying : Carrying K) (set : CoreSet) (m : FromHome R) (k : K) (n : ℕ) (ports : List (Port R K)) →
      sum_by owed (ports_told carrying set m k n ports) ≤ sum_by owed ports + members set n * debt m
  owed-ports_told carrying set m k zero ports = omega arith
  owed-ports_told carrying set m k (suc n) ports =
      let ih = owed-ports_told carrying set m k n ports in
      let one = more carrying (has set n) (ports_told carrying set m k n ports) n m k (sum_by owed ports + members set n
      * debt m) ih in
      let all = spread (members set n) (cond (has set n) 1 0) (debt m) (sum_by owed ports) in
      omega arith
    where
      spread : (a b c t : ℕ) → t + a * c + b * c ≡ t + (a + b) * c
      spread a b c t = grind arith

  -- what the home's answer adds to what is owed
  pub owed_delivered : (carrying : Carrying K) (answer : HomeAnswer R) (block : ℕ) (k : K) (ports : List (Port R K)) →
      sum_by owed (delivered carrying answer block k ports) ≤ sum_by owed ports + answer_debt answer.send
      answer.invalidate (length ports)
  owed_delivered carrying answer block k ports = by_send answer.send
    where
      by_send : (o : Option (ℕ × FromHome R)) →
          sum_by owed (delivered_in o carrying answer.invalidate block k ports) ≤ sum_by owed ports + answer_debt o
          answer.invalidate (length ports)
      by_send None = owed-ports_told carrying answer.invalidate (Inv block) k (length ports) ports
      by_send (Some (to, m)) = owed-ports_sent carrying ports to m k

  -- what no message changes
  pub sum_delivered : {X : Type 0} (f : X × Port R K → ℕ) → ((x : X) (p : Port R K) (m : FromHome R) (k : K) →
      f (x, port_sent p m k) ≡ f (x, p)) →
      (carrying : Carrying K) (answer : HomeAnswer R) (block : ℕ) (k : K) (xs : List X) (ports : List (Port R K)) →
      sum_by f (zip xs (delivered carrying answer block k ports)) ≡ sum_by f (zip xs ports)
  sum_delivered {X} f same carrying answer block k xs ports = by_send answer.send
    where
      sent : (before : List (Port R K)) (to : ℕ) (m : FromHome R) →
          sum_by f (zip xs (ports_sent carrying before to m k)) ≡ sum_by f (zip xs before)
      sent before to m =
          sum_same f xs before to (port_sent (port_at carrying before to) m k) (no_port carrying)
          (λ x. same x (port_at carrying before to) m k)

      told : (set : CoreSet) (n : ℕ) → sum_by f (zip xs (ports_told carrying set (Inv block) k n ports)) ≡ sum_by f
          (zip xs ports)
      told set zero = refl
      told set (suc n) = by_test (has set n) (told set n)
        where
          by_test : (t : Bool) → sum_by f (zip xs (ports_told carrying set (Inv block) k n ports)) ≡ sum_by f
              (zip xs ports) →
              sum_by f (zip xs (if t then ports_sent carrying (ports_told carrying set (Inv block) k n ports) n
              (Inv block) k
              else ports_told carrying set (Inv block) k n ports)) ≡ sum_by f (zip xs ports)
          by_test true ih = rw (sent (ports_told carrying set (Inv block) k n ports) n (Inv block)) ih
          by_test false ih = ih

      by_send : (o : Option (ℕ × FromHome R)) →
          sum_by f (zip xs (delivered_in o carrying answer.invalidate block k ports)) ≡ sum_by f (zip xs ports)
      by_send None = told answer.invalidate (length ports)
      by_send (Some (to, m)) = sent ports to m

members-at_most : (set : CoreSet) (n : ℕ) → members set n ≤ n
members-at_most set zero = omega arith
members-at_most set (suc n) = let ih = members-at_most set n in one (has set n) ih
  where
    one : (t : Bool) → members set n ≤ n → members set n + cond t 1 0 ≤ suc n
    one true h = omega arith
    one false h = omega arith

pub members-without : (set : CoreSet) (c n : ℕ) → c < n → has set c ≡ false → members set n < n
members-without set c zero lt out = omega arith
members-without set c (suc n) lt out = grind (arith, nat_tests, members-at_most set n, members-without set c n)

pub no_members : (n : ℕ) → members no_cores n ≡ 0
no_members zero = refl
no_members (suc n) = let ih = no_members n in let e : has no_cores n ≡ false = has-no_cores n in rw (ih, e) refl
