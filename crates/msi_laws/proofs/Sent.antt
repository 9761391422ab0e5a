-- What the ports show after the home's answer is on its way.
use Rattle.std.proofs.Common.{◌≡◌, ◌∙◌, ap, refl, ℕ, ◌<◌, ◌==◌, Bool, true, false, nat_lt, ◌&&◌, List, [], ◌∷◌, ◌++◌}
use Rattle.std.proofs.Common.{length, Option, Some, None, arith}
use Rattle.msi_laws.proofs.Views.{port_at-sent, port_at-told}
use Rattle.std.specs.Prelude.{if◌then◌else◌}
use Rattle.std.proofs.lemmas.List.{append-nil}
use Rattle.std.proofs.lemmas.Bool.Decides.{nat_tests}
use Rattle.access_times.specs.Riding.{Riding, Carrying}
use Rattle.rtr_types.specs.CoreSets.{has, no_cores}
use Rattle.rtr_types.proofs.Members.{has-no_cores}
use Rattle.msi_cache.specs.declared.messages.FromHome.{FromHome}
use Rattle.msi_cache.specs.declared.messages.FromHome.TheVariants.{Inv}
use Rattle.msi_cache.specs.Messages.{block_of}
use Rattle.msi_directory.specs.declared.entry.HomeAnswer.{HomeAnswer}
use Rattle.msi_memory.specs.declared.port.Mail.{Mail}
use Rattle.msi_memory.specs.declared.port.Port.{Port}
use Rattle.msi_memory.specs.Memories.{port_at}
use Rattle.msi_memory.specs.Acts.{port_sent, delivered, delivered_in}
use Rattle.msi_protocol.specs.Shown.{Sight, sight_told_if, sight_sent, sight_answered}
use Rattle.msi_laws.specs.Sights.{cons_if}
use Rattle.msi_laws.specs.Links.{of_block, port_sight}

-- what the home sends is of the block, goes to one that is there, and alone
pub record Sends {R K : Type 0} (answer : HomeAnswer R) (block : ℕ) (ports : List (Port R K)) : Type 0 where
  pub each : (to : ℕ) (m : FromHome R) → answer.send ≡ Some (to, m) →
      (to < length ports) × (answer.invalidate ≡ no_cores) × (block_of m ≡ block)

pub of_block-snoc : {T K : Type 0} (block : T → ℕ) (b : ℕ) (xs : List (Mail T K)) (mail : Mail T K) →
    of_block block b (xs ++ mail ∷ [])
    ≡ of_block block b xs ++ cons_if (block mail.item == b) mail.item []
of_block-snoc block b [] mail = refl
of_block-snoc {T} {K} block b (x ∷ xs) mail =
    rw (of_block-snoc block b xs mail) (by_test (block x.item == b) x.item (of_block block b xs)
    (cons_if (block mail.item == b) mail.item []))
  where
    by_test : (t : Bool) (s : T) (ys zs : List T) → cons_if t s (ys ++ zs) ≡ cons_if t s ys ++ zs
    by_test true s ys zs = refl
    by_test false s ys zs = refl

module _ {R K : Type 0} where
  pub sight-sent : (riding : Riding R) (b : ℕ) (p : Port R K) (m : FromHome R) (k : K) →
      port_sight riding b (port_sent p m k) ≡ sight_told_if
      (block_of m == b) m (port_sight riding b p)
  sight-sent riding b p m k = rw (of_block-snoc block_of b p.messages.items (record { item = m; carry = k }))
      (by_test (block_of m == b))
    where
      base : Sight R
      base = port_sight riding b p

      by_test : (t : Bool) → record base {
        messages = of_block block_of b p.messages.items ++ cons_if t m [];
      } ≡ sight_told_if t m base
      by_test true = refl
      by_test false = rw (append-nil (of_block block_of b p.messages.items))

  sight_told_port : (riding : Riding R) (b : ℕ) (t : Bool) (p : Port R K) (m : FromHome R) (k : K) →
      port_sight riding b (if t then port_sent p m k else p)
      ≡ sight_told_if (t && (block_of m == b)) m (port_sight riding b p)
  sight_told_port riding b true p m k = sight-sent riding b p m k
  sight_told_port riding b false p m k = refl

module _ {R K : Type 0} where
  -- a core's sight after the home's answer is on its way
  pub sight-delivered : (riding : Riding R) (carrying : Carrying K) (answer : HomeAnswer R) (block : ℕ) (k : K)
      (ports : List (Port R K)) (b d : ℕ) →
      d < length ports → Sends answer block ports →
      port_sight riding b (port_at carrying (delivered carrying answer block k ports) d)
      ≡ (if block == b then sight_answered answer block d (port_sight riding b (port_at carrying ports d)) else
      port_sight riding b
      (port_at carrying ports d))
  sight-delivered riding carrying answer block k ports b d within sends = by_send answer.send refl
    where
      told_where : (t u : Bool) (v : Sight R) (m : FromHome R) →
          sight_told_if (t && u) m v ≡ (if u then sight_told_if t m v else v)
      told_where true true v m = refl
      told_where true false v m = refl
      told_where false true v m = refl
      told_where false false v m = refl

      in_range : (nat_lt d (length ports) && has answer.invalidate d) ≡ has answer.invalidate d
      in_range = grind (arith, nat_tests)

      by_send : (send : Option (ℕ × FromHome R)) → answer.send ≡ send → port_sight riding b
          (port_at carrying (delivered_in send carrying answer.invalidate block k ports) d)
          ≡ (if block == b then sight_sent send d (sight_told_if (has answer.invalidate d) (Inv block)
          (port_sight riding b (port_at carrying ports d))) else port_sight riding b (port_at carrying ports d))
      by_send None e =
          ap (port_sight riding b) (port_at-told carrying answer.invalidate (Inv block) k (length ports) ports d
          (omega arith))
          ∙ (sight_told_port riding b (nat_lt d (length ports) && has answer.invalidate d) (port_at carrying ports d)
          (Inv block) k
          ∙ (rw in_range (told_where (has answer.invalidate d) (block == b)
          (port_sight riding b (port_at carrying ports d)) (Inv block))))
      by_send (Some (to, m)) e =
          let f = sends.each to m e in
          ap (port_sight riding b) (port_at-sent carrying ports to m k d f.0)
          ∙ (sight_told_port riding b (d == to) (port_at carrying ports d) m k ∙ rw (f.1, f.2, has-no_cores d)
          (told_where (d == to) (block == b) (port_sight riding b (port_at carrying ports d)) m))
