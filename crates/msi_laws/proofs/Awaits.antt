-- What ports await: what acts keep of it, and that the data of a block allow the access that was awaited.
use Rattle.std.proofs.Common.{◌≡◌, refl, sym, subst, ℕ, ◌<◌, ◌/◌, Bool, true, false, not, List, length}
use Rattle.std.proofs.Common.{Option, Some, None, IsTrue, arith}
use Rattle.std.specs.List.{list_all}
use Rattle.std.proofs.lemmas.Bool.Decides.{nat_tests}
use Rattle.access_times.specs.Riding.{Riding, Carrying}
use Rattle.rtr_types.specs.Accesses.{is_write}
use Rattle.rtr_types.specs.declared.TheConstants.{BLOCK_WORDS}
use Rattle.rtr_types.specs.declared.access.Kind.{Kind}
use Rattle.rtr_types.specs.declared.access.Kind.TheVariants.{Load as IsLoad}
use Rattle.msi_cache.specs.declared.line.Line.{Line}
use Rattle.msi_cache.specs.Lines.{waits, is_allowed, line_for}
use Rattle.msi_memory.specs.declared.port.Port.{Port}
use Rattle.msi_memory.specs.Acts.{Act, TakeMessage, can, can_all, after_act, after_acts, allows, data_next, port_taking}
use Rattle.msi_memory.specs.Memories.{Memory, port_at}
use Rattle.msi_laws.specs.Holds.{MemoryHolds, place_at}
use Rattle.msi_laws.specs.Waits.{Awaited, is_want}
use Rattle.msi_laws.proofs.ActsInTurn.{acts_keep}
use Rattle.msi_laws.proofs.Lines.{still_serves, waits_none}
use Rattle.msi_laws.proofs.PortsKept.{length_act}
use Rattle.msi_laws.proofs.Waits.{waits_law, still_law, grants_law, port_there}

module _ {R K : Type 0} where
  -- a port that doesn't wait awaits whatever comes next
  pub still_awaits : (riding : Riding R) (p : Port R K) (needed : Option (Kind × ℕ)) → waits p.cache ≡ false →
      Awaited needed riding p
  still_awaits riding p None none = none
  still_awaits riding p (Some (kind, word)) none =
      λ i. still_serves (place_at riding p i).state (is_write kind) (place_at riding p i).block i (word / BLOCK_WORDS)
      (waits_none p.cache riding.fresh none i)

  -- an act keeps what a port awaits that it doesn't ask
  pub awaited_kept : (riding : Riding R) (carrying : Carrying K) (m : Memory R K) (act : Act R) (d : ℕ)
      (needed : Option (Kind × ℕ)) →
      MemoryHolds riding carrying m → IsTrue (can riding carrying m act) → is_want act d ≡ false → d < length m.ports →
      Awaited needed riding (port_at carrying m.ports d) →
      Awaited needed riding (port_at carrying (after_act riding carrying m act).ports d)
  awaited_kept riding carrying m act d None h can_it other within f =
      still_law riding carrying m act d h can_it other within f
  awaited_kept riding carrying m act d (Some (kind, word)) h can_it other within f =
      waits_law riding carrying m act d (word / BLOCK_WORDS) kind h can_it other within f

  -- port d is there, and awaits this
  record AwaitsAt (riding : Riding R) (carrying : Carrying K) (d : ℕ) (needed : Option (Kind × ℕ))
      (m : Memory R K) : Type 0 where
    there : d < length m.ports
    awaited : Awaited needed riding (port_at carrying m.ports d)

  -- and so do acts that don't ask there
  pub awaited_acts : (riding : Riding R) (carrying : Carrying K) (m : Memory R K) (todo : List (Act R)) (d : ℕ)
      (needed : Option (Kind × ℕ)) →
      IsTrue (can_all riding carrying m todo) → list_all (λ act. not (is_want act d)) todo ≡ true →
      MemoryHolds riding carrying m →
      d < length m.ports → Awaited needed riding (port_at carrying m.ports d) →
      Awaited needed riding (port_at carrying (after_acts riding carrying m todo).ports d)
  awaited_acts riding carrying m todo d needed can_them others h within f =
      (acts_keep riding carrying (λ (x : Memory R K). AwaitsAt riding carrying d needed x)
      (λ (act : Act R). not (is_want act d))
      (λ x act can_it other holds at. record {
        there = subst (λ (n : ℕ). d < n) (sym (length_act riding carrying x act)) at.there;
        awaited = awaited_kept riding carrying x act d needed holds can_it (is_not (is_want act d) other) at.there
            at.awaited;
      }) m todo can_them others h (record { there = within; awaited = f })).awaited
    where
      is_not : (t : Bool) → not t ≡ true → t ≡ false
      is_not true e = absurd (cc)
      is_not false e = refl

-- ---- a block's data

-- no line allows accesses to two blocks
one_block : {R : Type 0} (l : Line R) → is_allowed l 0 IsLoad ≡ true → is_allowed l 16 IsLoad ≡ true → ⊥
one_block l e f = let first : l.block ≡ 0 = grind (arith, nat_tests) in let second : l.block ≡ 16 =
    grind (arith, nat_tests) in omega arith

-- after a block's data the access is allowed that was needed, and the port doesn't wait
pub record Granted {R K : Type 0} (riding : Riding R) (needed : Option (Kind × ℕ)) (p : Port R K) : Type 0 where
  pub kind : Kind
  pub word : ℕ
  pub needs : needed ≡ Some (kind, word)
  pub allowed : allows riding p (word / BLOCK_WORDS) kind ≡ true
  pub still : waits p.cache ≡ false

module _ {R K : Type 0} where
  -- port c once it has taken its oldest message
  abbrev pub taking : Riding R → Carrying K → Memory R K → (c : ℕ) → Port R K
  taking riding carrying m c =
      let p = port_at carrying m.ports c in port_taking riding carrying p p.messages.items

  pub taken_there : (riding : Riding R) (carrying : Carrying K) (m : Memory R K) (c : ℕ) → c < length m.ports →
      port_at carrying (after_act riding carrying m (TakeMessage c)).ports c ≡ taking riding carrying m c
  taken_there riding carrying m c within = port_there carrying m c (taking riding carrying m c) within

  -- data come where an access is awaited alone
  pub data_granted : (riding : Riding R) (carrying : Carrying K) (m : Memory R K) (c : ℕ) (needed : Option (Kind × ℕ)) →
      MemoryHolds riding carrying m →
      c < length m.ports → data_next (port_at carrying m.ports c).messages.items ≡ true →
      Awaited needed riding (port_at carrying m.ports c) →
      Granted riding needed (taking riding carrying m c)
  data_granted riding carrying m c None h within comes f =
      let p : Port R K = port_at carrying m.ports c in
      let left : Port R K = port_at carrying (after_act riding carrying m (TakeMessage c)).ports c in
      absurd (one_block (line_at left)
      (grants_law riding carrying m c 0 IsLoad h within comes (still_awaits riding p (Some (IsLoad, 0)) f)).0
      (grants_law riding carrying m c 16 IsLoad h within comes (still_awaits riding p (Some (IsLoad, 64)) f)).0)
    where
      line_at : Port R K → Line R
      line_at p = line_for riding.fresh p.cache 0
  data_granted riding carrying m c (Some (kind, word)) h within comes f =
      let g = grants_law riding carrying m c (word / BLOCK_WORDS) kind h within comes f in
      let there = taken_there riding carrying m c within in
      record {
        kind = kind;
        word = word;
        needs = refl;
        allowed = subst (λ (p : Port R K). allows riding p (word / BLOCK_WORDS) kind ≡ true) there g.0;
        still = subst (λ (p : Port R K). waits p.cache ≡ false) there g.1;
      }
