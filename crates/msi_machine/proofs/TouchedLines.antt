-- An access changes no line's state.
use Rattle.std.proofs.Common.{◌≡◌, ◌∙◌, refl, sym, subst, ap, ℕ, ◌<◌, Bool, true, false, List, length}
use Rattle.std.specs.Prelude.{if◌then◌else◌}
use Rattle.std.proofs.lemmas.List.{get_or-set_same, length-set}
use Rattle.access_times.specs.Riding.{Riding, Carrying}
use Rattle.rtr_types.specs.Accesses.{is_write}
use Rattle.rtr_types.specs.declared.access.Kind.{Kind}
use Rattle.msi_cache.specs.declared.line.Line.{Line}
use Rattle.msi_cache.specs.Lines.{lines_put, waits}
use Rattle.msi_memory.specs.declared.port.Port.{Port}
use Rattle.rtr_types.specs.declared.instr.Instr.{Instr}
use Rattle.msi_memory.specs.Acts.{lines_touched, port_retiring, port_touched, retire, touch}
use Rattle.msi_memory.specs.Memories.{Memory, no_port, port_at}
use Rattle.msi_memory.proofs.WaitingLines.{waits_put, waits_riding}

module _ {R : Type 0} where
  lines_wait : (fresh : R) (lines : List (Line R)) (block slot : ℕ) (kind : Kind) (value : ℕ) →
      waits (lines_touched fresh lines block slot kind value) ≡ waits lines
  lines_wait fresh lines block slot kind value = by (is_write kind)
    where
      by : (writes : Bool) → waits (if writes then lines_put fresh lines block slot value else lines) ≡ waits lines
      by true = waits_put fresh lines block slot value
      by false = refl

module _ {R K : Type 0} where
  pub touch_waits : (riding : Riding R) (carrying : Carrying K) (m : Memory R K) (c block slot : ℕ) (kind : Kind)
      (value : ℕ) (rider : R) →
      c < length m.ports → waits (port_at carrying (touch riding carrying m c block slot kind value rider).ports
      c).cache
      ≡ waits (port_at carrying m.ports c).cache
  touch_waits riding carrying m c block slot kind value rider within =
      let p : Port R K = port_at carrying m.ports c in
      ap (λ (x : Port R K). waits x.cache)
      (get_or-set_same m.ports c (port_touched riding p block slot kind value rider) (no_port carrying) within)
      ∙ waits_riding riding.fresh (lines_touched riding.fresh p.cache block slot kind value) block rider
      ∙ lines_wait riding.fresh p.cache block slot kind value

  -- nor does an access after its instruction was told of
  pub retired_waits : (riding : Riding R) (carrying : Carrying K) (m told n : Memory R K) (c : ℕ) (at : Instr)
      (block slot : ℕ) (kind : Kind) (value : ℕ)
      (rider : R) → c < length m.ports → told ≡ retire carrying m c at →
      n ≡ touch riding carrying told c block slot kind value rider →
      waits (port_at carrying n.ports c).cache ≡ waits (port_at carrying m.ports c).cache
  retired_waits riding carrying m told n c at block slot kind value rider within first is =
      ap (λ (x : Memory R K). waits (port_at carrying x.ports c).cache) is
      ∙ touch_waits riding carrying told c block slot kind value rider
      (subst (λ (x : Memory R K). c < length x.ports) (sym first)
      (subst (λ (k : ℕ). c < k) (sym (length-set m.ports c (port_retiring carrying (port_at carrying m.ports c) at)))
      within))
      ∙ ap (λ (x : Memory R K). waits (port_at carrying x.ports c).cache) first
      ∙ ap (λ (x : Port R K). waits x.cache)
      (get_or-set_same m.ports c (port_retiring carrying (port_at carrying m.ports c) at) (no_port carrying) within)
