use Rattle.std.proofs.Common.{◌%◌, ◌∙◌, ap, refl, sym, subst, ℕ}
use Rattle.rtr_types.specs.declared.TheConstants.{BLOCK_WORDS, CORES_MAX}
use Rattle.rtr_types.specs.CoreSets.{no_cores}
use Rattle.online_reduce.specs.LiveReads.{AreNoted, reads_of}
use Rattle.online_reduce.proofs.CandidateLists.{load_reads}
use Rattle.online_reduce.proofs.SetReads.{live_noted, live_reads, no_reads_of, none_noted}
use Rattle.online_reduce.proofs.live_reads.LiveReads.new.Goals as goal
use Rattle.online_reduce.proofs.live_reads.LiveReads.new.Goals.{then-is_write, else-is_write}

pub invariant_of-result : goal.invariant_of-result
invariant_of-result c =
    let a = c.args.access.now in
    let t = c.args.times.now in (
      c.slot_of.ensures.within,
      subst (λ (slot : ℕ). AreNoted c.if-is_write.live t slot) (sym c.slot_of.ensures.slot) (elim c.if-is_write.branch [
        | then-is_write w ↦ rw (w.live-is) (live_noted c.args.cores c.args.before.now a t w.live_cores-live.result
            w.live_cores-live.ensures)
        | else-is_write w ↦ rw (w.live-is, w.empty-live.ensures) (none_noted t (a.word % BLOCK_WORDS))
      ]),
    )

pub returns : goal.returns
returns c =
    let a = c.args.access.now in
    let t = c.args.times.now in
    ap (λ (slot : ℕ). reads_of CORES_MAX c.if-is_write.live t slot) c.slot_of.ensures.slot
    ∙ elim c.if-is_write.branch [
      | then-is_write w ↦
          rw (w.live-is) (live_reads c.args.cores c.args.before.now a t w.live_cores-live.result c.requires.cores
          (sym c.is_write.ensures ∙ w.if-is_write.true) w.live_cores-live.ensures)
      | else-is_write w ↦
          rw (w.live-is, w.empty-live.ensures) (no_reads_of CORES_MAX no_cores t (a.word % BLOCK_WORDS) refl
          ∙ sym (load_reads c.args.cores c.args.before.now a t (sym c.is_write.ensures ∙ w.if-is_write.false)))
    ]
