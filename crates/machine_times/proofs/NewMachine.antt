-- A new machine stands for the empty list.
use Rattle.std.proofs.Common.{◌≡◌, ◌∙◌, ap, refl, subst, ℕ, ◌<◌, None, [], arith, zero-add}
use Rattle.std.proofs.lemmas.List.FromFn.{get_or-map-range_with_len, length-map-range_with_len}
use Rattle.access_times.specs.Riding.{Carrying}
use Rattle.rtr_types.specs.declared.TheConstants.{BLOCK_WORDS, CORES_MAX}
use Rattle.image_mem.specs.Contents.{Contents}
use Rattle.rv_core.specs.declared.core_state.Core.{Core}
use Rattle.rv_core.specs.States.{starting}
use Rattle.rv_core.proofs.LawLemmas.{start_law}
use Rattle.msi_memory.specs.Memories.{memory_start}
use Rattle.msi_state.specs.States.{state_start}
use Rattle.msi_laws.proofs.StartInvariant.{opening_rider, start_shows}
use Rattle.machine_times.specs.Retirements.{StandsAfter}
use Rattle.machine_times.specs.StandsFor.{TimesParts, HasTimes, HaveTimes}

-- a rider that has nothing
pub record IsFresh {R : Type 0} (parts : TimesParts R) : Type 0 where
  pub write : (slot : ℕ) → slot < BLOCK_WORDS → parts.write parts.riding.fresh slot ≡ None
  pub read : (slot d : ℕ) → slot < BLOCK_WORDS → d < CORES_MAX → parts.read parts.riding.fresh slot d ≡ None

module _ {R K : Type 0} where
  -- nothing was accessed, and the home alone has a copy
  times_start : (parts : TimesParts R) (carrying : Carrying K) → IsFresh parts → (image : Contents) (cores : ℕ) →
      HaveTimes parts carrying [] (memory_start parts.riding carrying image cores)
  times_start parts carrying fresh image cores =
      start_shows parts.riding carrying (HasTimes parts []) image cores (λ b none slot ls.
      (let rider = opening_rider parts.riding.fresh image b in
      record {
        stands = record { fits = tt; roles = λ d ld. refl };
        holders = record {
          home = λ counts. record {
            write = ap (λ (r : R). parts.write r slot) rider ∙ fresh.write slot ls;
            reads = λ d ld. rw (ap (λ (r : R). parts.read r slot d) rider ∙ fresh.read slot d ls ld) (record {
              below =
                  omega arith;
              same = λ le. refl;
            });
          };
          seats = λ d ld. record {
            line = λ counts. absurd cc;
            sent = λ counts. absurd cc;
            reply =
                λ counts. absurd cc;
            put = λ counts. absurd cc;
          };
        };
        found = λ d ld lt. absurd (omega arith);
      }))

  pub machine_start : (parts : TimesParts R) (carrying : Carrying K) → IsFresh parts →
      (image : Contents) (cores limit : ℕ) →
      StandsAfter parts carrying [] (state_start parts.riding carrying image cores limit)
  machine_start parts carrying fresh image cores limit =
      record {
        all = times_start parts carrying fresh image cores;
        counts = λ c lc. ap (λ (core : Core). core.count)
            (get_or-map-range_with_len (λ id. starting id limit) 0 cores c c (starting 0 0)
            (subst (λ (n : ℕ). c < n) (length-map-range_with_len (λ id. starting id limit) 0 cores) lc) (zero-add c))
            ∙ (start_law c limit).2;
        order = tt;
      }
