-- The lowest core that is ready goes on alone, and its accesses are looked at: the audit has come along the low order.
use Rattle.std.proofs.Common.{inl, ◌≡◌, ◌∙◌, ℕ, zero, suc, ◌+◌, ◌-◌, ◌<◌, ◌≤◌, true, List, [], ◌∷◌, ◌++◌}
use Rattle.std.proofs.Common.{length, refl, sym, ap, subst, arith, append-nil, get_or-set_same}
use Rattle.std.specs.Prelude.{IsTrue, Option, Some, None, slice_index}
use Rattle.rtr_types.specs.declared.TheConstants.{CORES_MAX}
use Rattle.rtr_types.specs.declared.instr.Instr.{Instr}
use Rattle.rtr_types.specs.declared.access.Access.{Access}
use Rattle.rtr_types.specs.declared.pairs.Which.{Which}
use Rattle.clock_core.specs.Counts.{no_counts}
use Rattle.conflict_edge.specs.Conflicts.{CountsRise, StandsIn}
use Rattle.rv_core.specs.declared.outcome.Outcome.{Outcome}
use Rattle.rv_core.specs.Steps.{is_done}
use Rattle.race_log.specs.declared.recording.Recording.{Recording}
use Rattle.race_log.specs.Sources.{log_edges}
use Rattle.race_log.specs.Validity.{Valid}
use Rattle.replay_core.specs.Plans.{Plan, plan_of}
use Rattle.replay_core.specs.Play.{instr, no_values, touched, played, start, accesses_of, core_at, need_at}
use Rattle.replay_core.specs.Orders.{counts, nought, counts_in, lowest_ready}
use Rattle.replay_core.specs.Answers.{Retires, UnderWay, told}
use Rattle.replay_core.specs.Laws.{PlayKnown}
use Rattle.replay_core.specs.Runs.{GoesAlone, IsToldOf}
use Rattle.replay_core.specs.Sources.{AreSources}
use Rattle.replay_core.specs.Tallies.{IsRun, Tallied, count_of}
use Rattle.replay_core.proofs.AwaitedEdges.{listed_nothing}
use Rattle.replay_core.proofs.Fronts.{Chosen, Going, chosen, falls_short, front_ordered, going_on, tally}
use Rattle.replay_core.proofs.Lists.{accesses_on}
use Rattle.replay_core.proofs.LowCounts.{Counted, counted_on}
use Rattle.replay_core.proofs.LowestGoesOn.{gone_to}
use Rattle.replay_core.proofs.Places.{valued_play_law}
use Rattle.replay_audit.specs.Audits.{low_short}
use Rattle.replay_audit.specs.Clocks.{CanNote, Clocked, number_of}
use Rattle.replay_audit.specs.Trails.{CanWatch, IsTrailOf, NotesNext, Trailed, Watches}
use Rattle.replay_audit.proofs.LowAudit.{Along}
use Rattle.replay_audit.proofs.LowWalk.{Walking, can_note, ready, walking_on}
use Rattle.replay_audit.proofs.LowestAlone.{gone_here, gone_more, gone_same}
use Rattle.replay_audit.proofs.OrdersAgree.{touched_at}
use Rattle.replay_audit.proofs.Rise.{accesses_rise, accesses_within}
use Rattle.replay_audit.proofs.TallyAndTrail.{each_core}
use Rattle.replay_audit.proofs.TrailSteps.{trail_watched}

module _ {which : Which} {r : Recording} (valid : Valid r) {before : List ℕ} {t : Tallied} {u : UnderWay} {s : Trailed}
    (along : Along which r before t u s) {c : ℕ} (some : lowest_ready t.plan (count_of t.counts) ≡ Some c)
    {at : Instr} (at_is : at ≡ instr c (count_of t.counts c + 1)) where
  abbrev p : Plan
  p = plan_of which r

  walks : Walking which r before t s.kept
  walks = record { counted = along.followed.counted; clocked = along.followed.trail.clocked }

  pub noted_next : CanNote s.kept at
  noted_next = can_note valid walks some at_is

  inside : c < length r.totals
  inside = (ready valid walks some at_is).inside

  here : counts_in u.state c ≡ count_of t.counts c
  here = ap (λ (f : ℕ → ℕ). f c) (tally p before u.state along.going ∙ sym along.followed.counted.tally)

  known : PlayKnown p (counts nought before) (played p before)
  known = valued_play_law no_values p before (front_ordered p nought before along.going.low)

  pub number_is : (core_at u.state c).id ≡ c
  number_is = ap (λ (x : Outcome). (core_at x c).id) along.going.state ∙ known.numbers c inside

  module _ {until : ℕ} (run : IsRun t c until) where
    limit_is : (core_at u.state c).limit ≡ r.params.limit
    limit_is = ap (λ (x : Outcome). (core_at x c).limit) along.going.state ∙ known.limits c inside

    within : until ≤ slice_index r.totals c
    within = subst (λ (q : Plan). until ≤ slice_index q.totals c) along.followed.counted.plan_is run.within

    pub up_to : counts_in u.state c ≤ until
    up_to = let e = here in let more = run.more in omega arith

    pub limit_over : until ≤ (core_at u.state c).limit
    limit_over = let e = limit_is in let w = within in let total = valid.totals c 0 inside in omega arith

    -- the instruction is noted, and those behind it have no sources
    module _ {v : Trailed} {sources : List ℕ} {cores : ℕ} (noted : NotesNext s at sources cores v)
        (are : AreSources t.plan.edges (instr c (count_of t.counts c + 1)) sources)
        (cores_is : cores ≡ length r.totals) where
      cores_here : cores ≡ length t.plan.totals
      cores_here = cores_is ∙ ap (λ (q : Plan). length q.totals) (sym along.followed.counted.plan_is)

      -- the clocks of the first instructions of the run
      abbrev Noted : ℕ → Type 0
      Noted k = (order : List ℕ) × Walking which r order (gone_to t c k) v.kept

      noted_one : Noted (count_of t.counts c + 1)
      noted_one = (
        before ++ c ∷ [],
        walking_on valid walks some at_is (gone_to t c (count_of t.counts c + 1)) sources cores v.kept refl refl are
            cores_here noted.noted,
      )

      noted_more : (k : ℕ) → count_of t.counts c < k → k < until → Noted k → Noted (k + 1)
      noted_more k from lt (order, walking) =
          let still = run.lowest k (omega arith) lt in
          let count = gone_here t c k walking.counted still in
          let next : instr c (k + 1) ≡ instr c (count_of (gone_to t c k).counts c + 1) =
          ap (λ (n : ℕ). instr c (n + 1)) (sym count) in (
            order ++ c ∷ [],
            walking_on valid walking still next (gone_to t c (k + 1)) no_counts cores v.kept refl
                (gone_more t c k (k + 1) (ap (λ (n : ℕ). n + 1) (sym count)))
                (subst (λ (n : ℕ). AreSources t.plan.edges (instr c (n + 1)) no_counts) (sym count)
                (run.free (k + 1) (omega arith) (omega arith)))
                cores_here (record { kept = inl (listed_nothing cores, refl) }),
          )

      noted_by : (n : ℕ) → count_of t.counts c + 1 + n ≤ until → Noted (count_of t.counts c + 1 + n)
      noted_by zero le = subst Noted (omega arith) noted_one
      noted_by (suc n) le = subst Noted (omega arith)
          (noted_more (count_of t.counts c + 1 + n) (omega arith) (omega arith) (noted_by n (omega arith)))

      noted_to : (k : ℕ) → count_of t.counts c < k → k ≤ until → Noted k
      noted_to k from le =
          let more = from in
          subst Noted (omega arith) (noted_by (k - (count_of t.counts c + 1)) (omega arith))

      place : c < length t.counts
      place = let a = along.followed.counted.all in let lt = inside in omega arith

      gone : (k : ℕ) → count_of (gone_to t c k).counts c ≡ k
      gone k = get_or-set_same t.counts c k 0 place

      few : c < CORES_MAX
      few = let lt = inside in let e = valid.each_core in let m = valid.params.cores in omega arith

      kept_is : v.listed ≡ s.listed
      kept_is = ap (λ (x : Trailed). x.listed) noted.same

      pub accepted : (n : ℕ) → counts_in u.state c < n → n ≤ until → CanWatch v (instr c n)
      accepted n more le =
          let e = here in
          let walking = noted_to n (omega arith) le in
          let count : counts nought walking.0 c ≡ n =
          ap (λ (f : ℕ → ℕ). f c) (sym walking.1.counted.tally) ∙ gone n in
          let inside_cores = inside in
          let all = valid.each_core in record {
            core = few;
            last = ap (number_of v.kept c) (sym count) ∙ walking.1.clocked.last c (omega arith);
            each = λ listed b q.
                each_core valid along.followed (subst IsTrue kept_is listed) b
                (subst (λ (l : List Access). StandsIn l b) (ap (λ (x : Trailed). x.accesses) noted.same) q);
          }

      -- ---- place by place

      abbrev ends : ℕ → ℕ
      ends = count_of (gone_to t c until).counts

      pub record Stage (order : List ℕ) (k : ℕ) (x : Outcome) (w : Trailed) : Type 0 where
        pub counted : Counted p order (gone_to t c k)
        pub going : Going p order x
        pub trail : IsTrailOf (log_edges which r) r.params.cores ends (accesses_of p order) w
        pub listed : w.listed ≡ s.listed

      clocked_all : Clocked (log_edges which r) r.params.cores ends v.kept
      clocked_all =
          let walking = noted_to until (let more = run.more in omega arith) (omega arith) in
          subst (λ (f : ℕ → ℕ). Clocked (log_edges which r) r.params.cores f v.kept) (sym walking.1.counted.tally)
          walking.1.clocked

      stage_start : Stage before (count_of t.counts c) u.state v
      stage_start = record {
        counted = subst (λ (x : Tallied). Counted p before x) (gone_same t c (count_of t.counts c) refl)
            along.followed.counted;
        going = along.going;
        trail = subst (λ (x : Trailed). IsTrailOf (log_edges which r) r.params.cores ends (accesses_of p before) x)
            (sym noted.same) (record {
              clocked = clocked_all;
              accesses_is = along.followed.trail.accesses_is;
              marked = along.followed.trail.marked;
              finding = along.followed.trail.finding;
            });
        listed = kept_is;
      }

      module _ {order : List ℕ} {k : ℕ} {x : Outcome} {w : Trailed} (stage : Stage order k x w)
          (from : count_of t.counts c ≤ k) (lt : k < until) where
        still : lowest_ready t.plan (count_of (gone_to t c k).counts) ≡ Some c
        still = run.lowest k from lt

        count_is : counts_in x c ≡ k
        count_is = ap (λ (f : ℕ → ℕ). f c) (tally p order x stage.going ∙ sym stage.counted.tally) ∙ gone k

        choice : Chosen p order x c
        choice = chosen no_values p order x c stage.going
            (ap (λ (f : ℕ → ℕ). lowest_ready p f) (tally p order x stage.going ∙ sym stage.counted.tally)
            ∙ ap (λ (q : Plan). lowest_ready q (count_of (gone_to t c k).counts)) (sym stage.counted.plan_is)
            ∙ still)

        pub short_there : is_done (need_at p x c) ≡ true → low_short which r ≡ Some (c, counts_in x c)
        short_there done = falls_short no_values p order x c stage.going choice done

        module _ {access : Option Access} {y : Outcome} (z : Trailed) (retires : Retires p x c access y)
            (tells : IsToldOf Watches w access z) where
          going_more : Going p (order ++ c ∷ []) y
          going_more = going_on no_values p order x y c stage.going choice retires.going retires.state

          list_is : accesses_of p (order ++ c ∷ []) ≡ accesses_of p order ++ told access
          list_is = accesses_on p (start p) order (c ∷ [])
              ∙ ap (λ (l : List Access). accesses_of p order ++ l)
              (append-nil (touched p (played p order) c)
              ∙ sym (retires.access_is ∙ ap (λ (o : Outcome). touched p o c) stage.going.state))

          told_at : (a : Access) → StandsIn (told access) a → a.at ≡ instr c (k + 1)
          told_at a q =
              touched_at p x c a (subst (λ (l : List Access). StandsIn l a) retires.access_is q)
              ∙ ap (λ (n : ℕ). instr c (n + 1)) count_is

          rise : CountsRise (accesses_of p order)
          rise = accesses_rise which r order (front_ordered p nought order stage.going.low)

          rise_more : CountsRise (accesses_of p order ++ told access)
          rise_more = subst CountsRise list_is
              (accesses_rise which r (order ++ c ∷ []) (front_ordered p nought (order ++ c ∷ []) going_more.low))

          abbrev OfTrail : List Access → Trailed → Type 0
          OfTrail l o = IsTrailOf (log_edges which r) r.params.cores ends l o

          looked : (one : Option Access) → IsToldOf Watches w one z →
              ((a : Access) → StandsIn (told one) a → a.at ≡ instr c (k + 1)) →
              CountsRise (accesses_of p order ++ told one) → OfTrail (accesses_of p order ++ told one) z
              × (z.listed ≡ s.listed)
          looked None same at_one now = (
            subst (λ (o : Trailed). OfTrail (accesses_of p order ++ []) o) (sym same)
                (subst (λ (l : List Access). OfTrail l w) (sym (append-nil (accesses_of p order))) stage.trail),
            ap (λ (o : Trailed). o.listed) same ∙ stage.listed,
          )
          looked (Some a) watches at_one now =
              let there : a.at ≡ instr c (k + 1) = at_one a (inl refl) in
              let core = ap (λ (i : Instr). i.core) there in
              let count = ap (λ (i : Instr). i.count) there in
              let lt_cores = inside in
              let all = valid.each_core in
              let small = few in
              let last : ends a.at.core ≡ until = ap ends core ∙ gone until in (
                trail_watched (log_edges which r) r.params.cores ends (accesses_of p order) w z a stage.trail watches
                    (omega arith) (omega arith) (omega arith) (omega arith) rise now,
                watches.listed ∙ stage.listed,
              )

          stage_on : Stage (order ++ c ∷ []) (k + 1) y z
          stage_on =
              let found = looked access tells told_at rise_more in record {
                counted = counted_on p order (gone_to t c k) stage.counted c still (gone_to t c (k + 1)) refl
                    (gone_more t c k (k + 1) (ap (λ (n : ℕ). n + 1) (sym (gone k))));
                going = going_more;
                trail = subst (λ (l : List Access). OfTrail l z) (sym list_is) found.0;
                listed = found.1;
              }

      abbrev pub Come : ℕ → Outcome → Trailed → Type 0
      Come k x w = (order : List ℕ) × Stage order k x w

      stages : (n : ℕ) (x : Outcome) (w : Trailed) → count_of t.counts c + n ≤ until →
          GoesAlone Watches p c n u.state v x w → Come (count_of t.counts c + n) x w
      stages zero x w le goes = (
        before,
        subst (λ (k : ℕ). Stage before k x w) (omega arith)
            (subst (λ (o : Outcome). Stage before (count_of t.counts c) o w) (sym goes.0)
            (subst (λ (o : Trailed). Stage before (count_of t.counts c) u.state o) (sym goes.1) stage_start)),
      )
      stages (suc n) x w le goes =
          let mid = stages n goes.0 goes.1 (omega arith) goes.3 in (
            mid.0 ++ c ∷ [],
            subst (λ (k : ℕ). Stage (mid.0 ++ c ∷ []) k x w) (omega arith)
                (stage_on mid.1 (omega arith) (omega arith) w goes.4 goes.5),
          )

      -- by the replay's own plan
      module _ (n : ℕ) (x : Outcome) (w : Trailed) (goes : GoesAlone Watches u.plan c n u.state v x w)
          (counted : counts_in x c ≡ counts_in u.state c + n) (le : counts_in x c ≤ until) where
        come : Come (counts_in x c) x w
        come =
            let e = here in
            subst (λ (k : ℕ). Come k x w) (omega arith)
            (stages n x w (omega arith)
            (subst (λ (q : Plan). GoesAlone Watches q c n u.state v x w) along.plan_is goes))

        -- the core has come to the end of its run
        pub along_alone : counts_in x c ≡ until → (y : UnderWay) → y.plan ≡ u.plan → y.state ≡ x → (o : Tallied) →
            gone_to t c until ≡ o → (order : List ℕ) × Along which r order o y w × (w.listed ≡ s.listed)
        along_alone all y plan_is state_is o gone_is =
            let there = subst (λ (k : ℕ). Come k x w) all come in
            let order = there.0 in
            let stage = there.1 in
            let ordered = front_ordered p nought order stage.going.low in (
              order,
              subst (λ (q : Tallied). Along which r order q y w) gone_is (record {
                followed = record {
                  counted = stage.counted;
                  trail = subst (λ (f : ℕ → ℕ). IsTrailOf (log_edges which r) r.params.cores f (accesses_of p order) w)
                      stage.counted.tally stage.trail;
                  rise = accesses_rise which r order ordered;
                  inside = accesses_within which r order ordered;
                };
                plan_is = plan_is ∙ along.plan_is;
                going = subst (λ (z : Outcome). Going p order z) (sym state_is) stage.going;
              }),
              stage.listed,
            )

        -- its program is done before
        pub short_alone : counts_in x c < until → is_done (need_at u.plan x c) ≡ true →
            low_short which r ≡ Some (c, counts_in x c)
        short_alone lt done =
            let e = here in
            short_there come.1 (omega arith) lt
            (ap (λ (q : Plan). is_done (need_at q x c)) (sym along.plan_is) ∙ done)
