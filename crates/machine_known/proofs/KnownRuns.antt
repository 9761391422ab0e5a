-- Runs of a machine whose carries count what is known.
use Rattle.std.proofs.Common.{◌∷◌, ◌≡◌, ◌∙◌, ap, refl, sym, subst, ℕ, zero, suc, ◌+◌, ◌*◌, ◌<◌, ◌≤◌, true, IsTrue}
use Rattle.std.proofs.Common.{Option, Some, None, List, [], length, arith}
use Rattle.std.proofs.Common.{◌⊎◌, inl, inr}
use Rattle.std.specs.Prelude.{replicate, if◌then◌else◌}
use Rattle.std.proofs.lemmas.Bool.{cases_lt}
use Rattle.std.proofs.lemmas.List.{get_or_past, length-replicate}
use Rattle.std.proofs.lemmas.List.FromFn.{length-map-range_with_len}
use Rattle.std.proofs.lemmas.List.Elements.{filter_passes}
use Rattle.access_times.specs.Riding.{Riding, none_riding}
use Rattle.image_mem.specs.Contents.{Contents}
use Rattle.rtr_types.specs.declared.TheConstants.{CORES_MAX}
use Rattle.rtr_types.specs.declared.params.Params.{Params}
use Rattle.rv_core.proofs.LawLemmas.{start_law}
use Rattle.know_history.specs.declared.known.Known.{Known}
use Rattle.know_history.specs.Knowledge.{known_carrying}
use Rattle.know_history.specs.Happenings.{Actor, AtCore, AtHome, Channel, Happening, Messages, Requests, Responses}
use Rattle.know_history.specs.Happenings.{on_link}
use Rattle.know_history.specs.Knowing.{AllCount, AllKnow, CarriesFollow, Counts, HasReached, IsOrderly, carry_left}
use Rattle.know_history.specs.Knowing.{is_of, retired_in}
use Rattle.know_history.specs.Laws.{AreOrderly, IsKnownCount}
use Rattle.know_history.proofs.LastSteps.{none_some}
use Rattle.know_history.proofs.CarryCounts.{counts_none}
use Rattle.know_history.proofs.KnownCarries.{all_know_idle}
use Rattle.know_history.proofs.KnownAt.{carries_know_law, known_count_law, known_earlier_law}
use Rattle.rv_core.specs.declared.core_state.Core.{Core}
use Rattle.rv_core.specs.States.{starting}
use Rattle.msi_memory.specs.declared.port.Port.{Port}
use Rattle.msi_memory.specs.Memories.{no_port, port_at, port_start}
use Rattle.msi_state.specs.declared.moves.Move.{Move}
use Rattle.msi_state.specs.Moves.{candidates}
use Rattle.msi_state.specs.Events.{instr_of}
use Rattle.machine_plain.specs.Plain.{plain}
use Rattle.msi_state.specs.Runs.{chosen, chosen_of, event_by, run, stepped_by}
use Rattle.msi_state.specs.States.{PlainState, State, state_start}
use Rattle.msi_state.specs.Steps.{enabled, moves, step}
use Rattle.machine_plain.proofs.ForgetfulSteps as forgetting
use Rattle.machine_plain.proofs.SameMoves.{plain_moves as same_moves}
use Rattle.machine_plain.proofs.Shows.{plain_start}
use Rattle.machine_known.specs.Events.{actor_of, carries_at, carries_of, happening_at, happening_by, nothing_happens}
use Rattle.machine_known.specs.Events.{own_carry, port_of, under_way}
use Rattle.machine_known.specs.Known.{CountsRetired, KnownRunLaw, KnownStartLaw, KnownStepLaw, PortsThere}
use Rattle.machine_known.specs.Known.{RunEarlierLaw, RunLinksLaw, RunOrderlyLaw}
use Rattle.machine_known.specs.Known.{RunRetiresLaw, known_run, known_stepped}
use Rattle.machine_invariant.proofs.StartInvariant.{chosen_at, core_start_at, port_start_at}
use Rattle.machine_known.proofs.CarryMoves.{carries_follow, counted}
use Rattle.machine_known.proofs.RetiredNext.{carry_follows, counts_step, orderly_step, ports_stay}

module _ {R : Type 0} where
  stepped_plain : (riding : Riding R) (rider : R) (s : State R Known) (o : Option Move) →
      plain (known_stepped riding rider s o) ≡ stepped_by (plain s) o
  stepped_plain riding rider s None = refl
  stepped_plain riding rider s (Some m) = forgetting.plain_step riding known_carrying rider s m

  pub run_plain : (riding : Riding R) (image : Contents) (params : Params) (choices : ℕ → ℕ) (riders : ℕ → R) (t : ℕ) →
      plain (known_run riding image params choices riders t) ≡ run image params choices t
  run_plain riding image params choices riders zero = plain_start riding known_carrying image params.cores params.limit
  run_plain riding image params choices riders (suc t) =
      stepped_plain riding (riders t) (known_run riding image params choices riders t)
      (chosen (plain (known_run riding image params choices riders t)) (choices t))
      ∙ ap (λ (p : PlainState). stepped_by p (chosen p (choices t))) (run_plain riding image params choices riders t)

  pub taken_enabled : (riding : Riding R) (s : State R Known) (choice : ℕ) (m : Move) →
      chosen (plain s) choice ≡ Some m →
      IsTrue (enabled riding known_carrying s m)
  taken_enabled riding s choice m is =
      chosen_at (moves riding known_carrying s) (λ (x : Move). enabled riding known_carrying s x ≡ true) choice m
      (filter_passes (enabled riding known_carrying s) (candidates (length s.cores) (4 * length s.cores)))
      (ap (λ (ms : List Move). chosen_of ms choice) (same_moves riding known_carrying s) ∙ is)

  happens : (riding : Riding R) (image : Contents) (params : Params) (choices : ℕ → ℕ) (riders : ℕ → R) (t : ℕ) →
      happening_at image params choices t
      ≡ happening_by (plain (known_run riding image params choices riders t))
      (chosen (plain (known_run riding image params choices riders t)) (choices t))
  happens riding image params choices riders t =
      ap (λ (p : PlainState). happening_by p (chosen p (choices t)))
      (sym (run_plain riding image params choices riders t))

  -- each core's instructions retire one after the other

  start_ports : (riding : Riding R) (image : Contents) (cores limit : ℕ) →
      PortsThere (state_start riding known_carrying image cores limit)
  start_ports riding image cores limit =
      length-replicate cores (port_start riding known_carrying)
      ∙ sym (length-map-range_with_len (λ (id : ℕ). starting id limit) 0 cores)

  pub counts_start : (riding : Riding R) (event_at : ℕ → Happening) (image : Contents) (cores limit : ℕ) →
      cores ≤ CORES_MAX →
      CountsRetired event_at 0 (state_start riding known_carrying image cores limit)
  counts_start riding event_at image cores limit few =
      record {
        ports = start_ports riding image cores limit;
        few = rw long few;
        numbers = λ c lc. ap (λ (k : Core). k.id) (core_start_at riding known_carrying image cores limit c
            (rw long at lc)) ∙ (start_law c limit).0;
        counts = λ c lc. ap (λ (k : Core). k.count) (core_start_at riding known_carrying image cores limit c
            (rw long at lc)) ∙ (start_law c limit).2;
      }
    where
      long : length (state_start riding known_carrying image cores limit).cores ≡ cores
      long = length-map-range_with_len (λ (id : ℕ). starting id limit) 0 cores

  counts_idle : (event_at : ℕ → Happening) (t : ℕ) (s : State R Known) → event_at t ≡ nothing_happens →
      CountsRetired event_at t s →
      CountsRetired event_at (suc t) s
  counts_idle event_at t s is h = record {
    ports = h.ports;
    few = h.few;
    numbers = h.numbers;
    counts =
        λ c lc. h.counts c lc ∙ same c;
  }
    where
      same : (c : ℕ) → retired_in event_at t c ≡ retired_in event_at (suc t) c
      same c = sym (ap (λ (p : Happening). if is_of c p.retires then retired_in event_at t c + 1 else retired_in
          event_at t c) is)

  counts_by : (riding : Riding R) (event_at : ℕ → Happening) (t : ℕ) (s : State R Known) (o : Option Move) (rider : R) →
      event_at t ≡ happening_by (plain s) o → ((m : Move) → o ≡ Some m → IsTrue (enabled riding known_carrying s m)) →
      CountsRetired event_at t s → CountsRetired event_at (suc t) (known_stepped riding rider s o)
  counts_by riding event_at t s None rider is able h = counts_idle event_at t s is h
  counts_by riding event_at t s (Some m) rider is able h = counts_step riding known_carrying event_at t s m rider
      (able m refl) is h

  orderly_by : (riding : Riding R) (event_at : ℕ → Happening) (t : ℕ) (s : State R Known) (o : Option Move) →
      event_at t ≡ happening_by (plain s) o → ((m : Move) → o ≡ Some m → IsTrue (enabled riding known_carrying s m)) →
      CountsRetired event_at t s → IsOrderly event_at t
  orderly_by riding event_at t s None is able h =
      λ x retires. none_some (event_at t).retires x (ap (λ (p : Happening). p.retires) is) retires
  orderly_by riding event_at t s (Some m) is able h = orderly_step riding known_carrying event_at t s m (able m refl) is
      h

  run_counts : (riding : Riding R) (image : Contents) (params : Params) (choices : ℕ → ℕ) (riders : ℕ → R) (t : ℕ) →
      params.cores ≤ CORES_MAX →
      CountsRetired (happening_at image params choices) t (known_run riding image params choices riders t)
  run_counts riding image params choices riders zero few = counts_start riding (happening_at image params choices) image
      params.cores params.limit few
  run_counts riding image params choices riders (suc t) few =
      let s : State R Known = known_run riding image params choices riders t in
      counts_by riding (happening_at image params choices) t s (chosen (plain s) (choices t)) (riders t)
      (happens riding image params choices riders t)
      (λ m is. taken_enabled riding s (choices t) m is) (run_counts riding image params choices riders t few)

pub run_orderly_law : RunOrderlyLaw
run_orderly_law image params choices few t =
    let s : State (Unit {0}) Known = known_run none_riding image params choices (λ u. tt) t in
    orderly_by none_riding (happening_at image params choices) t s (chosen (plain s) (choices t))
    (happens none_riding image params choices (λ u. tt) t)
    (λ m is. taken_enabled none_riding s (choices t) m is) (run_counts none_riding image params choices (λ u. tt) t few)

retires_by : (s : PlainState) (o : Option Move) → (happening_by s o).retires ≡ instr_of (event_by s o)
retires_by s None = refl
retires_by s (Some m) = refl

pub run_retires_law : RunRetiresLaw
run_retires_law image params choices t = retires_by (run image params choices t) (chosen (run image params choices t)
    (choices t))

pub run_earlier_law : RunEarlierLaw
run_earlier_law image params choices x y k =
    record {
      first = k.there;
      second = k.here;
      before = known_earlier_law (happening_at image params choices) x y k;
      retires_first = sym (run_retires_law image params choices k.there) ∙ k.retired;
      retires_second = sym (run_retires_law image params choices k.here) ∙ k.retires;
    }

module _ {R : Type 0} where
  -- a port at the start has no carry yet, and nothing is on its links, and so it is where there is no port
  start_port : (riding : Riding R) (image : Contents) (cores limit c : ℕ) → (c < cores) ⊎ (cores ≤ c) →
      ((port_at known_carrying (state_start riding known_carrying image cores limit).memory.ports
      c).carry ≡ known_carrying.none)
      × ((link : Channel) → carries_at link (port_at known_carrying (state_start riding known_carrying image cores
      limit).memory.ports c) ≡ [])
  start_port riding image cores limit c (inr past) =
      let e : port_at known_carrying (replicate cores (port_start riding known_carrying)) c ≡ no_port known_carrying =
      get_or_past (replicate cores (port_start riding known_carrying)) c (no_port known_carrying)
      (rw (length-replicate cores (port_start riding known_carrying)) past) in
      (ap (λ (p : Port R Known). p.carry) e, λ link. ap (carries_at link) e ∙ by link)
    where
      by : (link : Channel) → carries_at link (no_port {R = R} known_carrying) ≡ []
      by (Requests d) = refl
      by (Responses d) = refl
      by (Messages d) = refl
  start_port riding image cores limit c (inl lt) =
      let e = port_start_at riding known_carrying image cores limit c lt in
      (ap (λ (p : Port R Known). p.carry) e, λ link. ap (carries_at link) e ∙ by link)
    where
      by : (link : Channel) → carries_at link (port_start riding known_carrying) ≡ []
      by (Requests d) = refl
      by (Responses d) = refl
      by (Messages d) = refl

  pub known_start : (riding : Riding R) → KnownStartLaw riding
  known_start riding event_at image cores limit =
      (start_ports riding image cores limit, record { own = own; sent = sent })
    where
      s : State R Known
      s = state_start riding known_carrying image cores limit

      none : (actor : Actor) (t : ℕ) → HasReached event_at 0 actor t → ⊥
      none actor t r = let lt = r.within in omega arith

      own : (actor : Actor) → Counts event_at (HasReached event_at 0 actor) (own_carry known_carrying s actor)
      own AtHome = counts_none event_at (HasReached event_at 0 AtHome) (none AtHome)
      own (AtCore c) =
          rw ((start_port riding image cores limit c (cases_lt c cores)).0)
          (counts_none event_at (HasReached event_at 0 (AtCore c)) (none (AtCore c)))

      sent : (link : Channel) → AllCount event_at [] (carries_at link (port_at known_carrying s.memory.ports
          (port_of link)))
      sent link = rw ((start_port riding image cores limit (port_of link) (cases_lt (port_of link) cores)).1 link) tt

  pub known_step : (riding : Riding R) → KnownStepLaw riding
  known_step riding event_at t s m rider orderly e is ports h =
      record {
        ports = ports_stay riding known_carrying rider s m ports;
        goes_on = carries_know_law event_at t (actor_of m) (carries_of known_carrying s)
            (carries_of known_carrying (step riding known_carrying rider s m)) orderly own
            (subst (λ (p : Happening).
            CarriesFollow known_carrying p (actor_of m) (carries_of known_carrying s)
            (carries_of known_carrying (step riding known_carrying rider s m))) (sym is) (carries_follow riding
            known_carrying s m rider e ports)) h;
        known = λ y retires.
            subst (λ (k : Known). IsKnownCount event_at k y) (ap (λ (p : Happening). carry_left known_carrying p
            (carries_of known_carrying s) (actor_of m)) is
            ∙ sym (carry_follows riding known_carrying s m y e retires))
            (known_count_law event_at t (actor_of m) (carries_of known_carrying s) y orderly own
            (ap (λ (p : Happening). p.retires) is
            ∙ (sym (ap instr_of (forgetting.plain_event riding known_carrying s m)) ∙ retires)) h);
      }
    where
      own : (event_at t).actor ≡ Some (actor_of m)
      own = ap (λ (p : Happening). p.actor) is

  stepped_knows : (riding : Riding R) (event_at : ℕ → Happening) (t : ℕ) (s : State R Known) (o : Option Move)
      (rider : R) → AreOrderly event_at →
      ((m : Move) → o ≡ Some m → IsTrue (enabled riding known_carrying s m)) → event_at t ≡ happening_by (plain s) o →
      PortsThere s →
      AllKnow event_at t (carries_of known_carrying s) →
      AllKnow event_at (suc t) (carries_of known_carrying (known_stepped riding rider s o))
  stepped_knows riding event_at t s None rider orderly able is ports h =
      all_know_idle event_at t (carries_of known_carrying s) (ap (λ (p : Happening). p.actor) is)
      (ap (λ (p : Happening). p.takes) is)
      (λ link. ap (λ (p : Happening). p.sends link) is) h
  stepped_knows riding event_at t s (Some m) rider orderly able is ports h =
      (known_step riding event_at t s m rider orderly (able m refl) is ports h).goes_on

  pub run_knows : (riding : Riding R) (image : Contents) (params : Params) (choices : ℕ → ℕ) (riders : ℕ → R) (t : ℕ) →
      params.cores ≤ CORES_MAX →
      AllKnow (happening_at image params choices) t (carries_of known_carrying (known_run riding image params choices
      riders t))
  run_knows riding image params choices riders zero few =
      (known_start riding (happening_at image params choices) image params.cores params.limit).1
  run_knows riding image params choices riders (suc t) few =
      let s : State R Known = known_run riding image params choices riders t in
      stepped_knows riding (happening_at image params choices) t s (chosen (plain s) (choices t)) (riders t)
      (run_orderly_law image params choices few)
      (λ m is. taken_enabled riding s (choices t) m is) (happens riding image params choices riders t)
      (run_counts riding image params choices riders t few).ports (run_knows riding image params choices riders t few)

  pub known_run_law : (riding : Riding R) → KnownRunLaw riding
  known_run_law riding image params choices riders t m y few is retires =
      let s : State R Known = known_run riding image params choices riders t in
      (known_step riding (happening_at image params choices) t s m (riders t) (run_orderly_law image params choices few)
      (taken_enabled riding s (choices t) m is) (happens riding image params choices riders t
      ∙ ap (happening_by (plain s)) is)
      (run_counts riding image params choices riders t few).ports (run_knows riding image params choices riders t
      few)).known y retires

same_lengths : (event_at : ℕ → Happening) (us : List ℕ) (ks : List Known) → AllCount event_at us ks →
    length us ≡ length ks
same_lengths event_at [] [] h = refl
same_lengths event_at [] (k ∷ ks) h = absurd h
same_lengths event_at (u ∷ us) [] h = absurd h
same_lengths event_at (u ∷ us) (k ∷ ks) h = ap suc (same_lengths event_at us ks h.1)

pub run_links_law : RunLinksLaw
run_links_law image params choices t link few =
    let s : State (Unit {0}) Known = known_run none_riding image params choices (λ u. tt) t in
    same_lengths (happening_at image params choices) (on_link (happening_at image params choices) t link)
    ((carries_of known_carrying s).sent link)
    ((run_knows none_riding image params choices (λ u. tt) t few).sent link)
    ∙ (sym (counted known_carrying s link) ∙ ap (λ (p : PlainState). under_way p link)
    (run_plain none_riding image params choices (λ u. tt) t))
