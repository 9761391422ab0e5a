-- At the start the memory system keeps all that it keeps.
use Rattle.std.proofs.Common.{◌≡◌, ◌∙◌, ap, refl, sym, subst, ℕ, ◌<◌, ◌≤◌, ◌==◌, ◌%◌, Bool, true, false, List, [], ◌∷◌}
use Rattle.std.proofs.Common.{length, replicate, arith, inl}
use Rattle.std.proofs.Common.{inr, ◌⊎◌}
use Rattle.std.proofs.lemmas.List.{get_or_past, get_or-replicate, length-replicate}
use Rattle.std.proofs.lemmas.List.FromFn.{get_or-map-range_with_len}
use Rattle.std.proofs.lemmas.Bool.{cases_lt}
use Rattle.std.proofs.lemmas.Bool.Decides.{nat_tests}
use Rattle.access_times.specs.Riding.{Riding, Carrying}
use Rattle.image_mem.specs.Contents.{Contents}
use Rattle.msi_cache.specs.declared.line.Line.{Line}
use Rattle.msi_cache.specs.declared.line.State.TheVariants.{I}
use Rattle.rtr_types.specs.declared.TheConstants.{LINES}
use Rattle.rtr_types.proofs.Ranges.{replicate_at}
use Rattle.msi_cache.specs.Table.{is_transient}
use Rattle.msi_cache.specs.Lines.{line_for, empty_line}
use Rattle.msi_directory.proofs.Openings.{openings_counted}
use Rattle.msi_directory.specs.Blocks.{opening_entry, opening_entries, block_count, no_entry, entry_at}
use Rattle.msi_directory.specs.declared.entry.Entry.{Entry}
use Rattle.msi_directory.specs.declared.entry.Stage.TheVariants.{Unshared}
use Rattle.msi_protocol.specs.Phases.{Idle}
use Rattle.msi_laws.specs.Links.{line_here, line_if}
use Rattle.msi_protocol.specs.Seats.{FullBlock, HoldersHave}
use Rattle.msi_protocol.specs.Shown.{Payload, Sight}
use Rattle.msi_memory.specs.declared.port.Port.{Port}
use Rattle.msi_memory.specs.Memories.{port_at, no_port, port_start, memory_start}
use Rattle.msi_laws.specs.Holds.{PortHolds, LineHolds, Anything}
use Rattle.msi_laws.specs.Links.{port_sight, AllShow}
use Rattle.msi_laws.specs.Words.{HasWords, OpeningWordsLaw}
use Rattle.msi_laws.specs.Holds.{StartLaw}

not_waiting : true ≡ false → ⊥
not_waiting e = grind arith

module _ {R : Type 0} where
  abbrev unshared : Entry R → Entry R
  unshared e = record { stage = Unshared; words = e.words; rider = e.rider }

  opened : (fresh : R) (image : Contents) (b : ℕ) (e : Entry R) →
      (e ≡ opening_entry fresh image b) ⊎ (e ≡ no_entry fresh) → unshared e ≡ e
  opened fresh image b e (inl is) = subst (λ (x : Entry R). unshared x ≡ x) (sym is) refl
  opened fresh image b e (inr is) = subst (λ (x : Entry R). unshared x ≡ x) (sym is) refl

  entry_start : (fresh : R) (image : Contents) (b : ℕ) →
      (entry_at fresh (opening_entries fresh image) b ≡ opening_entry fresh image b) ⊎
      (entry_at fresh (opening_entries fresh image) b ≡ no_entry fresh)
  entry_start fresh image b = by (cases_lt b (block_count image.words))
    where
      by : (b < block_count image.words) ⊎ (block_count image.words ≤ b) →
          (entry_at fresh (opening_entries fresh image) b ≡ opening_entry fresh image b) ⊎
          (entry_at fresh (opening_entries fresh image) b ≡ no_entry fresh)
      by (inr past) = inr (get_or_past (opening_entries fresh image) b (no_entry fresh)
          (rw (openings_counted fresh image (block_count image.words)) past))
      by (inl within) = inl (get_or-map-range_with_len (opening_entry fresh image) 0 (block_count image.words) b b
          (no_entry fresh) within (omega arith))

  -- no rider has anything yet
  pub opening_rider : (fresh : R) (image : Contents) (b : ℕ) →
      (entry_at fresh (opening_entries fresh image) b).rider ≡ fresh
  opening_rider fresh image b =
      elim (entry_start fresh image b) [
        | inl is ↦ ap (λ (e : Entry R). e.rider) is
        | inr is ↦ ap
            (λ (e : Entry R). e.rider) is
      ]

  -- what is seen of a block that a cache doesn't hold
  abbrev blank : Riding R → ℕ → Sight R
  blank riding b = record {
    line = record { state = I; block = b; words = 0 ∷ 0 ∷ 0 ∷ 0 ∷ []; rider = riding.fresh };
    requests = [];
    responses = [];
    messages =
        [];
  }

  line_start : (riding : Riding R) (b : ℕ) → line_here b (empty_line riding.fresh) ≡ (blank riding b).line
  line_start riding b = by (0 == b) refl
    where
      by : (t : Bool) → (0 == b) ≡ t → line_if t b (empty_line riding.fresh) ≡ (blank riding b).line
      by true e = let z : 0 ≡ b = grind (arith, nat_tests) in ap (λ (x : ℕ). (let l : Line R = record {
        state = I;
        block = x;
        words = 0 ∷ 0 ∷ 0 ∷ 0 ∷ [];
        rider = riding.fresh;
      } in l)) z
      by false e = refl

  sight_of_lines : (riding : Riding R) (b : ℕ) (lines : List (Line R)) →
      line_for riding.fresh lines b ≡ empty_line riding.fresh → ◌≡◌ {A = Sight R}
      (record { line = line_here b (line_for riding.fresh lines b); requests = []; responses = []; messages = [] })
      (blank riding b)
  sight_of_lines riding b lines e = ap (λ (l : Line R). (let v : Sight R = record {
    line = l;
    requests = [];
    responses =
        [];
    messages = [];
  } in v))
      (ap (line_here b) e ∙ line_start riding b)

  -- a block that the home alone has a copy of
  abbrev pub opened_block : Payload R → Entry R → FullBlock (Payload R)
  opened_block none e =
      record {
        stage = Unshared;
        home = record { words = e.words; rider = e.rider };
        seats = λ d. record { phase = Idle; line = none; sent = none; reply = none; put = none };
      }

  -- each holder of it has a property that the home's copy has
  pub opened_holders : (P : Payload R → Type 0) (none : Payload R) (e : Entry R) → P (opened_block none e).home →
      HoldersHave P (opened_block none e)
  opened_holders P none e has =
      record {
        home = λ counts. has;
        seats = λ d ld. record {
          line = λ counts. absurd cc;
          sent = λ counts. absurd cc;
          reply = λ counts. absurd cc;
          put = λ counts. absurd cc;
        };
      }

module _ {R K : Type 0} where
  pub port_start_at : (riding : Riding R) (carrying : Carrying K) (cores d : ℕ) → d < cores →
      port_at carrying (replicate cores (port_start riding carrying)) d ≡ port_start riding carrying
  port_start_at riding carrying cores d within = get_or-replicate cores d (port_start riding carrying)
      (no_port carrying) within

  long : (riding : Riding R) (carrying : Carrying K) (cores : ℕ) →
      length (replicate cores (port_start riding carrying)) ≡ cores
  long riding carrying cores = length-replicate cores (port_start riding carrying)

  sight_start : (riding : Riding R) (carrying : Carrying K) (image : Contents) (cores b d : ℕ) →
      blank riding b ≡ port_sight riding b
      (port_at carrying (memory_start riding carrying image cores).ports d)
  sight_start riding carrying image cores b d = by (cases_lt d cores)
    where
      by : (d < cores) ⊎ (cores ≤ d) → blank riding b ≡ port_sight riding b
          (port_at carrying (memory_start riding carrying image cores).ports d)
      by (inr past) = sym (ap (port_sight riding b) (get_or_past (memory_start riding carrying image cores).ports d
          (no_port carrying)
          (rw (long riding carrying cores) past)) ∙ sight_of_lines riding b [] refl)
      by (inl within) = sym (ap (port_sight riding b) (port_start_at riding carrying cores d within)
          ∙ sight_of_lines riding b
          (replicate LINES (empty_line riding.fresh)) (replicate_at LINES (b % LINES) (empty_line riding.fresh)))

  start_holds : (riding : Riding R) (carrying : Carrying K) (blocks : ℕ) →
      PortHolds riding blocks (port_start riding carrying)
  start_holds riding carrying blocks =
      record {
        all_lines = length-replicate LINES (empty_line riding.fresh);
        lines = λ i. subst (λ (l : Line R). LineHolds blocks i l) (sym (replicate_at LINES i (empty_line riding.fresh)))
            (record {
              place = λ some. absurd
                  (some refl);
              within = λ some. absurd (some refl);
            });
        one_waits = λ i j e f. absurd (not_waiting (sym e
            ∙ ap (λ (l : Line R). is_transient l.state) (replicate_at LINES i (empty_line riding.fresh))));
        requests_room = refl;
        responses_room = refl;
        messages_room = refl;
      }

  -- at the start a block shows one in which the home alone has a copy
  pub start_shows : (riding : Riding R) (carrying : Carrying K) (Q : ℕ → FullBlock (Payload R) →
      Type 0) (image : Contents) (cores : ℕ) →
      ((b : ℕ) (none : Payload R) → Q b (opened_block none (entry_at riding.fresh (opening_entries riding.fresh image)
      b))) →
      AllShow riding carrying Q (memory_start riding carrying image cores)
  start_shows riding carrying Q image cores has =
      record {
        blocks = λ b.
            let e : Entry R = entry_at riding.fresh (opening_entries riding.fresh image) b in
            record {
              block = opened_block none e;
              entry_is = opened riding.fresh image b e (entry_start riding.fresh image b);
              shows = λ d ld. sight_start riding carrying image cores b d;
              fits = record { fits = tt; roles = λ d ld. refl };
              has = has b none;
            };
      }
    where
      none : Payload R
      none = record { words = 0 ∷ 0 ∷ 0 ∷ 0 ∷ []; rider = riding.fresh }

  pub memory_starts : (riding : Riding R) (carrying : Carrying K) → StartLaw riding carrying
  memory_starts riding carrying image cores few =
      record {
        cores = rw (long riding carrying cores) few;
        ports = λ c lc. subst (λ (p : Port R K). PortHolds riding (length (opening_entries riding.fresh image)) p)
            (sym (port_start_at riding carrying cores c (subst (λ (n : ℕ). c < n) (long riding carrying cores) lc)))
            (start_holds riding carrying (length (opening_entries riding.fresh image)));
        shows = start_shows riding carrying Anything image cores (λ b none. tt);
      }

  pub words_start : (riding : Riding R) (carrying : Carrying K) → OpeningWordsLaw riding carrying
  words_start riding carrying image cores =
      start_shows riding carrying (HasWords (λ b. (entry_at riding.fresh (opening_entries riding.fresh image) b).words))
      image cores
      (λ b none. opened_holders (λ x. x.words ≡ (entry_at riding.fresh (opening_entries riding.fresh image) b).words)
      none (entry_at riding.fresh (opening_entries riding.fresh image) b) refl)
