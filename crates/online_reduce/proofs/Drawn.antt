-- What is left once edges are drawn into an access.
use Rattle.std.proofs.Common.{◌≡◌, ◌∙◌, ◌<◌, List, [], ◌∷◌, length, get_or, refl, sym, ap, arith, true, false, Bool}
use Rattle.std.proofs.Common.{cond, ℕ, ◌%◌, nat_eq, Option}
use Rattle.std.specs.Prelude.{map, slice_set}
use Rattle.std.specs.List.{fold}
use Rattle.std.specs.Option.{option_to_list}
use Rattle.std.proofs.lemmas.List.{set-get_or, get_or-set_same, set-set, length-set}
use Rattle.std.proofs.lemmas.Bool.Decides.{nat_tests}
use Rattle.rtr_types.specs.Accesses.{is_same}
use Rattle.rtr_types.specs.PairEdges.{with_edge, with_edges}
use Rattle.rtr_types.specs.declared.instr.Instr.{Instr}
use Rattle.rtr_types.specs.declared.instr.Edge.{Edge}
use Rattle.rtr_types.specs.declared.access.Access.{Access}
use Rattle.clock_core.specs.Counts.{merged, no_counts}
use Rattle.clock_core.specs.declared.clock.Clock.{Clock}
use Rattle.rtr_types.specs.declared.TheConstants.{BLOCK_WORDS, CORES_MAX}
use Rattle.access_times.specs.declared.times.Times.{Times}
use Rattle.access_times.specs.Times.{write_at}
use Rattle.online_reduce.specs.declared.source.Source.{Source}
use Rattle.online_reduce.specs.LiveReads.{drawn}
use Rattle.online_reduce.specs.Reduced.{Reduced, clock_of, counted, retired}
use Rattle.online_reduce.specs.Rule.{clock_into, edge_to, edges_into, is_kept, merged_with}
use Rattle.online_reduce.specs.Sources.{candidates, reads_from, write_from}
use Rattle.online_reduce.proofs.CandidateLists.{only_reads, only_write}
use Rattle.online_reduce.proofs.RetiredParts.{AreFound, same_clock_of}

-- nothing changes without candidates
pub drawn_none : (r : Reduced) (at : Instr) → drawn r at [] ≡ r
unfolding edges_into with_edges
drawn_none r at =
    ap (λ (clocks : List Clock). (let s : Reduced = record { cores = r.cores; clocks = clocks; lists = r.lists } in s))
    (set-get_or r.clocks at.core no_counts)

pub no_edges : (at : Instr) → edges_into at [] ≡ []
unfolding edges_into
no_edges at = refl

-- a candidate alone is kept
itself : (at : Instr) → is_same at at ≡ true
itself at = grind (arith, nat_tests)

pub one_edge : (at : Instr) (s : Source) → edges_into at (s ∷ []) ≡ edge_to at s ∷ []
unfolding edges_into
one_edge at s = by (is_kept (s ∷ []) s.at) (rw (itself s.at) refl)
  where
    by : (b : Bool) → b ≡ true → map (edge_to at) (cond b (s ∷ []) []) ≡ edge_to at s ∷ []
    by true t = refl
    by false t = absurd cc

-- the reads that were found are the candidates, where there are some
pub found_are : (r now : Reduced) (a : Access) (t : Times) (d : Clock) (found : List Source) → r ≡ now
    → a.at.core < length r.clocks →
    found ≡ reads_from r.cores (get_or r.clocks a.at.core d) a t → nat_eq (length found) 0 ≡ false
    → AreFound now a t found
found_are r now a t d found same lt is some =
    only_reads now.cores (clock_of now a.at.core) a t found
    (is ∙ ap (λ (m : Clock). reads_from r.cores m a t) (same_clock_of r.clocks r a.at.core d refl lt)
    ∙ ap (λ (q : Reduced). reads_from q.cores (clock_of q a.at.core) a t) same) some

-- and there are none where none were found
pub none_are : (r now : Reduced) (a : Access) (t : Times) (d : Clock) (found : List Source) → r ≡ now
    → a.at.core < length r.clocks →
    found ≡ reads_from r.cores (get_or r.clocks a.at.core d) a t → nat_eq (length found) 0 ≡ true →
    reads_from now.cores (clock_of now a.at.core) a t ≡ []
none_are r now a t d [] same lt is none =
    sym (is ∙ ap (λ (m : Clock). reads_from r.cores m a t) (same_clock_of r.clocks r a.at.core d refl lt)
    ∙ ap (λ (q : Reduced). reads_from q.cores (clock_of q a.at.core) a t) same)
none_are r now a t d (s ∷ found) same lt is none = absurd (grind (arith, nat_tests))

-- or else the write is, where it was found
pub write_is : (r now : Reduced) (a : Access) (t : Times) (d : Clock) (w : Option Source) → r ≡ now
    → a.at.core < length r.clocks →
    reads_from now.cores (clock_of now a.at.core) a t ≡ [] →
    write_from r.cores (get_or r.clocks a.at.core d) a (write_at t (a.word % BLOCK_WORDS)) ≡ w
    → AreFound now a t (option_to_list w)
write_is r now a t d w same lt unread is =
    sym (only_write now.cores (clock_of now a.at.core) a t w unread
    (sym (ap (λ (m : Clock). write_from r.cores m a (write_at t (a.word % BLOCK_WORDS)))
    (same_clock_of r.clocks r a.at.core d refl lt)
    ∙ ap (λ (q : Reduced). write_from q.cores (clock_of q a.at.core) a (write_at t (a.word % BLOCK_WORDS))) same) ∙ is))

-- the state, where its clock took over those of the candidates, whose edges were put
pub drew : (r now : Reduced) (a : Access) (t : Times) (found : List Source) (d new : Clock)
    (lists : List (List (ℕ × ℕ))) → r ≡ now →
    a.at.core < length r.clocks → AreFound now a t found → new ≡ fold merged_with (get_or r.clocks a.at.core d) found →
    lists ≡ with_edges r.cores r.lists (edges_into a.at found) →
    ◌≡◌ {A = Reduced} (record { cores = r.cores; clocks = slice_set r.clocks a.at.core new; lists = lists })
    (drawn now a.at (candidates now.cores (clock_of now a.at.core) a t))
drew r now a t found d new lists same lt are clock put =
    ap (λ (m : Clock).
    (let q : Reduced = record { cores = r.cores; clocks = slice_set r.clocks a.at.core m; lists = lists } in q))
    (clock ∙ ap (λ (m : Clock). fold merged_with m found) (same_clock_of r.clocks r a.at.core d refl lt))
    ∙ ap (λ (ls : List (List (ℕ × ℕ))). (let q : Reduced = record {
      cores = r.cores;
      clocks = slice_set r.clocks a.at.core (fold merged_with (clock_of r a.at.core) found);
      lists = ls;
    } in q)) put
    ∙ ap (λ (q : Reduced). drawn q a.at found) same
    ∙ ap (drawn now a.at) are

one_more : (cores : ℕ) (ls : List (List (ℕ × ℕ))) (e : Edge) → with_edge cores ls e ≡ with_edges cores ls (e ∷ [])
unfolding with_edges
one_more cores ls e = refl

-- the state, where its clock took over that of the one candidate, whose edge was put
pub drew_one : (r now : Reduced) (a : Access) (t : Times) (s : Source) (d new : Clock) (lists : List (List (ℕ × ℕ)))
    → r ≡ now →
    a.at.core < length r.clocks → AreFound now a t (s ∷ []) → new ≡ merged (get_or r.clocks a.at.core d) s.clock →
    lists ≡ with_edge r.cores r.lists (edge_to a.at s) →
    ◌≡◌ {A = Reduced} (record { cores = r.cores; clocks = slice_set r.clocks a.at.core new; lists = lists })
    (drawn now a.at (candidates now.cores (clock_of now a.at.core) a t))
drew_one r now a t s d new lists same lt are clock put =
    drew r now a t (s ∷ []) d new lists same lt are clock (put ∙ one_more r.cores r.lists (edge_to a.at s)
    ∙ ap (with_edges r.cores r.lists) (sym (one_edge a.at s)))

-- an access is retired once its candidates' edges are drawn and it is counted
pub drawn_counted : (r : Reduced) (a : Access) (t : Times) → a.at.core < length r.clocks →
    counted (drawn r a.at (candidates r.cores (clock_of r a.at.core) a t)) a.at ≡ retired r a t
unfolding clock_into
drawn_counted r a t lt =
    let found = candidates r.cores (clock_of r a.at.core) a t in
    let m = fold merged_with (clock_of r a.at.core) found in
    ap (λ (clocks : List Clock).
    (let q : Reduced = record {
      cores = r.cores;
      clocks = clocks;
      lists = with_edges r.cores r.lists
          (edges_into a.at found);
    } in q))
    (ap (λ (c : Clock). slice_set (slice_set r.clocks a.at.core m) a.at.core (slice_set c a.at.core a.at.count))
    (get_or-set_same r.clocks a.at.core m no_counts lt)
    ∙ set-set r.clocks a.at.core m (slice_set m a.at.core a.at.count))

pub counted_is_retired : (now drew new : Reduced) (a : Access) (t : Times) →
    drew ≡ drawn now a.at (candidates now.cores (clock_of now a.at.core) a t) → new ≡ counted drew a.at
    → length new.clocks ≡ CORES_MAX →
    a.at.core < CORES_MAX → new ≡ retired now a t
counted_is_retired now drew new a t drew_is is long lt =
    let found = candidates now.cores (clock_of now a.at.core) a t in
    let both : new ≡ counted (drawn now a.at found) a.at = is ∙ ap (λ (q : Reduced). counted q a.at) drew_is in
    let m = fold merged_with (clock_of now a.at.core) found in
    let same : length new.clocks ≡ length now.clocks = ap (λ (q : Reduced). length q.clocks) both
    ∙ length-set (slice_set now.clocks a.at.core m) a.at.core _ ∙ length-set now.clocks a.at.core m in
    both ∙ drawn_counted now a t (omega arith)
