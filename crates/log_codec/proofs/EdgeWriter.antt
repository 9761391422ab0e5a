-- A loop that writes the edges into a core, one after the other.
use Rattle.std.proofs.Common.{◌≡◌, ℕ, suc, ◌+◌, ◌-◌, ◌<◌, ◌≤◌, List, [], ◌∷◌, ◌++◌, length, drop, replicate, set}
use Rattle.std.proofs.Common.{Option, None, Some, refl, sym, ap, subst, ◌∙◌}
use Rattle.std.proofs.Common.{append_assoc, arith}
use Rattle.std.specs.Prelude.{slice_get, slice_index}
use Rattle.std.proofs.lemmas.List.{append-nil, length-replicate, length-set, nil_from_length}
use Rattle.rtr_types.specs.declared.TheConstants.{CORES_MAX}
use Rattle.log_codec.specs.declared.incoming.Incoming.{Incoming}
use Rattle.log_codec.specs.Fronts.{AreFronts, IsFront}
use Rattle.log_codec.specs.Incoming.{IncomingRises, IsFirst, Keeps, edges_out_of, incoming_edges}
use Rattle.log_codec.specs.Incoming.{last_source, last_target, left, merged_edges, remember}
use Rattle.log_codec.specs.Incoming.{target_of}
use Rattle.log_codec.specs.Spelling.{incoming_text, number}
use Rattle.log_codec.specs.Incoming.{IsLog}
use Rattle.rtr_types.specs.Turns.{StandInTurn}
use Rattle.rtr_types.proofs.Ranges.{zero_at}
use Rattle.log_codec.specs.Turns.{spelled_in_turn}
use Rattle.log_codec.proofs.Merges.{Rises, length-merged, merged-agree}
use Rattle.log_codec.proofs.NextEdges.{joined_from, length-more, length-within, keeps-more, keeps-none, left-other}
use Rattle.log_codec.proofs.NextEdges.{left-own, merge-none, merge-step}
use Rattle.log_codec.proofs.NextEdges.{rises-drop, target-is, target-reached}
use Rattle.log_codec.proofs.EdgeOrder.{rises-of}
use Rattle.log_codec.proofs.ReducedLaws.{AllRise, into-rises, lists-rise}

-- the edges that are left of each core are merged_edges, and their text completes the whole
pub record Writes (cores target many : ℕ) (reduced : List (List (ℕ × ℕ))) (next : List ℕ) (last : Option Incoming)
    (counts out whole : List ℕ) : Type 0 where
  pub before : List Incoming
  pub keeps : Keeps last counts before
  pub places : length next ≡ CORES_MAX
  pub turn : StandInTurn IncomingRises remember before (merged_edges cores (left cores reduced target next))
  pub few : length (merged_edges cores (left cores reduced target next)) ≡ many
  pub wrote : out ++ spelled_in_turn incoming_text remember before (merged_edges cores (left cores reduced target next))
      ≡ whole

-- at the start all are left
all-left : (cores : ℕ) (reduced : List (List (ℕ × ℕ))) (target n i : ℕ) →
    left cores reduced target (replicate n 0) i ≡ edges_out_of cores reduced target i
all-left cores reduced target n i = ap (λ (k : ℕ). drop k (edges_out_of cores reduced target i)) (zero_at n i)

-- so the lists' fronts are those of what is left
pub fronts-start : (cores : ℕ) (reduced : List (List (ℕ × ℕ))) (target : ℕ) (fronts : List ℕ) →
    AreFronts cores (edges_out_of cores reduced target) fronts →
    AreFronts cores (left cores reduced target (replicate CORES_MAX 0)) fronts
fronts-start cores reduced target fronts h = record {
  places = h.places;
  each = λ source lt. subst (λ (l : List (ℕ × ℕ)). IsFront source (slice_get l 0) (slice_index fronts source))
      (sym (all-left cores reduced target CORES_MAX source)) (h.each source lt);
  past = h.past;
}

left-rises : (cores : ℕ) (reduced : List (List (ℕ × ℕ))) (target : ℕ) (next : List ℕ) → target < cores →
    AllRise cores reduced → (i : ℕ) → i < cores →
    Rises (left cores reduced target next i)
left-rises cores reduced target next inside rise i lt =
    rises-drop (slice_index next i) (edges_out_of cores reduced target i)
    (rises-of (0, 0) (edges_out_of cores reduced target i) (lists-rise cores reduced target inside rise i lt))

pub writes-start : (cores target many : ℕ) (reduced : List (List (ℕ × ℕ))) (out whole : List ℕ) → target < cores →
    AllRise cores reduced →
    length (incoming_edges cores reduced target) ≡ many
    → out ++ spelled_in_turn incoming_text remember [] (incoming_edges cores reduced target) ≡ whole →
    Writes cores target many reduced (replicate CORES_MAX 0) None (replicate CORES_MAX 0) out whole
writes-start cores target many reduced out whole inside rise few wrote =
    let zeros : List ℕ = replicate CORES_MAX 0 in
    let same : merged_edges cores (left cores reduced target zeros) ≡ incoming_edges cores reduced target =
    merged-agree cores (left cores reduced target zeros) (edges_out_of cores reduced target)
    (λ i lt. rises-of (0, 0) (edges_out_of cores reduced target i) (lists-rise cores reduced target inside rise i lt))
    (λ i lt. all-left cores reduced target CORES_MAX i) in
    record {
      before = [];
      keeps = keeps-none zeros (length-replicate {A = ℕ} CORES_MAX 0) (λ k lt. zero_at CORES_MAX k);
      places = length-replicate {A = ℕ} CORES_MAX 0;
      turn = subst (StandInTurn IncomingRises remember []) (sym same) (into-rises cores reduced target inside rise);
      few = ap (λ (l : List Incoming). length l) same ∙ few;
      wrote = ap (λ (l : List Incoming). out ++ spelled_in_turn incoming_text remember [] l) same ∙ wrote;
    }

-- what is left after the first edge
pub left-step : (cores : ℕ) (reduced : List (List (ℕ × ℕ))) (target : ℕ) (next : List ℕ) (e : Incoming) →
    cores ≤ length next → target < cores →
    AllRise cores reduced → IsFirst cores (left cores reduced target next) e
    → merged_edges cores (left cores reduced target next)
    ≡ e ∷ merged_edges cores (left cores reduced target (set next e.source (slice_index next e.source + 1)))
left-step cores reduced target next e long inside rise f =
    let lt = f.inside in
    merge-step cores (left cores reduced target next)
    (left cores reduced target (set next e.source (slice_index next e.source + 1))) e
    (left-rises cores reduced target next inside rise) f
    (λ i _ not. left-other cores reduced target next e.source (slice_index next e.source + 1) i not)
    (left-own cores reduced target next e.source (omega arith))

-- the first edge rises
pub writes-rises : (cores target many : ℕ) (reduced : List (List (ℕ × ℕ))) (next : List ℕ) (last : Option Incoming)
    (counts out whole : List ℕ)
    (e : Incoming) → cores ≤ CORES_MAX → target < cores → AllRise cores reduced
    → (w : Writes cores target many reduced next last counts out whole) →
    IsFirst cores (left cores reduced target next) e → (target_of last ≤ e.counts.1)
    × (slice_index counts e.source ≤ e.counts.0)
writes-rises cores target many reduced next last counts out whole e few inside rise w f =
    let places = w.places in
    let step = left-step cores reduced target next e (omega arith) inside rise f in
    let turn = subst (StandInTurn IncomingRises remember w.before) step w.turn in
    let is = target-is last w.before w.keeps.newest_is in
    let reached = target-reached w.before e turn.0.follows in
    let source = turn.0.source in
    let lt = f.inside in
    let count = w.keeps.count_is e.source (omega arith) in
    (omega arith, omega arith)

pub writes-more : (cores target many : ℕ) (reduced : List (List (ℕ × ℕ))) (next : List ℕ) (last : Option Incoming)
    (counts out whole : List ℕ) (e : Incoming)
    (new : List ℕ) → cores ≤ CORES_MAX → target < cores → AllRise cores reduced
    → Writes cores target many reduced next last counts out whole → IsFirst cores (left cores reduced target next) e
    → new ≡ out ++ (number (e.counts.1 - target_of last)
    ++ (number e.source ++ number (e.counts.0 - slice_index counts e.source)))
    → Writes cores target (many - 1) reduced (set next e.source (slice_index next e.source + 1)) (Some e)
    (set counts e.source e.counts.0) new whole
unfolding spelled_in_turn
writes-more cores target many reduced next last counts out whole e new few inside rise w f is =
    let places = w.places in
    let step = left-step cores reduced target next e (omega arith) inside rise f in
    let rest = merged_edges cores (left cores reduced target (set next e.source (slice_index next e.source + 1))) in
    let turn = subst (StandInTurn IncomingRises remember w.before) step w.turn in
    let lt = f.inside in
    let core : e.source < CORES_MAX = omega arith in
    let long : length (set counts e.source e.counts.0) ≡ CORES_MAX =
    length-set counts e.source e.counts.0 ∙ w.keeps.places in
    let count : length (merged_edges cores (left cores reduced target next)) ≡ suc (length rest) =
    ap (λ (l : List Incoming). length l) step in
    let all = w.few in
    let text : number (e.counts.1 - target_of last)
    ++ (number e.source ++ number (e.counts.0 - slice_index counts e.source)) ≡ incoming_text w.before e =
    texts (target_of last) (last_target w.before) (slice_index counts e.source) (last_source e.source w.before)
    (target-is last w.before w.keeps.newest_is)
    (w.keeps.count_is e.source core) in
    let wrote : out ++ (incoming_text w.before e ++ spelled_in_turn incoming_text remember (e ∷ w.before) rest)
    ≡ whole =
    subst (λ (l : List Incoming). out ++ spelled_in_turn incoming_text remember w.before l ≡ whole) step w.wrote in
    record {
      before = e ∷ w.before;
      keeps = keeps-more last counts w.before e (set counts e.source e.counts.0) core w.keeps refl long;
      places = length-set next e.source (slice_index next e.source + 1) ∙ w.places;
      turn = turn.1;
      few = omega arith;
      wrote =
          ap (λ (l : List ℕ). l ++ spelled_in_turn incoming_text remember (e ∷ w.before) rest)
          (is ∙ ap (λ (l : List ℕ). out ++ l) text)
          ∙ append_assoc out (incoming_text w.before e) (spelled_in_turn incoming_text remember (e ∷ w.before) rest)
          ∙ wrote;
    }
  where
    texts : (b c a d : ℕ) → b ≡ c → a ≡ d →
        number (e.counts.1 - b) ++ (number e.source ++ number (e.counts.0 - a)) ≡ number (e.counts.1 - c)
        ++ (number e.source ++ number (e.counts.0 - d))
    texts b c a d p q = ap (λ (n : ℕ). number (e.counts.1 - n) ++ (number e.source ++ number (e.counts.0 - a))) p
        ∙ ap (λ (n : ℕ). number (e.counts.1 - c) ++ (number e.source ++ number (e.counts.0 - n))) q

pub writes-none : (cores target many : ℕ) (reduced : List (List (ℕ × ℕ))) (next : List ℕ) (last : Option Incoming)
    (counts out whole : List ℕ) →
    Writes cores target many reduced next last counts out whole
    → ((source : ℕ) → source < cores → slice_get (left cores reduced target next source) 0 ≡ None) → many ≡ 0
writes-none cores target many reduced next last counts out whole w none =
    sym w.few ∙ ap (λ (l : List Incoming). length l) (merge-none cores (left cores reduced target next) none)

pub writes-done : (cores target many : ℕ) (reduced : List (List (ℕ × ℕ))) (next : List ℕ) (last : Option Incoming)
    (counts out whole : List ℕ) →
    Writes cores target many reduced next last counts out whole → many ≡ 0 → out ≡ whole
unfolding spelled_in_turn
writes-done cores target many reduced next last counts out whole w zero_is =
    let none : merged_edges cores (left cores reduced target next) ≡ [] =
    nil_from_length (merged_edges cores (left cores reduced target next)) (w.few ∙ zero_is) in
    sym (append-nil out) ∙ subst
    (λ (l : List Incoming). out ++ spelled_in_turn incoming_text remember w.before l ≡ whole) none w.wrote

-- a log's edges rise
pub log-rises : (cores : ℕ) (reduced : List (List (ℕ × ℕ))) → IsLog cores reduced → AllRise cores reduced
log-rises cores reduced log place below = (log.listed place (let long = log.pairs in omega arith)).rising

-- the edges of one more core are counted
pub counted : (cores : ℕ) (reduced : List (List (ℕ × ℕ))) (target source : ℕ) → source < cores →
    length (joined_from (edges_out_of cores reduced target) 0 source) + length
    (edges_out_of cores reduced target source) ≤ length
    (incoming_edges cores reduced target)
counted cores reduced target source lt =
    let lists : ℕ → List (ℕ × ℕ) = edges_out_of cores reduced target in
    let more = length-more lists 0 source source (omega arith) in
    let within = length-within lists 0 (source + 1) (cores - (source + 1)) in
    let all : length (joined_from lists 0 (source + 1 + (cores - (source + 1)))) ≡ length (joined_from lists 0 cores) =
    ap (λ (n : ℕ). length (joined_from lists 0 n)) (omega arith) in
    let merge = length-merged cores lists in
    omega arith
