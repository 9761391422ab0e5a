-- The marked moves by a machine's own names: whatever it makes of a kind and a core, its list has, kind by kind, what
-- it makes of the kind and the members of the kind's set. Where a machine numbers its moves kind by kind, and in a kind
-- core by core, those that can be made are the marked ones.
use Rattle.std.proofs.Common.{◌≡◌, ◌∙◌, refl, sym, subst, ap, ℕ, ◌+◌, ◌<◌, ◌≤◌, Bool, false, List, [], ◌∷◌, ◌++◌}
use Rattle.std.proofs.Common.{length}
use Rattle.std.specs.Prelude.{map}
use Rattle.std.specs.List.{filter, range_with_len}
use Rattle.std.proofs.lemmas.List.{map-append}
use Rattle.access_times.specs.Riding.{Riding, Carrying}
use Rattle.rtr_types.specs.CoreSets.{has}
use Rattle.rtr_types.specs.declared.TheConstants.{CORES_MAX}
use Rattle.msi_memory.specs.Acts.{TakeMessage, TakeRequest, TakeResponse, can}
use Rattle.msi_memory.specs.Memories.{Memory}
use Rattle.move_marks.specs.declared.marks.MarkedMove.{MarkedMove}
use Rattle.move_marks.specs.declared.marks.MoveKind.{MoveKind}
use Rattle.move_marks.specs.declared.marks.MoveKind.TheVariants.{Own, Request, Response, FromHome}
use Rattle.move_marks.specs.declared.marks.MoveMarks.{MoveMarks}
use Rattle.move_marks.specs.Kinds.{marked, marked_at_ports, marked_of, set_of}
use Rattle.move_marks.specs.Members.{members}
use Rattle.move_marks.specs.Ports.{PortsMarked}
use Rattle.move_marks.proofs.Acts.{can_past}
use Rattle.move_marks.proofs.MoveOrder.{kind_and_others, kind_listed}

module _ {X : Type 0} (made : MoveKind → ℕ → X) where
  kind_made : (kind : MoveKind) (xs : List ℕ) →
      map (λ (x : MarkedMove). made x.kind x.core) (map (λ (c : ℕ). record { kind = kind; core = c }) xs)
      ≡ map (made kind) xs
  kind_made kind [] = refl
  kind_made kind (x ∷ xs) = ap (λ (ys : List X). made kind x ∷ ys) (kind_made kind xs)

  ports_made : (moves : MoveMarks) →
      map (λ (x : MarkedMove). made x.kind x.core) (marked_at_ports moves)
      ≡ map (made Request) (members (set_of Request moves)) ++ (map (made Response) (members (set_of Response moves))
      ++ map (made FromHome) (members (set_of FromHome moves)))
  ports_made moves =
      map-append (λ (x : MarkedMove). made x.kind x.core) (marked_of Request moves)
      (marked_of Response moves ++ marked_of FromHome moves)
      ∙ (λ i. kind_made Request (members (set_of Request moves)) i
      ++ map-append (λ (x : MarkedMove). made x.kind x.core) (marked_of Response moves) (marked_of FromHome moves) i)
      ∙ (λ i. map (made Request) (members (set_of Request moves))
      ++ (kind_made Response (members (set_of Response moves)) i
      ++ kind_made FromHome (members (set_of FromHome moves)) i))

  pub own_made : (moves : MoveMarks) →
      map (λ (x : MarkedMove). made x.kind x.core) (marked moves)
      ≡ map (made Own) (members (set_of Own moves)) ++ map (λ (x : MarkedMove). made x.kind x.core)
      (marked_at_ports moves)
  own_made moves =
      map-append (λ (x : MarkedMove). made x.kind x.core) (marked_of Own moves) (marked_at_ports moves)
      ∙ (λ i. kind_made Own (members (set_of Own moves)) i
      ++ map (λ (x : MarkedMove). made x.kind x.core) (marked_at_ports moves))

-- the moves of the ports that have these numbers from a on
module _ {X : Type 0} (p : X → Bool) (f : ℕ → X) (made : MoveKind → ℕ → X) (moves : MoveMarks) (n : ℕ)
    (few : n ≤ CORES_MAX) where
  kind_able : (k : MoveKind) (able : ℕ → Bool) (a : ℕ) → ((c : ℕ) → has (set_of k moves) c ≡ able c) →
      ((c : ℕ) → n ≤ c → able c ≡ false) → ((c : ℕ) → p (made k c) ≡ able c) →
      ((c : ℕ) → c < n → f (a + c) ≡ made k c) →
      filter p (map f (range_with_len a n)) ≡ map (made k) (members (set_of k moves))
  kind_able k able a marked none by is =
      kind_listed p f (made k) (set_of k moves) a n few is (λ c within. marked c ∙ sym (by c))
      (λ c past within. by c ∙ none c past)

  pub ports_listed : {R K : Type 0} (riding : Riding R) (carrying : Carrying K) (m : Memory R K) (a : ℕ) →
      PortsMarked riding carrying m moves → length m.ports ≡ n →
      ((c : ℕ) → p (made Request c) ≡ can riding carrying m (TakeRequest c)) →
      ((c : ℕ) → p (made Response c) ≡ can riding carrying m (TakeResponse c)) →
      ((c : ℕ) → p (made FromHome c) ≡ can riding carrying m (TakeMessage c)) →
      ((c : ℕ) → c < n → f (a + c) ≡ made Request c) → ((c : ℕ) → c < n → f (a + n + c) ≡ made Response c) →
      ((c : ℕ) → c < n → f (a + n + n + c) ≡ made FromHome c) →
      filter p (map f (range_with_len a (n + (n + n))))
      ≡ map (λ (x : MarkedMove). made x.kind x.core) (marked_at_ports moves)
  ports_listed riding carrying m a all long request response message is_request is_response is_message =
      kind_and_others p f a n (n + n)
      ∙ (λ i. requests i ++ kind_and_others p f (a + n) n n i)
      ∙ (λ i. map (made Request) (members (set_of Request moves)) ++ (responses i ++ messages i))
      ∙ sym (ports_made made moves)
    where
      there : (c : ℕ) → n ≤ c → length m.ports ≤ c
      there c past = subst (λ (k : ℕ). k ≤ c) (sym long) past

      requests : filter p (map f (range_with_len a n)) ≡ map (made Request) (members (set_of Request moves))
      requests = kind_able Request (λ c. can riding carrying m (TakeRequest c)) a all.requests
          (λ c past. can_past riding carrying m (TakeRequest c) (there c past)) request is_request

      responses : filter p (map f (range_with_len (a + n) n)) ≡ map (made Response) (members (set_of Response moves))
      responses = kind_able Response (λ c. can riding carrying m (TakeResponse c)) (a + n) all.responses
          (λ c past. can_past riding carrying m (TakeResponse c) (there c past)) response is_response

      messages : filter p (map f (range_with_len (a + n + n) n))
          ≡ map (made FromHome) (members (set_of FromHome moves))
      messages = kind_able FromHome (λ c. can riding carrying m (TakeMessage c)) (a + n + n) all.messages
          (λ c past. can_past riding carrying m (TakeMessage c) (there c past)) message is_message
