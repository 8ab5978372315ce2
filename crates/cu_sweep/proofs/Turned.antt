-- The calls of a chain that was turned, from its first place on, and the text of their roads.
use Rattle.std.proofs.Common.{◌≡◌, ◌≤◌, ◌<◌, ◌+◌, ◌*◌, ◌-◌, ◌∙◌, ℕ, zero, suc}
use Rattle.std.proofs.Common.{Bool, true, false, List, [], ◌∷◌, ◌++◌, Option, Some, None, refl, sym, ap, subst, arith, inl, inr, ltb, length, append_assoc}
use Rattle.std.specs.Prelude.{All, IsErr, Result, Ok, Err}
use Rattle.std.proofs.lemmas.Bool.{cases_lt}
use Rattle.std.proofs.lemmas.List.{append-nil}
use Rattle.cu_links.specs.Chains.{AreFollowed, IsChain, IsTurned, link_at}
use Rattle.cu_io.specs.Sinks.{SinkState, Wrote, WroteAll}
use Rattle.cu_io.proofs.Appending.{wrote_nothing, wrote_ok, wrote_same, wrote_stops, wrote_then}
use Rattle.cu_chordal.specs.declared.graph.TheConstants.{MAX_EDGES}
use Rattle.cu_interval.specs.declared.relaxing.Call.{Call}
use Rattle.cu_interval.specs.Hierarchies.{HierarchyValue}
use Rattle.cu_sweep.specs.Desks.{AreArriving, IsArrivingCall, first_after, routed_text}
use Rattle.cu_sweep.specs.Places.{calls_after, calls_found, calls_of_some, calls_over, calls_to}
use Rattle.cu_sweep.specs.Steps.Ready.{Rises, calls_along, turn_of}
use Rattle.cu_sweep.proofs.Held.{no_calls}
use Rattle.cu_sweep.proofs.Readying.{chain_steps}

chain_within : (n : ℕ) (links : List (Option (ℕ × ℕ))) → Rises n links → (first : ℕ) (steps : List (ℕ × ℕ)) (last : ℕ) → IsChain links first steps last → last ≤ 2 * n → first ≤ 2 * n
chain_within n links f first [] last c le = let same : first ≡ last = c in omega (arith, same, le)
chain_within n links f first (step ∷ steps) last c le = let less = (f step.0 first step.1 c.0).1 in omega (arith, less)

turn_few : (n last : ℕ) → last ≤ 2 * n → turn_of n last ≤ 2 * n
turn_few n last le =
    elim (cases_lt last n) [
      | inl lt ↦ let up : ltb last n ≡ true = grind (arith, lt) in rw up le
      | inr ge ↦ let down : ltb last n ≡ false = grind (arith, ge) in rw down (omega (arith, ge))
    ]

calls_stepped : (n : ℕ) (labels : List (Option ℕ)) (links : List (Option (ℕ × ℕ))) (first : ℕ) (steps : List (ℕ × ℕ)) (last fuel : ℕ) → IsChain links first steps last
    → calls_to n labels links (length steps + fuel) last ≡ calls_to n labels links fuel first ++ calls_along n labels first steps
calls_stepped n labels links first [] last fuel c =
    let none : length {A = ℕ × ℕ} [] + fuel ≡ fuel = omega arith in
    ap (λ (k : ℕ). calls_to n labels links k last) none ∙ ap (calls_to n labels links fuel) (sym c) ∙ sym (append-nil (calls_to n labels links fuel first))
calls_stepped n labels links first (step ∷ steps) last fuel c =
    let shift : length (step ∷ steps) + fuel ≡ length steps + suc fuel = omega arith in
    let rest = calls_along n labels step.0 steps in
    let here : calls_to n labels links (suc fuel) step.0 ≡ calls_to n labels links fuel first ++ calls_over n labels first step.0 step.1 =
    ap (calls_after (calls_to n labels links fuel) n labels step.0) c.0 in
    ap (λ (k : ℕ). calls_to n labels links k last) shift ∙ calls_stepped n labels links step.0 steps last (suc fuel) c.1
    ∙ ap (λ (cs : List Call). cs ++ rest) here ∙ append_assoc (calls_to n labels links fuel first) (calls_over n labels first step.0 step.1) rest

-- the calls found at the last place of a chain are those along its steps
calls_turned : (n : ℕ) (labels : List (Option ℕ)) (links : List (Option (ℕ × ℕ))) (first : ℕ) (steps : List (ℕ × ℕ)) (last : ℕ)
    → Rises n links → last ≤ 2 * n → IsChain links first steps last → link_at links first ≡ None
    → calls_found n labels links last ≡ calls_along n labels first steps
calls_turned n labels links first steps last rises le c none =
    let few = chain_steps n links rises first steps last c in
    let most = turn_few n last le in
    let fuel = 2 * n + 1 - length steps in
    let sum : length steps + fuel ≡ 2 * n + 1 = omega (arith, few, most) in
    ap (λ (k : ℕ). calls_to n labels links k last) (sym sum) ∙ calls_stepped n labels links first steps last fuel c
    ∙ ap (λ (cs : List Call). cs ++ calls_along n labels first steps) (no_calls n labels links fuel first none)

-- the calls of a place's links so far were written, and the rest is followed from a place on
pub record IsOnRoute (text : Bool → Call → List ℕ) (n : ℕ) (labels : List (Option ℕ)) (before after : List (Option (ℕ × ℕ))) (end place : ℕ) (first : Bool) (a b : SinkState) : Type 0 where
  pub steps : List (ℕ × ℕ)
  pub done : List Call
  pub followed : AreFollowed after place steps
  pub chain : IsChain before place steps end
  pub calls : calls_found n labels before end ≡ done ++ calls_along n labels place steps
  pub wrote : WroteAll a b (routed_text text true done)
  pub next : first ≡ first_after true done

pub begun_within : (n : ℕ) (before after : List (Option (ℕ × ℕ))) (end place : ℕ) → Rises n before → end ≤ 2 * n → IsTurned before after end place → (turn_of n place ≤ 2 * n) × (place ≤ 2 * n)
begun_within n before after end place rises le t =
    let few = chain_steps n before rises place t.steps end t.chain in
    let most = turn_few n end le in
    (omega (arith, few, most), chain_within n before rises place t.steps end t.chain le)

pub route_begun : (text : Bool → Call → List ℕ) (n : ℕ) (labels : List (Option ℕ)) (before after : List (Option (ℕ × ℕ))) (end place : ℕ) (a : SinkState)
    → Rises n before → end ≤ 2 * n → IsTurned before after end place
    → IsOnRoute text n labels before after end place true a a
route_begun text n labels before after end place a rises le t = record {
  steps = t.steps;
  done = [];
  followed = t.followed;
  chain = t.chain;
  calls = calls_turned n labels before place t.steps end rises le t.chain t.whole;
  wrote = wrote_nothing a tt;
  next = refl;
}

-- the first step that is followed, and those behind it
pub record IsNextStep (n : ℕ) (labels : List (Option ℕ)) (before after : List (Option (ℕ × ℕ))) (end place next edge : ℕ) (steps : List (ℕ × ℕ)) : Type 0 where
  pub rest : List (ℕ × ℕ)
  pub link : link_at before next ≡ Some (place, edge)
  pub followed : AreFollowed after next rest
  pub chain : IsChain before next rest end
  pub calls : calls_along n labels place steps ≡ calls_over n labels place next edge ++ calls_along n labels next rest

pair_same : (a b : ℕ × ℕ) (o : Option (ℕ × ℕ)) → o ≡ Some a → o ≡ Some b → a ≡ b
pair_same a b o p q = cc (p, q)

next_step : (n : ℕ) (labels : List (Option ℕ)) (before after : List (Option (ℕ × ℕ))) (end place next edge : ℕ) (steps : List (ℕ × ℕ))
    → AreFollowed after place steps → IsChain before place steps end → link_at after place ≡ Some (next, edge)
    → IsNextStep n labels before after end place next edge steps
next_step n labels before after end place next edge [] f c e = absurd (cc (f, e))
next_step n labels before after end place next edge (step ∷ rest) f c e =
    let same : step ≡ (next, edge) = pair_same step (next, edge) (link_at after place) f.0 e in
    record {
      rest = rest;
      link = subst (λ (s : ℕ × ℕ). link_at before s.0 ≡ Some (place, s.1)) same c.0;
      followed = subst (λ (s : ℕ × ℕ). AreFollowed after s.0 rest) same f.1;
      chain = subst (λ (s : ℕ × ℕ). IsChain before s.0 rest end) same c.1;
      calls = ap (λ (s : ℕ × ℕ). calls_over n labels place s.0 s.1 ++ calls_along n labels s.0 rest) same;
    }

all_first : (P : Call → Type 0) (xs ys : List Call) → All P (xs ++ ys) → All P xs
all_first P [] ys all k d lt = absurd (omega (arith, lt))
all_first P (x ∷ xs) ys all zero d lt = all zero d (omega arith)
all_first P (x ∷ xs) ys all (suc k) d lt = all_first P xs ys (λ j e less. all (suc j) e (omega (arith, less))) k d (omega (arith, lt))

all_last : (P : Call → Type 0) (xs ys : List Call) → All P (xs ++ ys) → All P ys
all_last P [] ys all = all
all_last P (x ∷ xs) ys all = all_last P xs ys (λ j e less. all (suc j) e (omega (arith, less)))

-- what is known of the next link
pub record IsNextLink (h : HierarchyValue) (n : ℕ) (labels : List (Option ℕ)) (place next edge end : ℕ) : Type 0 where
  pub small : edge < MAX_EDGES
  pub from : place < 2 * n
  pub up : turn_of n place < turn_of n next
  pub few : turn_of n next ≤ 2 * n
  pub within : next ≤ 2 * n
  pub arriving : AreArriving h (calls_over n labels place next edge)

pub route_next : (h : HierarchyValue) (text : Bool → Call → List ℕ) (n : ℕ) (labels : List (Option ℕ))
    (before after : List (Option (ℕ × ℕ))) (end place : ℕ) (first : Bool) (a b : SinkState) (next edge : ℕ)
    → Rises n before → end ≤ 2 * n
    → AreArriving h (calls_found n labels before end) → IsOnRoute text n labels before after end place first a b → link_at after place ≡ Some (next, edge) → IsNextLink h n labels place next edge end
route_next h text n labels before after end place first a b next edge rises le arriving w e =
    let s = next_step n labels before after end place next edge w.steps w.followed w.chain e in
    let link = rises next place edge s.link in
    let few = chain_steps n before rises next s.rest end s.chain in
    let most = turn_few n end le in
    let here = calls_over n labels place next edge in
    let all = subst (AreArriving h) (w.calls ∙ ap (λ (cs : List Call). w.done ++ cs) s.calls) arriving in
    record {
      small = link.2;
      from = link.1;
      up = link.0;
      few = omega (arith, few, most);
      within = chain_within n before rises next s.rest end s.chain le;
      arriving = all_first (IsArrivingCall h) here (calls_along n labels next s.rest) (all_last (IsArrivingCall h) w.done (here ++ calls_along n labels next s.rest) all);
    }

-- the text of these calls, and of those behind them
pub routed_append : (text : Bool → Call → List ℕ) (first : Bool) (xs ys : List Call) → routed_text text first (xs ++ ys) ≡ routed_text text first xs ++ routed_text text (first_after first xs) ys
routed_append text first [] ys = refl
routed_append text first (x ∷ []) ys = ap (λ (w : List ℕ). w ++ routed_text text false ys) (sym (append-nil (text first x)))
routed_append text first (x ∷ y ∷ xs) ys =
    ap (λ (w : List ℕ). text first x ++ w) (routed_append text false (y ∷ xs) ys)
    ∙ sym (append_assoc (text first x) (routed_text text false (y ∷ xs)) (routed_text text false ys))

first_append : (first : Bool) (xs ys : List Call) → first_after first (xs ++ ys) ≡ first_after (first_after first xs) ys
first_append first [] ys = refl
first_append first (x ∷ xs) [] = refl
first_append first (x ∷ xs) (y ∷ ys) = refl

-- one link more, whose call was written
pub route_on : (text : Bool → Call → List ℕ) (n : ℕ) (labels : List (Option ℕ)) (before after : List (Option (ℕ × ℕ))) (end place : ℕ) (first : Bool) (a b d : SinkState)
    (next edge : ℕ) (call : Option Call) (still : Bool) (E : Type 0)
    → IsOnRoute text n labels before after end place first a b → link_at after place ≡ Some (next, edge) → calls_of_some call ≡ calls_over n labels place next edge
    → Wrote {T = Bool} {E = E} b d (Ok still) (routed_text text first (calls_of_some call)) → still ≡ first_after first (calls_of_some call)
    → IsOnRoute text n labels before after end next still a d
route_on text n labels before after end place first a b d next edge call still E w e same wrote is =
    let s = next_step n labels before after end place next edge w.steps w.followed w.chain e in
    let here = calls_over n labels place next edge in
    let done = routed_text text true w.done in
    let was = first_after true w.done in
    let written : done ++ routed_text text first (calls_of_some call) ≡ routed_text text true (w.done ++ here) =
    ap (λ (f : Bool). done ++ routed_text text f (calls_of_some call)) w.next
    ∙ ap (λ (cs : List Call). done ++ routed_text text was cs) same ∙ sym (routed_append text true w.done here) in
    record {
      steps = s.rest;
      done = w.done ++ here;
      followed = s.followed;
      chain = s.chain;
      calls = w.calls ∙ ap (λ (cs : List Call). w.done ++ cs) s.calls ∙ sym (append_assoc w.done here (calls_along n labels next s.rest));
      wrote = wrote_same written (wrote_ok (wrote_then w.wrote wrote));
      next = is ∙ ap (λ (f : Bool). first_after f (calls_of_some call)) w.next
          ∙ ap (first_after was) same ∙ sym (first_append true w.done here);
    }

-- a write failed
pub route_stops : (text : Bool → Call → List ℕ) (n : ℕ) (labels : List (Option ℕ)) (before after : List (Option (ℕ × ℕ))) (end place : ℕ) (first : Bool) (a b d : SinkState)
    (next edge : ℕ) (call : Option Call) (E : Type 0) (fault : E) (r : Result (Unit {0}) E)
    → IsOnRoute text n labels before after end place first a b → link_at after place ≡ Some (next, edge) → calls_of_some call ≡ calls_over n labels place next edge
    → Wrote {T = Bool} {E = E} b d (Err fault) (routed_text text first (calls_of_some call)) → IsErr r
    → Wrote a d r (routed_text text true (calls_found n labels before end))
route_stops text n labels before after end place first a b d next edge call E fault r w e same wrote failed =
    let s = next_step n labels before after end place next edge w.steps w.followed w.chain e in
    let here = calls_over n labels place next edge in
    let rest = calls_along n labels next s.rest in
    let done = routed_text text true w.done in
    let was = first_after true w.done in
    let more = routed_text text (first_after was here) rest in
    let written : done ++ (routed_text text first (calls_of_some call) ++ more) ≡ routed_text text true (calls_found n labels before end) =
    ap (λ (f : Bool). done ++ (routed_text text f (calls_of_some call) ++ more)) w.next
    ∙ ap (λ (cs : List Call). done ++ (routed_text text was cs ++ more)) same
    ∙ ap (λ (t : List ℕ). done ++ t) (sym (routed_append text was here rest))
    ∙ sym (routed_append text true w.done (here ++ rest))
    ∙ sym (ap (routed_text text true) (w.calls ∙ ap (λ (cs : List Call). w.done ++ cs) s.calls)) in
    wrote_same written (wrote_then w.wrote (wrote_stops more failed wrote))

no_steps : (after : List (Option (ℕ × ℕ))) (place : ℕ) (steps : List (ℕ × ℕ)) → AreFollowed after place steps → link_at after place ≡ None → steps ≡ []
no_steps after place [] f e = refl
no_steps after place (step ∷ steps) f e = absurd (cc (f.0, e))

-- all was written where nothing follows
pub route_over : (text : Bool → Call → List ℕ) (n : ℕ) (labels : List (Option ℕ)) (before after : List (Option (ℕ × ℕ))) (end place : ℕ) (first : Bool) (a b : SinkState)
    → IsOnRoute text n labels before after end place first a b → link_at after place ≡ None → WroteAll a b (routed_text text true (calls_found n labels before end))
route_over text n labels before after end place first a b w e =
    let none : calls_along n labels place w.steps ≡ [] = ap (calls_along n labels place) (no_steps after place w.steps w.followed e) in
    let whole : w.done ≡ calls_found n labels before end = sym (w.calls ∙ ap (λ (cs : List Call). w.done ++ cs) none ∙ append-nil w.done) in
    wrote_same (ap (routed_text text true) whole) w.wrote
