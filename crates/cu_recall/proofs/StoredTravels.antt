-- What a store knows of a list says how long its walk takes.
use Rattle.std.proofs.Common.{◌≡◌, ◌≢◌, ◌≤◌, ◌<◌, ◌+◌, ◌-◌, ◌/◌, ◌∙◌, ℕ, List, [], ◌∷◌, Option, Some, None, false, true, ltb, inl, inr, refl, sym, ap, arith, subst, length}
use Rattle.std.proofs.lemmas.Bool.{cases_lt}
use Rattle.std.specs.Prelude.{slice_get}
use Rattle.cu_model.specs.Days.{day}
use Rattle.cu_model.specs.Roads.{drive}
use Rattle.cu_arrival.specs.Runs.{arrival_value}
use Rattle.cu_interval.specs.declared.ways.Entry.{Entry}
use Rattle.cu_interval.specs.declared.relaxing.Relaxed.TheVariants.{At, Long}
use Rattle.cu_interval.specs.Hierarchies.{HierarchyValue, list_from}
use Rattle.cu_interval.specs.Unpacking.{answer_by, unpacked_walk}
use Rattle.cu_recall.specs.Spans.{IsListFrom, dir_of}
use Rattle.cu_recall.specs.Steps.Walks.{HoldsTravel}
use Rattle.cu_recall.proofs.Answering.{relaxed_list}
use Rattle.cu_recall.proofs.ListEnds.{number_back}
use Rattle.cu_store.specs.declared.store.Found.TheVariants as found
use Rattle.cu_store.specs.Known.{IsListFunction, KnownFunction, Knows, found_at}

at_by : (o : Option (Option (Option KnownFunction))) (s x : ℕ) → found_at o s ≡ found.At x → (function : KnownFunction) × (o ≡ Some (Some (Some function))) × (arrival_value function.runs s ≡ x)
at_by None s x e = absurd (cc e)
at_by (Some None) s x e = absurd (cc e)
at_by (Some (Some None)) s x e = absurd (cc e)
at_by (Some (Some (Some function))) s x e = (function, refl, cc e)

-- where a list arrives it has a way, and its walk arrives then
answer_arrives : (h : HierarchyValue) (entries : List Entry) (walk : List ℕ) (t s : ℕ) → answer_by h entries walk t ≡ At s → (entries ≢ []) × (drive h.network walk t ≡ s)
answer_arrives h [] walk t s e = absurd (cc e)
answer_arrives h (entry ∷ entries) walk t s e =
    elim (cases_lt (length walk) h.network.nodes) [
      | inl short ↦
          let is : ltb (length walk) h.network.nodes ≡ true = grind (arith, short) in
          let other : At (drive h.network walk t) ≡ At s = rw is at e in
          ((λ none. absurd (cc none)), cc other)
      | inr long ↦
          let is : ltb (length walk) h.network.nodes ≡ false = grind (arith, long) in
          let other : Long ≡ At s = rw is at e in
          absurd (cc other)
    ]

module _ (h : HierarchyValue) (known : List (Option (Option KnownFunction))) (knows : Knows h known) (list second arrival : ℕ)
    (found_so : found_at (slice_get known list) second ≡ found.At arrival) where
  list_function : (function : KnownFunction) × IsListFunction h (list / 2) (dir_of list) function × (arrival_value function.runs second ≡ arrival)
  list_function =
      let (function, at, value) = at_by (slice_get known list) second arrival found_so in
      (function, knows (list / 2) (dir_of list) (Some function) (sym (ap (slice_get known) (number_back list)) ∙ at), value)

  -- what is found doesn't arrive before it leaves
  pub stored_onward : second < day → second ≤ arrival
  stored_onward early =
      let (function, says, value) = list_function in
      let later = says.onward second early in
      omega (arith, later, value)

  -- and it is how long the walk takes
  pub stored_travel : second < day → HoldsTravel h list second (arrival - second)
  stored_travel early u v is =
      let (function, says, value) = list_function in
      let from = subst (λ (n : ℕ). IsListFrom h n u v) (number_back list) is in
      let answers = sym (relaxed_list h (list / 2) (dir_of list) second u v from) ∙ says.drives second ∙ ap At value in
      let (some, arrives) = answer_arrives h (list_from h u v) (unpacked_walk h u v second) second arrival answers in
      let later = stored_onward early in
      let sum : second + (arrival - second) ≡ arrival = omega (arith, later) in
      (length (unpacked_walk h u v second), (some, refl, arrives ∙ sym sum))
