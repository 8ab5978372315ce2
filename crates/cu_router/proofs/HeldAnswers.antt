-- Each query in range has an answer of the hierarchy that is held, however an arrival is said, and whether it is written or not.
use Rattle.std.proofs.Common.{◌≡◌, ◌<◌, ◌∙◌, ℕ, List, Option, Some, None, length, refl, sym, ap, subst, arith, inl, inr}
use Rattle.std.specs.Prelude.{get_or, slice_get}
use Rattle.std.proofs.lemmas.Option.{slice_get-get_or, slice_get_within}
use Rattle.cu_model.specs.declared.queries.Query.{Query}
use Rattle.cu_drive.specs.DriveAnswers.{IsAnswerAs}
use Rattle.cu_model.specs.Days.{day}
use Rattle.cu_model.specs.Roads.{IsWalk}
use Rattle.cu_interval.specs.declared.relaxing.Call.{Call}
use Rattle.cu_interval.specs.Hierarchies.{HierarchyValue, IsBuilt, IsHierarchy}
use Rattle.cu_sweep.specs.declared.finding.Found.{Found}
use Rattle.cu_sweep.specs.declared.finding.Found.TheVariants.{Arrive, NoWalk, Long}
use Rattle.cu_sweep.specs.Answers.{IsLeastWhereBuilt}
use Rattle.cu_sweep.specs.Desks.{roads_of}
use Rattle.cu_sweep.specs.Labels.{Label, down_label}
use Rattle.cu_sweep.specs.Sweeps.{first_long, found, found_by, sweep_calls}
use Rattle.cu_sweep.proofs.Answering.{found_least, label_real}
use Rattle.cu_router.specs.Answers.{IsHeldAs, IsRealAs}
use Rattle.cu_router.specs.Swept.{found_text, label_roads, swept_as, swept_of}

-- where an arrival is found it is that of the end's label
arrives : (long : Option Call) (o : Option Label) (arrival : ℕ) → Arrive arrival ≡ found_by long o → (label : Label) × (o ≡ Some label) × (arrival ≡ label.second)
arrives (Some call) o arrival is = absurd (cc is)
arrives None None arrival is = absurd (cc is)
arrives None (Some label) arrival is = (label, refl, cc is)

-- the nodes of the query stand at these ranks
module _ (says : ℕ → List ℕ → List ℕ) (h : HierarchyValue) (sound : IsHierarchy h) (query : Query) (second : query.second < day) (from to : ℕ)
    (start : slice_get h.order.rank_of query.from ≡ Some from) (stop : slice_get h.order.rank_of query.to ≡ Some to) where
  from_placed : slice_get h.order.node_at from ≡ Some query.from
  from_placed = sound.order.placed query.from from start

  to_placed : slice_get h.order.node_at to ≡ Some query.to
  to_placed = sound.order.placed query.to to stop

  from_below : from < h.network.nodes
  from_below = omega (arith, slice_get_within h.order.node_at from query.from from_placed, sound.same)

  to_below : to < h.network.nodes
  to_below = omega (arith, slice_get_within h.order.node_at to query.to to_placed, sound.same)

  reply_is : (is : Found) → is ≡ found h from to query.second → swept_as says h query ≡ found_text says h is (down_label h from query.second to)
  reply_is is same = rw (start, stop) (ap (λ (f : Found). found_text says h f (down_label h from query.second to)) (sym same))

  real_reply : (is : Found) → is ≡ found h from to query.second → IsRealAs says h.network query (swept_as says h query)
  real_reply (Arrive arrival) same =
      let (label, there, at) = arrives (first_long h (sweep_calls h from to query.second)) (down_label h from query.second to) arrival same in
      let (walk, drives) = label_real h sound from to query.second from_below to_below second label there query.from query.to from_placed to_placed in
      let text = reply_is (Arrive arrival) same ∙ ap (λ (l : Option Label). says arrival (label_roads h l)) there in
      inl (arrival, roads_of h label.calls, text, walk, drives ∙ sym at)
  real_reply NoWalk same = inr (inl (reply_is NoWalk same))
  real_reply (Long edge dir t) same = inr (inr (edge, dir, t, reply_is (Long edge dir t) same))

  least_reply : (is : Found) → is ≡ found h from to query.second → IsBuilt h → IsAnswerAs says h.network query (swept_as says h query)
  least_reply is same built =
      by is same (subst (IsLeastWhereBuilt h from to query.second) (sym same) (found_least h sound from to query.second from_below to_below second))
    where
      by : (f : Found) → f ≡ found h from to query.second → IsLeastWhereBuilt h from to query.second f → IsAnswerAs says h.network query (swept_as says h query)
      by (Arrive arrival) is least =
          let (label, there, at) = arrives (first_long h (sweep_calls h from to query.second)) (down_label h from query.second to) arrival is in
          let (walk, drives) = label_real h sound from to query.second from_below to_below second label there query.from query.to from_placed to_placed in
          let text = reply_is (Arrive arrival) is ∙ ap (λ (l : Option Label). says arrival (label_roads h l)) there in
          inl (arrival, roads_of h label.calls, text, record { least = least built query.from query.to from_placed to_placed; joined = walk; driven = drives ∙ sym at })
      by NoWalk is least = inr (reply_is NoWalk is, least built query.from query.to from_placed to_placed)
      by (Long edge dir t) is least = absurd (least built query.from query.to from_placed to_placed)

  pub answered : IsHeldAs says h query (swept_as says h query)
  answered = record { swept = refl; real = real_reply (found h from to query.second) refl; least = least_reply (found h from to query.second) refl }

-- each query between nodes of the network, at a second of the day
pub held_answer : (says : ℕ → List ℕ → List ℕ) (h : HierarchyValue) → IsHierarchy h → (query : Query) → query.from < h.network.nodes → query.to < h.network.nodes → query.second < day
    → IsHeldAs says h query (swept_as says h query)
held_answer says h sound query from to second =
    let ranks = h.order.rank_of in
    let from_there : query.from < length ranks = omega (arith, from, sound.order.same, sound.same) in
    let to_there : query.to < length ranks = omega (arith, to, sound.order.same, sound.same) in
    answered says h sound query second (get_or ranks query.from 0) (get_or ranks query.to 0) (slice_get-get_or ranks query.from 0 from_there) (slice_get-get_or ranks query.to 0 to_there)

-- replies are the same where the arrivals of walks between the query's nodes are said in the same way
module _ (h : HierarchyValue) (sound : IsHierarchy h) (query : Query) (second : query.second < day) (says other : ℕ → List ℕ → List ℕ)
    (same : (arrival : ℕ) (walk : List ℕ) → IsWalk h.network query.from walk query.to → says arrival walk ≡ other arrival walk) where
  found_alike : (from to : ℕ) → slice_get h.order.rank_of query.from ≡ Some from → slice_get h.order.rank_of query.to ≡ Some to → (is : Found) → is ≡ found h from to query.second
      → found_text says h is (down_label h from query.second to) ≡ found_text other h is (down_label h from query.second to)
  found_alike from to start stop (Arrive arrival) is =
      let (label, there, at) = arrives (first_long h (sweep_calls h from to query.second)) (down_label h from query.second to) arrival is in
      let u = from_placed says h sound query second from to start stop in
      let v = to_placed says h sound query second from to start stop in
      let (walk, drives) = label_real h sound from to query.second (from_below says h sound query second from to start stop) (to_below says h sound query second from to start stop)
      second label there query.from query.to u v in
      ap (λ (l : Option Label). says arrival (label_roads h l)) there ∙ same arrival (roads_of h label.calls) walk
      ∙ sym (ap (λ (l : Option Label). other arrival (label_roads h l)) there)
  found_alike from to start stop NoWalk is = refl
  found_alike from to start stop (Long edge dir t) is = refl

  ranks_alike : (from to : Option ℕ) → slice_get h.order.rank_of query.from ≡ from → slice_get h.order.rank_of query.to ≡ to → swept_of says h from to query.second ≡ swept_of other h from to query.second
  ranks_alike None to start stop = refl
  ranks_alike (Some from) None start stop = refl
  ranks_alike (Some from) (Some to) start stop = found_alike from to start stop (found h from to query.second) refl

  pub said_alike : swept_as says h query ≡ swept_as other h query
  said_alike = ranks_alike (slice_get h.order.rank_of query.from) (slice_get h.order.rank_of query.to) refl refl
