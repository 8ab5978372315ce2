-- What is left when the touched lists are forgotten is so in the hierarchy that edits leave.
use Rattle.std.proofs.Common.{◌≡◌, ◌≢◌, ◌<◌, ◌+◌, ◌*◌, ◌++◌, ◌⊎◌, ◌∙◌, ℕ, List, [], ◌∷◌, Option, Some, None, refl, sym, ap, subst, arith, inl, inr, length, get_or, take}
use Rattle.std.specs.Prelude.{slice_get, slice_set}
use Rattle.std.specs.List.{Contains}
use Rattle.std.proofs.lemmas.Bool.{cases_lt}
use Rattle.std.proofs.lemmas.List.{get_or-set_other, get_or-set_same, get_or_append_left, get_or_push, length-set, length_push, take_more}
use Rattle.std.proofs.lemmas.Option.{get_or_from_slice_get, slice_get-get_or, slice_get_within}
use Rattle.cu_model.specs.declared.roads.Edit.{Edit}
use Rattle.cu_model.specs.Networks.{NetworkValue}
use Rattle.cu_arrival.specs.Runs.{arrival_value}
use Rattle.cu_chordal.specs.declared.graph.Ends.{Ends}
use Rattle.cu_interval.specs.declared.ways.Dir.{Dir}
use Rattle.cu_interval.specs.declared.ways.Dir.TheVariants.{Up, Down}
use Rattle.cu_interval.specs.declared.relaxing.Relaxed.TheVariants.{At}
use Rattle.cu_interval.specs.Hierarchies.{HierarchyValue, IsHierarchy, end_of, list_number, start_of}
use Rattle.cu_resettled.specs.ResettlingAll.{IsResettledAll, IsTouchedEdgeBySome, NumbersTouchedBySome}
use Rattle.cu_resettled.proofs.ResettledThere.{nodes_all}
use Rattle.cu_interval.specs.Unpacking.{relaxed, relaxed_ends}
use Rattle.cu_interval.proofs.EndsLaws.{ends_apart, ends_range}
use Rattle.cu_resettled.proofs.ResettledPairs.{IsUntouched, edge_of_pair, untouched_alike}
use Rattle.cu_store.specs.Known.{IsKnownOf, KnownFunction, Knows}
use Rattle.cu_store_edits.specs.Forgetting.{Forgets}
use Rattle.cu_store_edits.proofs.WalksAlike.{relaxed_alike}

-- an item of a list with one more is of the list, or that one
contains_pushed : (xs : List ℕ) (x y : ℕ) → Contains (xs ++ x ∷ []) y → Contains xs y ⊎ (y ≡ x)
contains_pushed xs x y (k, h, e) =
    let long = length_push xs x in
    elim (cases_lt k (length xs)) [
      | inl lt ↦ inl (k, lt, sym (get_or_append_left xs (x ∷ []) y k lt) ∙ e)
      | inr ge ↦
          let place : length xs ≡ k = omega (arith, ge, h, long) in
          inr (sym e ∙ get_or_push xs x y k place)
    ]

no_number : (other edge up : ℕ) (dir : Dir) → other ≡ edge → up ≡ 2 * edge → list_number other dir ≢ up → list_number other dir ≢ up + 1 → ⊥
no_number other edge up Up same is_up not_up not_down = not_up (omega (arith, same, is_up))
no_number other edge up Down same is_up not_up not_down = not_down (omega (arith, same, is_up))

-- an edge that answers is there
answers_edge : (h : HierarchyValue) (o : Option Ends) (dir : Dir) (t x : ℕ) → relaxed_ends h o dir t ≡ At x → (ends : Ends) × (o ≡ Some ends)
answers_edge h None dir t x e = absurd (cc e)
answers_edge h (Some ends) dir t x e = (ends, refl)

module _ (old new : HierarchyValue) (edits : List Edit) (sound : IsHierarchy old) (is : IsResettledAll old edits new) where
  untouched_pair : (edge : ℕ) (dir : Dir) (ends : Ends) → slice_get old.edges edge ≡ Some ends → (IsTouchedEdgeBySome old edits edge → ⊥) → IsUntouched old edits (start_of ends dir) (end_of ends dir)
  untouched_pair edge dir ends at off =
      let range = ends_range old sound edge ends at in
      (ends_apart ends dir range.0, λ pair. off (ends, at, edge_of_pair old.network old.order edits ends dir range.0 pair))

  same_nodes : old.network.nodes ≡ new.network.nodes
  same_nodes = sym (ap (λ (g : NetworkValue). g.nodes) is.network ∙ nodes_all old.network edits)

  -- a list that isn't touched answers as before
  untouched_answer : (edge : ℕ) (dir : Dir) (ends : Ends) → slice_get old.edges edge ≡ Some ends → (IsTouchedEdgeBySome old edits edge → ⊥) → (t : ℕ) → relaxed old edge dir t ≡ relaxed new edge dir t
  untouched_answer edge dir ends at off t =
      let there : slice_get new.edges edge ≡ Some ends = ap (λ (es : List Ends). slice_get es edge) is.edges ∙ at in
      ap (λ (o : Option Ends). relaxed_ends old o dir t) at
      ∙ relaxed_alike old new (IsUntouched old edits) (untouched_alike old new edits sound is.network is.edges is.kept) (start_of ends dir) (end_of ends dir) t same_nodes (untouched_pair edge dir ends at off)
      ∙ sym (ap (λ (o : Option Ends). relaxed_ends new o dir t) there)

  known_still : (edge : ℕ) (dir : Dir) (function : Option KnownFunction) → (IsTouchedEdgeBySome old edits edge → ⊥) → IsKnownOf old edge dir function → IsKnownOf new edge dir function
  known_still edge dir None off known = is.kept edge dir off ∙ known
  known_still edge dir (Some function) off known =
      let (ends, at) = answers_edge old (slice_get old.edges edge) dir 0 (arrival_value function.runs 0) (known.drives 0) in
      record {
        over_day = known.over_day;
        onward = known.onward;
        drives = λ t. sym (untouched_answer edge dir ends at off t) ∙ known.drives t;
      }

-- what is known once a list is forgotten was known before, and of another list
unwritten : (known : List (Option (Option KnownFunction))) (list n : ℕ) (function : Option KnownFunction) → slice_get (slice_set known list None) n ≡ Some (Some function)
    → (slice_get known n ≡ Some (Some function)) × (n ≢ list)
unwritten known list n function at =
    let long = length-set known list None in
    let within = slice_get_within (slice_set known list None) n (Some function) at in
    let is = get_or_from_slice_get (slice_set known list None) n (Some function) None at in
    let other : n ≢ list = λ same.
    let written : get_or (slice_set known list None) n None ≡ None = subst (λ (i : ℕ). get_or (slice_set known list None) i None ≡ None) (sym same) (get_or-set_same known list None None (omega (arith, within, long, same))) in
    cc (written, is) in
    let read : get_or known n None ≡ Some function = sym (get_or-set_other known list n None None other) ∙ is in
    (slice_get-get_or known n None (omega (arith, within, long)) ∙ ap Some read, other)

-- nothing is forgotten at first
pub forgets_none : (known : List (Option (Option KnownFunction))) → Forgets known known []
forgets_none known = record {
  size = refl;
  kept = λ list function at. at;
  gone = λ edge dir function (k, h, e) at. omega (arith, h);
}

-- one more edge is
pub forgets_more : (before mid now : List (Option (Option KnownFunction))) (edges : List ℕ) (i edge up : ℕ) → i < length edges → edge ≡ get_or edges i edge → up ≡ 2 * edge
    → now ≡ slice_set (slice_set mid up None) (up + 1) None → Forgets before mid (take i edges) → Forgets before now (take (i + 1) edges)
forgets_more before mid now edges i edge up inside same is_up is_now forgets =
    let one = slice_set mid up None in
    let a = length-set mid up None in
    let b = length-set one (up + 1) None in
    let c = ap length is_now in
    let size = forgets.size in
    let back : (list : ℕ) (function : Option KnownFunction) → slice_get now list ≡ Some (Some function) → (slice_get mid list ≡ Some (Some function)) × (list ≢ up) × (list ≢ up + 1) =
    λ list function at.
    let second = unwritten one (up + 1) list function (ap (λ (ks : List (Option (Option KnownFunction))). slice_get ks list) (sym is_now) ∙ at) in
    let first = unwritten mid up list function second.0 in
    (first.0, first.1, second.1) in
    record {
      size = omega (arith, a, b, c, size);
      kept = λ list function at. forgets.kept list function (back list function at).0;
      gone = λ other dir function has at.
          let (there, not_up, not_down) = back (list_number other dir) function at in
          let front = take_more edges i edge inside in
          let pushed : Contains (take i edges ++ edge ∷ []) other = subst (λ (es : List ℕ). Contains es other) (front ∙ ap (λ (e : ℕ). take i edges ++ e ∷ []) (sym same)) has in
          elim (contains_pushed (take i edges) edge other pushed) [
            | inl old ↦ forgets.gone other dir function old there
            | inr own ↦ no_number other edge up dir own is_up not_up not_down
          ];
    }

-- what is left is so in the resettled hierarchy
pub forgotten_knows : (before now : List (Option (Option KnownFunction))) (edges : List ℕ) → Forgets before now edges
    → (old new : HierarchyValue) (edits : List Edit) → IsHierarchy old → IsResettledAll old edits new → Knows old before → NumbersTouchedBySome old edits edges → Knows new now
forgotten_knows before now edges forgets old new edits sound is knows touched edge dir function at =
    known_still old new edits sound is edge dir function
    (λ one. forgets.gone edge dir function ((touched.exact edge).1 one) at)
    (knows edge dir function (forgets.kept (list_number edge dir) function at))
