-- Each call of a sweep is over a sweep arc of its own.
use Rattle.std.proofs.Common.{◌≡◌, ◌≢◌, ◌<◌, ◌+◌, ◌∙◌, ℕ, Bool, true, false, if◌then◌else◌, List, [], ◌∷◌, Option, Some, None, refl, sym, ap, subst, arith, inl, inr, reverse}
use Rattle.std.specs.Prelude.{All, slice_get}
use Rattle.std.specs.List.{AllPairs, Contains, filter_map, flat_map, range_with_len}
use Rattle.std.proofs.lemmas.List.Elements.{All-append, All-cons, All-contains, All-nil}
use Rattle.std.proofs.lemmas.Option.{same_Some, slice_get_within}
use Rattle.std.proofs.lemmas.List.Kept.{AllPairs-cons}
use Rattle.cu_chordal.specs.declared.graph.Ends.{Ends}
use Rattle.cu_chordal.specs.Graphs.{up_of}
use Rattle.cu_chordal.proofs.Members.{all_from_members, here, member_cases, none_in_nil, pairs_append, pairs_head, pairs_tail, there}
use Rattle.cu_chordal.proofs.Tables.{edge_from_up_of, up_rising}
use Rattle.cu_elimtree.specs.SweepArcs.{ancestors_in}
use Rattle.cu_interval.specs.declared.ways.Dir.{Dir}
use Rattle.cu_interval.specs.declared.ways.Dir.TheVariants.{Up, Down}
use Rattle.cu_interval.specs.declared.relaxing.Call.{Call}
use Rattle.cu_interval.specs.Hierarchies.{HierarchyValue, IsHierarchy, graph_of, number_from}
use Rattle.cu_interval.specs.LeastBounds.{least_bound}
use Rattle.cu_interval.proofs.Lookups.{number_found}
use Rattle.cu_sweep.specs.ArcsOnce.{IsArcCall, IsEdgeCall, IsOnceEach, TakesArcsOnce, TakesEdgesOnce}
use Rattle.cu_sweep.specs.Labels.{call_from, down_label, up_label}
use Rattle.cu_sweep.specs.Sweeps.{below, call_at, call_unless, down_calls, down_label_from, is_by, second_of, up_calls, up_label_from}
use Rattle.cu_sweep.specs.ToAll.{down_calls_to_all}
use Rattle.cu_sweep.proofs.AllRanks.{all_rise}
use Rattle.cu_sweep.proofs.Ancestry.{ancestors_rising}
use Rattle.cu_sweep.proofs.Behind.{reverse_first, turned_back}

-- what is kept of a list, and what is made of it rank by rank
kept_one : (P : Call → Type 0) (f : ℕ → Option Call) (x : ℕ) (xs : List ℕ) (o : Option Call) → f x ≡ o → ((call : Call) → o ≡ Some call → P call) → All P (filter_map f xs)
    → All P (filter_map f (x ∷ xs))
kept_one P f x xs None e one rest = rw e rest
kept_one P f x xs (Some call) e one rest = rw e (All-cons P call (filter_map f xs) (one call refl) rest)

kept_all : (P : Call → Type 0) (f : ℕ → Option Call) (xs : List ℕ) → ((x : ℕ) (call : Call) → Contains xs x → f x ≡ Some call → P call)
    → All P (filter_map f xs)
kept_all P f [] each = All-nil P
kept_all P f (x ∷ xs) each =
    kept_one P f x xs (f x) refl (λ call e. each x call (here x xs) e) (kept_all P f xs (λ y call c e. each y call (there x xs y c) e))

pairs_one : (R : Call → Call → Type 0) (f : ℕ → Option Call) (x : ℕ) (xs : List ℕ) (o : Option Call) → f x ≡ o → ((call : Call) → o ≡ Some call → All (R call) (filter_map f xs))
    → AllPairs R (filter_map f xs) → AllPairs R (filter_map f (x ∷ xs))
pairs_one R f x xs None e one rest = rw e rest
pairs_one R f x xs (Some call) e one rest = rw e (AllPairs-cons R call (filter_map f xs) (one call refl) rest)

kept_pairs : (R : Call → Call → Type 0) (f : ℕ → Option Call) (xs : List ℕ) → AllPairs (λ x y. x < y) xs
    → ((x y : ℕ) (a b : Call) → x < y → f x ≡ Some a → f y ≡ Some b → R a b) → AllPairs R (filter_map f xs)
kept_pairs R f [] rise each = λ i j d lt within. absurd (omega (arith, within))
kept_pairs R f (x ∷ xs) rise each =
    pairs_one R f x xs (f x) refl
    (λ call e. kept_all (R call) f xs (λ y other c is. each x y call other (All-contains (λ b. x < b) xs y (pairs_head (λ a b. a < b) x xs rise) c) e is))
    (kept_pairs R f xs (pairs_tail (λ a b. a < b) x xs rise) each)

joined_all : (P : Call → Type 0) (f : ℕ → List Call) (xs : List ℕ) → ((x : ℕ) → Contains xs x → All P (f x)) → All P (flat_map f xs)
joined_all P f [] each = All-nil P
joined_all P f (x ∷ xs) each =
    All-append P (f x) (flat_map f xs) (each x (here x xs)) (joined_all P f xs (λ y c. each y (there x xs y c)))

joined_pairs : (R : Call → Call → Type 0) (f : ℕ → List Call) (xs : List ℕ) → AllPairs (λ x y. x ≢ y) xs → ((x : ℕ) → AllPairs R (f x))
    → ((x y : ℕ) (a b : Call) → x ≢ y → Contains (f x) a → Contains (f y) b → R a b) → AllPairs R (flat_map f xs)
joined_pairs R f [] apart rows each = λ i j d lt within. absurd (omega (arith, within))
joined_pairs R f (x ∷ xs) apart rows each =
    let rest = joined_pairs R f xs (pairs_tail (λ a b. a ≢ b) x xs apart) rows each in
    pairs_append R (f x) (flat_map f xs) (rows x) rest
    (λ a b first later.
    let all = joined_all (R a) f xs (λ y c. all_from_members (R a) (f y)
    (λ other there_. each x y a other (All-contains (λ z. x ≢ z) xs y (pairs_head (λ p q. p ≢ q) x xs apart) c) first there_)) in
    All-contains (R a) (flat_map f xs) b all later)

-- a call over the edge of two ranks
record IsOver (h : HierarchyValue) (dir : Dir) (low high : ℕ) (call : Call) : Type 0 where
  at : slice_get h.edges call.edge ≡ Some (record { low = low; high = high })
  along : call.dir ≡ dir

-- a call that isn't left out is the call itself
kept_call : (left_out : Bool) (first call : Call) → (if left_out then None else Some first) ≡ Some call → first ≡ call
kept_call true first call e = absurd (cc e)
kept_call false first call e = cc e

module _ (h : HierarchyValue) (f : IsHierarchy h) (dir : Dir) where
  over_edge : (x y : ℕ) (n second reached : Option ℕ) (call : Call) → number_from 0 h.edges x y ≡ n → call_unless h reached (call_at n dir second) ≡ Some call
      → IsOver h dir x y call
  over_edge x y None second reached call number e = absurd (cc e)
  over_edge x y (Some edge) None reached call number e = absurd (cc e)
  over_edge x y (Some edge) (Some at) reached call number e =
      let (k, is, there_) = number_found 0 h.edges x y edge number in
      let same : call_from edge dir at ≡ call = kept_call (is_by reached (at + least_bound h edge dir)) (call_from edge dir at) call e in
      let edge_is : k ≡ call.edge = let first : call.edge ≡ edge = subst (λ (c : Call). c.edge ≡ edge) same refl in omega (arith, first, is) in
      record {
        at = subst (λ (i : ℕ). slice_get h.edges i ≡ Some (record { low = x; high = y })) edge_is there_;
        along = subst (λ (c : Call). c.dir ≡ dir) same refl;
      }

  -- calls over edges with other ends are over other edges
  edges_apart : (x y u v : ℕ) (a b : Call) → IsOver h dir x y a → IsOver h dir u v b → (x ≡ u → y ≢ v) → a.edge ≢ b.edge
  edges_apart x y u v a b first later other same =
      let p = first.at in
      let q = later.at in
      let there_ : slice_get h.edges a.edge ≡ Some (record { low = u; high = v }) = subst (λ (i : ℕ). slice_get h.edges i ≡ Some (record { low = u; high = v })) (sym same) q in
      let ends : record { low = x; high = y } ≡ record { low = u; high = v } = same_Some (record { low = x; high = y }) (record { low = u; high = v }) (sym p ∙ there_) in
      other (ap (λ (e : Ends). e.low) ends) (ap (λ (e : Ends). e.high) ends)

  module _ (seconds reached : ℕ → ℕ → Option ℕ) where
    abbrev call_over : ℕ → ℕ → Option Call
    call_over x y = call_unless h (reached x y) (call_at (number_from 0 h.edges x y) dir (seconds x y))

    abbrev row : ℕ → List Call
    row x = filter_map (call_over x) (up_of h.edges x)

    row_over : (x : ℕ) → All (λ (call : Call). (y : ℕ) × Contains (up_of h.edges x) y × IsOver h dir x y call) (row x)
    row_over x =
        kept_all (λ (call : Call). (y : ℕ) × Contains (up_of h.edges x) y × IsOver h dir x y call) (call_over x) (up_of h.edges x)
        (λ y call c e. (y, c, over_edge x y (number_from 0 h.edges x y) (seconds x y) (reached x y) call refl e))

    row_once : (x : ℕ) → AllPairs (λ (a b : Call). a.edge ≢ b.edge) (row x)
    row_once x =
        kept_pairs (λ (a b : Call). a.edge ≢ b.edge) (call_over x) (up_of h.edges x)
        (up_rising h.edges x f.graph.rising)
        (λ y z a b lt e is.
        edges_apart x y x z a b (over_edge x y (number_from 0 h.edges x y) (seconds x y) (reached x y) a refl e)
        (over_edge x z (number_from 0 h.edges x z) (seconds x z) (reached x z) b refl is)
        (λ _ same. absurd (omega (arith, lt, same))))

    -- no two calls of ranks that differ are over the same edge
    rows_apart : (xs : List ℕ) → AllPairs (λ x y. x ≢ y) xs → IsOnceEach (flat_map row xs)
    rows_apart xs apart =
        joined_pairs (λ (a b : Call). a.edge ≢ b.edge) row xs apart row_once
        (λ x z a b ne first later.
        let (y, up, over) = All-contains (λ (call : Call). (y : ℕ) × Contains (up_of h.edges x) y × IsOver h dir x y call) (row x) a (row_over x) first in
        let (v, down, under) = All-contains (λ (call : Call). (y : ℕ) × Contains (up_of h.edges z) y × IsOver h dir z y call) (row z) b (row_over z) later in
        edges_apart x y z v a b over under (λ same _. ne same))

    -- and all of them are over edges that are there
    rows_edges : (xs : List ℕ) → AllPairs (λ x y. x ≢ y) xs → TakesEdgesOnce h dir (flat_map row xs)
    rows_edges xs apart = record {
      edges = joined_all (IsEdgeCall h dir) row xs (λ x c. all_from_members (IsEdgeCall h dir) (row x) (λ call there_.
          let (y, up, over) = All-contains (λ (call : Call). (y : ℕ) × Contains (up_of h.edges x) y × IsOver h dir x y call) (row x) call (row_over x) there_ in
          (slice_get_within h.edges call.edge (record { low = x; high = y }) over.at, over.along)));
      once = rows_apart xs apart;
    }

    -- and over sweep arcs, where all ranks are ancestors of one
    rows_once : (rank : ℕ) (xs : List ℕ) → AllPairs (λ x y. x ≢ y) xs → ((x : ℕ) → Contains xs x → Contains (ancestors_in (graph_of h) rank) x)
        → TakesArcsOnce h rank dir (flat_map row xs)
    rows_once rank xs apart above = record {
      arcs = joined_all (IsArcCall h rank dir) row xs (λ x c. all_from_members (IsArcCall h rank dir) (row x) (λ call there_.
          let (y, up, over) = All-contains (λ (call : Call). (y : ℕ) × Contains (up_of h.edges x) y × IsOver h dir x y call) (row x) call (row_over x) there_ in
          record {
            ends = record { low = x; high = y };
            at = over.at;
            along = over.along;
            arc = (above x c, edge_from_up_of h.edges x y up);
          }));
      once = rows_apart xs apart;
    }

pub rise_apart : (xs : List ℕ) → AllPairs (λ x y. x < y) xs → AllPairs (λ x y. x ≢ y) xs
rise_apart xs rise i j d lt within same = let less = rise i j d lt within in omega (arith, less, same)

pub turned_apart : (xs : List ℕ) → AllPairs (λ x y. x ≢ y) xs → AllPairs (λ x y. x ≢ y) (reverse xs)
turned_apart [] apart = apart
turned_apart (x ∷ xs) apart =
    let R : ℕ → ℕ → Type 0 = λ a b. a ≢ b in
    let one : AllPairs R (x ∷ []) = AllPairs-cons R x [] (All-nil (R x)) (λ i j d lt within. absurd (omega (arith, within))) in
    let joined = pairs_append R (reverse xs) (x ∷ []) (turned_apart xs (pairs_tail R x xs apart)) one
    (λ y z before last same.
    let other = All-contains (R x) xs y (pairs_head R x xs apart) (turned_back xs y before) in
    elim (member_cases x [] z last) [
      | inl is ↦ other (is ∙ sym same)
      | inr none ↦ none_in_nil z none
    ]) in
    subst (AllPairs R) (sym (reverse_first x xs)) joined

pub ancestors_apart : (h : HierarchyValue) → IsHierarchy h → (rank : ℕ) → AllPairs (λ x y. x ≢ y) (ancestors_in (graph_of h) rank)
ancestors_apart h f rank = rise_apart (ancestors_in (graph_of h) rank) (ancestors_rising (graph_of h) f.graph rank)

pub up_once : (h : HierarchyValue) (from second : ℕ) → IsHierarchy h → TakesArcsOnce h from Up (up_calls h from second)
up_once h from second f =
    let ancestors = ancestors_in (graph_of h) from in
    rows_once h f Up (λ x y. second_of (up_label h from second x)) (λ x y. second_of (up_label_from h from second (below x ancestors) y)) from ancestors
    (ancestors_apart h f from) (λ x c. c)

pub down_once : (h : HierarchyValue) (from to second : ℕ) → IsHierarchy h → TakesArcsOnce h to Down (down_calls h from to second)
down_once h from to second f =
    let ancestors = ancestors_in (graph_of h) to in
    rows_once h f Down (λ x y. second_of (down_label h from second y)) (λ x y. second_of (down_label_from h from second (below y (up_of h.edges x)) x)) to
    (reverse ancestors) (turned_apart ancestors (ancestors_apart h f to))
    (λ x c. turned_back ancestors x c)

pub all_once : (h : HierarchyValue) (from second : ℕ) → IsHierarchy h → TakesEdgesOnce h Down (down_calls_to_all h from second)
all_once h from second f =
    let ranks = range_with_len 0 h.network.nodes in
    rows_edges h f Down (λ x y. second_of (down_label h from second y)) (λ x y. second_of (down_label_from h from second (below y (up_of h.edges x)) x))
    (reverse ranks) (turned_apart ranks (rise_apart ranks (all_rise h.network.nodes)))
