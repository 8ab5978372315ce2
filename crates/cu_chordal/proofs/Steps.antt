-- The closure grows by one rank.
use Rattle.std.proofs.Common.{◌≡◌, ◌≢◌, ◌≤◌, ◌<◌, ◌+◌, ◌-◌, ℕ, List, [], ◌∷◌, ◌++◌, Option, Some, None, length, get_or, set, take, drop, replicate, refl, sym, ◌∙◌, ap, subst, arith, inl, inr}
use Rattle.std.specs.Prelude.{All, slice_get, slice_range, slice_index_or}
use Rattle.std.specs.List.{Contains, AllPairs}
use Rattle.std.proofs.lemmas.Bool.{cases_eq}
use Rattle.std.proofs.lemmas.List.{append-nil, length_push, get_or_push, get_or_append_left, length-append, take-append-le, drop_at, take_all, length-set, get_or-set_same}
use Rattle.std.proofs.lemmas.List.{get_or-set_other, length-replicate}
use Rattle.std.proofs.lemmas.List.Elements.{All-append, All-weaker}
use Rattle.std.proofs.lemmas.Option.{none-some, same_Some, slice_get_within, slice_get-get_or, get_or_from_slice_get}
use Rattle.std.proofs.lemmas.Slice.{between_is}
use Rattle.cu_chordal.specs.declared.graph.Ends.{Ends}
use Rattle.cu_chordal.specs.declared.closure.Children.{Children}
use Rattle.cu_chordal.specs.declared.table.EdgeTable.{EdgeTable}
use Rattle.cu_chordal.specs.Graphs.{first_edge_of, parent_of, up_of}
use Rattle.cu_chordal.specs.Steps.Closing.{Appends, AreChildren, AreClosed, HandsOn, IsLatestChild}
use Rattle.cu_chordal.specs.Lists.{edges_to}
use Rattle.cu_chordal.specs.Steps.Flat.{IsTable, edges_in, paired}
use Rattle.cu_chordal.proofs.Members.{member_at}
use Rattle.cu_chordal.specs.declared.graph.TheConstants.{MAX_EDGES}
use Rattle.cu_chordal.proofs.Tables.{paired_append, length_paired, up_append, up_edges_to, up_other, up_none, first_append, first_all, first_none, lows_of_edges_to, rising_append, length_edges_to}

-- all lower ends are below the rank
lows_below : (edges : List Ends) (ranks rank : ℕ) → AreClosed edges ranks rank → All (λ (e : Ends). e.low < rank) edges
lows_below edges ranks rank f = All-weaker (λ (e : Ends). (e.low < rank) × (e.low < e.high) × (e.high < ranks)) (λ (e : Ends). e.low < rank) (λ e h. h.0) edges f.in_range

-- a rank's edges stand where they were added; those of the ranks below stay
pub up_before : (edges : List Ends) (rank k : ℕ) (part : List ℕ) → k < rank → up_of (edges ++ edges_to rank part) k ≡ up_of edges k
up_before edges rank k part lt = up_append edges (edges_to rank part) k ∙ ap (λ xs. up_of edges k ++ xs) (up_other rank k part (λ e. omega (arith, e, lt))) ∙ append-nil (up_of edges k)

pub up_at : (edges : List Ends) (ranks rank : ℕ) (part : List ℕ) → AreClosed edges ranks rank → up_of (edges ++ edges_to rank part) rank ≡ part
up_at edges ranks rank part f =
    up_append edges (edges_to rank part) rank ∙ ap (λ xs. xs ++ up_of (edges_to rank part) rank) (up_none edges rank (lows_below edges ranks rank f)) ∙ up_edges_to rank part

-- a part of a list stays when more is added behind
part_stays : (xs ys : List ℕ) (from to : ℕ) → to ≤ length xs → slice_range (xs ++ ys) from to ≡ slice_range xs from to
part_stays xs ys from to le = between_is (xs ++ ys) from to ∙ ap (drop from) (take-append-le to xs ys le) ∙ sym (between_is xs from to)

-- and what was added is the last part
part_added : (xs ys : List ℕ) (n m : ℕ) → n ≡ length xs → m ≡ length xs + length ys → slice_range (xs ++ ys) n m ≡ ys
part_added xs ys n m first last =
    let cut : drop n (xs ++ ys) ≡ ys = drop_at xs ys n (sym first) in
    let count : m - n ≡ length ys = omega (arith, first, last) in
    ap (take (m - n)) cut ∙ ap (λ k. take k ys) count ∙ take_all (length ys) ys (omega arith)

-- the table with one more rank
pub table_more : (ranks rank : ℕ) (table table_new : EdgeTable) (part : List ℕ) → IsTable rank table → AreClosed (edges_in table) ranks rank → Appends rank part table table_new
    → IsTable (rank + 1) table_new × (edges_in table_new ≡ edges_in table ++ edges_to rank part)
table_more ranks rank table table_new part f g appended =
    let edges : List Ends = edges_in table in
    let lows : List ℕ = table.lows.items in
    let starts : List ℕ = table.starts.items in
    let highs : List ℕ = table.highs.items in
    let lows_new : List ℕ = table_new.lows.items in
    let starts_new : List ℕ = table_new.starts.items in
    let highs_new : List ℕ = table_new.highs.items in
    let lows_is : lows_new ≡ lows ++ replicate (length part) rank = appended.lows in
    let highs_is : highs_new ≡ highs ++ part = appended.highs in
    let starts_is : starts_new ≡ starts ++ ((length lows + length part) ∷ []) = appended.starts in
    let same : paired lows_new highs_new ≡ edges ++ edges_to rank part = ap (λ xs. paired xs highs_new) lows_is
    ∙ ap (paired (lows ++ replicate (length part) rank)) highs_is ∙ paired_append lows highs rank part f.pairs in
    let low : All (λ (e : Ends). e.low < rank) edges = lows_below edges ranks rank g in
    let edges_long : length edges ≡ length lows = length_paired lows highs f.pairs in
    let lows_long : length lows_new ≡ length lows + length part = ap length lows_is ∙ length-append lows (replicate (length part) rank)
    ∙ ap (λ n. length lows + n) (length-replicate (length part) rank) in
    let highs_long : length highs_new ≡ length highs + length part = ap length highs_is ∙ length-append highs part in
    let starts_long : length starts_new ≡ rank + 2 = ap length starts_is ∙ length_push starts (length lows + length part) ∙ omega (arith, f.groups.long) in
    let start_before : (k : ℕ) → k ≤ rank → get_or starts_new k 0 ≡ get_or starts k 0 =
    λ k le. ap (λ xs. get_or xs k 0) starts_is ∙ get_or_append_left starts ((length lows + length part) ∷ []) 0 k (omega (arith, le, f.groups.long)) in
    let start_last : get_or starts_new (rank + 1) 0 ≡ length lows + length part = ap (λ xs. get_or xs (rank + 1) 0) starts_is
    ∙ get_or_push starts (length lows + length part) 0 (rank + 1) f.groups.long in
    let start_here : get_or starts rank 0 ≡ length lows = f.first rank (omega arith) ∙ first_all edges rank low ∙ edges_long in (
      record {
        pairs = omega (arith, lows_long, highs_long, f.pairs);
        first = λ k le.
            elim (cases_eq k (rank + 1)) [
              | inl last ↦
                  let all : All (λ (e : Ends). e.low < rank + 1) (edges ++ edges_to rank part) =
                  All-append (λ (e : Ends). e.low < rank + 1) edges (edges_to rank part) (All-weaker (λ (e : Ends). e.low < rank) (λ (e : Ends). e.low < rank + 1) (λ e h. omega (arith, h)) edges low)
                  (lows_of_edges_to rank part (λ (e : Ends). e.low < rank + 1) (λ y c. omega arith)) in
                  let count = first_all (edges ++ edges_to rank part) (rank + 1) all in
                  let long = length-append edges (edges_to rank part) in
                  let more = length_edges_to rank part in
                  subst (λ j. get_or starts_new j 0 ≡ first_edge_of (paired lows_new highs_new) j) (sym last)
                  (subst (λ es. get_or starts_new (rank + 1) 0 ≡ first_edge_of es (rank + 1)) (sym same) (omega (arith, start_last, count, long, more, edges_long)))
              | inr other ↦
                  let le_rank : k ≤ rank = omega (arith, le, other) in
                  let none = first_none (edges_to rank part) k (lows_of_edges_to rank part (λ (e : Ends). k ≤ e.low) (λ y c. le_rank)) in
                  let split = first_append edges (edges_to rank part) k in
                  subst (λ es. get_or starts_new k 0 ≡ first_edge_of es k) (sym same) (omega (arith, start_before k le_rank, f.first k le_rank, none, split))
            ];
        groups = record {
          long = starts_long ∙ omega arith;
          rising = λ k lt.
              elim (cases_eq k rank) [
                | inl last ↦ subst (λ j. get_or starts_new j 0 ≤ get_or starts_new (j + 1) 0) (sym last) (omega (arith, start_before rank (omega arith), start_here, start_last))
                | inr other ↦ omega (arith, start_before k (omega (arith, lt)), start_before (k + 1) (omega (arith, lt, other)), f.groups.rising k (omega (arith, lt, other)))
              ];
          within = λ k le.
              elim (cases_eq k (rank + 1)) [
                | inl last ↦ subst (λ j. get_or starts_new j 0 ≤ length highs_new) (sym last) (omega (arith, start_last, highs_long, f.pairs))
                | inr other ↦ omega (arith, start_before k (omega (arith, le, other)), f.groups.within k (omega (arith, le, other)), highs_long)
              ];
          part = λ k lt.
              elim (cases_eq k rank) [
                | inl last ↦
                    let here_part : slice_range highs_new (get_or starts_new rank 0) (get_or starts_new (rank + 1) 0) ≡ part =
                    ap (λ xs. slice_range xs (get_or starts_new rank 0) (get_or starts_new (rank + 1) 0)) highs_is
                    ∙ part_added highs part (get_or starts_new rank 0) (get_or starts_new (rank + 1) 0)
                    (start_before rank (omega arith) ∙ start_here ∙ f.pairs) (start_last ∙ ap (λ n. n + length part) f.pairs) in
                    subst (λ j. slice_range highs_new (get_or starts_new j 0) (get_or starts_new (j + 1) 0) ≡ up_of (paired lows_new highs_new) j) (sym last)
                    (here_part ∙ sym (up_at edges ranks rank part g) ∙ ap (λ es. up_of es rank) (sym same))
                | inr other ↦
                    let below : k < rank = omega (arith, lt, other) in
                    let end : get_or starts_new (k + 1) 0 ≡ get_or starts (k + 1) 0 = start_before (k + 1) (omega (arith, below)) in
                    ap (λ xs. slice_range xs (get_or starts_new k 0) (get_or starts_new (k + 1) 0)) highs_is
                    ∙ ap (λ n. slice_range (highs ++ part) n (get_or starts_new (k + 1) 0)) (start_before k (omega (arith, below)))
                    ∙ ap (slice_range (highs ++ part) (get_or starts k 0)) end
                    ∙ part_stays highs part (get_or starts k 0) (get_or starts (k + 1) 0) (f.groups.within (k + 1) (omega (arith, below)))
                    ∙ f.groups.part k below ∙ sym (up_before edges rank k part below) ∙ ap (λ es. up_of es k) (sym same)
              ];
        };
      },
      same,
    )

-- what the closure keeps of its edges
pub closed_more : (edges : List Ends) (ranks rank : ℕ) (part : List ℕ) → AreClosed edges ranks rank → AllPairs (λ x y. x < y) part
    → ((y : ℕ) → Contains part y → (rank < y) × (y < ranks)) → length edges + length part ≤ MAX_EDGES
    → AreClosed (edges ++ edges_to rank part) ranks (rank + 1)
closed_more edges ranks rank part f rising range few =
    let long = length-append edges (edges_to rank part) in
    let more = length_edges_to rank part in
    record {
      few = omega (arith, long, more, few);
      rising = rising_append edges rank part f.rising (lows_below edges ranks rank f) rising;
      in_range = All-append (λ (e : Ends). (e.low < rank + 1) × (e.low < e.high) × (e.high < ranks)) edges (edges_to rank part)
          (All-weaker (λ (e : Ends). (e.low < rank) × (e.low < e.high) × (e.high < ranks))
          (λ (e : Ends). (e.low < rank + 1) × (e.low < e.high) × (e.high < ranks)) (λ e h. (omega (arith, h.0), h.1, h.2)) edges f.in_range)
          (lows_of_edges_to rank part (λ (e : Ends). (e.low < rank + 1) × (e.low < e.high) × (e.high < ranks)) (λ y c. let r = range y c in (omega arith, r.0, r.1)));
    }

-- the parents of the ranks below stay, and the rank's is the first of its part
parent_before : (edges : List Ends) (rank k : ℕ) (part : List ℕ) → k < rank → parent_of (edges ++ edges_to rank part) k ≡ parent_of edges k
parent_before edges rank k part lt = ap (λ xs. slice_get xs 0) (up_before edges rank k part lt)

latest_stays : (edges : List Ends) (rank parent bound : ℕ) (part : List ℕ) (o : Option ℕ) → bound ≤ rank → IsLatestChild edges parent bound o
    → IsLatestChild (edges ++ edges_to rank part) parent bound o
latest_stays edges rank parent bound part None le f = λ k lt e. f k lt (sym (parent_before edges rank k part (omega (arith, lt, le))) ∙ e)
latest_stays edges rank parent bound part (Some child) le f =
    (f.0, parent_before edges rank child part (omega (arith, f.0, le)) ∙ f.1, λ k above lt e. f.2 k above lt (sym (parent_before edges rank k part (omega (arith, lt, le))) ∙ e))

-- a rank that is no child leaves the latest child of a parent as it was
latest_skips : (edges : List Ends) (parent rank : ℕ) (o : Option ℕ) → (parent_of edges rank ≡ Some parent → ⊥) → IsLatestChild edges parent rank o → IsLatestChild edges parent (rank + 1) o
latest_skips edges parent rank None off f = λ k lt e.
    elim (cases_eq k rank) [
      | inl same ↦ off (ap (parent_of edges) (sym same) ∙ e)
      | inr other ↦ f k (omega (arith, lt, other)) e
    ]
latest_skips edges parent rank (Some child) off f = (
  omega (arith, f.0),
  f.1,
  λ k above lt e.
      elim (cases_eq k rank) [
        | inl same ↦ off (ap (parent_of edges) (sym same) ∙ e)
        | inr other ↦ f.2 k above (omega (arith, lt, other)) e
      ],
)

set_read_same : (xs : List (Option ℕ)) (i : ℕ) (x o : Option ℕ) → slice_get (set xs i x) i ≡ Some o → o ≡ x
set_read_same xs i x o e =
    let within : i < length (set xs i x) = slice_get_within (set xs i x) i o e in
    let read = get_or_from_slice_get (set xs i x) i o None e in
    sym read ∙ get_or-set_same xs i x None (omega (arith, within, length-set xs i x))

set_read_other : (xs : List (Option ℕ)) (i j : ℕ) (x o : Option ℕ) → j ≢ i → slice_get (set xs i x) j ≡ Some o → slice_get xs j ≡ Some o
set_read_other xs i j x o other e =
    let within : j < length (set xs i x) = slice_get_within (set xs i x) j o e in
    let read = get_or_from_slice_get (set xs i x) j o None e in
    slice_get-get_or xs j None (omega (arith, within, length-set xs i x)) ∙ ap Some (sym (get_or-set_other xs i j x None other) ∙ read)

-- the children with one more rank
children_step : (edges : List Ends) (ranks rank : ℕ) (part : List ℕ) (o : Option ℕ) (children children_new : Children) → rank < ranks
    → ((first : ℕ) → o ≡ Some first → (rank ≤ first) × (first < ranks)) → parent_of (edges ++ edges_to rank part) rank ≡ o
    → AreChildren edges ranks rank children → HandsOn rank o children children_new
    → AreChildren (edges ++ edges_to rank part) ranks (rank + 1) children_new
children_step edges ranks rank part None children children_new below range own f h = record {
  latest_long = ap length h.0 ∙ f.latest_long;
  before_long = ap length h.1 ∙ f.before_long;
  begin = λ parent o le e.
      let old : slice_get children.latest.items parent ≡ Some o = ap (λ xs. slice_get xs parent) (sym h.0) ∙ e in
      latest_skips (edges ++ edges_to rank part) parent rank o (λ p. none-some parent (sym own ∙ p))
      (latest_stays edges rank parent rank part o (omega arith) (f.begin parent o (omega (arith, le)) old));
  onward = λ k parent o lt p e.
      let old : slice_get children.before.items k ≡ Some o = ap (λ xs. slice_get xs k) (sym h.1) ∙ e in
      elim (cases_eq k rank) [
        | inl same ↦ absurd (none-some parent (sym own ∙ ap (parent_of (edges ++ edges_to rank part)) (sym same) ∙ p))
        | inr other ↦
            let less : k < rank = omega (arith, lt, other) in
            latest_stays edges rank parent k part o (omega (arith, less)) (f.onward k parent o less (sym (parent_before edges rank k part less) ∙ p) old)
      ];
}
children_step edges ranks rank part (Some first) children children_new below range own f h = record {
  latest_long = ap length h.0 ∙ length-set children.latest.items first (Some rank) ∙ f.latest_long;
  before_long = ap length h.1 ∙ length-set children.before.items rank _ ∙ f.before_long;
  begin = λ parent o le e.
      let now : slice_get (set children.latest.items first (Some rank)) parent ≡ Some o = ap (λ xs. slice_get xs parent) (sym h.0) ∙ e in
      elim (cases_eq parent first) [
        | inl same ↦
            let found : o ≡ Some rank = set_read_same children.latest.items first (Some rank) o (subst (λ j. slice_get (set children.latest.items first (Some rank)) j ≡ Some o) same now) in
            subst (IsLatestChild (edges ++ edges_to rank part) parent (rank + 1)) (sym found)
            (omega arith, own ∙ ap Some (sym same), λ k above lt. absurd (omega (arith, above, lt)))
        | inr other ↦
            let old : slice_get children.latest.items parent ≡ Some o = set_read_other children.latest.items first parent (Some rank) o other now in
            latest_skips (edges ++ edges_to rank part) parent rank o (λ p. other (sym (same_Some first parent (sym own ∙ p))))
            (latest_stays edges rank parent rank part o (omega arith) (f.begin parent o (omega (arith, le)) old))
      ];
  onward = λ k parent o lt p e.
      let now : slice_get (set children.before.items rank (slice_index_or children.latest.items first None)) k ≡ Some o = ap (λ xs. slice_get xs k) (sym h.1) ∙ e in
      elim (cases_eq k rank) [
        | inl same ↦
            let at_parent : parent ≡ first = same_Some parent first (sym p ∙ ap (parent_of (edges ++ edges_to rank part)) same ∙ own) in
            let found : o ≡ slice_index_or children.latest.items first None =
            set_read_same children.before.items rank (slice_index_or children.latest.items first None) o
            (subst (λ j. slice_get (set children.before.items rank (slice_index_or children.latest.items first None)) j ≡ Some o) same now) in
            let latest_read : slice_get children.latest.items first ≡ Some o =
            slice_get-get_or children.latest.items first None (omega (arith, (range first refl).1, f.latest_long)) ∙ ap Some (sym found) in
            let was : IsLatestChild edges first rank o = f.begin first o (range first refl).0 latest_read in
            subst (λ j. IsLatestChild (edges ++ edges_to rank part) parent j o) (sym same)
            (subst (λ j. IsLatestChild (edges ++ edges_to rank part) j rank o) (sym at_parent) (latest_stays edges rank first rank part o (omega arith) was))
        | inr other ↦
            let less : k < rank = omega (arith, lt, other) in
            let old : slice_get children.before.items k ≡ Some o = set_read_other children.before.items rank k _ o other now in
            latest_stays edges rank parent k part o (omega (arith, less)) (f.onward k parent o less (sym (parent_before edges rank k part less) ∙ p) old)
      ];
}

pub children_more : (edges : List Ends) (ranks rank : ℕ) (part : List ℕ) (children children_new : Children) → rank < ranks
    → ((y : ℕ) → Contains part y → (rank < y) × (y < ranks)) → AreClosed edges ranks rank
    → AreChildren edges ranks rank children → HandsOn rank (slice_get part 0) children children_new
    → AreChildren (edges ++ edges_to rank part) ranks (rank + 1) children_new
children_more edges ranks rank part children children_new below range g f h =
    children_step edges ranks rank part (slice_get part 0) children children_new below
    (λ first e. let r = range first (member_at part first 0 e) in (omega (arith, r.0), r.1)) (ap (λ xs. slice_get xs 0) (up_at edges ranks rank part g)) f h
