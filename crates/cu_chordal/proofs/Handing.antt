-- Each rank hands its higher neighbours to its parent.
use Rattle.std.proofs.Common.{◌≡◌, ◌≢◌, ◌≤◌, ◌<◌, ◌+◌, ◌-◌, ℕ, suc, List, [], Option, Some, None, Result, Err, length, get_or, set, refl, sym, ◌∙◌, ap, subst, arith, inl, inr}
use Rattle.std.specs.Prelude.{All}
use Rattle.std.specs.List.{Contains}
use Rattle.std.specs.Result.{IsErrAnd}
use Rattle.std.proofs.lemmas.Result.{err_from_is_err_and}
use Rattle.std.proofs.lemmas.Bool.{cases_eq, cases_lt}
use Rattle.std.proofs.lemmas.List.{get_or-set_same, get_or-set_other, get_or_past}
use Rattle.std.proofs.lemmas.List.Elements.{All-set, All-weaker}
use Rattle.std.proofs.lemmas.Option.{slice_get_read}
use Rattle.cu_chordal.specs.declared.graph.Ends.{Ends}
use Rattle.cu_chordal.specs.declared.closure.Children.{Children}
use Rattle.cu_chordal.specs.declared.table.EdgeTable.{EdgeTable}
use Rattle.cu_chordal.specs.Graphs.{parent_of, up_of}
use Rattle.cu_chordal.specs.Steps.Closing.{AreChildren, AreClosed, AreStamped, Gathers, HasMoreThan, IsBefore, IsCrowded, IsGathered, IsLatestChild, IsSource, ListsSources}
use Rattle.cu_chordal.specs.Steps.Flat.{IsTable, edges_in}
use Rattle.cu_chordal.proofs.Members.{none_in_nil, all_from_members}
use Rattle.cu_chordal.specs.declared.graph.TheConstants.{MAX_EDGES}
use Rattle.cu_chordal.proofs.Tables.{edge_from_up_of, length_paired}

-- with its own stamp alone
pub stamped_none : (rank : ℕ) (stamps : List ℕ) → rank < length stamps → All (λ stamp. stamp ≤ rank) stamps → AreStamped rank (set stamps rank (rank + 1)) []
stamped_none rank stamps below low = record {
  itself = get_or-set_same stamps rank (rank + 1) 0 below;
  stamped = λ y c. absurd (none_in_nil y c);
  known = λ y e.
      elim (cases_eq y rank) [
        | inl own ↦ inl own
        | inr other ↦
            let read : get_or stamps y 0 ≡ rank + 1 = sym (get_or-set_other stamps rank y (rank + 1) 0 other) ∙ e in
            elim (cases_lt y (length stamps)) [
              | inl inside ↦ let most = low y 0 inside in absurd (omega (arith, read, most))
              | inr past ↦ let none = get_or_past stamps y 0 past in absurd (omega (arith, read, none))
            ]
      ];
  apart = λ c. none_in_nil rank c;
  once = λ i j d lt h. absurd (omega (arith, h));
  low = All-set (λ stamp. stamp ≤ rank + 1) stamps rank (rank + 1) (omega arith) (All-weaker (λ stamp. stamp ≤ rank) (λ stamp. stamp ≤ rank + 1) (λ s h. omega (arith, h)) stamps low);
}

pub more_weaker : (room : ℕ) (P Q : ℕ → Type 0) → ((y : ℕ) → P y → Q y) → HasMoreThan room P → HasMoreThan room Q
more_weaker room P Q f h = (h.0, h.1, h.2, λ y c. f y (h.3 y c))

pub latest_size : Option ℕ → ℕ
latest_size None = 0
latest_size (Some k) = suc k

-- the links and the children from the bound on were gathered
pub record IsHanding (edges : List Ends) (links : List ℕ) (rank room : ℕ) (stamps part : List ℕ) (child : Option ℕ) : Type 0 where
  pub marked : AreStamped rank stamps part
  pub within : length part ≤ room
  pub sound : (y : ℕ) → Contains part y → IsSource edges links rank y
  pub linked : (y : ℕ) → Contains links y → y ≢ rank → Contains part y
  pub bound : ℕ
  pub below : bound ≤ rank
  pub handed : (k y : ℕ) → bound ≤ k → k < rank → parent_of edges k ≡ Some rank → Contains (up_of edges k) y → y ≢ rank → Contains part y
  pub next : IsLatestChild edges rank bound child

pub handing_none : (edges : List Ends) (links : List ℕ) (ranks rank room : ℕ) (stamps part : List ℕ) (children : Children) (child : Option ℕ) → rank < ranks
    → AreStamped rank stamps part → length part ≤ room → Gathers rank links [] part → AreChildren edges ranks rank children → child ≡ get_or children.latest.items rank child
    → IsHanding edges links rank room stamps part child
handing_none edges links ranks rank room stamps part children child below marked within gathered f read = record {
  marked = marked;
  within = within;
  sound = λ y c. elim (gathered.from y c) [
    | inl none ↦ absurd (none_in_nil y none)
    | inr both ↦ (both.1, inl both.0)
  ];
  linked = gathered.taken;
  bound = rank;
  below = omega arith;
  handed = λ k y le lt. absurd (omega (arith, le, lt));
  next = f.begin rank child (omega arith) (slice_get_read children.latest.items (length children.latest.items) rank child refl (omega (arith, below, f.latest_long)) read);
}

pub handing_more : (edges : List Ends) (links : List ℕ) (ranks rank room lower : ℕ) (stamps stamps_new part part_new group : List ℕ) (children : Children) (child : Option ℕ) → rank < ranks
    → IsHanding edges links rank room stamps part (Some lower) → AreStamped rank stamps_new part_new → length part_new ≤ room → group ≡ up_of edges lower → Gathers rank group part part_new
    → AreChildren edges ranks rank children → child ≡ get_or children.before.items lower child
    → IsHanding edges links rank room stamps_new part_new child
handing_more edges links ranks rank room lower stamps stamps_new part part_new group children child below h marked within same gathered f read =
    let lower_below : lower < h.bound = h.next.0 in
    let lower_low : lower < rank = omega (arith, lower_below, h.below) in
    let is_child : parent_of edges lower ≡ Some rank = h.next.1 in
    record {
      marked = marked;
      within = within;
      sound = λ y c. elim (gathered.from y c) [
        | inl old ↦ h.sound y old
        | inr both ↦ (both.1, inr (lower, lower_low, is_child, subst (λ xs. Contains xs y) same both.0))
      ];
      linked = λ y c ne. gathered.kept y (h.linked y c ne);
      bound = lower;
      below = omega (arith, lower_low);
      handed = λ k y le lt p c ne.
          elim (cases_eq k lower) [
            | inl at ↦ gathered.taken y (subst (λ xs. Contains xs y) (sym same) (subst (λ j. Contains (up_of edges j) y) at c)) ne
            | inr other ↦
                elim (cases_lt k h.bound) [
                  | inl less ↦ absurd (h.next.2 k (omega (arith, le, other)) less p)
                  | inr least ↦ gathered.kept y (h.handed k y least lt p c ne)
                ]
          ];
      next = f.onward lower rank child lower_low is_child (slice_get_read children.before.items (length children.before.items) lower child refl (omega (arith, lower_low, below, f.before_long)) read);
    }

latest_less : (edges : List Ends) (rank lower : ℕ) (child : Option ℕ) → IsLatestChild edges rank lower child → latest_size child < latest_size (Some lower)
unfolding latest_size
latest_less edges rank lower None f = omega arith
latest_less edges rank lower (Some k) f = omega (arith, f.0)

pub handing_falls : (edges : List Ends) (ranks rank lower : ℕ) (children : Children) (child : Option ℕ) → rank < ranks → lower < rank → parent_of edges lower ≡ Some rank
    → AreChildren edges ranks rank children → child ≡ get_or children.before.items lower child → latest_size child < latest_size (Some lower)
handing_falls edges ranks rank lower children child below lower_low is_child f read =
    latest_less edges rank lower child (f.onward lower rank child lower_low is_child
    (slice_get_read children.before.items (length children.before.items) lower child refl (omega (arith, lower_low, below, f.before_long)) read))

whole : (edges : List Ends) (links : List ℕ) (rank room : ℕ) (stamps part : List ℕ) → IsHanding edges links rank room stamps part None
    → (y : ℕ) → IsSource edges links rank y → Contains part y
whole edges links rank room stamps part h y (ne, inl linked) = h.linked y linked ne
whole edges links rank room stamps part h y (ne, inr child) =
    elim (cases_lt child.0 h.bound) [
      | inl less ↦ absurd (h.next child.0 less child.2)
      | inr least ↦ h.handed child.0 y least child.1 child.2 child.3 ne
    ]

-- when no child is left, the sources are whole
pub handing_all : (edges : List Ends) (links : List ℕ) (rank room : ℕ) (stamps part : List ℕ) → IsHanding edges links rank room stamps part None
    → ListsSources edges links rank part
handing_all edges links rank room stamps part h y = (h.sound y, λ s. whole edges links rank room stamps part h y s)

-- what is asked at a child's group
pub child_there : (rank lower : ℕ) (table : EdgeTable) → lower < rank → IsTable rank table → lower + 1 < length table.starts.items
child_there rank lower table lt f = omega (arith, lt, f.groups.long)

pub child_table : (rank : ℕ) (table : EdgeTable) → IsTable rank table → IsTable (length table.starts.items - 1) table
child_table rank table f = subst (λ n. IsTable n table) (omega (arith, f.groups.long)) f

pub group_in_range : (edges : List Ends) (ranks rank lower : ℕ) (group : List ℕ) → AreClosed edges ranks rank → group ≡ up_of edges lower → All (λ y. y < ranks) group
group_in_range edges ranks rank lower group f same =
    subst (All (λ y. y < ranks)) (sym same) (all_from_members (λ y. y < ranks) (up_of edges lower)
    (λ y c.
    let e = edge_from_up_of edges lower y c in
    let range = f.in_range e.0 (record { low = lower; high = y }) e.1 in
    (subst (λ (x : Ends). (x.low < rank) × (x.low < x.high) × (x.high < ranks)) e.2 range).2))

pub edges_fit : (ranks rank : ℕ) (table : EdgeTable) (children : Children) (stamps : List ℕ) → IsBefore ranks rank table children stamps → length table.lows.items ≤ MAX_EDGES
edges_fit ranks rank table children stamps f = let long = length_paired table.lows.items table.highs.items f.layout.pairs in omega (arith, long, f.edges.few)

pub is_none : (o : Option ℕ) → ((x : ℕ) → o ≡ Some x → ⊥) → o ≡ None
is_none None f = refl
is_none (Some x) f = absurd (f x refl)

-- more than fit from the links, or from a child
crowded : (table : EdgeTable) (links : List ℕ) (rank room : ℕ) (P : ℕ → Type 0) → room ≡ MAX_EDGES - length table.lows.items
    → ((y : ℕ) → P y → IsSource (edges_in table) links rank y) → HasMoreThan room P → IsCrowded table links rank
crowded table links rank room P same f h = subst (λ n. HasMoreThan n (IsSource (edges_in table) links rank)) same (more_weaker room P (IsSource (edges_in table) links rank) f h)

pub crowded_by_links : (table : EdgeTable) (links old : List ℕ) (rank room : ℕ) → old ≡ [] → room ≡ MAX_EDGES - length table.lows.items
    → HasMoreThan room (IsGathered rank old links) → IsCrowded table links rank
crowded_by_links table links old rank room none same h =
    crowded table links rank room (IsGathered rank old links) same
    (λ y s. elim s [
      | inl was ↦ absurd (none_in_nil y (subst (λ xs. Contains xs y) none was))
      | inr both ↦ (both.1, inl both.0)
    ])
    h

pub crowded_by_child : (table : EdgeTable) (links : List ℕ) (rank room lower : ℕ) (stamps part group : List ℕ)
    → IsHanding (edges_in table) links rank room stamps part (Some lower) → group ≡ up_of (edges_in table) lower
    → room ≡ MAX_EDGES - length table.lows.items → HasMoreThan room (IsGathered rank part group) → IsCrowded table links rank
crowded_by_child table links rank room lower stamps part group f group_is same h =
    crowded table links rank room (IsGathered rank part group) same
    (λ y s. elim s [
      | inl was ↦ f.sound y was
      | inr both ↦ (both.1, inr (lower, omega (arith, f.next.0, f.below), f.next.1, subst (λ xs. Contains xs y) group_is both.0))
    ])
    h

same_err : {U E : Type 0} (r : Result U E) (x y : E) → r ≡ Err x → r ≡ Err y → x ≡ y
same_err r x y e f = cc

-- an error passed on by `?` is the callee's
pub passed_on : {T U E : Type 0} (inner : Result T E) (outer : Result U E) (mine wanted : E) → inner ≡ Err mine
    → IsErrAnd outer (λ (theirs : E). theirs ≡ mine) → outer ≡ Err wanted → inner ≡ Err wanted
passed_on inner outer mine wanted was gives is =
    let p = err_from_is_err_and outer gives in
    let same : p.0 ≡ wanted = same_err outer p.0 wanted p.1 is in
    was ∙ ap Err (sym p.2 ∙ same)
