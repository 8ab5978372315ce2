-- Lists that are learned because an edge needs them.
use Rattle.std.proofs.Common.{◌≡◌, ◌∙◌, ℕ, Bool, true, false, List, [], ◌∷◌, ◌++◌, Option, refl, sym, subst, inl, inr}
use Rattle.std.specs.Prelude.{All, slice_get}
use Rattle.cu_model.proofs.RoadLaws.{all_at}
use Rattle.cu_arrival.specs.declared.runs.Run.{Run}
use Rattle.cu_chordal.specs.declared.graph.Ends.{Ends}
use Rattle.cu_interval.specs.declared.ways.Dir.{Dir}
use Rattle.cu_interval.specs.Hierarchies.{HierarchyValue, list_number}
use Rattle.cu_unpack.specs.RebuiltRuns.{IsChain, IsClosedUnder, IsKnownList, IsNeeded, IsRebuiltRuns, IsSameList, IsSide, KeepsPacked, Learns, PackedValue}

-- an edge needs itself
pub needs_itself : (edges : List Ends) (edge : ℕ) → IsNeeded edges edge edge
needs_itself edges edge = ([], refl)

-- and the sides of what it needs
pub needs_side : (edges : List Ends) (asked edge side : ℕ) → IsNeeded edges asked edge → IsSide edges edge side → IsNeeded edges asked side
needs_side edges asked edge side (chain, is) of = (chain ++ side ∷ [], longer asked chain is)
  where
    longer : (from : ℕ) (chain : List ℕ) → IsChain edges from chain edge → IsChain edges from (chain ++ side ∷ []) side
    longer from [] same = (subst (λ (e : ℕ). IsSide edges e side) (sym same) of, refl)
    longer from (next ∷ chain) (first, rest) = (first, longer next chain rest)

-- and what these need
pub needs_needed : (edges : List Ends) (asked edge other : ℕ) → IsNeeded edges asked edge → IsNeeded edges edge other → IsNeeded edges asked other
needs_needed edges asked edge other needed (chain, is) = along edge chain needed is
  where
    along : (from : ℕ) (chain : List ℕ) → IsNeeded edges asked from → IsChain edges from chain other → IsNeeded edges asked other
    along from [] needed same = subst (IsNeeded edges asked) same needed
    along from (next ∷ chain) needed (first, rest) = along next chain (needs_side edges asked from next needed first) rest

-- what an edge among these needs is among them, where with each edge its sides are
pub needed_own : (edges : List Ends) (IsOwn : ℕ → Type 0) → IsClosedUnder edges IsOwn → (asked other : ℕ) → IsOwn asked → IsNeeded edges asked other → IsOwn other
needed_own edges IsOwn closed asked other own (chain, is) = along asked chain own is
  where
    along : (from : ℕ) (chain : List ℕ) → IsOwn from → IsChain edges from chain other → IsOwn other
    along from [] own same = subst IsOwn same own
    along from (next ∷ chain) own (first, rest) = along next chain (closed from next own first) rest

-- so it may be asked for
pub keeps_needed : (h : HierarchyValue) (IsOwn : ℕ → Type 0) (value : PackedValue) → IsClosedUnder h.edges IsOwn → (asked : ℕ) → IsOwn asked → KeepsPacked h IsOwn value
    → KeepsPacked h (IsNeeded h.edges asked) value
keeps_needed h IsOwn value closed asked own keeps edge dir needed = keeps edge dir (needed_own h.edges IsOwn closed asked edge own needed)

-- where nothing is known nothing is wrong
pub none_known : (h : HierarchyValue) (IsOwn : ℕ → Type 0) (value : PackedValue) → All (λ known. known ≡ false) value.known → KeepsPacked h IsOwn value
none_known h IsOwn value unknown edge dir own known =
    let no : true ≡ false = all_at (λ (k : Bool). k ≡ false) value.known (list_number edge dir) true unknown known in
    absurd (cc no)

-- what was known still is, with the same function
pub learned_still : (h : HierarchyValue) (asked : ℕ) (before now : PackedValue) → Learns h asked before now → (edge : ℕ) (dir : Dir) → IsKnownList before (list_number edge dir)
    → IsKnownList now (list_number edge dir) × (slice_get now.functions (list_number edge dir) ≡ slice_get before.functions (list_number edge dir))
learned_still h asked before now learns edge dir known =
    elim (learns edge dir) [
      | inl same ↦ (same.0 ∙ known, same.1)
      | inr learned ↦ absurd (learned.unknown known)
    ]

-- what is known of these is right as it was before
pub learned_keeps : (h : HierarchyValue) (IsOwn : ℕ → Type 0) (asked : ℕ) (before now : PackedValue) → Learns h asked before now → KeepsPacked h IsOwn before → KeepsPacked h IsOwn now
learned_keeps h IsOwn asked before now learns keeps edge dir own known function at =
    elim (learns edge dir) [
      | inl same ↦ keeps edge dir own (sym same.0 ∙ known) function (sym same.1 ∙ at)
      | inr learned ↦
          let both : learned.function ≡ function = cc (learned.at, at) in
          subst (λ (f : Option (List Run)). IsRebuiltRuns h edge dir f) both learned.rebuilt
    ]

-- the lists of edges that aren't among these are as they were
pub learned_others : (h : HierarchyValue) (IsOwn : ℕ → Type 0) → IsClosedUnder h.edges IsOwn → (asked : ℕ) → IsOwn asked → (before now : PackedValue) → Learns h asked before now
    → (edge : ℕ) (dir : Dir) → (IsOwn edge → ⊥) → IsSameList before now (list_number edge dir)
learned_others h IsOwn closed asked own before now learns edge dir other =
    elim (learns edge dir) [
      | inl same ↦ same
      | inr learned ↦ absurd (other (needed_own h.edges IsOwn closed asked edge own learned.needed))
    ]

-- nothing is learned where all is as it was
pub learns_nothing : (h : HierarchyValue) (asked : ℕ) (value : PackedValue) → Learns h asked value value
learns_nothing h asked value edge dir = inl (refl, refl)
