-- Functions that are learnt one edge after the other.
use Rattle.std.proofs.Common.{◌≡◌, ◌<◌, ◌+◌, ◌∙◌, ℕ, List, Option, Some, None, ap, sym, subst, arith, inl, inr, length, get_or}
use Rattle.std.specs.Prelude.{Err, Ok, OnErr, OnOk, Result, slice_get, slice_set}
use Rattle.std.specs.List.{Contains}
use Rattle.std.proofs.lemmas.Bool.{cases_eq}
use Rattle.std.proofs.lemmas.List.{get_or_default, length-set}
use Rattle.std.proofs.lemmas.Option.{slice_get_within}
use Rattle.cu_model.proofs.ListLaws.{get_here, get_other}
use Rattle.cu_chordal.specs.declared.graph.Ends.{Ends}
use Rattle.cu_chordal.specs.Graphs.{HasEdge, IsRising}
use Rattle.cu_chordal.proofs.Members.{member_at}
use Rattle.cu_interval.specs.Hierarchies.{HierarchyValue}
use Rattle.cu_interval.proofs.Lookups.{one_number}
use Rattle.cu_edits.specs.declared.edge_functions.EdgeFunctions.{EdgeFunctions}
use Rattle.cu_edits.specs.Steps.Known.{AreRebuilt, HasFunctions, IsSide, IsSideOver, Learns}

none_or_some : (o : Option (Option EdgeFunctions)) (f : EdgeFunctions) → o ≡ Some None → o ≡ Some (Some f) → ⊥
none_or_some o f p q = absurd (cc (p, q))

pub learns_then : (h : HierarchyValue) (First Second IsAsked : ℕ → Type 0) (old mid new : List (Option EdgeFunctions)) → ((e : ℕ) → First e → IsAsked e) → ((e : ℕ) → Second e → IsAsked e)
    → Learns h First old mid → Learns h Second mid new → Learns h IsAsked old new
learns_then h First Second IsAsked old mid new first second a b = record {
  long = b.long ∙ a.long;
  each = λ e. elim (b.each e) [
    | inl same ↦ elim (a.each e) [
      | inl before ↦ inl (same ∙ before)
      | inr learnt ↦ inr (record { asked = first e learnt.asked; before = learnt.before; functions = learnt.functions; there = same ∙ learnt.there; rebuilt = learnt.rebuilt })
    ]
    | inr learnt ↦ elim (a.each e) [
      | inl before ↦ inr (record { asked = second e learnt.asked; before = sym before ∙ learnt.before; functions = learnt.functions; there = learnt.there; rebuilt = learnt.rebuilt })
      | inr earlier ↦ absurd (none_or_some (slice_get mid e) earlier.functions learnt.before earlier.there)
    ]
  ];
}

pub known_still : (h : HierarchyValue) (IsAsked : ℕ → Type 0) (old new : List (Option EdgeFunctions)) (e : ℕ) → Learns h IsAsked old new → HasFunctions old e → HasFunctions new e
known_still h IsAsked old new e learns (f, at) = elim (learns.each e) [
  | inl same ↦ (f, same ∙ at)
  | inr learnt ↦ absurd (none_or_some (slice_get old e) f learnt.before at)
]

pub learns_one : (h : HierarchyValue) (known : List (Option EdgeFunctions)) (edge : ℕ) (f : EdgeFunctions) → slice_get known edge ≡ Some None → AreRebuilt h edge f
    → Learns h (λ (e : ℕ). e ≡ edge) known (slice_set known edge (Some f))
learns_one h known edge f none are = record {
  long = length-set known edge (Some f);
  each = λ e. elim (cases_eq edge e) [
    | inl same ↦ inr (record {
      asked = sym same;
      before = subst (λ (k : ℕ). slice_get known k ≡ Some None) same none;
      functions = f;
      there = subst (λ (k : ℕ). slice_get (slice_set known edge (Some f)) k ≡ Some (Some f)) same (get_here known edge (Some f) (slice_get_within known edge None none));
      rebuilt = subst (λ (k : ℕ). AreRebuilt h k f) same are;
    })
    | inr other ↦ inl (get_other known edge e (Some f) other)
  ];
}

-- the sides over the first of these ranks are known
pub record IsLearning (h : HierarchyValue) (edges : List Ends) (ends : Ends) (ranks : List ℕ) (count : ℕ) (old new : List (Option EdgeFunctions)) : Type 0 where
  pub learns : Learns h (IsSide edges ends) old new
  pub sides : (k side : ℕ) → k < count → IsSideOver edges ends (get_or ranks k 0) side → HasFunctions new side

module _ (h : HierarchyValue) (edges : List Ends) (ends : Ends) (ranks : List ℕ) where
  -- what was learnt over one more rank, also where not all was
  pub learning_part : (count rank : ℕ) (old mid new : List (Option EdgeFunctions)) → IsLearning h edges ends ranks count old mid
      → Learns h (IsSideOver edges ends rank) mid new → Learns h (IsSide edges ends) old new
  learning_part count rank old mid new so_far more =
      learns_then h (IsSide edges ends) (IsSideOver edges ends rank) (IsSide edges ends) old mid new (λ e s. s) (λ e s. (rank, s)) so_far.learns more

  pub learning_more : (count rank : ℕ) (old mid new : List (Option EdgeFunctions)) → IsLearning h edges ends ranks count old mid
      → rank ≡ get_or ranks count 0 → Learns h (IsSideOver edges ends rank) mid new → ((side : ℕ) → IsSideOver edges ends rank side → HasFunctions new side)
      → IsLearning h edges ends ranks (count + 1) old new
  learning_more count rank old mid new so_far same more known = record {
    learns = learning_part count rank old mid new so_far more;
    sides = λ k side lt over. elim (cases_eq k count) [
      | inl last ↦ known side (subst (λ (r : ℕ). IsSideOver edges ends r side) (ap (λ (i : ℕ). get_or ranks i 0) last ∙ sym same) over)
      | inr other ↦ known_still h (IsSideOver edges ends rank) mid new side more (so_far.sides k side (omega (arith, lt, other)) over)
    ];
  }

  pub learning_all : (count : ℕ) (old new : List (Option EdgeFunctions)) → IsLearning h edges ends ranks count old new
      → count ≡ length ranks → ((x : ℕ) → HasEdge edges x ends.low → Contains ranks x) → (side : ℕ) → IsSide edges ends side → HasFunctions new side
  learning_all count old new so_far all members side (rank, over) =
      let (k, inside, at) = members rank over.0 in
      so_far.sides k side (omega (arith, inside, all)) (subst (λ (r : ℕ). IsSideOver edges ends r side) (sym at ∙ get_or_default ranks k rank 0 inside) over)

pub on_ok : {T E : Type 0} {P Q : Type 0} (r : Result T E) → (P → Q) → OnOk r P → OnOk r Q
on_ok (Ok x) f p = f p
on_ok (Err e) f p = p

pub on_err : {T E : Type 0} {P : Type 0} (r : Result T E) → P → OnErr r P
on_err (Ok x) p = tt
on_err (Err e) p = p

-- both edges over a rank are sides, and no others are
pub first_side : (edges : List Ends) (ends : Ends) (rank first second e : ℕ) → slice_get edges first ≡ Some (record { low = rank; high = ends.low })
    → slice_get edges second ≡ Some (record { low = rank; high = ends.high }) → e ≡ first → IsSideOver edges ends rank e
first_side edges ends rank first second e to on same =
    subst (IsSideOver edges ends rank) (sym same)
    (member_at edges (record { low = rank; high = ends.low }) first to, member_at edges (record { low = rank; high = ends.high }) second on, inl to)

pub second_side : (edges : List Ends) (ends : Ends) (rank first second e : ℕ) → slice_get edges first ≡ Some (record { low = rank; high = ends.low })
    → slice_get edges second ≡ Some (record { low = rank; high = ends.high }) → e ≡ second → IsSideOver edges ends rank e
second_side edges ends rank first second e to on same =
    subst (IsSideOver edges ends rank) (sym same)
    (member_at edges (record { low = rank; high = ends.low }) first to, member_at edges (record { low = rank; high = ends.high }) second on, inr on)

pub both_known : (edges : List Ends) → IsRising edges → (ends : Ends) (rank first second : ℕ) (known : List (Option EdgeFunctions))
    → slice_get edges first ≡ Some (record { low = rank; high = ends.low })
    → slice_get edges second ≡ Some (record { low = rank; high = ends.high }) → HasFunctions known first → HasFunctions known second → (side : ℕ)
    → IsSideOver edges ends rank side → HasFunctions known side
both_known edges rising ends rank first second known to on one two side (low, high, inl at) = subst (HasFunctions known) (one_number edges rising first side rank ends.low to at) one
both_known edges rising ends rank first second known to on one two side (low, high, inr at) = subst (HasFunctions known) (one_number edges rising second side rank ends.high on at) two
