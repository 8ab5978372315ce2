-- The network after an edit is one.
use Rattle.std.proofs.Common.{◌≡◌, ◌<◌, ◌∙◌, ℕ, List, Option, Some, None, refl, sym, subst, arith, inl, inr, length, get_or}
use Rattle.std.specs.Prelude.{All, slice_get, slice_set}
use Rattle.std.proofs.lemmas.Bool.{cases_eq}
use Rattle.std.proofs.lemmas.Option.{slice_get-get_or}
use Rattle.std.proofs.lemmas.List.{length-set}
use Rattle.cu_model.specs.declared.roads.RoadArc.{RoadArc}
use Rattle.cu_model.specs.declared.roads.Edit.{Edit}
use Rattle.cu_model.specs.declared.roads.Edit.TheVariants.{Set, Assign}
use Rattle.cu_model.specs.Edits.{IsEditInRange, edited, reassigned}
use Rattle.cu_model.specs.Networks.{IsArcInRange, IsNetwork, NetworkValue}
use Rattle.cu_model.specs.Profiles.{IsProfile}
use Rattle.cu_model.proofs.RoadLaws.{all_at}
use Rattle.cu_model.proofs.ListLaws.{get_here, get_other}
use Rattle.cu_model.proofs.EditLaws.{reassigned_long}
use Rattle.cu_edits.specs.Steps.Known.{IsEditSound}

-- all elements of a list of which one is replaced
pub all_set : {X : Type 0} (P : X → Type 0) (xs : List X) (i : ℕ) (x : X) → All P xs → P x → All P (slice_set xs i x)
all_set {X} P xs i x all one = λ k d lt.
    let long = length-set xs i x in
    elim (cases_eq i k) [
      | inl same ↦
          let at : slice_get (slice_set xs i x) k ≡ Some x = subst (λ (j : ℕ). slice_get (slice_set xs i x) j ≡ Some x) same (get_here xs i x (omega (arith, lt, long, same))) in
          let is : Some (get_or (slice_set xs i x) k d) ≡ Some x = sym (slice_get-get_or (slice_set xs i x) k d lt) ∙ at in
          subst P (sym (cc is)) one
      | inr other ↦
          let is : slice_get xs k ≡ Some (get_or (slice_set xs i x) k d) = sym (get_other xs i k x other) ∙ slice_get-get_or (slice_set xs i x) k d lt in
          all_at P xs k (get_or (slice_set xs i x) k d) all is
    ]

in_range_by : (g : NetworkValue) (n : ℕ) → length g.profiles ≡ n → (arc : RoadArc) → IsArcInRange g arc → (arc.tail < g.nodes) × (arc.head < g.nodes) × (arc.profile < n)
in_range_by g n same arc (tail, head, profile) = (tail, head, subst (λ (k : ℕ). arc.profile < k) same profile)

reassigned_range : (g : NetworkValue) (old : Option RoadArc) (a profile : ℕ) → slice_get g.arcs a ≡ old → All (IsArcInRange g) g.arcs → profile < length g.profiles
    → All (IsArcInRange g) (reassigned old a profile g.arcs)
reassigned_range g None a profile at all lt = all
reassigned_range g (Some arc) a profile at all lt =
    let (tail, head, before) = all_at (IsArcInRange g) g.arcs a arc all at in
    all_set (IsArcInRange g) g.arcs a (record arc { profile = profile }) all (tail, head, lt)

-- a network after an edit is one
pub edited_network : (g : NetworkValue) (edit : Edit) → IsNetwork g → IsEditInRange g edit → IsEditSound edit → IsNetwork (edited g edit)
edited_network g (Set profile pieces) sound range sets =
    let long = length-set g.profiles profile pieces in record {
      few_nodes = sound.few_nodes;
      few_arcs = sound.few_arcs;
      few_profiles = (let few = sound.few_profiles in omega (arith, few, long));
      in_range = λ k d lt. in_range_by g (length (slice_set g.profiles profile pieces)) (sym long) (get_or g.arcs k d) (sound.in_range k d lt);
      valid = all_set IsProfile g.profiles profile pieces sound.valid sets;
    }
edited_network g (Assign a profile) sound range sets =
    let long = reassigned_long (slice_get g.arcs a) a profile g.arcs in record {
      few_nodes = sound.few_nodes;
      few_arcs = (let few = sound.few_arcs in omega (arith, few, long));
      few_profiles = sound.few_profiles;
      in_range = reassigned_range g (slice_get g.arcs a) a profile refl sound.in_range range.1;
      valid = sound.valid;
    }
