-- A list of edits with one more fits as the list did.
use Rattle.std.proofs.Common.{◌≡◌, ◌≢◌, ◌<◌, ◌+◌, ◌^◌, ◌∙◌, ◌⊎◌, ℕ, zero, suc, Bool, true, List, [], ◌∷◌, ◌++◌, Option, Some, None, refl, ap, sym, subst, arith, inl, inr, length}
use Rattle.std.specs.Prelude.{◌↔◌, All, IsTrue, max, min, slice_get, slice_set}
use Rattle.std.specs.List.{Contains}
use Rattle.std.proofs.lemmas.Bool.{cases_eq}
use Rattle.std.proofs.lemmas.List.{length-set}
use Rattle.std.proofs.lemmas.Option.{same_Some, slice_get_within}
use Rattle.cu_model.specs.declared.roads.Edit.{Edit}
use Rattle.cu_model.specs.declared.roads.Edit.TheVariants.{Set, Assign}
use Rattle.cu_model.specs.declared.roads.RoadArc.{RoadArc}
use Rattle.cu_model.specs.Edits.{IsEditInRange, edited, reassigned}
use Rattle.cu_model.specs.Networks.{IsNetwork, NetworkValue}
use Rattle.cu_model.proofs.ListLaws.{get_here, get_other, item_there}
use Rattle.cu_chordal.proofs.Decided.{member_decided}
use Rattle.cu_chordal.proofs.Members.{all_from_members, here, member_at, member_cases, none_in_nil, there}
use Rattle.cu_chordal.proofs.Tables.{edge_from_up_of}
use Rattle.cu_chordal.specs.declared.graph.Ends.{Ends}
use Rattle.cu_chordal.specs.Graphs.{up_of}
use Rattle.cu_interval.specs.Hierarchies.{HierarchyValue, IsHierarchy}
use Rattle.cu_interval.proofs.EndsLaws.{ends_rise}
use Rattle.cu_interval.specs.Touching.{NumbersTouched}
use Rattle.cu_resettled.specs.ResettlingAll.{IsChangedBySome, IsTouchedBySome, IsTouchedEdgeBySome, edited_all}
use Rattle.cu_resettled.proofs.TouchedBySome.{changed_more, covered, edited_more, touched_more}
use Rattle.cu_edits.specs.EditLists.{AreChanged, EditListValue, FitsList, FitsNetwork, IsAssigned, IsGiven, over_network}
use Rattle.cu_edits.specs.Lists.{AreInRange, AreSound}
use Rattle.cu_edits.specs.Steps.Adding.{IsInside, added, assigned_by, given_by, marked_at}
use Rattle.cu_edits.specs.Steps.Climbing.{AreCounted, ArePlanned, LeadToMarked}
use Rattle.cu_edits.specs.Steps.Found.{AreTouchedFrom, LeadsTo}
use Rattle.cu_edits.specs.Steps.Known.{IsEditSound}
use Rattle.cu_edits.specs.Steps.Spreading.{IsAbove}
use Rattle.cu_edits.specs.declared.finding.Planned.{Planned}
use Rattle.cu_edits.proofs.EditedLists.{arcs_all, profiles_all}
use Rattle.cu_edits.proofs.Planned.{changed_within}
use Rattle.cu_edits.proofs.Reached.{joined_among}
use Rattle.cu_edits.proofs.Spreading.{at_min_max}
use Rattle.cu_edits.proofs.ListLaws.{get_front}

pub range_more : (g : NetworkValue) (edits : List Edit) (edit : Edit) → AreInRange g edits → IsEditInRange (edited_all g edits) edit → AreInRange g (edits ++ edit ∷ [])
range_more g [] edit range one = (one, tt)
range_more g (first ∷ edits) edit range one = (range.0, range_more (edited g first) edits edit range.1 one)

pub sound_more : (edits : List Edit) (edit : Edit) → AreSound edits → IsEditSound edit → AreSound (edits ++ edit ∷ [])
sound_more [] edit sound one = (one, tt)
sound_more (first ∷ edits) edit sound one = (sound.0, sound_more edits edit sound.1 one)

-- items of a list with one more
get_last : {X : Type 0} (xs : List X) (y : X) → slice_get (xs ++ y ∷ []) (length xs) ≡ Some y
get_last [] y = refl
get_last (x ∷ xs) y = get_last xs y

-- marks that are set
long_marked : (marks : List Bool) (numbers : List ℕ) → length (marked_at marks numbers) ≡ length marks
long_marked marks [] = refl
long_marked marks (number ∷ numbers) = long_marked (slice_set marks number true) numbers ∙ length-set marks number true

set_stays : (marks : List Bool) (numbers : List ℕ) (k : ℕ) → slice_get marks k ≡ Some true → slice_get (marked_at marks numbers) k ≡ Some true
set_stays marks [] k at = at
set_stays marks (number ∷ numbers) k at = elim (cases_eq number k) [
  | inl same ↦
      let inside = slice_get_within marks k true at in
      set_stays (slice_set marks number true) numbers k
      (subst (λ (j : ℕ). slice_get (slice_set marks number true) j ≡ Some true) same (get_here marks number true (omega (arith, inside, same))))
  | inr other ↦ set_stays (slice_set marks number true) numbers k (get_other marks number k true other ∙ at)
]

marked_there : (marks : List Bool) (numbers : List ℕ) (k : ℕ) → k < length marks → Contains numbers k → slice_get (marked_at marks numbers) k ≡ Some true
marked_there marks [] k lt c = absurd (none_in_nil k c)
marked_there marks (number ∷ numbers) k lt c =
    let long = length-set marks number true in
    elim (member_cases number numbers k c) [
      | inl is ↦
          let at : slice_get (slice_set marks number true) k ≡ Some true =
          subst (λ (j : ℕ). slice_get (slice_set marks number true) j ≡ Some true) is (get_here marks number true (omega (arith, lt, is))) in
          set_stays (slice_set marks number true) numbers k at
      | inr past ↦ marked_there (slice_set marks number true) numbers k (omega (arith, lt, long)) past
    ]

unmarked_there : (marks : List Bool) (numbers : List ℕ) (k : ℕ) → (Contains numbers k → ⊥) → slice_get (marked_at marks numbers) k ≡ slice_get marks k
unmarked_there marks [] k none = refl
unmarked_there marks (number ∷ numbers) k none =
    unmarked_there (slice_set marks number true) numbers k (λ c. none (there number numbers k c))
    ∙ get_other marks number k true (λ same. none (subst (Contains (number ∷ numbers)) same (here number numbers)))

marks_more : (marks : List Bool) (numbers : List ℕ) (Old Now : ℕ → Type 0) → ((k : ℕ) (m : Bool) → slice_get marks k ≡ Some m → IsTrue m ↔ Old k)
    → ((k : ℕ) → Now k ↔ (Old k ⊎ Contains numbers k)) → (k : ℕ) (m : Bool) → slice_get (marked_at marks numbers) k ≡ Some m → IsTrue m ↔ Now k
marks_more marks numbers Old Now old now k m at = elim (member_decided numbers k) [
  | inl among ↦
      let long = long_marked marks numbers in
      let inside = slice_get_within (marked_at marks numbers) k m at in
      let set : true ≡ m = same_Some true m (sym (marked_there marks numbers k (omega (arith, long, inside)) among) ∙ at) in
      ((λ t. (now k).1 (inr among)), λ n. sym set)
  | inr off ↦
      let law = old k m (sym (unmarked_there marks numbers k off) ∙ at) in (
        (λ t. (now k).1 (inl (law.0 t))),
        λ n. elim ((now k).0 n) [ inl before ↦ law.1 before | inr among ↦ absurd (off among) ],
      )
]

-- the profiles that roads were assigned
reassigned_other : (old : Option RoadArc) (b profile k : ℕ) (arcs : List RoadArc) → b ≢ k → slice_get (reassigned old b profile arcs) k ≡ slice_get arcs k
reassigned_other None b profile k arcs other = refl
reassigned_other (Some road) b profile k arcs other = get_other arcs b k (record road { profile = profile }) other

reassigned_here : (old : Option RoadArc) (b profile : ℕ) (road : RoadArc) (arcs : List RoadArc) → old ≡ Some road → b < length arcs
    → slice_get (reassigned old b profile arcs) b ≡ Some (record road { profile = profile })
reassigned_here None b profile road arcs is lt = absurd (cc is)
reassigned_here (Some own) b profile road arcs is lt =
    get_here arcs b (record own { profile = profile }) lt ∙ ap (λ (r : RoadArc). Some (record r { profile = profile })) (same_Some own road is)

-- a road of before and of now, the same but for its profile
abbrev RoadNow : NetworkValue → NetworkValue → ℕ → Type 0
RoadNow g now b = (road own : RoadArc) × (slice_get g.arcs b ≡ Some road) × (slice_get now.arcs b ≡ Some own) × ((q : ℕ) → record own { profile = q } ≡ record road { profile = q })

road_now : (g now : NetworkValue) (b n : ℕ) → b < length g.arcs → IsAssigned g now b n → RoadNow g now b
road_now g now b zero lt is = let (road, at) = item_there g.arcs b lt in (road, road, at, is ∙ at, λ q. refl)
road_now g now b (suc profile) lt (road, at, has) = (road, record road { profile = profile }, at, has, λ q. refl)

assigned_still : (g now after : NetworkValue) (arc n : ℕ) → slice_get after.arcs arc ≡ slice_get now.arcs arc → IsAssigned g now arc n → IsAssigned g after arc n
assigned_still g now after arc zero same is = same ∙ is
assigned_still g now after arc (suc profile) same (road, at, has) = (road, at, same ∙ has)

assigned_more : (g now : NetworkValue) (edit : Edit) (assigned : List ℕ) → length assigned ≡ length g.arcs → length now.arcs ≡ length g.arcs
    → ((arc n : ℕ) → slice_get assigned arc ≡ Some n → IsAssigned g now arc n) → IsEditInRange now edit
    → (arc n : ℕ) → slice_get (assigned_by assigned edit) arc ≡ Some n → IsAssigned g (edited now edit) arc n
assigned_more g now (Set profile pieces) assigned long count old range arc n at = assigned_still g now (edited now (Set profile pieces)) arc n refl (old arc n at)
assigned_more g now (Assign b profile) assigned long count old range arc n at =
    let (lt, in_profiles) = range in
    elim (cases_eq b arc) [
      | inl same ↦
          let (m, before) = item_there assigned b (omega (arith, lt, long, count)) in
          let (road, own, first, second, alike) = road_now g now b m (omega (arith, lt, count)) (old b m before) in
          let set : slice_get (reassigned (slice_get now.arcs b) b profile now.arcs) b ≡ Some (record road { profile = profile }) =
          reassigned_here (slice_get now.arcs b) b profile own now.arcs second lt ∙ ap (λ (r : RoadArc). Some r) (alike profile) in
          let put : slice_get (slice_set assigned b (profile + 1)) arc ≡ Some (profile + 1) =
          subst (λ (j : ℕ). slice_get (slice_set assigned b (profile + 1)) j ≡ Some (profile + 1)) same (get_here assigned b (profile + 1) (omega (arith, lt, long, count))) in
          let value : profile + 1 ≡ n = same_Some (profile + 1) n (sym put ∙ at) in
          let number : suc profile ≡ n = omega (arith, value) in
          subst (IsAssigned g (edited now (Assign b profile)) arc) number
          (subst (λ (j : ℕ). IsAssigned g (edited now (Assign b profile)) j (suc profile)) same (road, first, set))
      | inr other ↦
          assigned_still g now (edited now (Assign b profile)) arc n (reassigned_other (slice_get now.arcs b) b profile arc now.arcs other)
          (old arc n (sym (get_other assigned b arc (profile + 1) other) ∙ at))
    ]

-- the edits that set profiles
given_still : (g now after : NetworkValue) (edits : List Edit) (edit : Edit) (profile n : ℕ) → slice_get after.profiles profile ≡ slice_get now.profiles profile
    → IsGiven g edits now profile n → IsGiven g (edits ++ edit ∷ []) after profile n
given_still g now after edits edit profile zero same is = same ∙ is
given_still g now after edits edit profile (suc index) same (pieces, at, has) = (pieces, get_front edits edit (Set profile pieces) index at, same ∙ has)

given_more : (g now : NetworkValue) (edits : List Edit) (edit : Edit) (given : List ℕ) → length given ≡ length g.profiles → length now.profiles ≡ length g.profiles
    → ((profile n : ℕ) → slice_get given profile ≡ Some n → IsGiven g edits now profile n) → IsEditInRange now edit
    → (profile n : ℕ) → slice_get (given_by given edit (length edits + 1)) profile ≡ Some n → IsGiven g (edits ++ edit ∷ []) (edited now edit) profile n
given_more g now edits (Assign arc own) given long count old range profile n at =
    given_still g now (edited now (Assign arc own)) edits (Assign arc own) profile n refl (old profile n at)
given_more g now edits (Set own pieces) given long count old range profile n at =
    let made = length edits + 1 in
    elim (cases_eq own profile) [
      | inl same ↦
          let put : slice_get (slice_set given own made) profile ≡ Some made =
          subst (λ (j : ℕ). slice_get (slice_set given own made) j ≡ Some made) same (get_here given own made (omega (arith, range, long, count))) in
          let value : made ≡ n = same_Some made n (sym put ∙ at) in
          let number : suc (length edits) ≡ n = omega (arith, value) in
          subst (IsGiven g (edits ++ Set own pieces ∷ []) (edited now (Set own pieces)) profile) number
          (subst (λ (j : ℕ). IsGiven g (edits ++ Set own pieces ∷ []) (edited now (Set own pieces)) j (suc (length edits))) same
          (pieces, get_last edits (Set own pieces), get_here now.profiles own pieces range))
      | inr other ↦
          given_still g now (edited now (Set own pieces)) edits (Set own pieces) profile n (get_other now.profiles own profile pieces other)
          (old profile n (sym (get_other given own profile made other) ∙ at))
    ]

-- the numbers of an edit are inside of what is noted
pub inside_list : (g : NetworkValue) (list : EditListValue) → FitsNetwork g list → (edit : Edit) → IsEditInRange (edited_all g list.edits) edit
    → IsInside (length list.assigned) (length list.given) edit
inside_list g list fits (Set profile pieces) range =
    let count = profiles_all g list.edits in let long = fits.profiles in omega (arith, range, count, long)
inside_list g list fits (Assign arc profile) (first, second) =
    let arcs = arcs_all g list.edits in
    let profiles = profiles_all g list.edits in
    let one = fits.arcs in
    let two = fits.profiles in
    (omega (arith, first, arcs, one), omega (arith, second, profiles, two))

long_assigned : (assigned : List ℕ) (edit : Edit) → length (assigned_by assigned edit) ≡ length assigned
long_assigned assigned (Set profile pieces) = refl
long_assigned assigned (Assign arc profile) = length-set assigned arc (profile + 1)

long_given : (given : List ℕ) (edit : Edit) (made : ℕ) → length (given_by given edit made) ≡ length given
long_given given (Set profile pieces) made = length-set given profile made
long_given given (Assign arc profile) made = refl

pub network_more : (g : NetworkValue) (list : EditListValue) (edit : Edit) (arcs edges : List ℕ) → FitsNetwork g list → IsEditInRange (edited_all g list.edits) edit
    → IsEditSound edit → AreChanged (edited_all g list.edits) edit arcs → FitsNetwork g (added list edit arcs edges)
network_more g list edit arcs edges fits range sets changed =
    let now = edited_all g list.edits in
    let more : edited_all g (list.edits ++ edit ∷ []) ≡ edited now edit = edited_more g list.edits edit in
    record {
      range = range_more g list.edits edit fits.range range;
      sets = sound_more list.edits edit fits.sets sets;
      arcs = long_assigned list.assigned edit ∙ fits.arcs;
      assigns = λ arc n at. subst (λ (k : NetworkValue). IsAssigned g k arc n) (sym more)
          (assigned_more g now edit list.assigned fits.arcs (arcs_all g list.edits) fits.assigns range arc n at);
      profiles = long_given list.given edit (length list.edits + 1) ∙ fits.profiles;
      gives = λ profile n at. subst (λ (k : NetworkValue). IsGiven g (list.edits ++ edit ∷ []) k profile n) (sym more)
          (given_more g now list.edits edit list.given fits.profiles (profiles_all g list.edits) fits.gives range profile n at);
      marks = long_marked list.changed arcs ∙ fits.marks;
      changes = marks_more list.changed arcs (IsChangedBySome g list.edits) (IsChangedBySome g (list.edits ++ edit ∷ [])) fits.changes
          (λ k. let both = changed_more g list.edits edit k in (
            (λ c. elim (both.0 c) [ inl before ↦ inl before | inr own ↦ inr ((changed k).1 own) ]),
            λ c. elim c [ inl before ↦ both.1 (inl before) | inr among ↦ both.1 (inr ((changed k).0 among)) ],
          ));
      roads = fits.roads;
    }

touched_by_more : (h : HierarchyValue) (edits : List Edit) (edit : Edit) (marks : List Bool) (edges all : List ℕ) (count : ℕ)
    → ((k : ℕ) (m : Bool) → slice_get marks k ≡ Some m → IsTrue m ↔ IsTouchedEdgeBySome h edits k)
    → NumbersTouched (over_network h (edited_all h.network edits)) edit all → AreCounted marks edges all count
    → (e : ℕ) → IsTouchedEdgeBySome h (edits ++ edit ∷ []) e ↔ (IsTouchedEdgeBySome h edits e ⊎ Contains edges e)
touched_by_more h edits edit marks edges all count law numbers counted e = (there_more, back_more)
  where
    there_more : IsTouchedEdgeBySome h (edits ++ edit ∷ []) e → IsTouchedEdgeBySome h edits e ⊎ Contains edges e
    there_more (ends, at, touched) = elim ((touched_more h.network h.order edits edit ends.low ends.high).0 touched) [
      | inl before ↦ inl (ends, at, before)
      | inr own ↦ elim (counted.marked e ((numbers.exact e).1 (ends, at, own))) [ inl among ↦ inr among | inr marked ↦ inl ((law e true marked).0 refl) ]
    ]

    back_more : IsTouchedEdgeBySome h edits e ⊎ Contains edges e → IsTouchedEdgeBySome h (edits ++ edit ∷ []) e
    back_more (inl (ends, at, before)) = (ends, at, (touched_more h.network h.order edits edit ends.low ends.high).1 (inl before))
    back_more (inr among) =
        let (ends, at, own) = (numbers.exact e).0 (counted.of e among) in
        (ends, at, (touched_more h.network h.order edits edit ends.low ends.high).1 (inr own))

pub list_more : (h : HierarchyValue) (list : EditListValue) (edit : Edit) (arcs edges all : List ℕ) (count : ℕ) → FitsList h list → IsEditInRange (edited_all h.network list.edits) edit
    → IsEditSound edit → AreChanged (edited_all h.network list.edits) edit arcs → NumbersTouched (over_network h (edited_all h.network list.edits)) edit all
    → AreCounted list.touched edges all count → FitsList h (added list edit arcs edges)
list_more h list edit arcs edges all count fits range sets changed numbers counted = record {
  network = network_more h.network list edit arcs edges fits.network range sets changed;
  edges = long_marked list.touched edges ∙ fits.edges;
  touches = marks_more list.touched edges (IsTouchedEdgeBySome h list.edits) (IsTouchedEdgeBySome h (list.edits ++ edit ∷ [])) fits.touches
      (touched_by_more h list.edits edit list.touched edges all count fits.touches numbers counted);
}

-- an edge that one leads to is above it, and all above one that some of several edits touches is touched by some of them
leads_above : (edges : List Ends) (edge next : ℕ) → LeadsTo edges edge next → IsAbove edges edge next
leads_above edges edge next (ends, rank, at, joined, between) = (ends, rank, at, edge_from_up_of edges ends.low rank (joined_among (up_of edges ends.low) ends.high rank joined), between)

some_above : (h : HierarchyValue) → IsHierarchy h → (edits : List Edit) (e over : ℕ) → IsTouchedEdgeBySome h edits e → IsAbove h.edges e over → IsTouchedEdgeBySome h edits over
some_above h sound edits e over (ends, at, touched) (same, rank, on, side, between) =
    let cover = covered h.network h.order edits in
    let is : ends ≡ same = cc (at, on) in
    let t : IsTouchedBySome h.network h.order edits same.low same.high = subst (λ (x : Ends). IsTouchedBySome h.network h.order edits x.low x.high) is touched in
    let (low, first) = (sound.edges.exact same.low same.high).0 (member_at h.edges same e on) in
    let (lower, second) = (sound.edges.exact same.low rank).0 side in
    let rise = ends_rise h sound over (record { low = min rank same.high; high = max rank same.high }) between in (
      record { low = min rank same.high; high = max rank same.high },
      between,
      at_min_max (λ p q. p < q → IsTouchedBySome h.network h.order edits p q) rank same.high (λ lt up. cover.second same.low rank same.high t lower lt second first)
          (λ ge up. cover.first same.low same.high rank t low up first second) rise,
    )

pub lead_to_marked : (h : HierarchyValue) → IsHierarchy h → (list : EditListValue) → FitsList h list → LeadToMarked h.edges list.touched
lead_to_marked h sound list fits edge next marked leads =
    let over = some_above h sound list.edits edge next ((fits.touches edge true marked).0 refl) (leads_above h.edges edge next leads) in
    let inside = slice_get_within h.edges next over.0 over.1 in
    let long = fits.edges in
    let (m, at) = item_there list.touched next (omega (arith, inside, long)) in
    let set : m ≡ true = (fits.touches next m at).1 over in
    at ∙ ap (λ (b : Bool). Some b) set

-- the profiles of a list are few, and its marks are there for what an edit changes and touches
pub few_profiles : (g : NetworkValue) → IsNetwork g → (list : EditListValue) → FitsNetwork g list → length list.given < 2 ^ 32
few_profiles g sound list fits = let few = sound.few_profiles in let long = fits.profiles in omega (arith, few, long)

pub planned_arcs : (h : HierarchyValue) (list : EditListValue) → FitsList h list → (edit : Edit) (arcs : List ℕ) → IsEditInRange (edited_all h.network list.edits) edit
    → AreChanged (edited_all h.network list.edits) edit arcs → All (λ arc. arc < length list.changed) arcs
planned_arcs h list fits edit arcs range changed =
    subst (λ (n : ℕ). All (λ arc. arc < n) arcs) (arcs_all h.network list.edits ∙ sym fits.network.marks)
    (changed_within (edited_all h.network list.edits) edit arcs range changed)

pub planned_edges : (h : HierarchyValue) (list : EditListValue) → FitsList h list → (edit : Edit) (edges all : List ℕ) (count : ℕ)
    → NumbersTouched (over_network h (edited_all h.network list.edits)) edit all → AreCounted list.touched edges all count → All (λ edge. edge < length list.touched) edges
planned_edges h list fits edit edges all count numbers counted = all_from_members (λ edge. edge < length list.touched) edges (λ edge c.
    let (ends, at, touched) = (numbers.exact edge).0 (counted.of edge c) in
    let inside = slice_get_within h.edges edge ends at in
    let long = fits.edges in
    omega (arith, inside, long))

-- the edges found from its roads are those that an edit touches behind others
pub touched_behind : (h : HierarchyValue) (edits : List Edit) (edit : Edit) (read arcs edges : List ℕ) → read ≡ arcs → IsNetwork (edited_all h.network edits)
    → AreChanged (edited_all h.network edits) edit arcs → AreTouchedFrom h read edges → NumbersTouched (over_network h (edited_all h.network edits)) edit edges
touched_behind h edits edit read arcs edges same sound changed touched = touched edits edit sound (subst (AreChanged (edited_all h.network edits) edit) (sym same) changed)

pub planned_behind : (h : HierarchyValue) → IsHierarchy h → (list : EditListValue) → FitsList h list → (edit : Edit) (read arcs : List ℕ) (planned : Planned) → read ≡ arcs
    → IsNetwork (edited_all h.network list.edits) → AreChanged (edited_all h.network list.edits) edit arcs → ArePlanned h read list.touched planned
    → (all : List ℕ) × NumbersTouched (over_network h (edited_all h.network list.edits)) edit all × AreCounted list.touched planned.edges.items all planned.count
planned_behind h sound list fits edit read arcs planned same network changed are =
    let (all, from, counted) = are (lead_to_marked h sound list fits) in
    (all, touched_behind h list.edits edit read arcs all same network changed from, counted)
