-- When the parts of a walk are entered, of which only the seconds of the day are asked.
use Rattle.std.proofs.Common.{◌≡◌, ◌+◌, ◌*◌, ◌/◌, ◌%◌, ◌∙◌, ℕ, List, [], ◌∷◌, ◌++◌, Bool, Option, Some, None, false, get_or, take, drop, refl, ap, subst, sym, arith, length, ◌≤◌, ◌<◌}
use Rattle.std.specs.Borrow.{Bor}
use Rattle.std.specs.Prelude.{All, IfSome}
use Rattle.std.proofs.lemmas.List.{drop_more, take-append-drop, take_more}
use Rattle.std.proofs.lemmas.Nat.{div-add-mod'}
use Rattle.cu_model.specs.Networks.{NetworkValue}
use Rattle.cu_model.specs.declared.limits.TheConstants.{MAX_UNTIL}
use Rattle.cu_model.specs.Days.{day}
use Rattle.cu_model.specs.Roads.{arc_value, drive}
use Rattle.cu_model.proofs.RoadLaws.{drive-append}
use Rattle.cu_interval.specs.Hierarchies.{HierarchyValue}
use Rattle.cu_drive.specs.RoadTexts.{driven_text, first_after}
use Rattle.cu_drive.proofs.DrivenTexts.{text_cut, text_more}
use Rattle.cu_recall.specs.declared.walking.WalkPart.{WalkPart}
use Rattle.cu_recall.specs.declared.walking.WalkPart.TheVariants as walked
use Rattle.cu_recall.specs.Steps.Walks.{DrivesPart, IsOpenRoad, TakesEachDay, roads_of}

-- a part that is entered at this second of a day arrives as many days later as it is entered
pub arrives_on : (h : HierarchyValue) (entered t : ℕ) (found : WalkPart) → DrivesPart h t found → entered % day ≡ t
    → (k : ℕ) × (entered ≡ k * day + t) × (drive h.network (roads_of found) entered ≡ k * day + drive h.network (roads_of found) t)
arrives_on h entered t found drives second =
    let k = entered / day in
    let parts = div-add-mod' entered day in
    let e : k * day + t ≡ entered = omega (arith, parts, second) in
    (k, sym e, subst (λ (n : ℕ). drive h.network (roads_of found) n ≡ k * day + drive h.network (roads_of found) t) e (drives.days k))

-- so at the same second of the day
pub arrives_second : (h : HierarchyValue) (entered t : ℕ) (found : WalkPart) → DrivesPart h t found → entered % day ≡ t
    → drive h.network (roads_of found) entered % day ≡ drive h.network (roads_of found) t % day
arrives_second h entered t found drives second =
    let (k, is, arrives) = arrives_on h entered t found drives second in omega (arith, arrives)

-- and within its limits
pub arrives_near : (h : HierarchyValue) (entered t : ℕ) (found : WalkPart) → DrivesPart h t found → entered % day ≡ t
    → drive h.network (roads_of found) entered ≤ entered + MAX_UNTIL * length (roads_of found)
arrives_near h entered t found drives second =
    let (k, is, arrives) = arrives_on h entered t found drives second in
    let near = drives.near in
    omega (arith, is, arrives, near)

-- behind some roads none is the first of all
pub not_first_behind : (first : Bool) (done roads : List ℕ) → 0 < length roads → first_after first (done ++ roads) ≡ false
not_first_behind first [] [] some = absurd (omega (arith, some))
not_first_behind first [] (road ∷ roads) some = refl
not_first_behind first (x ∷ done) roads some = refl

-- one road arrives as much later as is said of it
pub road_later : (h : HierarchyValue) (at : ℕ) (found : WalkPart) (road travel : ℕ) → DrivesPart h (at % day) found → found ≡ walked.Road road travel
    → (drive h.network (roads_of found) at ≡ at + travel) × (travel ≤ MAX_UNTIL)
road_later h at found road travel drives is =
    let own : DrivesPart h (at % day) (walked.Road road travel) = subst (DrivesPart h (at % day)) is drives in
    let k = at / day in
    let e : k * day + at % day ≡ at = div-add-mod' at day in
    let near = own.near in
    let first = own.roads 0 in
    let later : k * day + (at % day + travel) ≡ at + travel = omega (arith, e) in (
      ap (λ (p : WalkPart). drive h.network (roads_of p) at) is
          ∙ subst (λ (n : ℕ). drive h.network (road ∷ []) n ≡ k * day + (at % day + travel)) e (own.roads k) ∙ later,
      omega (arith, near, first),
    )

-- the roads of a sequence can be driven
pub sequence_open : (h : HierarchyValue) (t : ℕ) (found : WalkPart) (roads : Bor (List ℕ)) (travel : Option ℕ) → DrivesPart h t found → found ≡ walked.Sequence roads travel
    → All (IsOpenRoad h.network) roads.now
sequence_open h t found roads travel drives is = (subst (DrivesPart h t) is drives).roads.0

taken_later : (g : NetworkValue) (at : ℕ) (roads : List ℕ) (travel : Option ℕ) → IfSome travel (TakesEachDay g (at % day) roads)
    → IfSome travel (λ (seconds : ℕ). drive g roads at ≡ at + seconds)
taken_later g at roads None takes = takes
taken_later g at roads (Some seconds) takes =
    let k = at / day in
    let e : k * day + at % day ≡ at = div-add-mod' at day in
    let later : k * day + (at % day + seconds) ≡ at + seconds = omega (arith, e) in
    subst (λ (n : ℕ). drive g roads n ≡ k * day + (at % day + seconds)) e (takes k) ∙ later

-- they arrive as much later as is said of them, where it is
pub sequence_later : (h : HierarchyValue) (at : ℕ) (found : WalkPart) (roads : Bor (List ℕ)) (travel : Option ℕ) → DrivesPart h (at % day) found → found ≡ walked.Sequence roads travel
    → IfSome travel (λ (seconds : ℕ). drive h.network roads.now at ≡ at + seconds)
sequence_later h at found roads travel drives is =
    taken_later h.network at roads.now travel (subst (DrivesPart h (at % day)) is drives).roads.1

-- one more road of those that are driven
pub taken_more : (roads : List ℕ) (i road : ℕ) → i < length roads → road ≡ get_or roads i road → take (i + 1) roads ≡ take i roads ++ (road ∷ [])
taken_more roads i road lt is = take_more roads i road lt ∙ ap (λ (r : ℕ). take i roads ++ (r ∷ [])) (sym is)

pub open_at : (g : NetworkValue) (roads : List ℕ) (i road : ℕ) → All (IsOpenRoad g) roads → i < length roads → road ≡ get_or roads i road → IsOpenRoad g road
open_at g roads i road all lt is = subst (IsOpenRoad g) (sym is) (all i road lt)

-- and what is written of it
pub written_more : (text : Bool → ℕ → ℕ → List ℕ) (g : NetworkValue) (begins first : Bool) (roads : List ℕ) (i road at entered : ℕ) → i < length roads → road ≡ get_or roads i road
    → first ≡ first_after begins (take i roads) → entered ≡ drive g (take i roads) at
    → driven_text text g begins (take i roads) at ++ text first road entered ≡ driven_text text g begins (take (i + 1) roads) at
written_more text g begins first roads i road at entered lt is same here =
    let done = take i roads in
    let before = driven_text text g begins done at in
    ap (λ (f : Bool). before ++ text f road entered) same ∙ ap (λ (s : ℕ). before ++ text (first_after begins done) road s) here
    ∙ sym (text_more text g begins done road at) ∙ sym (ap (λ (d : List ℕ). driven_text text g begins d at) (taken_more roads i road lt is))

-- where a write fails the rest of the roads isn't written
pub written_cut : (text : Bool → ℕ → ℕ → List ℕ) (g : NetworkValue) (begins first : Bool) (roads : List ℕ) (i road at entered : ℕ) → i < length roads → road ≡ get_or roads i road
    → first ≡ first_after begins (take i roads) → entered ≡ drive g (take i roads) at
    → driven_text text g begins (take i roads) at ++ (text first road entered ++ driven_text text g false (drop (i + 1) roads) (arc_value g road entered))
    ≡ driven_text text g begins roads at
written_cut text g begins first roads i road at entered lt is same here =
    let done = take i roads in
    let left = drop (i + 1) roads in
    let before = driven_text text g begins done at in
    let cut : done ++ (road ∷ left) ≡ roads =
    ap (λ (r : ℕ). done ++ (r ∷ left)) is ∙ sym (ap (λ (d : List ℕ). done ++ d) (drop_more roads i road lt)) ∙ take-append-drop i roads in
    ap (λ (f : Bool). before ++ (text f road entered ++ driven_text text g false left (arc_value g road entered))) same
    ∙ ap (λ (s : ℕ). before ++ (text (first_after begins done) road s ++ driven_text text g false left (arc_value g road s))) here
    ∙ sym (text_cut text g begins done road left at) ∙ ap (λ (d : List ℕ). driven_text text g begins d at) cut

-- when it arrives
pub driven_more : (g : NetworkValue) (roads : List ℕ) (i road at entered : ℕ) → i < length roads → road ≡ get_or roads i road → entered ≡ drive g (take i roads) at
    → arc_value g road entered ≡ drive g (take (i + 1) roads) at
driven_more g roads i road at entered lt is here =
    ap (arc_value g road) here ∙ sym (drive-append g (take i roads) (road ∷ []) at) ∙ sym (ap (λ (d : List ℕ). drive g d at) (taken_more roads i road lt is))

-- where the same is written of a road whenever it is entered, one more of those that are written
pub alike_more : (text : Bool → ℕ → ℕ → List ℕ) → ((begins : Bool) (road s t : ℕ) → text begins road s ≡ text begins road t)
    → (g : NetworkValue) (begins first : Bool) (roads : List ℕ) (i road at : ℕ) → i < length roads → road ≡ get_or roads i road → first ≡ first_after begins (take i roads)
    → driven_text text g begins (take i roads) at ++ text first road at ≡ driven_text text g begins (take (i + 1) roads) at
alike_more text alike g begins first roads i road at lt is same =
    let before = driven_text text g begins (take i roads) at in
    let entered = drive g (take i roads) at in
    ap (λ (w : List ℕ). before ++ w) (alike first road at entered) ∙ written_more text g begins first roads i road at entered lt is same refl

-- and where a write fails
pub alike_cut : (text : Bool → ℕ → ℕ → List ℕ) → ((begins : Bool) (road s t : ℕ) → text begins road s ≡ text begins road t)
    → (g : NetworkValue) (begins first : Bool) (roads : List ℕ) (i road at : ℕ) → i < length roads → road ≡ get_or roads i road → first ≡ first_after begins (take i roads)
    → (rest : List ℕ) × (driven_text text g begins (take i roads) at ++ (text first road at ++ rest) ≡ driven_text text g begins roads at)
alike_cut text alike g begins first roads i road at lt is same =
    let before = driven_text text g begins (take i roads) at in
    let entered = drive g (take i roads) at in
    let rest = driven_text text g false (drop (i + 1) roads) (arc_value g road entered) in
    (rest, ap (λ (w : List ℕ). before ++ (w ++ rest)) (alike first road at entered) ∙ written_cut text g begins first roads i road at entered lt is same refl)
