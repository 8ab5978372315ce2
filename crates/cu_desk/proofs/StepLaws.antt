-- Steps of an edit in work: one edge less is left, or it is published, or there is no memory.
use Rattle.std.proofs.Common.{◌≡◌, ◌≤◌, ◌<◌, ◌-◌, ◌++◌, ◌∙◌, ℕ, List, Option, Some, None, ap, refl, subst, sym, arith, inl, inr}
use Rattle.std.specs.Prelude.{codes, decimal, max}
use Rattle.std.specs.Option.{option_map}
use Rattle.cu_model.specs.declared.roads.Edit.{Edit}
use Rattle.cu_interval.specs.Hierarchies.{HierarchyValue}
use Rattle.cu_router.specs.declared.busy.Busy.{Busy}
use Rattle.cu_router.specs.Edited.{IsEdited}
use Rattle.cu_router.specs.Working.{FitsBusy, edges_left}
use Rattle.cu_desk.specs.Steps.Busies.{work_of}
use Rattle.cu_desk.specs.HeldDesks.{HeldDesk, MakesHeld, state_of}
use Rattle.cu_desk.specs.Machine.{DeskState, Steps, Work}

made : (h : HierarchyValue) (edit other : Edit) (next : HierarchyValue) (count : ℕ) → other ≡ edit → IsEdited h other next count → MakesHeld h edit next
made h edit other next count same is = subst (λ (e : Edit). MakesHeld h e next) same (record { resettled = is.resettled; sound = is.after; built = is.built })

-- an edit in work fits what is published, which stays
pub fits_still : (h next : HierarchyValue) (busy : Busy) → next ≡ h → FitsBusy h busy → FitsBusy next busy
fits_still h next busy same fits = subst (λ (g : HierarchyValue). FitsBusy g busy) (sym same) fits

-- the edit handed back fits what is published still
pub fits_back : (h next : HierarchyValue) (busy back : Busy) → next ≡ h → back ≡ busy → FitsBusy h busy → FitsBusy next back
fits_back h next busy back same again fits = subst (λ (g : HierarchyValue). FitsBusy g back) (sym same) (subst (FitsBusy h) (sym again) fits)

-- an edit in work is told alike by its parts
works : (client other : ℕ) (edit changed : Edit) (left back : ℕ) → other ≡ client → changed ≡ edit → back ≡ left
    → (let work : Work = record { client = other; edit = changed; left = back } in work) ≡ record { client = client; edit = edit; left = left }
works client other edit changed left back owner same count =
    ap (λ (c : ℕ). let work : Work = record { client = c; edit = changed; left = back } in work) owner
    ∙ ap (λ (e : Edit). let work : Work = record { client = client; edit = e; left = back } in work) same
    ∙ ap (λ (n : ℕ). let work : Work = record { client = client; edit = edit; left = n } in work) count

-- no memory: what is published and in work is told as before
stuck : (h next : HierarchyValue) (busy back : Busy) → next ≡ h → work_of back ≡ work_of busy
    → Steps MakesHeld (Some (work_of busy)) (record { published = h; work = Some (work_of busy) }) (codes "no memory")
    (record { published = next; work = Some (work_of back) })
stuck h next busy back same again =
    inr (inr (
      refl,
      ap (λ (g : HierarchyValue). let d : DeskState HierarchyValue = record { published = g; work = Some (work_of back) } in d) same
          ∙ ap (λ (w : Work). let d : DeskState HierarchyValue = record { published = h; work = Some w } in d) again,
    ))

-- no memory to publish it, as none of its edges is left
pub publish_stuck : (h middle next : HierarchyValue) (busy other back : Busy) (left : ℕ) → middle ≡ h → next ≡ middle → back ≡ other
    → other.edit ≡ busy.edit → other.papers.client ≡ busy.papers.client → left ≡ edges_left other → left ≡ edges_left busy - 1 → left ≤ 0
    → Steps MakesHeld (Some (work_of busy)) (record { published = h; work = Some (work_of busy) }) (codes "no memory")
    (record { published = next; work = Some (work_of back) })
publish_stuck h middle next busy other back left same kept again edit owner is counted none =
    let one : max 1 (edges_left other) ≡ max 1 (edges_left busy) = omega (arith, is, counted, none) in
    stuck h next busy back (kept ∙ same) (ap work_of again ∙ works _ _ _ _ _ _ owner edit one)

-- one edge less is left
pub step_left : (h next : HierarchyValue) (busy other : Busy) (left : ℕ) → next ≡ h → other.edit ≡ busy.edit → other.papers.client ≡ busy.papers.client
    → left ≡ edges_left other → left ≡ edges_left busy - 1 → 0 < left
    → Steps MakesHeld (Some (work_of busy)) (record { published = h; work = Some (work_of busy) }) (codes "left " ++ decimal left)
    (record { published = next; work = Some (work_of other) })
step_left h next busy other left same edit owner is counted some =
    let told : left ≡ max 1 (edges_left busy) - 1 = omega (arith, counted, some) in
    let now : max 1 (edges_left other) ≡ max 1 (edges_left busy) - 1 = omega (arith, is, counted, some) in
    inl (
      omega (arith, counted, some),
      ap (λ (n : ℕ). codes "left " ++ decimal n) told,
      ap (λ (g : HierarchyValue). let d : DeskState HierarchyValue = record { published = g; work = Some (work_of other) } in d) same
          ∙ ap (λ (w : Work). let d : DeskState HierarchyValue = record { published = h; work = Some w } in d) (works _ _ _ _ _ _ owner edit now),
    )

-- none is left, and it is published
pub step_published : (h middle next : HierarchyValue) (busy other : Busy) (client count left : ℕ)
    → middle ≡ h → IsEdited middle other.edit next count → other.edit ≡ busy.edit
    → client ≡ busy.papers.client → left ≡ edges_left busy - 1 → left ≤ 0
    → Steps MakesHeld (Some (work_of busy)) (record { published = h; work = Some (work_of busy) }) (codes "published " ++ decimal client)
    (record { published = next; work = None })
step_published h middle next busy other client count left same edited edit owner counted none =
    let here = subst (λ (g : HierarchyValue). IsEdited g other.edit next count) same edited in
    inr (inl (omega (arith, counted, none), (next, made h busy.edit other.edit next count edit here, ap (λ (c : ℕ). codes "published " ++ decimal c) owner, refl)))

-- the step of a desk is that of its edit in work
pub step_of : (now after : HeldDesk) (h next : HierarchyValue) (busy : Busy) (left : Option Busy) (text : List ℕ)
    → record { published = h; work = Some (work_of busy) } ≡ now → after ≡ record { published = next; work = option_map work_of left }
    → Steps MakesHeld (Some (work_of busy)) (record { published = h; work = Some (work_of busy) }) text (record { published = next; work = option_map work_of left })
    → Steps MakesHeld now.work (state_of now) text (state_of after)
step_of now after h next busy left text is ends steps =
    subst (λ (n : HeldDesk). Steps MakesHeld n.work (state_of n) text (state_of after)) is
    (subst (λ (n : HeldDesk). Steps MakesHeld (Some (work_of busy)) (record { published = h; work = Some (work_of busy) }) text (state_of n)) (sym ends) steps)
