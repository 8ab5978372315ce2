-- Whoever waits best arrives when the converted network does.
use Rattle.std.proofs.Common.{◌≡◌, ◌≤◌, ◌+◌, ◌-◌, ◌∙◌, ◌↔◌, ℕ, zero, suc, List, [], ◌∷◌, length, Option, Some, None, refl, sym, subst, ap, arith, inl, inr}
use Rattle.std.specs.Prelude.{slice_get, slice_set}
use Rattle.std.proofs.lemmas.List.{length-set}
use Rattle.std.proofs.lemmas.Bool.{cases_eq, cases_lt}
use Rattle.cu_model.specs.declared.profiles.Piece.{Piece}
use Rattle.cu_model.specs.declared.roads.Edit.{Edit}
use Rattle.cu_model.specs.declared.roads.Edit.TheVariants.{Set, Assign}
use Rattle.cu_model.specs.declared.roads.RoadArc.{RoadArc}
use Rattle.cu_model.specs.Edits.{edited, reassigned}
use Rattle.cu_model.specs.Networks.{IsNetwork, NetworkValue}
use Rattle.cu_model.specs.Profiles.{IsProfile, is_closed, profile_value}
use Rattle.cu_model.specs.Roads.{HasNoWalk, IsLeastArrival, IsWalk, Leads, arc_value, drive, is_closed_arc}
use Rattle.cu_model.proofs.ListLaws.{get_here, get_other}
use Rattle.cu_model.proofs.ProfileLaws.{profile_value-fifo}
use Rattle.cu_model.proofs.RoadLaws.{all_at, drive-fifo, profile_of_road}
use Rattle.cu_wait.specs.Waits.{IsLeastFrom}
use Rattle.cu_wait.specs.Networks.{RawProfile, Measured, InPieces, RawNetwork, raw_value, is_raw_closed, LeadsRaw}
use Rattle.cu_wait.specs.Networks.{IsRawWalk, raw_arc_value, waiting_drive, DrivesWaiting, IsLeastWaiting, HasNoRawWalk, raw_edited}
use Rattle.cu_wait.specs.Converted.{StandFor, StandForSome, IsConverted}

-- functions that are the same at every second have the same least values
pub least_alike : (f g : ℕ → ℕ) → ((t : ℕ) → f t ≡ g t) → (t v : ℕ) → IsLeastFrom f t v → IsLeastFrom g t v
least_alike f g same t v l =
    let (s, le, is) = l.reached in
    record {
      reached = (s, le, sym (same s) ∙ is);
      least = λ s le. let here = l.least s le in let e = same s in omega (arith, here, e);
    }

-- what keeps order is least at once
least_at_once : (f : ℕ → ℕ) (t : ℕ) → ((s : ℕ) → t ≤ s → f t ≤ f s) → IsLeastFrom f t (f t)
least_at_once f t order = record { reached = (t, omega arith, refl); least = order }

pub stands_some : (p : Option RawProfile) (q : Option (List Piece)) (profile : RawProfile) → p ≡ Some profile → StandForSome p q
    → (pieces : List Piece) × (q ≡ Some pieces) × StandFor profile pieces
stands_some None q profile e s = absurd (cc e)
stands_some (Some x) None profile e s = absurd s
stands_some (Some x) (Some pieces) profile e s = (pieces, refl, subst (λ (r : RawProfile). StandFor r pieces) (cc e) s)

some_stands : (p : Option RawProfile) (q : Option (List Piece)) (pieces : List Piece) → q ≡ Some pieces → StandForSome p q
    → (profile : RawProfile) × (p ≡ Some profile) × StandFor profile pieces
some_stands p None pieces e s = absurd (cc e)
some_stands None (Some x) pieces e s = absurd s
some_stands (Some profile) (Some x) pieces e s = (profile, refl, subst (StandFor profile) (cc e) s)

closed_alike : (profile : RawProfile) (pieces : List Piece) → StandFor profile pieces → is_closed pieces ≡ is_raw_closed profile
closed_alike (Measured points) pieces s = s.1
closed_alike (InPieces own) pieces s = ap is_closed s

-- pieces that stand for a profile arrive, at every second, when whoever waits best does
pub least_of_profile : (profile : RawProfile) (pieces : List Piece) → StandFor profile pieces → IsProfile pieces
    → (t : ℕ) → IsLeastFrom (raw_value profile) t (profile_value pieces t)
least_of_profile (Measured points) pieces s valid t = s.0 t
least_of_profile (InPieces own) pieces s valid t =
    subst (λ (x : List Piece). IsLeastFrom (profile_value x) t (profile_value pieces t)) s
    (least_at_once (profile_value pieces) t (profile_value-fifo pieces valid t))

-- a road's profile says whether it is closed, and when it arrives
closed_by : (g : NetworkValue) (a : ℕ) (arc : RoadArc) (pieces : List Piece) → slice_get g.arcs a ≡ Some arc → slice_get g.profiles arc.profile ≡ Some pieces
    → is_closed_arc g a ≡ is_closed pieces
closed_by g a arc pieces at there = rw (at, there) refl

arrives_by : (g : NetworkValue) (a : ℕ) (arc : RoadArc) (pieces : List Piece) → slice_get g.arcs a ≡ Some arc → slice_get g.profiles arc.profile ≡ Some pieces
    → (t : ℕ) → arc_value g a t ≡ profile_value pieces t
arrives_by g a arc pieces at there t = rw (at, there) refl

pub raw_by : (raw : RawNetwork) (a : ℕ) (arc : RoadArc) (profile : RawProfile) → slice_get raw.arcs a ≡ Some arc → slice_get raw.profiles arc.profile ≡ Some profile
    → (t : ℕ) → raw_value profile t ≡ raw_arc_value raw a t
raw_by raw a arc profile at there t = rw (at, there) refl

module _ (raw : RawNetwork) (g : NetworkValue) (c : IsConverted raw g) where
  -- the same roads may be driven
  leads_converted : (a u v : ℕ) → LeadsRaw raw a u v → Leads g a u v
  leads_converted a u v (arc, profile, at, tail, head, there, free) =
      let (pieces, is, stands) = stands_some _ _ profile there (c.profiles arc.profile) in
      let here : slice_get g.arcs a ≡ Some arc = ap (λ (arcs : List RoadArc). slice_get arcs a) c.arcs ∙ at in
      let closed = closed_by g a arc pieces here is in
      ((arc, here, tail, head), closed ∙ closed_alike profile pieces stands ∙ free)

  leads_raw : IsNetwork g → (a u v : ℕ) → Leads g a u v → LeadsRaw raw a u v
  leads_raw n a u v ((arc, at, tail, head), free) =
      let (pieces, is, valid) = profile_of_road g n a arc at in
      let (profile, there, stands) = some_stands _ _ pieces is (c.profiles arc.profile) in
      let closed = closed_by g a arc pieces at is in
      (arc, profile, sym (ap (λ (arcs : List RoadArc). slice_get arcs a) c.arcs) ∙ at, tail, head, there, sym (closed_alike profile pieces stands) ∙ sym closed ∙ free)

  walk_converted : (u : ℕ) (walk : List ℕ) (v : ℕ) → IsRawWalk raw u walk v → IsWalk g u walk v
  walk_converted u [] v w = w
  walk_converted u (a ∷ walk) v (x, l, more) = (x, leads_converted a u x l, walk_converted x walk v more)

  pub walk_raw : IsNetwork g → (u : ℕ) (walk : List ℕ) (v : ℕ) → IsWalk g u walk v → IsRawWalk raw u walk v
  walk_raw n u [] v w = w
  walk_raw n u (a ∷ walk) v (x, l, more) = (x, leads_raw n a u x l, walk_raw n x walk v more)

  module _ (n : IsNetwork g) where
    -- a road arrives when whoever waits best before it does
    pub least_of_road : (a u v : ℕ) → LeadsRaw raw a u v → (t : ℕ) → IsLeastFrom (raw_arc_value raw a) t (arc_value g a t)
    least_of_road a u v (arc, profile, at, tail, head, there, free) t =
        let (pieces, is, stands) = stands_some _ _ profile there (c.profiles arc.profile) in
        let here : slice_get g.arcs a ≡ Some arc = ap (λ (arcs : List RoadArc). slice_get arcs a) c.arcs ∙ at in
        let valid = all_at IsProfile g.profiles arc.profile pieces n.valid is in
        let value = arrives_by g a arc pieces here is t in
        let alike = raw_by raw a arc profile at there in
        subst (IsLeastFrom (raw_arc_value raw a) t) (sym value)
        (least_alike (raw_value profile) (raw_arc_value raw a) alike t (profile_value pieces t) (least_of_profile profile pieces stands valid t))

    -- no waits bring anybody along a walk earlier than the converted network does
    pub drive_below : (u : ℕ) (walk waits : List ℕ) (v t : ℕ) → IsRawWalk raw u walk v → drive g walk t ≤ waiting_drive raw walk waits t
    drive_below u [] waits v t w = omega arith
    drive_below u (a ∷ walk) [] v t (x, l, more) =
        let here = (least_of_road a u x l t).least t (omega arith) in
        let on = drive-fifo g n x walk v (arc_value g a t) (raw_arc_value raw a t) (walk_converted x walk v more) here in
        let rest = drive_below x walk [] v (raw_arc_value raw a t) more in
        omega (arith, on, rest)
    drive_below u (a ∷ walk) (wait ∷ waits) v t (x, l, more) =
        let here = (least_of_road a u x l t).least (t + wait) (omega arith) in
        let on = drive-fifo g n x walk v (arc_value g a t) (raw_arc_value raw a (t + wait)) (walk_converted x walk v more) here in
        let rest = drive_below x walk waits v (raw_arc_value raw a (t + wait)) more in
        omega (arith, on, rest)

    -- some waits bring one there as early
    pub drive_waiting : (u : ℕ) (walk : List ℕ) (v t : ℕ) → IsRawWalk raw u walk v → DrivesWaiting raw walk t (drive g walk t)
    drive_waiting u [] v t w = ([], refl, refl)
    drive_waiting u (a ∷ walk) v t (x, l, more) =
        let (s, le, is) = (least_of_road a u x l t).reached in
        let (waits, long, drives) = drive_waiting x walk v (arc_value g a t) more in
        let there : t + (s - t) ≡ s = omega (arith, le) in
        let same : raw_arc_value raw a (t + (s - t)) ≡ arc_value g a t = ap (raw_arc_value raw a) there ∙ is in
        ((s - t) ∷ waits, ap suc long, ap (waiting_drive raw walk waits) same ∙ drives)

    least_waiting : (u v t arrival : ℕ) → IsLeastArrival g u v t arrival → IsLeastWaiting raw u v t arrival
    least_waiting u v t arrival l =
        let (walk, w, e) = l.reached in
        let back = walk_raw n u walk v w in
        record {
          reached = (walk, back, subst (DrivesWaiting raw walk t) e (drive_waiting u walk v t back));
          least = λ walk waits w long.
              let here = l.least walk (walk_converted u walk v w) in
              let below = drive_below u walk waits v t w in
              omega (arith, here, below);
        }

    least_arrival : (u v t arrival : ℕ) → IsLeastWaiting raw u v t arrival → IsLeastArrival g u v t arrival
    least_arrival u v t arrival l =
        let (walk, w, (waits, long, e)) = l.reached in
        let below = drive_below u walk waits v t w in
        let (best, as_long, drives) = drive_waiting u walk v t w in
        let least = l.least walk best w as_long in
        record {
          reached = (walk, walk_converted u walk v w, omega (arith, below, e, drives, least));
          least = λ other o.
              let raw_other = walk_raw n u other v o in
              let (ways, fits, arrives) = drive_waiting u other v t raw_other in
              let no_later = l.least other ways raw_other fits in
              omega (arith, no_later, arrives);
        }

pub least_same : (raw : RawNetwork) (g : NetworkValue) → IsConverted raw g → IsNetwork g → (u v t arrival : ℕ) → IsLeastArrival g u v t arrival ↔ IsLeastWaiting raw u v t arrival
least_same raw g c n u v t arrival = (least_waiting raw g c n u v t arrival, least_arrival raw g c n u v t arrival)

pub none_same : (raw : RawNetwork) (g : NetworkValue) → IsConverted raw g → IsNetwork g → (u v : ℕ) → HasNoWalk g u v ↔ HasNoRawWalk raw u v
none_same raw g c n u v = (
  (λ none walk w. none walk (walk_converted raw g c u walk v w)),
  λ none walk w. none walk (walk_raw raw g c n u walk v w),
)

-- past a list's end nothing is there
none_past : {X : Type 0} (xs : List X) (i : ℕ) → length xs ≤ i → slice_get xs i ≡ None
none_past [] i le = refl
none_past (x ∷ xs) zero le = absurd (omega (arith, le))
none_past (x ∷ xs) (suc i) le = none_past xs i (omega (arith, le))

stand_for_set : (profiles : List RawProfile) (others : List (List Piece)) → length others ≡ length profiles
    → ((number : ℕ) → StandForSome (slice_get profiles number) (slice_get others number))
    → (set : ℕ) (pieces : List Piece) (number : ℕ) → StandForSome (slice_get (slice_set profiles set (InPieces pieces)) number) (slice_get (slice_set others set pieces) number)
stand_for_set profiles others long stand set pieces number =
    elim (cases_eq set number) [
      | inl here ↦ elim (cases_lt number (length profiles)) [
        | inl within ↦
            let a = subst (λ (i : ℕ). slice_get (slice_set profiles i (InPieces pieces)) number ≡ Some (InPieces pieces)) (sym here) (get_here profiles number (InPieces pieces) within) in
            let b = subst (λ (i : ℕ). slice_get (slice_set others i pieces) number ≡ Some pieces) (sym here) (get_here others number pieces (omega (arith, within, long))) in
            rw (a, b) refl
        | inr past ↦
            let la = length-set profiles set (InPieces pieces) in
            let lb = length-set others set pieces in
            let a = none_past (slice_set profiles set (InPieces pieces)) number (omega (arith, la, past)) in
            let b = none_past (slice_set others set pieces) number (omega (arith, lb, past, long)) in
            rw (a, b) tt
      ]
      | inr other ↦
          let a = get_other profiles set number (InPieces pieces) other in
          let b = get_other others set number pieces other in
          rw (a, b) (stand number)
    ]

-- what stands for each other does so after an edit of both
pub converted_edited : (raw : RawNetwork) (g : NetworkValue) (edit : Edit) → IsConverted raw g → IsConverted (raw_edited raw edit) (edited g edit)
converted_edited raw g (Set set pieces) c = record {
  nodes = c.nodes;
  arcs = c.arcs;
  count = let a = length-set g.profiles set pieces in let b = length-set raw.profiles set (InPieces pieces) in let e = c.count in omega (arith, a, b, e);
  profiles = stand_for_set raw.profiles g.profiles c.count c.profiles set pieces;
}
converted_edited raw g (Assign a profile) c = record {
  nodes = c.nodes;
  arcs = ap (λ (arcs : List RoadArc). reassigned (slice_get arcs a) a profile arcs) c.arcs;
  count = c.count;
  profiles = c.profiles;
}
