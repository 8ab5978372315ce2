-- Walks, least drives and first ways repeat by whole days.
use Rattle.std.proofs.Common.{◌≡◌, ◌<◌, ◌+◌, ◌*◌, ◌/◌, ◌%◌, ◌∙◌, ℕ, List, [], ◌∷◌, Option, Some, None, refl, sym, ap, subst, arith, inl, inr, ltb, true, false}
use Rattle.std.specs.Prelude.{slice_get}
use Rattle.std.proofs.lemmas.Bool.{cases_lt}
use Rattle.std.proofs.lemmas.Nat.{div-add-mod', mod_below}
use Rattle.cu_model.specs.Networks.{NetworkValue, IsNetwork}
use Rattle.cu_model.specs.Orders.{OrderValue}
use Rattle.cu_model.specs.Days.{day}
use Rattle.cu_model.specs.Profiles.{profile_value}
use Rattle.cu_model.specs.Roads.{arc_value, drive}
use Rattle.cu_model.proofs.DayLaws.{many_days}
use Rattle.cu_model.proofs.ProfileLaws.{profile_value-days}
use Rattle.cu_model.proofs.RoadLaws.{arc_value-by_profile, leads_within}
use Rattle.cu_interval.specs.declared.ways.Dir.{Dir}
use Rattle.cu_interval.specs.declared.ways.Dir.TheVariants.{Up, Down}
use Rattle.cu_interval.specs.declared.ways.Way.{Way}
use Rattle.cu_interval.specs.declared.ways.Way.TheVariants.{Road, Via}
use Rattle.cu_interval.specs.Low.{LeadsRanks, WalkBelow, IsLeastLowDrive}
use Rattle.cu_interval.specs.WayLists.{way_in}
use Rattle.cu_interval.specs.FirstWays.{Arrives, IsCandidate, IsFirstWay}
use Rattle.cu_interval.specs.Hierarchies.{HierarchyValue, IsBuilt, start_of, end_of, list_of_some, number_from, way_from}
use Rattle.cu_interval.proofs.Lookups.{number_found}

module _ (g : NetworkValue) (o : OrderValue) (n : IsNetwork g) where
  -- a road's value repeats by whole days
  pub leads-days : (a u v k t : ℕ) → LeadsRanks g o a u v → arc_value g a (k * day + t) ≡ k * day + arc_value g a t
  leads-days a u v k t l =
      let (pieces, valid, same) = arc_value-by_profile g n a (leads_within g a l.0 l.1 l.2) in
      same (k * day + t) ∙ many_days (profile_value pieces) (profile_value-days pieces valid) k t ∙ ap (λ (x : ℕ). k * day + x) (sym (same t))

  -- a low walk's arrival repeats by whole days
  pub below-days : (m u : ℕ) (w : List ℕ) (v k t : ℕ) → WalkBelow g o m u w v → drive g w (k * day + t) ≡ k * day + drive g w t
  below-days m u [] v k t h = absurd h
  below-days m u (a ∷ []) v k t h = leads-days a u v k t h
  below-days m u (a ∷ b ∷ w) v k t h =
      let (x, j, lt, more) = h in
      ap (drive g (b ∷ w)) (leads-days a u x k t j) ∙ below-days m x (b ∷ w) v k (arc_value g a t) more

  pub least-days : (u v k t a : ℕ) → IsLeastLowDrive g o u v t a → IsLeastLowDrive g o u v (k * day + t) (k * day + a)
  least-days u v k t a f =
      let (w, l, e) = f.reached in
      record {
        reached = (w, l, below-days _ u w v k t l.1 ∙ ap (λ (x : ℕ). k * day + x) e);
        least = λ w2 l2.
            let p = f.least w2 l2 in
            let q = below-days _ u w2 v k t l2.1 in
            omega (arith, p, q);
      }

  pub least-back : (u v k t b : ℕ) → IsLeastLowDrive g o u v (k * day + t) b → (a : ℕ) × (b ≡ k * day + a) × IsLeastLowDrive g o u v t a
  least-back u v k t b f =
      let (w, l, e) = f.reached in
      let d = below-days _ u w v k t l.1 in
      let is : b ≡ k * day + drive g w t = sym e ∙ d in (
        drive g w t,
        is,
        record {
          reached = (w, l, refl);
          least = λ w2 l2.
              let p = f.least w2 l2 in
              let q = below-days _ u w2 v k t l2.1 in
              omega (arith, p, q, is);
        },
      )

  arrives-days : (u v k t : ℕ) (way : Way) (a : ℕ) → IsCandidate g o u v way → Arrives g o u v t way a → Arrives g o u v (k * day + t) way (k * day + a)
  arrives-days u v k t (Road r) a c f = leads-days r u v k t c ∙ ap (λ (x : ℕ). k * day + x) f
  arrives-days u v k t (Via m) a c f = (k * day + f.0, least-days u m k t f.0 f.1, least-days m v k f.0 a f.2)

  arrives-back : (u v k t : ℕ) (way : Way) (b : ℕ) → IsCandidate g o u v way → Arrives g o u v (k * day + t) way b → (a : ℕ) × (b ≡ k * day + a) × Arrives g o u v t way a
  arrives-back u v k t (Road r) b c f = (arc_value g r t, sym f ∙ leads-days r u v k t c, refl)
  arrives-back u v k t (Via m) b c f =
      let (x, e, one) = least-back u m k t f.0 f.1 in
      let (y, i, two) = least-back m v k x b (subst (λ (z : ℕ). IsLeastLowDrive g o m v z b) e f.2) in
      (y, i, (x, one, two))

  -- a first way is one on every later day
  pub first-days : (u v k t : ℕ) (way : Way) → IsFirstWay g o u v t way → IsFirstWay g o u v (k * day + t) way
  first-days u v k t way f = record {
    candidate = f.candidate;
    arrival = k * day + f.arrival;
    arrives = arrives-days u v k t way f.arrival f.candidate f.arrives;
    first = λ other later c a.
        let (x, e, y) = arrives-back u v k t other later c a in
        elim (f.first other x c y) [
          | inl less ↦ inl (omega (arith, less, e))
          | inr tie ↦ inr (let same = tie.0 in omega (arith, same, e), tie.1)
        ];
  }

first_by : (h : HierarchyValue) → IsBuilt h → (u v low high : ℕ) (dir : Dir) → start_of (record { low = low; high = high }) dir ≡ u
    → end_of (record { low = low; high = high }) dir ≡ v → (o : Option ℕ) → number_from 0 h.edges low high ≡ o
    → (s : ℕ) (way : Way) → s < day → way_in (list_of_some h o dir) s ≡ Some way → IsFirstWay h.network h.order u v s way
first_by h f u v low high dir su sv None e s way lt is = absurd (cc is)
first_by h f u v low high dir su sv (Some edge) e s way lt is =
    let (j, same, there) = number_found 0 h.edges low high edge e in
    let at_edge : j ≡ edge = omega (arith, same) in
    let at : slice_get h.edges edge ≡ Some (record { low = low; high = high }) = subst (λ (n : ℕ). slice_get h.edges n ≡ Some (record { low = low; high = high })) at_edge there in
    let first = (f.built edge dir (record { low = low; high = high }) at).first s way lt is in
    subst (λ (x : ℕ). IsFirstWay h.network h.order x v s way) su
    (subst (λ (y : ℕ). IsFirstWay h.network h.order (start_of (record { low = low; high = high }) dir) y s way) sv first)

-- in a built hierarchy the way in force at any second, on any day, is the first way
pub built_first : (h : HierarchyValue) → IsBuilt h → (u v t : ℕ) (way : Way) → way_from h u v t ≡ Some way → IsFirstWay h.network h.order u v t way
built_first h f u v t way e =
    let s = t % day in
    let lt : s < day = mod_below t day (omega arith) in
    let here : IsFirstWay h.network h.order u v s way =
    elim (cases_lt u v) [
      | inl less ↦
          let up : ltb u v ≡ true = grind (arith, less) in
          let is : way_in (list_of_some h (number_from 0 h.edges u v) Up) s ≡ Some way = rw up at e in
          first_by h f u v u v Up refl refl (number_from 0 h.edges u v) refl s way lt is
      | inr more ↦
          let down : ltb u v ≡ false = grind (arith, more) in
          let is : way_in (list_of_some h (number_from 0 h.edges v u) Down) s ≡ Some way = rw down at e in
          first_by h f u v v u Down refl refl (number_from 0 h.edges v u) refl s way lt is
    ] in
    subst (λ (x : ℕ). IsFirstWay h.network h.order u v x way) (div-add-mod' t day) (first-days h.network h.order f.sound.network u v (t / day) s way here)
