-- Roads and walks: no road arrives before it leaves, none lets a later departure arrive earlier, and walks may be joined end to end.
use Rattle.std.proofs.Common.{◌≡◌, ◌≤◌, ◌<◌, ◌+◌, ◌*◌, ◌/◌, ◌%◌, ℕ, List, [], ◌∷◌, ◌++◌, length, Option, Some, None, refl, sym, subst, arith, inl, inr, ◌⊎◌, leb, ltb, suc, true}
use Rattle.std.proofs.Common.{false, All, if◌then◌else◌}
use Rattle.std.specs.Prelude.{slice_get}
use Rattle.std.proofs.lemmas.Option.{slice_get_within, get_or_from_slice_get, slice_get_cases}
use Rattle.std.proofs.lemmas.List.Elements.{All-get_or}
use Rattle.std.proofs.lemmas.Nat.{div-add-mod'}
use Rattle.std.proofs.lemmas.Bool.{and_parts, leb-true}
use Rattle.cu_model.specs.declared.limits.TheConstants.{MAX_TRAVEL, MAX_UNTIL}
use Rattle.cu_model.specs.declared.profiles.Piece.{Piece}
use Rattle.cu_model.specs.declared.profiles.Rule.{Rule}
use Rattle.cu_model.specs.declared.profiles.Rule.TheVariants.{Travel, Until, Closed}
use Rattle.cu_model.specs.declared.roads.RoadArc.{RoadArc}
use Rattle.cu_model.specs.Begun.{later_of}
use Rattle.cu_model.specs.Days.{day}
use Rattle.cu_model.specs.Profiles.{piece_at, rule_value, profile_value, is_in_limit, is_rule_in_limit, IsProfile}
use Rattle.cu_model.specs.Networks.{NetworkValue, IsNetwork, IsArcInRange}
use Rattle.cu_model.specs.Roads.{Links, Leads, IsWalk, arc_value, drive}
use Rattle.cu_model.proofs.ProfileLaws.{begun_at, profile_value-onward, profile_value-fifo}

-- what holds of all elements holds of one by its number
pub all_at : {X : Type 0} (P : X → Type 0) (xs : List X) (i : ℕ) (x : X) → All P xs → slice_get xs i ≡ Some x → P x
all_at P xs i x all e =
    let h = All-get_or P xs i x (slice_get_within xs i x e) all in
    subst P (get_or_from_slice_get xs i x x e) h

later_one_of : {A : Type 0} (first second : Option A) (x : A) → later_of first second ≡ Some x → (first ≡ Some x) ⊎ (second ≡ Some x)
later_one_of first None x e = inl e
later_one_of first (Some y) x e = inr e

begun_one : (p : Piece) (s : ℕ) (x : Piece) → (if leb p.from s then Some p else None) ≡ Some x → p ≡ x
begun_one p s x e = elim (leb p.from s) as (λ b. (if b then Some p else None) ≡ Some x → p ≡ x) [ true ↦ λ f. cc f | false ↦ λ f. absurd (cc f) ] e

tail_all : {X : Type 0} (P : X → Type 0) (x : X) (xs : List X) → All P (x ∷ xs) → All P xs
tail_all P x xs all = λ k d h. all (suc k) d (omega (arith, h))

pub in_limit : (ps : List Piece) (s : ℕ) (x : Piece) → All (λ (piece : Piece). is_in_limit piece ≡ true) ps → piece_at ps s ≡ Some x → is_rule_in_limit x.rule ≡ true
in_limit [] s x all e = absurd (cc e)
in_limit (p ∷ ps) s x all e =
    elim (later_one_of (if leb p.from s then Some p else None) (piece_at ps s) x e) [
      | inl here ↦
          let first = and_parts (ltb p.from day) (is_rule_in_limit p.rule) (all 0 p (omega arith)) in
          subst (λ (q : Piece). is_rule_in_limit q.rule ≡ true) (begun_one p s x here) first.1
      | inr later ↦ in_limit ps s x (tail_all (λ (piece : Piece). is_in_limit piece ≡ true) p ps all) later
    ]

rule_value-near : (r : Rule) (k s : ℕ) → is_rule_in_limit r ≡ true → rule_value r k s ≤ (k * day + s) + MAX_UNTIL
rule_value-near (Travel d) k s h = let most = leb-true d MAX_TRAVEL h in omega (arith, most)
rule_value-near (Until c) k s h = let most = leb-true c MAX_UNTIL h in omega (arith, most)
rule_value-near (Closed v) k s h = omega arith

-- no profile arrives more than eight days after it leaves
pub profile_value-near : (ps : List Piece) → IsProfile ps → (t : ℕ) → profile_value ps t ≤ t + MAX_UNTIL
profile_value-near ps f t =
    let (p, e) = begun_at ps f (t % day) in
    let rule = in_limit ps (t % day) p f.limits e in
    let near = rule_value-near p.rule (t / day) (t % day) rule in
    let parts = div-add-mod' t day in
    let same : profile_value ps t ≡ rule_value p.rule (t / day) (t % day) = rw e refl in
    omega (arith, near, parts, same)

module _ (g : NetworkValue) where
  -- a road's number finds it
  pub road_at : (a : ℕ) → a < length g.arcs → (arc : RoadArc) × (slice_get g.arcs a ≡ Some arc)
  road_at a h =
      elim (slice_get_cases g.arcs a).1 [
        | inl k ↦ (k.0, k.2)
        | inr k ↦ absurd (let p = k.0 in omega (arith, h, p))
      ]

  module _ (a u v : ℕ) where
    -- a road that leads from one node to another has these ends
    pub leads-links : Leads g a u v → Links g a u v
    leads-links l = l.0

    -- only a road that is there has ends
    pub links_within : Links g a u v → a < length g.arcs
    links_within l = slice_get_within g.arcs a l.0 l.1

    pub leads_within : Leads g a u v → a < length g.arcs
    leads_within l = links_within l.0

    -- a road has one tail, and one head
    pub links-tail : (x y : ℕ) → Links g a u v → Links g a x y → u ≡ x
    links-tail x y l m = let (p, e, t, h) = l in let (q, f, i, j) = m in cc

    pub links-head : (x y : ℕ) → Links g a u v → Links g a x y → v ≡ y
    links-head x y l m = let (p, e, t, h) = l in let (q, f, i, j) = m in cc

  -- two walks, one after the other
  pub walk-append : (u : ℕ) (first : List ℕ) (x : ℕ) (second : List ℕ) (v : ℕ) → IsWalk g u first x → IsWalk g x second v → IsWalk g u (first ++ second) v
  walk-append u [] x second v f s = subst (λ (y : ℕ). IsWalk g y second v) (sym f) s
  walk-append u (a ∷ first) x second v f s = let (y, l, more) = f in (y, l, walk-append y first x second v more s)

  pub drive-append : (first second : List ℕ) (t : ℕ) → drive g (first ++ second) t ≡ drive g second (drive g first t)
  drive-append [] second t = refl
  drive-append (a ∷ first) second t = drive-append first second (arc_value g a t)

  module _ (n : IsNetwork g) where
    module _ (a : ℕ) (arc : RoadArc) (there : slice_get g.arcs a ≡ Some arc) where
      range : IsArcInRange g arc
      range = all_at (IsArcInRange g) g.arcs a arc n.in_range there

      -- a road has a profile
      pub profile_of_road : (pieces : List Piece) × (slice_get g.profiles arc.profile ≡ Some pieces) × IsProfile pieces
      profile_of_road =
          elim (slice_get_cases g.profiles arc.profile).1 [
            | inl k ↦ (k.0, k.2, all_at IsProfile g.profiles arc.profile k.0 n.valid k.2)
            | inr k ↦ absurd (let p = k.0 in let q = range.2 in omega (arith, q, p))
          ]

      -- its ends are nodes
      pub tail_below : arc.tail < g.nodes
      tail_below = range.0

      pub head_below : arc.head < g.nodes
      head_below = range.1

    module _ (a u v : ℕ) (links : Links g a u v) where
      pub links-tail_below : u < g.nodes
      links-tail_below = let (arc, e, t, h) = links in subst (λ (x : ℕ). x < g.nodes) t (tail_below a arc e)

      pub links-head_below : v < g.nodes
      links-head_below = let (arc, e, t, h) = links in subst (λ (x : ℕ). x < g.nodes) h (head_below a arc e)

    module _ (a : ℕ) (within : a < length g.arcs) where
      -- a road's value is its profile's
      pub arc_value-by_profile : (pieces : List Piece) × IsProfile pieces × ((t : ℕ) → arc_value g a t ≡ profile_value pieces t)
      arc_value-by_profile =
          let (arc, e) = road_at a within in
          let (pieces, p, valid) = profile_of_road a arc e in
          (pieces, valid, λ t. rw (e, p) refl)

      -- no road arrives before it leaves
      pub arc_value-onward : (t : ℕ) → t ≤ arc_value g a t
      arc_value-onward t =
          let (pieces, valid, same) = arc_value-by_profile in
          rw (same t) (profile_value-onward pieces valid t)

      -- leaving later never arrives earlier
      pub arc_value-fifo : (t s : ℕ) → t ≤ s → arc_value g a t ≤ arc_value g a s
      arc_value-fifo t s le =
          let (pieces, valid, same) = arc_value-by_profile in
          rw (same t, same s) (profile_value-fifo pieces valid t s le)

      -- no road takes more than eight days
      pub arc_value-near : (t : ℕ) → arc_value g a t ≤ t + MAX_UNTIL
      arc_value-near t =
          let (pieces, valid, same) = arc_value-by_profile in
          rw (same t) (profile_value-near pieces valid t)

    -- no walk arrives before it leaves
    pub drive-onward : (u : ℕ) (walk : List ℕ) (v t : ℕ) → IsWalk g u walk v → t ≤ drive g walk t
    drive-onward u [] v t w = omega arith
    drive-onward u (a ∷ walk) v t w =
        let (x, l, more) = w in
        let here = arc_value-onward a (leads_within a u x l) t in
        let later = drive-onward x walk v (arc_value g a t) more in
        omega (arith, here, later)

    -- leaving later never arrives earlier, over a whole walk
    pub drive-fifo : (u : ℕ) (walk : List ℕ) (v t s : ℕ) → IsWalk g u walk v → t ≤ s → drive g walk t ≤ drive g walk s
    drive-fifo u [] v t s w le = le
    drive-fifo u (a ∷ walk) v t s w le =
        let (x, l, more) = w in
        drive-fifo x walk v (arc_value g a t) (arc_value g a s) more (arc_value-fifo a (leads_within a u x l) t s le)

    -- so many roads take at most eight days each
    pub drive-near : (u : ℕ) (walk : List ℕ) (v t : ℕ) → IsWalk g u walk v → drive g walk t ≤ t + MAX_UNTIL * length walk
    drive-near u [] v t w = omega arith
    drive-near u (a ∷ walk) v t w =
        let (x, l, more) = w in
        let here = arc_value-near a (leads_within a u x l) t in
        let later = drive-near x walk v (arc_value g a t) more in
        omega (arith, here, later)
