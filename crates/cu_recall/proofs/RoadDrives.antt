-- Driving one road while a rule is in force.
use Rattle.std.proofs.Common.{◌≡◌, ◌≤◌, ◌<◌, ◌+◌, ◌-◌, ◌*◌, ◌/◌, ◌%◌, ◌∙◌, ℕ, List, Option, Some, None, refl, sym, ap, subst, arith, length, min}
use Rattle.std.specs.Prelude.{slice_get}
use Rattle.std.specs.Option.{option_map}
use Rattle.cu_model.specs.declared.profiles.Piece.{Piece}
use Rattle.cu_model.specs.declared.profiles.Rule.{Rule}
use Rattle.cu_model.specs.declared.profiles.Rule.TheVariants as rule
use Rattle.cu_model.specs.declared.roads.RoadArc.{RoadArc}
use Rattle.cu_model.specs.Days.{day}
use Rattle.cu_model.specs.Networks.{NetworkValue, IsNetwork}
use Rattle.cu_model.specs.Profiles.{piece_at, piece_value, rule_value}
use Rattle.cu_model.specs.Roads.{arc_value, pieces_or_none, value_by, value_of}
use Rattle.cu_model.proofs.RoadLaws.{arc_value-onward}
use Rattle.cu_interval.specs.declared.ways.Way.TheVariants as way
use Rattle.cu_interval.specs.Hierarchies.{HierarchyValue, IsHierarchy, way_from}
use Rattle.cu_pack.specs.declared.cutting.in_force.RuleInForce.{RuleInForce}
use Rattle.cu_pack.specs.InForce.{AreAround, IsRuleInForce, rule_at, rule_by, rule_of_pieces}
use Rattle.cu_recall.specs.declared.spans.Driven.{Driven}
use Rattle.cu_recall.specs.Spans.{WalkTakes}
use Rattle.cu_recall.specs.Windows.{IsDriven, IsNear, IsWindow}
use Rattle.cu_recall.specs.Steps.Drives.{DrivesBy, DrivesRoad}
use Rattle.cu_recall.proofs.Joining.{road_walk}

piece_rule : (o : Option Piece) (r : Rule) → option_map (λ (p : Piece). p.rule) o ≡ Some r → (k s : ℕ) → piece_value o k s ≡ rule_value r k s
piece_rule None r e k s = absurd (cc e)
piece_rule (Some p) r e k s = let same : p.rule ≡ r = cc e in ap (λ (x : Rule). rule_value x k s) same

profile_rule : (o : Option (List Piece)) (r : Rule) (t : ℕ) → t < day → rule_of_pieces (pieces_or_none o) t ≡ Some r → value_of o t ≡ rule_value r 0 t
profile_rule None r t lt e = absurd (cc e)
profile_rule (Some pieces) r t lt e =
    let time : t % day ≡ t = omega (arith, lt) in
    let zero : t / day ≡ 0 = omega (arith, lt) in
    ap (λ (n : ℕ). piece_value (piece_at pieces n) (t / day) n) time
    ∙ ap (λ (k : ℕ). piece_value (piece_at pieces t) k t) zero
    ∙ piece_rule (piece_at pieces t) r e 0 t

arc_rule : (g : NetworkValue) (o : Option RoadArc) (r : Rule) (t : ℕ) → t < day → rule_by g o t ≡ Some r → value_by g o t ≡ rule_value r 0 t
arc_rule g None r t lt e = absurd (cc e)
arc_rule g (Some arc) r t lt e = profile_rule (slice_get g.profiles arc.profile) r t lt e

-- when a road arrives, by its rule at a second of the day
pub rule_arrives : (g : NetworkValue) (road : ℕ) (r : Rule) (t : ℕ) → t < day → rule_at g road t ≡ Some r → arc_value g road t ≡ rule_value r 0 t
rule_arrives g road r t lt e = arc_rule g (slice_get g.arcs road) r t lt e

-- no rule in force arrives before the second
pub rule_onward : (g : NetworkValue) → IsNetwork g → (road second : ℕ) (found : RuleInForce) → road < length g.arcs → second < day → IsRuleInForce g road second found
    → second ≤ rule_value found.rule 0 second
rule_onward g n road second found inside lt force =
    let near = force.0 in
    let e = rule_arrives g road found.rule second lt (force.1 second near.0 near.1) in
    let on = arc_value-onward g n road inside second in
    subst (λ (x : ℕ). second ≤ x) e on

-- driving by the rule is driving the road
pub drives_road : (g : NetworkValue) (road second back ahead : ℕ) (found : RuleInForce) (driven : Driven) → IsRuleInForce g road second found → DrivesBy found second back ahead driven
    → DrivesRoad g road second back ahead driven
drives_road g road second back ahead found driven force by =
    let until = force.0.2 in
    record {
      window = by.window;
      behind = by.behind;
      before = by.before;
      one = by.one;
      arrives = λ t near.
          let inside = by.inside t near in
          let high = inside.1 in
          rule_arrives g road found.rule t (omega (arith, high, until)) (force.1 t inside.0 high) ∙ by.arrives t near;
    }

-- a travel, over the seconds at which the rule is in force
pub drives_over : (found : RuleInForce) (second back ahead travel : ℕ) → IsWindow second back ahead → AreAround second found.from found.until
    → ((t : ℕ) → rule_value found.rule 0 t ≡ t + travel)
    → DrivesBy found second back ahead (record { back = min back (second - found.from); ahead = min ahead (found.until - second); travel = travel; roads = 1 })
drives_over found second back ahead travel window near value =
    let w0 = window.0 in
    let w1 = window.1 in
    let w2 = window.2 in
    let n0 = near.0 in
    let n1 = near.1 in
    record {
      window = (omega (arith, w0), omega (arith, w1, n1), omega (arith, w2));
      behind = omega arith;
      before = omega arith;
      one = refl;
      inside = λ t is. let low = is.0 in let high = is.1 in (omega (arith, low, n0), omega (arith, high, n1));
      arrives = λ t is. value t;
    }

-- a wait until an arrival, at its second alone
pub drives_until : (found : RuleInForce) (second back ahead arrival : ℕ) → IsWindow second back ahead → AreAround second found.from found.until
    → found.rule ≡ rule.Until arrival → second ≤ arrival
    → DrivesBy found second back ahead (record { back = 0; ahead = 1; travel = arrival - second; roads = 1 })
drives_until found second back ahead arrival window near is on =
    let w1 = window.1 in
    let w2 = window.2 in
    let n0 = near.0 in
    let n1 = near.1 in
    record {
      window = (omega arith, omega arith, omega (arith, w1, w2));
      behind = omega arith;
      before = omega (arith, w1);
      one = refl;
      inside = λ t at. let low = at.0 in let high = at.1 in (omega (arith, low, n0), omega (arith, high, n1));
      arrives = λ t at.
          let low = at.0 in
          let high = at.1 in
          let value : rule_value found.rule 0 t ≡ day * 0 + arrival = ap (λ (r : Rule). rule_value r 0 t) is in
          omega (arith, value, low, high, on);
    }

-- a list whose way is this road near the second takes what the road does
pub road_driven : (h : HierarchyValue) → IsHierarchy h → (u v road second back ahead : ℕ) (driven : Driven) → DrivesRoad h.network road second back ahead driven
    → ((t : ℕ) → IsNear second back ahead t → way_from h u v t ≡ Some (way.Road road)) → IsDriven h u v second driven
road_driven h f u v road second back ahead driven drives taken =
    let b = drives.behind in
    let a = drives.before in
    record {
      window = drives.window;
      takes = λ t near.
          let low = near.0 in
          let high = near.1 in
          subst (λ n. WalkTakes h u v t driven.travel n) (sym drives.one)
          (road_walk h f u v t road driven.travel (taken t (omega (arith, low, b), omega (arith, high, a))) (drives.arrives t near));
    }
