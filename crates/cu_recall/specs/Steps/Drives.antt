-- Driving one road from a second of the day.
use Rattle.std.specs.Prelude.{ℕ, ◌≡◌, ◌≤◌, ◌<◌, ◌+◌}
use Rattle.cu_model.specs.Networks.{NetworkValue}
use Rattle.cu_model.specs.Profiles.{rule_value}
use Rattle.cu_model.specs.Roads.{arc_value}
use Rattle.cu_pack.specs.declared.cutting.in_force.RuleInForce.{RuleInForce}
use Rattle.cu_recall.specs.declared.spans.Driven.{Driven}
use Rattle.cu_recall.specs.Windows.{IsNear, IsWindow}

-- near the second, and no farther than it may be and than the rule is in force, driving by it takes the same
pub record DrivesBy (found : RuleInForce) (second back ahead : ℕ) (driven : Driven) : Type 0 where
  pub window : IsWindow second driven.back driven.ahead
  pub behind : driven.back ≤ back
  pub before : driven.ahead ≤ ahead
  pub one : driven.roads ≡ 1
  pub inside : (t : ℕ) → IsNear second driven.back driven.ahead t → (found.from ≤ t) × (t < found.until)
  pub arrives : (t : ℕ) → IsNear second driven.back driven.ahead t → rule_value found.rule 0 t ≡ t + driven.travel

-- the same of a road
pub record DrivesRoad (g : NetworkValue) (road second back ahead : ℕ) (driven : Driven) : Type 0 where
  pub window : IsWindow second driven.back driven.ahead
  pub behind : driven.back ≤ back
  pub before : driven.ahead ≤ ahead
  pub one : driven.roads ≡ 1
  pub arrives : (t : ℕ) → IsNear second driven.back driven.ahead t → arc_value g road t ≡ t + driven.travel
