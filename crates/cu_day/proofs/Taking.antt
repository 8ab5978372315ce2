-- Labels after an arc was taken by its function.
use Rattle.std.proofs.Common.{◌≡◌, ◌≢◌, ◌<◌, ◌∙◌, ◌^◌, ℕ, List, Option, Some, None, refl, sym, ap, min, length}
use Rattle.std.specs.Prelude.{IfSome, option_map, slice_get, slice_set}
use Rattle.std.proofs.lemmas.List.{length-set}
use Rattle.std.proofs.lemmas.List.Elements.{All-set}
use Rattle.cu_model.proofs.ListLaws.{get_here, get_other}
use Rattle.cu_model.specs.Days.{day}
use Rattle.cu_arrival.specs.declared.runs.Run.{Run}
use Rattle.cu_arrival.specs.Runs.{IsArrivalFunction, arrival_value}
use Rattle.cu_interval.specs.Resettling.{lesser_of}
use Rattle.cu_day.specs.Steps.Sweeping.{label_at, value_at}
use Rattle.cu_day.specs.Steps.Taking.{HasEarlier, TakesArc}

pub takes : (labels : List (Option (List Run))) (function label candidate : List Run) (standing now : Option (List Run)) (x y : ℕ) → x ≢ y
    → y < length labels
    → slice_get labels x ≡ Some (Some label) → slice_get labels y ≡ Some standing
    → ((t : ℕ) → t < day → arrival_value candidate t ≡ min (arrival_value function (arrival_value label t)) (2 ^ 62))
    → HasEarlier standing candidate now → TakesArc function x y labels (slice_set labels y now)
takes labels function label candidate standing None x y apart lt start end composed earlier = absurd earlier
takes labels function label candidate standing (Some least) x y apart lt start end composed earlier = record {
  long = length-set labels y (Some least);
  sound = λ sound. All-set (λ (l : Option (List Run)). IfSome l IsArrivalFunction) labels y (Some least) earlier.sound sound;
  others = λ t z differs. ap (λ (o : Option (Option (List Run))). value_at o t) (get_other labels y z (Some least) (λ same. differs (sym same)));
  end = λ t within.
      let here = ap (λ (o : Option (Option (List Run))). value_at o t) (get_here labels y (Some least) lt) in
      let value = earlier.value t within in
      let by = composed t within in
      let first = ap (λ (o : Option (Option (List Run))). value_at o t) end in
      let second = ap (λ (o : Option (Option (List Run))). value_at o t) start in
      here ∙ value ∙ ap (λ (o : Option ℕ). lesser_of o (Some (arrival_value candidate t))) (sym first)
      ∙ ap (λ (n : ℕ). lesser_of (label_at labels t y) (Some n)) by
      ∙ ap (λ (o : Option ℕ). lesser_of (label_at labels t y) (option_map (λ (s : ℕ). min (arrival_value function s) (2 ^ 62)) o)) (sym second);
}

-- without a label at its start an arc changes nothing
pub takes_none : (labels : List (Option (List Run))) (function : List Run) (x y : ℕ) → slice_get labels x ≡ Some None
    → TakesArc function x y labels labels
takes_none labels function x y none = record {
  long = refl;
  sound = λ sound. sound;
  others = λ t z differs. refl;
  end = λ t within.
      let start = ap (λ (o : Option (Option (List Run))). value_at o t) none in
      lesser_alone (label_at labels t y)
      ∙ ap (λ (o : Option ℕ). lesser_of (label_at labels t y) (option_map (λ (s : ℕ). min (arrival_value function s) (2 ^ 62)) o)) (sym start);
} where
  lesser_alone : (o : Option ℕ) → o ≡ lesser_of o None
  lesser_alone None = refl
  lesser_alone (Some n) = refl
