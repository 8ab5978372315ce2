-- A profile's pieces as runs are an arrival function with the profile's values.
use Rattle.std.proofs.Common.{◌≡◌, ◌≤◌, ◌+◌, ◌/◌, ◌%◌, ◌^◌, ◌∙◌, ℕ, List, true, Option, Some, None, refl, sym, ap, subst, arith, ltb, map, get_or}
use Rattle.std.specs.Option.{option_map}
use Rattle.std.proofs.lemmas.Bool.{and_parts, ltb-true, leb-true}
use Rattle.std.proofs.lemmas.List.Elements.{All-map}
use Rattle.cu_model.specs.declared.limits.TheConstants.{MAX_TRAVEL, MAX_UNTIL}
use Rattle.cu_model.specs.declared.profiles.Piece.{Piece}
use Rattle.cu_model.specs.declared.profiles.Rule.{Rule}
use Rattle.cu_model.specs.declared.profiles.Rule.TheVariants.{Travel, Until, Closed}
use Rattle.cu_model.specs.Days.{day}
use Rattle.cu_model.specs.Profiles.{piece_at, piece_value, profile_value, is_in_limit, is_rule_in_limit, IsProfile}
use Rattle.cu_model.specs.Profiles.{rule_value as profile_rule_value}
use Rattle.cu_model.proofs.RoadLaws.{profile_value-near}
use Rattle.cu_arrival.specs.declared.runs.Run.{Run}
use Rattle.cu_arrival.specs.Runs.{run_value, rule_value, rule_number, arrival_value, IsRunInLimit, IsArrivalFunction}
use Rattle.cu_arrival.specs.Steps.OfPieces.{run_of, run_rule}
use Rattle.cu_arrival.proofs.Mapped.{last_begun-map, starts-map, Rises-map}

value_rule : (r : Rule) (k s : ℕ) → rule_value (run_rule r) k s ≡ profile_rule_value r k s
value_rule (Travel d) k s = refl
value_rule (Until c) k s = refl
value_rule (Closed v) k s = omega arith

value_piece : (o : Option Piece) (k s : ℕ) → run_value (option_map run_of o) k s ≡ piece_value o k s
value_piece None k s = refl
value_piece (Some p) k s = value_rule p.rule k s

-- the runs have the profile's values
pub value_map : (ps : List Piece) (t : ℕ) → arrival_value (map run_of ps) t ≡ profile_value ps t
value_map ps t =
    ap (λ (o : Option Run). run_value o (t / day) (t % day)) (last_begun-map run_of (λ (run : Run). run.from) ps (t % day))
    ∙ value_piece (piece_at ps (t % day)) (t / day) (t % day)

rule_limit : (r : Rule) → is_rule_in_limit r ≡ true → rule_number (run_rule r) ≤ 2 ^ 62
rule_limit (Travel d) h = let most = leb-true d MAX_TRAVEL h in omega (arith, most)
rule_limit (Until c) h = let most = leb-true c MAX_UNTIL h in omega (arith, most)
rule_limit (Closed v) h = omega arith

piece_limit : (p : Piece) → is_in_limit p ≡ true → IsRunInLimit (run_of p)
piece_limit p h =
    let parts = and_parts (ltb p.from day) (is_rule_in_limit p.rule) h in
    (ltb-true p.from day parts.0, rule_limit p.rule parts.1)

pub profile_function : (ps : List Piece) → IsProfile ps → IsArrivalFunction (map run_of ps)
profile_function ps f = record {
  limits = All-map IsRunInLimit run_of ps (λ k d h. piece_limit (get_or ps k d) (f.limits k d h));
  starts = starts-map run_of (λ (run : Run). run.from) ps ∙ f.starts;
  rises = Rises-map run_of (λ (run : Run). run.from) ps f.rises;
  onward = λ s h. subst (λ (t : ℕ). s ≤ t) (sym (value_map ps s)) (f.onward s h);
  fifo = λ s h. let a = value_map ps s in let b = value_map ps (s + 1) in let c = f.fifo s h in omega (arith, a, b, c);
  bounded = λ s h. let a = value_map ps s in let near = profile_value-near ps f s in omega (arith, a, near, h);
}
