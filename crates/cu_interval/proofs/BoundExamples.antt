-- Least bounds, computed on small networks.
use Rattle.std.proofs.Common.{◌≡◌, ℕ, [], ◌∷◌, refl}
use Rattle.cu_model.specs.declared.profiles.Rule.TheVariants.{Until}
use Rattle.cu_interval.specs.declared.ways.Dir.TheVariants.{Up, Down}
use Rattle.cu_interval.proofs.Examples.{three, three_built, four, forged}
use Rattle.cu_interval.specs.LeastBounds.{far, bound_over}
use Rattle.cu_interval.specs.LeastPieces.{road_pieces, rule_least}

-- by the pieces of their profiles, the roads of three nodes; waiting until 36100 takes 101 at least
abbrev travels : ℕ → ℕ
travels = road_pieces three

roads_alone : travels 0 ∷ travels 1 ∷ travels 2 ∷ rule_least (Until 36100) 36000 ∷ [] ≡ 60 ∷ 100 ∷ 250 ∷ 101 ∷ []
roads_alone = refl

bounds_of_three : bound_over travels three_built 0 Up ∷ bound_over travels three_built 0 Down ∷ bound_over travels three_built 1 Up
    ∷ bound_over travels three_built 1 Down ∷ bound_over travels three_built 2 Up ∷ bound_over travels three_built 2 Down ∷ []
    ≡ far ∷ 60 ∷ 100 ∷ far ∷ 160 ∷ far ∷ []
bounds_of_three = refl

-- and where each road takes ten seconds
abbrev tens : ℕ → ℕ
tens = road_pieces four

bounds_of_forged : bound_over tens forged 3 Down ∷ bound_over tens forged 4 Up ∷ bound_over tens forged 5 Up ∷ [] ≡ 20 ∷ 20 ∷ 40 ∷ []
bounds_of_forged = refl
