-- Functions of shortcuts by list number, and such in two layers: some of them stand in the place of older ones.
use Rattle.std.specs.Prelude.{ℕ, zero, suc, List, [], ◌∷◌, Option, Some, None, map}
use Rattle.std.specs.Option.{option_map}
use Rattle.std.proofs.Common.{get_or}
use Rattle.cu_arrival.specs.declared.runs.Run.{Run}
use Rattle.cu_arrival.specs.Runs.{arrival_value}

-- functions by list number, each that has a place in the place of the older one
abbrev pub layered : List (Option (List Run)) → List ℕ → List (Option (List Run)) → List (Option (List Run))
layered [] places newer = []
layered (f ∷ fs) [] newer = f ∷ fs
layered (f ∷ fs) (zero ∷ ps) newer = f ∷ layered fs ps newer
layered (f ∷ fs) (suc p ∷ ps) newer = get_or newer p f ∷ layered fs ps newer

-- for each list the function at its place among these
abbrev pub placed : List ℕ → List (Option (List Run)) → List (Option (List Run))
placed places kept = map (λ place. get_or kept place None) places

-- those with places, if there are such, or else those without
abbrev pub older : Option (List (Option (List Run))) → List (Option (List Run)) → List (Option (List Run))
older None functions = functions
older (Some with_places) functions = with_places

-- what a kept function says
abbrev pub value_kept : Option (Option (List Run)) → Option (ℕ → ℕ)
value_kept None = None
value_kept (Some function) = option_map arrival_value function
