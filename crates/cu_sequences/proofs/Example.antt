-- By hand: two roads over a middle, whose list has the middle as its only entry, are a sequence.
use Rattle.std.proofs.Common.{◌≡◌, [], ◌∷◌, ◌+◌, Some, None, refl}
use Rattle.cu_interval.specs.declared.ways.Way.TheVariants.{Road, Via}
use Rattle.cu_sequences.specs.Sequences.{list_sequence}

over_middle : list_sequence (λ u v. Some ((u + 3) ∷ [])) 1 2 (record { from = 0; way = Via 0 } ∷ []) ≡ Some (4 ∷ 3 ∷ [])
over_middle = refl

-- a list that turns is none, whatever its halves are
turns : list_sequence (λ u v. Some ((u + 3) ∷ [])) 1 2 (record { from = 0; way = Via 0 } ∷ record { from = 60; way = Road 9 } ∷ []) ≡ None
turns = refl
