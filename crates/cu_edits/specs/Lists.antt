-- Lists of edits, made in turn.
use Rattle.std.specs.Prelude.{List, [], ◌∷◌}
use Rattle.cu_model.specs.declared.roads.Edit.{Edit}
use Rattle.cu_model.specs.Edits.{IsEditInRange, edited}
use Rattle.cu_model.specs.Networks.{NetworkValue}
use Rattle.cu_edits.specs.Steps.Known.{IsEditSound}

-- the numbers of each are in range of the network as edited by those before it
abbrev pub AreInRange : NetworkValue → List Edit → Type 0
AreInRange g [] = Unit {0}
AreInRange g (edit ∷ edits) = IsEditInRange g edit × AreInRange (edited g edit) edits

-- the pieces that they set are profiles
abbrev pub AreSound : List Edit → Type 0
AreSound [] = Unit {0}
AreSound (edit ∷ edits) = IsEditSound edit × AreSound edits
