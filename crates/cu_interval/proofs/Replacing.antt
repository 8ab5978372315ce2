-- Lists of which some are replaced are as many as before.
use Rattle.std.proofs.Common.{◌≡◌, ◌∙◌, List, [], ◌∷◌, length, refl}
use Rattle.std.specs.Prelude.{slice_set}
use Rattle.std.proofs.lemmas.List.{length-set}
use Rattle.cu_interval.specs.declared.ways.Dir.TheVariants.{Up, Down}
use Rattle.cu_interval.specs.declared.ways.Entry.{Entry}
use Rattle.cu_interval.specs.declared.ways.TouchedEdge.{TouchedEdge}
use Rattle.cu_interval.specs.Hierarchies.{list_number}
use Rattle.cu_interval.specs.Replacing.{replaced, replaced_by}

pub replaced_by_long : (lists : List (List Entry)) (touched : TouchedEdge) → length (replaced_by lists touched) ≡ length lists
replaced_by_long lists touched =
    length-set (slice_set lists (list_number touched.edge Up) touched.up) (list_number touched.edge Down) touched.down
    ∙ length-set lists (list_number touched.edge Up) touched.up

pub replaced_long : (lists : List (List Entry)) (edges : List TouchedEdge) → length (replaced lists edges) ≡ length lists
replaced_long lists [] = refl
replaced_long lists (touched ∷ edges) = replaced_long (replaced_by lists touched) edges ∙ replaced_by_long lists touched
