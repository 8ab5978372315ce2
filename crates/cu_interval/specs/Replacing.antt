-- The hierarchy that an edit leaves where the lists of some edges are replaced.
use Rattle.std.specs.Prelude.{List, [], ◌∷◌, slice_set}
use Rattle.cu_model.specs.declared.roads.Edit.{Edit}
use Rattle.cu_model.specs.Edits.{edited}
use Rattle.cu_interval.specs.declared.ways.Dir.TheVariants.{Up, Down}
use Rattle.cu_interval.specs.declared.ways.Entry.{Entry}
use Rattle.cu_interval.specs.declared.ways.TouchedEdge.{TouchedEdge}
use Rattle.cu_interval.specs.Hierarchies.{HierarchyValue, list_number}

-- lists by their number, with those of one edge in the place of its old ones
abbrev pub replaced_by : List (List Entry) → TouchedEdge → List (List Entry)
replaced_by lists touched =
    slice_set (slice_set lists (list_number touched.edge Up) touched.up) (list_number touched.edge Down) touched.down

-- the same of several edges in turn
abbrev pub replaced : List (List Entry) → List TouchedEdge → List (List Entry)
replaced lists [] = lists
replaced lists (touched ∷ more) = replaced (replaced_by lists touched) more

-- the hierarchy with its network edited and the lists of these edges replaced
abbrev pub hierarchy_with : HierarchyValue → Edit → List TouchedEdge → HierarchyValue
hierarchy_with h edit touched = record h {
  network = edited h.network edit;
  lists = replaced h.lists touched;
}
