-- What is packed again where a network and some lists are replaced, and least bounds that stay then.
use Rattle.std.specs.Prelude.{List, map}
use Rattle.cu_model.specs.Networks.{NetworkValue}
use Rattle.cu_interval.specs.declared.ways.TouchedEdge.{TouchedEdge}
use Rattle.cu_interval.specs.Hierarchies.{HierarchyValue}
use Rattle.cu_interval.specs.Replacing.{replaced}
use Rattle.cu_bounds.specs.KeptBounds.{BoundsStayBut}

-- a hierarchy with this network in the place of its own, and with the lists of these edges replaced
abbrev pub with_roads : HierarchyValue → NetworkValue → List TouchedEdge → HierarchyValue
with_roads h g lists = record h {
  network = g;
  lists = replaced h.lists lists;
}

-- each list of an edge that isn't among these has the same least bound then
abbrev pub KeepsOtherBounds : HierarchyValue → NetworkValue → List TouchedEdge → Type 0
KeepsOtherBounds h g lists = BoundsStayBut h (with_roads h g lists) (map (λ (touched : TouchedEdge). touched.edge) lists)
