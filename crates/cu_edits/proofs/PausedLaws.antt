-- A settler put aside may be handed the graph and the roads again; and what it knew of the hierarchy before the edit is known still.
use Rattle.std.proofs.Common.{◌≡◌, ℕ, List, Option, subst}
use Rattle.std.specs.Prelude.{IfSome}
use Rattle.cu_model.specs.declared.roads.Edit.{Edit}
use Rattle.cu_model.specs.Networks.{IsNetwork}
use Rattle.cu_chordal.specs.Graphs.{ChordalValue}
use Rattle.cu_interval.specs.Hierarchies.{HierarchyValue}
use Rattle.cu_unpack.specs.RebuiltRuns.{PackedValue}
use Rattle.cu_edits.specs.declared.settler_state.PackedState.{PackedState}
use Rattle.cu_edits.specs.declared.settler_state.SettlerState.{SettlerState}
use Rattle.cu_edits.specs.declared.settler_state.SettlerState.TheVariants.{Nothing, Packed, Plain}
use Rattle.cu_edits.specs.Learned.{ArePackedOf}
use Rattle.cu_edits.specs.Paused.{FitsPaused, PausedValue}
use Rattle.cu_edits.specs.Settling.{SettlingValue}
use Rattle.cu_edits.specs.Steps.Holding.{settling_of}
use Rattle.cu_edits.specs.Steps.Packed.{IsSettlingPacked}
use Rattle.cu_edits.specs.Steps.Parts.{AreParts}
use Rattle.cu_edits.specs.Steps.SettlerStates.{Holds}
use Rattle.cu_resettled.specs.ResettlingAll.{edited_all}
use Rattle.cu_edits.specs.Lists.{AreInRange}
use Rattle.cu_edits.proofs.EditedLists.{edited_networks}

-- what is held is held over parts of the hierarchy
parts_held : (s : SettlingValue) (graph : ChordalValue) (arcs : List (List ℕ)) (state : SettlerState) → Holds s graph arcs state → AreParts s.before s.edit graph arcs
parts_held s graph arcs (Nothing learned) h = h.0.parts
parts_held s graph arcs (Packed packed) h = h.parts
parts_held s graph arcs (Plain plain) h = record {
  hierarchy = h.hierarchy;
  roads = h.roads;
  range = h.range;
  pieces = h.pieces;
}

-- and over any others of the same
pub held_over : (s : SettlingValue) (state : SettlerState) (graph other : ChordalValue) (arcs roads : List (List ℕ)) → Holds s graph arcs state → AreParts s.before s.edit other roads
    → Holds s other roads state
held_over s (Nothing learned) graph other arcs roads (none, known) parts = (record { none = none.none; parts = parts }, known)
held_over s (Packed packed) graph other arcs roads h parts = record {
  are = h.are;
  parts = parts;
  known = h.known;
  places = h.places;
  inside = h.inside;
  stands = h.stands;
  moves = h.moves;
}
held_over s (Plain plain) graph other arcs roads h parts = record {
  are = h.are;
  hierarchy = parts.hierarchy;
  roads = parts.roads;
  range = parts.range;
  pieces = parts.pieces;
  size = h.size;
  keeps = h.keeps;
  count = h.count;
  functions = h.functions;
  settled = h.settled;
}

module _ (h : HierarchyValue) (edit : List Edit) (paused : PausedValue) (fits : FitsPaused h edit paused) where
  held_parts : AreParts h edit fits.0 fits.1
  held_parts = parts_held (settling_of h edit paused.settled) fits.0 fits.1 paused.state fits.2

  -- the edit is one of the hierarchy, and leaves a network
  pub paused_range : AreInRange h.network edit
  paused_range = held_parts.range

  pub paused_network : IsNetwork (edited_all h.network edit)
  paused_network = edited_networks h.network edit held_parts.hierarchy.1.network held_parts.range held_parts.pieces

  -- what was learned of the hierarchy
  pub nothing_earlier : (learned : Option PackedValue) → paused.state ≡ Nothing learned → IfSome learned (ArePackedOf h)
  nothing_earlier learned is =
      let (none, known) = subst (Holds (settling_of h edit paused.settled) fits.0 fits.1) is fits.2 in
      known

  pub packed_earlier : (packed : PackedState) → paused.state ≡ Packed packed → ArePackedOf h packed.functions
  packed_earlier packed is =
      let held : IsSettlingPacked (settling_of h edit paused.settled) fits.0 fits.1 packed.functions packed.moved
      = subst (Holds (settling_of h edit paused.settled) fits.0 fits.1) is fits.2 in
      held.known
