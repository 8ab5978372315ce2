-- What a settler holds: what was learned earlier, packed runs, or plain functions.
use Rattle.std.specs.Prelude.{ℕ, List, Option, [], ◌≡◌, IfSome}
use Rattle.cu_chordal.specs.Graphs.{ChordalValue}
use Rattle.cu_interval.specs.declared.ways.Dir.{Dir}
use Rattle.cu_interval.specs.declared.ways.TouchedEdge.{TouchedEdge}
use Rattle.cu_edits.specs.declared.settler_state.SettlerState.{SettlerState}
use Rattle.cu_edits.specs.declared.settler_state.SettlerState.TheVariants.{Nothing, Packed, Plain}
use Rattle.cu_edits.specs.declared.settler_state.PackedState.{PackedState}
use Rattle.cu_edits.specs.declared.new_list.NewList.{NewList}
use Rattle.cu_edits.specs.Learned.{ArePackedOf}
use Rattle.cu_edits.specs.Settling.{SettlingValue}
use Rattle.cu_edits.specs.Steps.Packed.{IsSettlingPacked}
use Rattle.cu_edits.specs.Steps.Holding.{IsNext, IsSettling}
use Rattle.cu_edits.specs.Steps.Moving.{IsNewList}
use Rattle.cu_edits.specs.Steps.Parts.{AreParts, PartsValue, settling_over}

-- no edge was settled
pub record IsSettlingNone (s : SettlingValue) (graph : ChordalValue) (arcs : List (List ℕ)) : Type 0 where
  pub none : s.settled ≡ []
  pub parts : AreParts s.before s.edit graph arcs

abbrev pub Holds : SettlingValue → ChordalValue → List (List ℕ) → SettlerState → Type 0
Holds s graph arcs (Nothing learned) = IsSettlingNone s graph arcs × IfSome learned (ArePackedOf s.before)
Holds s graph arcs (Packed packed) = IsSettlingPacked s graph arcs packed.functions packed.moved
Holds s graph arcs (Plain plain) = IsSettling s graph arcs plain.rebuilt plain.known.items

-- so it is of an edit with these parts, once these edges were settled
abbrev pub HoldsOver : PartsValue → List TouchedEdge → SettlerState → Type 0
HoldsOver p settled state = Holds (settling_over p settled) p.graph p.arcs state

-- and of packed runs
abbrev pub HoldsPacked : PartsValue → List TouchedEdge → PackedState → Type 0
HoldsPacked p settled state = IsSettlingPacked (settling_over p settled) p.graph p.arcs state.functions state.moved

-- this is the list of an edge in a direction, whatever was settled before, if it was found
abbrev pub SettlesList : PartsValue → PackedState → ℕ → Dir → Option NewList → Type 0
SettlesList p state edge dir found = (done : List TouchedEdge) → HoldsPacked p done state → IsNext (settling_over p done) edge
    → IfSome found (IsNewList (settling_over p done) state.moved edge dir)

-- something is held
abbrev pub IsBegun : SettlerState → Type 0
IsBegun (Nothing learned) = ⊥
IsBegun (Packed packed) = Unit {0}
IsBegun (Plain plain) = Unit {0}

-- no function was let go of
abbrev pub KeepsAll : SettlerState → Type 0
KeepsAll (Nothing learned) = Unit {0}
KeepsAll (Packed packed) = packed.moved.low ≡ 0
KeepsAll (Plain plain) = Unit {0}

-- plain functions are
abbrev pub IsPlain : SettlerState → Type 0
IsPlain (Nothing learned) = ⊥
IsPlain (Packed packed) = ⊥
IsPlain (Plain plain) = Unit {0}
