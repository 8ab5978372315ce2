use Rattle.std.proofs.Common.{◌≤◌, arith, subst}
use Rattle.cu_chordal.specs.Graphs.{ChordalValue}
use Rattle.cu_edits.specs.Steps.Moving.{IsListUpTo, LetsGo, MovedValue}
use Rattle.cu_edits.specs.Steps.Parts.{settling_over}
use Rattle.cu_edits.specs.Steps.SettlerStates.{Holds}
use Rattle.cu_edits.proofs.LettingGo.{holds_let_go}
use Rattle.cu_edits.proofs.letting_go.let_go_below.Goals as goal

pub returns : goal.returns
returns g c settled held =
    let parts = c.args.parts.now in
    let s = settling_over parts settled in
    let old = c.in-Packed.packed in
    let after = c.let_go_from.new.state.moved in
    let low = c.ends-low.result.low in
    let risen : MovedValue = record { places = old.moved.places; functions = old.moved.functions; low = low } in
    let first = c.low-first.ensures in
    let less = c.if-low-first.false in
    let rises : old.moved.low ≤ low = omega (arith, first, less) in
    let lets = subst (λ (m : MovedValue). LetsGo (IsListUpTo c.graph.result.now.edges m.low) m after) c.rise_to.ensures c.let_go_from.ensures.moved in
    holds_let_go s parts.graph parts.arcs old.functions c.let_go_from.new.state.functions old.moved after low (subst (Holds s parts.graph parts.arcs) c.in-Packed.is held) rises
    (subst (λ (k : ChordalValue). LetsGo (IsListUpTo k.edges low) risen after) c.graph.ensures.same lets) c.let_go_from.ensures.spared
