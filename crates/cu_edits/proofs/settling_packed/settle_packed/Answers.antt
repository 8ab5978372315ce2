use Rattle.std.proofs.Common.{List, Option, subst, sym}
use Rattle.std.specs.Prelude.{IfSome}
use Rattle.cu_interval.specs.declared.ways.Dir.TheVariants.{Down, Up}
use Rattle.cu_interval.specs.declared.ways.TouchedEdge.{TouchedEdge}
use Rattle.cu_edits.specs.declared.new_list.NewList.{NewList}
use Rattle.cu_edits.specs.Steps.Holding.{IsNext}
use Rattle.cu_edits.specs.Steps.Moving.{IsNewList}
use Rattle.cu_edits.specs.Steps.Parts.{settling_over}
use Rattle.cu_edits.specs.Steps.SettlerStates.{HoldsPacked}
use Rattle.cu_edits.proofs.Spared.{holds_spared}
use Rattle.cu_edits.proofs.settling_packed.settle_packed.Goals as goal

pub next_lists-requires-clause-holds : goal.next_lists-requires-clause-holds
next_lists-requires-clause-holds g c =
    let parts = c.args.parts.now in
    let state = c.args.state.now in
    let settling = settling_over parts c.deref.result.now in
    let holds = subst (λ (done : List TouchedEdge). HoldsPacked parts done state) (sym c.deref.ensures.value) c.requires.holds in
    holds_spared settling parts.graph parts.arcs state.functions c.spare.new.self state.moved holds c.spare.ensures

pub next_lists-requires-clause-asked : goal.next_lists-requires-clause-asked
next_lists-requires-clause-asked g c = subst (λ (done : List TouchedEdge). IsNext (settling_over c.args.parts.now done) c.args.edge) (sym c.deref.ensures.value) c.requires.asked

pub keep_lists-requires-clause-holds : goal.keep_lists-requires-clause-holds
keep_lists-requires-clause-holds g c = subst (λ (done : List TouchedEdge). HoldsPacked c.args.parts.now done c.next_lists.new.state) c.deref.ensures.value c.next_lists.ensures.holds

pub keep_lists-requires-clause-up : goal.keep_lists-requires-clause-up
keep_lists-requires-clause-up g c =
    subst (λ (done : List TouchedEdge). IsNewList (settling_over c.args.parts.now done) c.next_lists.new.state.moved c.args.edge Up c.in-Some.next.0) c.deref.ensures.value
    (subst (λ (o : Option (NewList × NewList)). IfSome o (λ lists. IsNewList (settling_over c.args.parts.now c.deref.result.now) c.next_lists.new.state.moved c.args.edge Up lists.0))
    c.in-Some.is c.in_ok-next.ensures.up)

pub keep_lists-requires-clause-down : goal.keep_lists-requires-clause-down
keep_lists-requires-clause-down g c =
    subst (λ (done : List TouchedEdge). IsNewList (settling_over c.args.parts.now done) c.next_lists.new.state.moved c.args.edge Down c.in-Some.next.1) c.deref.ensures.value
    (subst (λ (o : Option (NewList × NewList)). IfSome o (λ lists. IsNewList (settling_over c.args.parts.now c.deref.result.now) c.next_lists.new.state.moved c.args.edge Down lists.1))
    c.in-Some.is c.in_ok-next.ensures.down)

pub returns-in_err-next-clause-holds : goal.returns-in_err-next-clause-holds
returns-in_err-next-clause-holds g c = subst (λ (done : List TouchedEdge). HoldsPacked c.args.parts.now done c.next_lists.new.state) c.deref.ensures.value c.next_lists.ensures.holds

pub returns-in_default-clause-holds : goal.returns-in_default-clause-holds
returns-in_default-clause-holds g c = subst (λ (done : List TouchedEdge). HoldsPacked c.args.parts.now done c.next_lists.new.state) c.deref.ensures.value c.next_lists.ensures.holds
