use Rattle.std.proofs.Common.{◌≡◌, ◌++◌, ◌∷◌, [], ◌∙◌, List, ap}
use Rattle.std.proofs.lemmas.Result.{IfOk-weaker, on_err_weaker}
use Rattle.cu_interval.specs.declared.ways.TouchedEdge.{TouchedEdge}
use Rattle.cu_edits.specs.Settling.{SettlingValue}
use Rattle.cu_edits.specs.Steps.Parts.{settling_over}
use Rattle.cu_edits.proofs.SettlingNext.{next_asked}
use Rattle.cu_edits.proofs.edit_settler.EditSettlerSettler.settle.Goals as goal

pub settle_by_state-requires-clause-holds : goal.settle_by_state-requires-clause-holds
settle_by_state-requires-clause-holds g c = c.let_go_below.ensures c.self.inside.settled.items c.self.invariant

pub settle_by_state-requires-clause-asked : goal.settle_by_state-requires-clause-asked
settle_by_state-requires-clause-asked g c =
    next_asked (settling_over c.self.inside.parts c.self.inside.settled.items) c.args.self.now c.args.edge c.self.view_is c.requires.touched
    c.requires.fresh c.requires.sides

pub returns-clause-settled : goal.returns-clause-settled
returns-clause-settled g c =
    let of : List TouchedEdge → SettlingValue = settling_over c.self.inside.parts in
    IfOk-weaker c.settle_by_state.result (λ (t : TouchedEdge). c.settle_by_state.new.settled.items ≡ c.self.inside.settled.items ++ (t ∷ []))
    (λ (t : TouchedEdge). of c.settle_by_state.new.settled.items ≡ record c.args.self.now { settled = c.args.self.now.settled ++ (t ∷ []) })
    (λ t more. ap of more ∙ ap (λ (v : SettlingValue). record v { settled = v.settled ++ (t ∷ []) }) c.self.view_is) c.settle_by_state.ensures.settled

pub returns-clause-kept : goal.returns-clause-kept
returns-clause-kept g c =
    let of : List TouchedEdge → SettlingValue = settling_over c.self.inside.parts in
    on_err_weaker c.settle_by_state.result (λ same. ap of same ∙ c.self.view_is) c.settle_by_state.ensures.kept

pub returns-clause-edge : goal.returns-clause-edge
returns-clause-edge g c = c.settle_by_state.ensures.edge

pub returns-clause-resettled : goal.returns-clause-resettled
returns-clause-resettled g c = c.settle_by_state.ensures.resettled
