use Rattle.std.proofs.Common.{◌≡◌, ◌++◌, ◌∷◌, ◌∙◌, ℕ, [], Bool, List, ap, Some, subst, sym, true}
use Rattle.std.specs.Prelude.{slice_set}
use Rattle.std.proofs.lemmas.Option.{slice_get-get_or}
use Rattle.cu_edits.specs.Steps.Found.{AddsFound, AreMarked, FoundValue}
use Rattle.cu_edits.proofs.FoundLaws.{adds_one, item_within, marked_more, not_marked}
use Rattle.cu_edits.proofs.found_edges.FoundEdges.add.Goals as goal

pub invariant_of-self-2 : goal.invariant_of-self-2
invariant_of-self-2 c =
    let marks = c.self.inside.marks.items in
    let found = c.self.inside.found.items in
    let within = item_within marks c.args.edge c.args.self.now.edges (ap (λ (v : FoundValue). v.edges) c.self.view_is) c.requires.edge in
    subst (AreMarked (slice_set marks c.args.edge true)) (sym c.in_ok-push.ensures.items)
    (marked_more marks found c.args.edge c.self.invariant within
    (not_marked marks c.args.edge c.index.result.now (slice_get-get_or marks c.args.edge c.index.result.now within ∙ ap (λ (b : Bool). Some b) (sym c.index.ensures)) (λ on. absurd (cc (on, c.if-index.false)))))

pub returns-clause-added : goal.returns-clause-added
returns-clause-added c =
    let found = c.self.inside.found.items in
    subst (AddsFound (λ e. e ≡ c.args.edge) c.args.self.now.found) (sym c.in_ok-push.ensures.items)
    (subst (λ (before : List ℕ). AddsFound (λ e. e ≡ c.args.edge) before (found ++ c.args.edge ∷ [])) (ap (λ (v : FoundValue). v.found) c.self.view_is) (adds_one found c.args.edge))
