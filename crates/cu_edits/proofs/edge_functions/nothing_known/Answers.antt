use Rattle.std.proofs.Common.{◌≡◌, [], ◌∷◌, None, Option, ap, arith, length, refl, subst, sym}
use Rattle.std.specs.Prelude.{All}
use Rattle.std.proofs.lemmas.List.{length-append}
use Rattle.std.proofs.lemmas.List.Elements.{All-push}
use Rattle.cu_edits.specs.declared.edge_functions.EdgeFunctions.{EdgeFunctions}
use Rattle.cu_edits.proofs.edge_functions.nothing_known.Goals as goal

pub edges-preserved : goal.edges-preserved
edges-preserved c =
    let old = c.edges.known.items in
    let grown = c.in_ok-push.ensures.items in
    let long = ap length grown in
    let more = length-append old (None ∷ []) in
    record {
      count = omega (arith, long, more, c.edges.invariant.count);
      none = subst (All (λ (one : Option EdgeFunctions). one ≡ None)) (sym grown) (All-push (λ (one : Option EdgeFunctions). one ≡ None) old None c.edges.invariant.none refl);
    }
