use Rattle.std.proofs.Common.{◌≡◌, ◌∷◌, ◌++◌, [], subst, sym}
use Rattle.cu_chordal.proofs.Members.{member_at}
use Rattle.cu_interval.proofs.Lookups.{one_number}
use Rattle.cu_edits.specs.Steps.Climbing.{IsTo}
use Rattle.cu_edits.specs.Steps.Found.{AddsFound}
use Rattle.cu_edits.proofs.FoundLaws.{adds_one, found_as, found_none}
use Rattle.cu_edits.proofs.climbing.add_head.Goals as goal

pub returns-in_default : goal.returns-in_default
returns-in_default c =
    let edges = c.args.graph.now.edges in
    found_none (IsTo edges c.args.rank c.args.head) c.args.edges.now.items
    (λ e at. c.in_default.ensures.found (member_at edges (record { low = c.args.rank; high = c.args.head }) e at))

pub returns : goal.returns
returns c =
    let edges = c.args.graph.now.edges in
    let edge = c.in-Some.edge in
    let old = c.args.edges.now.items in
    let at = c.in-Some.ensures.found in
    subst (AddsFound (IsTo edges c.args.rank c.args.head) old) (sym c.in_ok-push.ensures.items)
    (found_as (λ e. e ≡ edge) (IsTo edges c.args.rank c.args.head) old (old ++ edge ∷ [])
    (λ e. ((λ is. subst (IsTo edges c.args.rank c.args.head) (sym is) at), λ own. one_number edges c.in-Some.ensures.sound.rising e edge c.args.rank c.args.head own at))
    (adds_one old edge))
