use Rattle.std.proofs.Common.{◌≡◌, false, get_or, inr}
use Rattle.std.proofs.lemmas.Option.{slice_get-get_or}
use Rattle.cu_edits.specs.Steps.Climbing.{IsHead}
use Rattle.cu_edits.proofs.ClimbLaws.{some_long}
use Rattle.cu_edits.proofs.FoundLaws.{found_as, found_none}
use Rattle.cu_edits.proofs.climbing.add_unless.Goals as goal

pub returns-then-is_known-clause-added : goal.returns-then-is_known-clause-added
returns-then-is_known-clause-added c =
    found_none (λ e. (c.args.is_known ≡ false) × IsHead c.args.graph.now.edges c.args.rank c.args.heads.now e) c.args.edges.now.items
    (λ e head. absurd (cc (head.0, c.if-is_known.true)))

pub returns-clause-added : goal.returns-clause-added
returns-clause-added c =
    let edges = c.args.graph.now.edges in
    found_as (IsHead edges c.args.rank c.args.heads.now) (λ e. (c.args.is_known ≡ false) × IsHead edges c.args.rank c.args.heads.now e) c.args.edges.now.items c.add_heads.new.edges.items
    (λ e. ((λ head. (c.if-is_known.false, head)), λ both. let (unset, head) = both in head)) c.in_ok-add_heads.ensures

pub returns-clause-known : goal.returns-clause-known
returns-clause-known c = λ on. inr (get_or c.args.heads.now 0 0, slice_get-get_or c.args.heads.now 0 0 (some_long c.args.heads.now c.requires.some), c.is_marked.ensures on)
