use Rattle.std.proofs.Common.{◌∙◌, ap, arith, subst}
use Rattle.cu_interval.proofs.EndsLaws.{number_within}
use Rattle.cu_pack.specs.Checks.{Spells}
use Rattle.cu_pack.specs.Reading.{bound_in}
use Rattle.cu_pack.proofs.Spelled.Again.{spelled_sections}
use Rattle.cu_pack.proofs.Viewed.Views.{bound_known, edges_known, kind_known}
use Rattle.cu_pack.proofs.view.hierarchy.PackedViewBoundedWays.least.Goals as goal

pub bound-requires-clause-version : goal.bound-requires-clause-version
bound-requires-clause-version c = kind_known c.self.inside.sections c.args.self.now (subst (Spells c.self.inside.sections) c.self.view_is c.self.invariant)

pub bound-requires-clause-list : goal.bound-requires-clause-list
bound-requires-clause-list c =
    let bytes = c.self.inside.sections in
    let h = c.args.self.now in
    let many = edges_known bytes h (spelled_sections bytes h (subst (Spells bytes) c.self.view_is c.self.invariant)) in
    let within = number_within c.args.edge _ c.args.dir c.requires.edge in
    omega (arith, many, within, c.list_number.ensures)

pub returns : goal.returns
returns c =
    let bytes = c.self.inside.sections in
    let spells = subst (Spells bytes) c.self.view_is c.self.invariant in
    record { bound = c.bound.ensures.bound ∙ ap (bound_in bytes) c.list_number.ensures ∙ bound_known bytes c.args.self.now spells c.args.edge c.args.dir c.requires.edge }
