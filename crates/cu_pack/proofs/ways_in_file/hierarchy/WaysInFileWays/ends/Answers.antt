use Rattle.std.proofs.Common.{◌∙◌, ℕ, Some, ap, sym, subst, arith}
use Rattle.cu_chordal.specs.declared.graph.Ends.{Ends}
use Rattle.cu_pack.specs.Steps.Fronts.{SpellsSections}
use Rattle.cu_pack.proofs.Viewed.Views.{edges_known}
use Rattle.cu_pack.proofs.Viewed.ViewedEdges.{ends_known, starts_rise}
use Rattle.cu_pack.proofs.ways_in_file.hierarchy.WaysInFileWays.ends.Goals as goal

pub low_of-requires-clause-starts : goal.low_of-requires-clause-starts
low_of-requires-clause-starts c =
    let bytes = c.self.inside.sections.now in
    starts_rise bytes c.args.self.now (subst (SpellsSections bytes) c.self.view_is c.self.invariant) c.args.edge c.requires

pub low_of-requires-clause-edge : goal.low_of-requires-clause-edge
low_of-requires-clause-edge c =
    let bytes = c.self.inside.sections.now in
    let many = edges_known bytes c.args.self.now (subst (SpellsSections bytes) c.self.view_is c.self.invariant) in
    omega (arith, many, c.requires)

pub upper-requires : goal.upper-requires
upper-requires c =
    let bytes = c.self.inside.sections.now in
    let many = edges_known bytes c.args.self.now (subst (SpellsSections bytes) c.self.view_is c.self.invariant) in
    record { edge = omega (arith, many, c.requires) }

abbrev edge_of : ℕ → ℕ → Ends
edge_of low high = record { low = low; high = high }

pub returns-clause-there : goal.returns-clause-there
returns-clause-there c =
    let bytes = c.self.inside.sections.now in
    ends_known bytes c.args.self.now (subst (SpellsSections bytes) c.self.view_is c.self.invariant) c.args.edge c.low_of.result c.requires c.low_of.ensures.low
    ∙ ap (λ (high : ℕ). Some (edge_of c.low_of.result high)) (sym c.upper.ensures.rank)
