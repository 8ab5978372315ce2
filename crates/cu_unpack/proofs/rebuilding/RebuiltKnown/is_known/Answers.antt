use Rattle.std.proofs.Common.{◌≡◌, ◌↔◌, ◌∙◌, Bool, Some, ap, get_or, rules, subst, sym}
use Rattle.std.specs.Prelude.{IsTrue, is_some, slice_get}
use Rattle.std.proofs.lemmas.Option.{slice_get-get_or}
use Rattle.cu_interval.specs.Shortcuts.{number_of}
use Rattle.cu_unpack.specs.Rebuilds.{IsKept, RebuiltValue}
use Rattle.cu_unpack.proofs.HalfEdges.{kept_is}
use Rattle.cu_unpack.proofs.rebuilding.RebuiltKnown.is_known.Goals as goal

pub returns : goal.returns
returns c =
    let kept = c.args.self.now.kept in
    let found = c.index.result.now in
    let whole : c.self.inside.kept.items ≡ kept = ap (λ (v : RebuiltValue). v.kept) c.self.view_is in
    let here : get_or c.self.inside.kept.items c.list.result found ≡ found = search rules in
    let read : get_or kept (number_of c.args.shortcut) found ≡ found = rw (whole, c.list.ensures.number) at here in
    let at : slice_get kept (number_of c.args.shortcut) ≡ Some found = slice_get-get_or kept (number_of c.args.shortcut) found c.requires ∙ ap Some read in
    let same : c.is_some.result ≡ is_some found = search rules in
    subst (λ (b : Bool). IsTrue b ↔ IsKept kept c.args.shortcut) (sym same) (kept_is kept c.args.shortcut found at)
