use Rattle.std.proofs.Common.{◌∙◌, ap, subst, sym}
use Rattle.std.proofs.lemmas.Result.{IfOk-weaker}
use Rattle.cu_model.specs.Edits.{IsEditInRange}
use Rattle.cu_model.specs.Networks.{IsNetwork, NetworkValue}
use Rattle.cu_resettled.specs.ResettlingAll.{edited_all}
use Rattle.cu_edits.specs.EditLists.{AreChanged, FitsNetwork}
use Rattle.cu_edits.proofs.EditedLists.{edited_networks}
use Rattle.cu_edits.proofs.planning.changed_behind.Goals as goal

pub of-roads-requires-clause-fits : goal.of-roads-requires-clause-fits
of-roads-requires-clause-fits g c = subst (λ (n : NetworkValue). FitsNetwork n c.args.edits.now) (g.met.W.Ways.same_network c.args.ways.now) c.requires.edits.network

pub of-roads-requires-clause-sound : goal.of-roads-requires-clause-sound
of-roads-requires-clause-sound g c =
    let h = g.W.Ways.hierarchy c.args.ways.now in
    let edits = c.args.edits.now.edits in
    subst (λ (n : NetworkValue). IsNetwork (edited_all n edits)) (g.met.W.Ways.same_network c.args.ways.now)
    (edited_networks h.network edits c.requires.sound c.requires.edits.network.range c.requires.edits.network.sets)

pub changed_by-requires-clause-roads : goal.changed_by-requires-clause-roads
changed_by-requires-clause-roads g c =
    let h = g.W.Ways.hierarchy c.args.ways.now in
    let edits = c.args.edits.now.edits in
    (h.network, c.requires.edits.network, c.of-roads.ensures ∙ ap (λ (n : NetworkValue). edited_all n edits) (sym (g.met.W.Ways.same_network c.args.ways.now)))

pub changed_by-requires-clause-range : goal.changed_by-requires-clause-range
changed_by-requires-clause-range g c =
    let edits = c.args.edits.now.edits in
    let is = c.of-roads.ensures ∙ ap (λ (n : NetworkValue). edited_all n edits) (sym (g.met.W.Ways.same_network c.args.ways.now)) in
    subst (λ (n : NetworkValue). IsEditInRange n c.args.edit.now) (sym is) c.requires.range

pub returns : goal.returns
returns g c =
    let edits = c.args.edits.now.edits in
    let is = c.of-roads.ensures ∙ ap (λ (n : NetworkValue). edited_all n edits) (sym (g.met.W.Ways.same_network c.args.ways.now)) in
    IfOk-weaker c.changed_by.result _ _ (λ planned all. subst (λ (n : NetworkValue). AreChanged n c.args.edit.now planned.items) is all) c.changed_by.ensures
