use Rattle.std.proofs.Common.{◌≡◌, ◌+◌, ◌∙◌, ◌++◌, ◌∷◌, [], List, Option, arith, refl, sym, subst}
use Rattle.std.proofs.lemmas.Slice.{pushed}
use Rattle.cu_arrival.specs.declared.runs.Run.{Run}
use Rattle.cu_interval.specs.Hierarchies.{list_number}
use Rattle.cu_interval.specs.declared.ways.Entry.{Entry}
use Rattle.cu_interval.proofs.EndsLaws.{number_within}
use Rattle.cu_customize.specs.Steps.Kept.{IsBuiltTo, Keeps}
use Rattle.cu_customize.proofs.Gathers.{gathered_within}
use Rattle.cu_customize.proofs.Dropped.{keeps_pushed}
use Rattle.cu_customize.proofs.Nexts.{next_step, next_task}
use Rattle.cu_customize.proofs.customizing.settle_next.Goals as goal

pub arcs-requires : goal.arcs-requires
arcs-requires c =
    let inside = number_within c.args.shortcut.edge _ c.args.shortcut.dir c.requires.edge in
    let long = c.requires.parts.arcs.long in
    omega (arith, inside, long)

pub gather-requires : goal.gather-requires
gather-requires c =
    let p = c.requires.parts in
    let same = c.of-functions.ensures ∙ c.deref.ensures.value in
    let (whole, built, keeps) = c.requires.built in
    next_task _ _ c.args.parts.now.order.now c.args.parts.now.arcs.now c.args.shortcut.edge c.args.shortcut.dir c.ends-ends.result p.network p.order p.chordal p.closed p.arcs c.ends-ends.ensures.there
    c.arcs.ensures.there
    (c.requires.triangles c.ends-ends.result c.ends-ends.ensures.there) whole c.args.building.now.functions.items c.args.building.now.lists.items built keeps same
    c.leg_of.ensures.from
    c.leg_of.ensures.to c.arcs.ensures.rising p.stays p.stay

pub pull-requires-clause-task : goal.pull-requires-clause-task
pull-requires-clause-task c =
    let p = c.requires.parts in
    let same = c.of-functions.ensures ∙ c.deref.ensures.value in
    let (whole, built, keeps) = c.requires.built in (
      _,
      next_task _ _ c.args.parts.now.order.now c.args.parts.now.arcs.now c.args.shortcut.edge c.args.shortcut.dir
          c.ends-ends.result p.network p.order p.chordal p.closed p.arcs c.ends-ends.ensures.there
          c.arcs.ensures.there
          (c.requires.triangles c.ends-ends.result c.ends-ends.ensures.there) whole c.args.building.now.functions.items c.args.building.now.lists.items built keeps same
          c.leg_of.ensures.from
          c.leg_of.ensures.to c.arcs.ensures.rising p.stays p.stay,
    )

pub pull-requires-clause-held : goal.pull-requires-clause-held
pull-requires-clause-held c = λ some. gathered_within _ _ _ _ c.in_ok-gather.ensures.gathered some

pub returns : goal.returns
returns c =
    let p = c.requires.parts in
    let same = c.of-functions.ensures ∙ c.deref.ensures.value in
    let (whole, built, keeps) = c.requires.built in
    let edges = c.args.parts.now.graph.now.edges in
    let functions = c.args.building.now.functions.items in
    let lists = c.args.building.now.lists.items in
    let ready =
    next_task _ _ c.args.parts.now.order.now c.args.parts.now.arcs.now c.args.shortcut.edge c.args.shortcut.dir c.ends-ends.result p.network p.order p.chordal p.closed p.arcs c.ends-ends.ensures.there
    c.arcs.ensures.there
    (c.requires.triangles c.ends-ends.result c.ends-ends.ensures.there) whole functions lists built keeps same c.leg_of.ensures.from c.leg_of.ensures.to c.arcs.ensures.rising
    p.stays p.stay in
    let next = next_step _ _ c.args.parts.now.order.now c.args.parts.now.arcs.now c.args.shortcut.edge c.args.shortcut.dir
    c.ends-ends.result p.network p.order p.chordal p.closed p.arcs c.ends-ends.ensures.there
    c.arcs.ensures.there
    (c.requires.triangles c.ends-ends.result c.ends-ends.ensures.there) whole functions lists built keeps same c.leg_of.ensures.from c.leg_of.ensures.to c.gather.new.self.merger
    c.in_ok-pulled.pulled.ways c.in_ok-pulled.pulled.function ready c.in_ok-gather.ensures.gathered c.in_ok-pulled.ensures in
    let function = c.in_ok-pulled.pulled.function in
    let kept = keeps_pushed edges c.args.shortcut.edge whole functions function keeps in
    let same_functions : functions ≡ functions = refl in
    let same_lists : lists ≡ lists = refl in
    let functions_is = pushed (function ∷ []) same_functions c.in_ok-push.was c.push.ensures.items in
    let lists_is = pushed (c.in_ok-pulled.pulled.ways ∷ []) same_lists c.in_ok-push-2.was c.push-2.ensures.items in (
      whole ++ function ∷ [],
      subst (λ (ls : List (List Entry)). IsBuiltTo c.args.parts.now.network.now c.args.parts.now.order.now edges (list_number c.args.shortcut.edge c.args.shortcut.dir + 1) (whole ++ function ∷ []) ls)
          (sym lists_is) next,
      subst (λ (fs : List (Option (List Run))). Keeps edges c.args.shortcut.edge (whole ++ function ∷ []) fs) (sym functions_is) kept,
    )

pub pull-requires-clause-order : goal.pull-requires-clause-order
pull-requires-clause-order c = c.in_ok-gather.ensures.order
