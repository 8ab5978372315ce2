use Rattle.std.proofs.Common.{◌<◌, ◌+◌, ◌-◌, ◌∙◌, ℕ, Some, ap, arith, get_or, length, subst, sym}
use Rattle.std.specs.Prelude.{slice_get}
use Rattle.std.proofs.lemmas.Option.{slice_get-get_or}
use Rattle.cu_chordal.specs.declared.graph.Ends.{Ends}
use Rattle.cu_interval.proofs.EndsLaws.{number_within}
use Rattle.cu_store.specs.Known.{KnownFunction, StoreValue, ended}
use Rattle.cu_filling.proofs.EntryDrives.{whole_function, whole_onward}
use Rattle.cu_filling.proofs.Putting.{knows_put, written_known}
use Rattle.cu_filling.proofs.making.put_whole.Goals as goal

pub put-requires-clause-onward : goal.put-requires-clause-onward
put-requires-clause-onward g c =
    let h = g.W.Ways.hierarchy c.args.ways.now in
    let d : Ends = record { low = 0; high = 0 } in
    let at = slice_get-get_or h.edges c.args.shortcut.edge d c.requires.edge in
    whole_onward h c.requires.sound c.args.shortcut (get_or h.edges c.args.shortcut.edge d) at c.requires.never c.requires.some c.args.whole.now c.requires.whole

pub returns-then-put-clause-knows : goal.returns-then-put-clause-knows
returns-then-put-clause-knows g c =
    let h = g.W.Ways.hierarchy c.args.ways.now in
    let d : Ends = record { low = 0; high = 0 } in
    let at = slice_get-get_or h.edges c.args.shortcut.edge d c.requires.edge in
    let whole = c.args.whole.now in
    let is = whole_function h c.requires.sound c.args.shortcut (get_or h.edges c.args.shortcut.edge d) at c.requires.never c.requires.some whole c.requires.whole
    (c.is_function.ensures.is c.if-not-is_function.false) in
    knows_put h c.args.shortcut (record { runs = ended whole }) is c.args.store.now c.put.new.self c.list.result (c.args.store.now.used + (length whole - 1)) c.put.result
    c.requires.knows c.list.ensures.number c.put.ensures.kept c.put.ensures.left

pub returns-then-put-clause-made : goal.returns-then-put-clause-made
returns-then-put-clause-made g c =
    let known = c.args.store.now.known in
    let function : KnownFunction = record { runs = ended c.args.whole.now } in
    let list = c.list.result in
    let number = c.list.ensures.number in
    let inside : list < length known = subst (λ (n : ℕ). n < length known) (sym number) (let within = number_within c.args.shortcut.edge (length (g.W.Ways.hierarchy c.args.ways.now).edges) c.args.shortcut.dir c.requires.edge in omega (arith, within, c.requires.size)) in
    let written = written_known known list (Some function) inside in (
      Some function,
      ap (λ (n : ℕ). slice_get c.put.new.self.known n) (sym number)
          ∙ ap (λ (v : StoreValue). slice_get v.known list) (c.put.ensures.kept c.if-put.true)
          ∙ written,
    )
