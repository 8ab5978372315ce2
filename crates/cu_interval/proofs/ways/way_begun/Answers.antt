use Rattle.std.proofs.Common.{◌<◌, ◌-◌, ◌∙◌, ap, sym, length, arith, rules}
use Rattle.std.proofs.lemmas.Option.{slice_get-get_or}
use Rattle.std.specs.Option.{option_map}
use Rattle.cu_interval.specs.declared.ways.Entry.{Entry}
use Rattle.cu_interval.specs.declared.ways.Way.TheVariants.{Road}
use Rattle.cu_model.proofs.Begun.{in_order, begun_point}
use Rattle.cu_interval.proofs.Spelled.{entries_rise, begins_at_zero}
use Rattle.cu_interval.proofs.ways.way_begun.Goals as goal

pub begun-requires : goal.begun-requires
begun-requires c = in_order (λ (e : Entry). e.from) c.args.entries.now (entries_rise c.args.entries.now c.requires)

pub overflow_sub-result : goal.overflow_sub-result
overflow_sub-result c =
    let es = c.args.entries.now in
    let some : 0 < length es = search rules in
    let found = begun_point (λ (e : Entry). e.from) es c.args.time c.begun.result (begins_at_zero es c.requires some) c.begun.ensures.point c.begun.ensures.bound in
    omega (arith, found.0)

pub returns : goal.returns
returns c =
    let es = c.args.entries.now in
    let some : 0 < length es = search rules in
    let found = begun_point (λ (e : Entry). e.from) es c.args.time c.begun.result (begins_at_zero es c.requires some) c.begun.ensures.point c.begun.ensures.bound in
    let inside : c.begun.result - 1 < length es = found.1.within in
    let there = found.1.last ∙ slice_get-get_or es (c.begun.result - 1) (record { from = 0; way = Road 0 }) inside in
    sym (ap (option_map (λ (e : Entry). e.way)) there)
