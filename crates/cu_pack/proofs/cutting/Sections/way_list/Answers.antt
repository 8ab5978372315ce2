use Rattle.std.proofs.Common.{◌≡◌, ◌+◌, ◌-◌, ◌*◌, ◌∙◌, ℕ, suc, List, length, sym, ap, subst, arith}
use Rattle.cu_pack.specs.declared.layout.Layout.{Layout}
use Rattle.cu_pack.specs.Layouts.{AreInLimits, entries_at, file_length}
use Rattle.cu_pack.specs.Reading.{counts_in, entry_place, way_start}
use Rattle.cu_pack.specs.Steps.Slices.{IsWaySlice, entries_from}
use Rattle.cu_pack.proofs.Read.Parted.{layout_known, list_few, list_placed, list_slice}
use Rattle.cu_pack.proofs.cutting.Sections.way_list.Goals as goal

pub overflow_cast-count : goal.overflow_cast-count
overflow_cast-count c =
    let bytes = c.args.self.now in
    let next : c.args.list + 1 ≡ suc c.args.list = omega arith in
    let end = c.way_start.ensures.start ∙ ap (way_start bytes) next in
    let few = list_few bytes c.args.list c.requires.list in
    omega (arith, few, end, c.way_start-start.ensures.start)

pub of-requires : goal.of-requires
of-requires c =
    let bytes = c.args.self.now in
    let start = way_start bytes c.args.list in
    let count = way_start bytes (suc c.args.list) - start in
    let next : c.args.list + 1 ≡ suc c.args.list = omega arith in
    let end = c.way_start.ensures.start ∙ ap (way_start bytes) next in
    let layout = layout_known bytes c.self.inside.body c.self.inside.layout c.self.view_is c.self.invariant.layout in
    let entries : c.self.inside.layout.entries ≡ entries_at (counts_in bytes) = ap (λ (l : Layout). l.entries) layout in
    let place : entry_place bytes start ≡ c.self.inside.layout.entries + 12 * c.way_start-start.result = omega (arith, entries, c.way_start-start.ensures.start) in
    let many : count ≡ c.way_start.result - c.way_start-start.result = omega (arith, end, c.way_start-start.ensures.start) in
    let limits = subst (λ (bs : List ℕ). AreInLimits (counts_in bs)) c.self.view_is c.self.invariant.limits in
    let size = subst (λ (bs : List ℕ). file_length (counts_in bs) ≡ length bs) c.self.view_is c.self.invariant.size in
    subst (λ (bs : List ℕ). IsWaySlice bs (c.self.inside.layout.entries + 12 * c.way_start-start.result) (c.way_start.result - c.way_start-start.result)) (sym c.self.view_is)
    (subst (λ (n : ℕ). IsWaySlice bytes (c.self.inside.layout.entries + 12 * c.way_start-start.result) n) many
    (subst (λ (at : ℕ). IsWaySlice bytes at count) place (list_slice bytes c.args.list c.requires.list limits size)))

pub returns : goal.returns
returns c =
    let bytes = c.args.self.now in
    let start = way_start bytes c.args.list in
    let next : c.args.list + 1 ≡ suc c.args.list = omega arith in
    let end = c.way_start.ensures.start ∙ ap (way_start bytes) next in
    let layout = layout_known bytes c.self.inside.body c.self.inside.layout c.self.view_is c.self.invariant.layout in
    let entries : c.self.inside.layout.entries ≡ entries_at (counts_in bytes) = ap (λ (l : Layout). l.entries) layout in
    let at : c.self.inside.layout.entries + 12 * c.way_start-start.result ≡ entry_place bytes start = omega (arith, entries, c.way_start-start.ensures.start) in
    let many : c.way_start.result - c.way_start-start.result ≡ way_start bytes (suc c.args.list) - start = omega (arith, end, c.way_start-start.ensures.start) in
    record {
      entries = c.of.ensures
          ∙ ap (λ (bs : List ℕ). entries_from bs (c.self.inside.layout.entries + 12 * c.way_start-start.result) (c.way_start.result - c.way_start-start.result)) c.self.view_is
          ∙ ap (λ (n : ℕ). entries_from bytes n (c.way_start.result - c.way_start-start.result)) at ∙ ap (entries_from bytes (entry_place bytes start)) many
          ∙ list_placed bytes c.args.list c.requires.list;
    }
