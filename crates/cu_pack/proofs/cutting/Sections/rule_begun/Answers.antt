use Rattle.std.proofs.Common.{◌≡◌, ◌+◌, ◌-◌, ◌∙◌, ℕ, suc, ap, arith}
use Rattle.cu_pack.specs.declared.layout.Layout.{Layout}
use Rattle.cu_pack.specs.Layouts.{pieces_at}
use Rattle.cu_pack.specs.Reading.{counts_in, piece_from, piece_place, profile_start}
use Rattle.cu_pack.specs.Steps.Columns.{IsCountUpTo}
use Rattle.cu_pack.proofs.Read.InForce.{piece_in_force}
use Rattle.cu_pack.proofs.Read.Parted.{column_rises_at, count_up_to_at, layout_known, pieces_begun, pieces_rise}
use Rattle.cu_pack.proofs.cutting.Sections.rule_begun.Goals as goal

pub count_up_to-begun-requires-clause-rising : goal.count_up_to-begun-requires-clause-rising
count_up_to-begun-requires-clause-rising c =
    let bytes = c.args.self.now in
    let layout = layout_known bytes c.self.inside.body c.self.inside.layout c.self.view_is c.self.invariant.layout in
    let pieces : c.self.inside.layout.pieces ≡ pieces_at (counts_in bytes) = ap (λ (l : Layout). l.pieces) layout in
    let next : c.args.profile + 1 ≡ suc c.args.profile = omega arith in
    let end = c.profile_start.ensures.start ∙ ap (profile_start bytes) next in
    column_rises_at bytes c.self.inside.body c.self.view_is _ (piece_place bytes (profile_start bytes c.args.profile)) 12 _
    (profile_start bytes (suc c.args.profile) - profile_start bytes c.args.profile)
    (omega (arith, pieces, c.profile_start-start.ensures.start)) (omega (arith, end, c.profile_start-start.ensures.start)) (pieces_rise bytes c.args.profile c.requires.profile)

pub returns : goal.returns
returns c =
    let bytes = c.args.self.now in
    let start = profile_start bytes c.args.profile in
    let stop = profile_start bytes (suc c.args.profile) in
    let number = c.count_up_to-begun.result in
    let order = c.requires.profile.order in
    let layout = layout_known bytes c.self.inside.body c.self.inside.layout c.self.view_is c.self.invariant.layout in
    let pieces : c.self.inside.layout.pieces ≡ pieces_at (counts_in bytes) = ap (λ (l : Layout). l.pieces) layout in
    let next : c.args.profile + 1 ≡ suc c.args.profile = omega arith in
    let end = c.profile_start.ensures.start ∙ ap (profile_start bytes) next in
    let counted : IsCountUpTo bytes (piece_place bytes start) 12 (stop - start) c.args.second number =
    count_up_to_at bytes c.self.inside.body c.self.view_is _ (piece_place bytes start) 12 _ (stop - start)
    (omega (arith, pieces, c.profile_start-start.ensures.start)) (omega (arith, end, c.profile_start-start.ensures.start)) c.args.second number c.count_up_to-begun.ensures in
    let some = (pieces_begun bytes c.args.profile c.requires.profile c.args.second number counted).0 in
    let place : c.profile_start-start.result + number - 1 ≡ start + (number - 1) = omega (arith, some, c.profile_start-start.ensures.start) in
    let behind : c.profile_start-start.result + number ≡ start + number = omega (arith, c.profile_start-start.ensures.start) in
    let last : c.profile_start-start.result + (c.profile_start.result - c.profile_start-start.result) ≡ stop = omega (arith, end, order, c.profile_start-start.ensures.start) in
    record {
      found = piece_in_force bytes c.args.profile c.requires.profile c.args.second number c.begin_or_day.result c.piece-piece.result c.requires.day counted
          (c.piece-piece.ensures.piece ∙ ap (λ (n : ℕ). piece_from bytes (piece_place bytes n)) place)
          (λ lt. c.begin_or_day.ensures.some (omega (arith, lt, behind, last)) ∙ ap (λ (n : ℕ). (piece_from bytes (piece_place bytes n)).from) behind)
          (λ le. c.begin_or_day.ensures.none (omega (arith, le, behind, last)));
    }
