use Rattle.std.proofs.Common.{◌≡◌, ◌+◌, ◌-◌, ◌∙◌, ℕ, suc, Some, sym, ap, arith}
use Rattle.cu_pack.specs.declared.layout.Layout.{Layout}
use Rattle.cu_pack.specs.Layouts.{pieces_at}
use Rattle.cu_pack.specs.Reading.{counts_in, piece_from, piece_place, profile_start}
use Rattle.cu_pack.proofs.Read.Parted.{column_rises_at, count_up_to_at, layout_known, pieces_begun, pieces_rise}
use Rattle.cu_pack.proofs.cutting.Sections.piece_begun.Goals as goal

pub count_up_to-begun-requires-clause-rising : goal.count_up_to-begun-requires-clause-rising
count_up_to-begun-requires-clause-rising c =
    let bytes = c.args.self.now in
    let layout = layout_known bytes c.self.inside.body c.self.inside.layout c.self.view_is c.self.invariant.layout in
    let pieces : c.self.inside.layout.pieces ≡ pieces_at (counts_in bytes) = ap (λ (l : Layout). l.pieces) layout in
    let next : c.args.profile + 1 ≡ suc c.args.profile = omega arith in
    let end = c.profile_start.ensures.start ∙ ap (profile_start bytes) next in
    column_rises_at bytes c.self.inside.body c.self.view_is _ (piece_place bytes (profile_start bytes c.args.profile)) 12 _
    (profile_start bytes (suc c.args.profile) - profile_start bytes c.args.profile)
    (omega (arith, pieces, c.profile_start-start.ensures.start)) (omega (arith, end, c.profile_start-start.ensures.start)) (pieces_rise bytes c.args.profile c.requires.profile)

pub returns : goal.returns
returns c =
    let bytes = c.args.self.now in
    let layout = layout_known bytes c.self.inside.body c.self.inside.layout c.self.view_is c.self.invariant.layout in
    let pieces : c.self.inside.layout.pieces ≡ pieces_at (counts_in bytes) = ap (λ (l : Layout). l.pieces) layout in
    let next : c.args.profile + 1 ≡ suc c.args.profile = omega arith in
    let end = c.profile_start.ensures.start ∙ ap (profile_start bytes) next in
    let begun =
    pieces_begun bytes c.args.profile c.requires.profile c.args.second c.count_up_to-begun.result
    (count_up_to_at bytes c.self.inside.body c.self.view_is _ (piece_place bytes (profile_start bytes c.args.profile)) 12 _
    (profile_start bytes (suc c.args.profile) - profile_start bytes c.args.profile)
    (omega (arith, pieces, c.profile_start-start.ensures.start)) (omega (arith, end, c.profile_start-start.ensures.start)) c.args.second c.count_up_to-begun.result c.count_up_to-begun.ensures) in
    let place : c.profile_start-start.result + c.count_up_to-begun.result - 1 ≡ profile_start bytes c.args.profile + (c.count_up_to-begun.result - 1) =
    omega (arith, begun.0, c.profile_start-start.ensures.start) in
    record { piece = begun.1 ∙ ap (λ (n : ℕ). Some (piece_from bytes (piece_place bytes n))) (sym place) ∙ ap Some (sym c.piece.ensures.piece) }
