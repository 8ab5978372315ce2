use Rattle.std.proofs.Common.{◌≡◌, ◌+◌, ◌∙◌, ℕ, Some, ap, sym, arith}
use Rattle.cu_pack.specs.Reading.{piece_from, piece_place, profile_start}
use Rattle.cu_pack.proofs.Read.Driven.{piece_there, pieces_long, start_within}
use Rattle.cu_pack.proofs.cutting.Sections.piece_of.Goals as goal

pub overflow_add-start : goal.overflow_add-start
overflow_add-start c =
    let bytes = c.args.self.now in
    let within = start_within bytes c.requires.roads c.args.profile c.requires.profile in
    let limits = c.requires.roads.joined.ordered.sized.limited.limits in
    omega (arith, within, pieces_long bytes c.args.profile, c.requires.index, limits.pieces, c.profile_start-start.ensures.start, c.from.ensures)

pub piece-requires : goal.piece-requires
piece-requires c =
    let bytes = c.args.self.now in
    let within = start_within bytes c.requires.roads c.args.profile c.requires.profile in
    record { piece = omega (arith, within, pieces_long bytes c.args.profile, c.requires.index, c.profile_start-start.ensures.start, c.from.ensures) }

pub returns : goal.returns
returns c =
    let bytes = c.args.self.now in
    let place : profile_start bytes c.args.profile + c.args.index ≡ c.profile_start-start.result + c.from.result = omega (arith, c.profile_start-start.ensures.start, c.from.ensures) in
    record {
      there = piece_there bytes c.args.profile c.args.index c.requires.index ∙ ap (λ (n : ℕ). Some (piece_from bytes (piece_place bytes n))) place ∙ ap Some (sym c.piece.ensures.piece);
    }
