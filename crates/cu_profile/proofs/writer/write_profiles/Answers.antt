use Rattle.std.proofs.Common.{◌≡◌, ◌∙◌, ◌∷◌, ◌++◌, [], List, map, take, ap, subst, arith}
use Rattle.std.proofs.lemmas.List.{take_all}
use Rattle.std.proofs.lemmas.Result.{IfOk-weaker}
use Rattle.std.specs.Prelude.{All}
use Rattle.std.proofs.lemmas.List.Elements.{All-append}
use Rattle.csv.proofs.RoundTrip.{rows_text}
use Rattle.cu_model.specs.declared.profiles.Piece.{Piece}
use Rattle.cu_model.specs.Profiles.{IsProfile}
use Rattle.cu_tables.specs.WrittenTexts.{HasRows}
use Rattle.cu_tables.proofs.WriteFacts.{rows_of}
use Rattle.cu_profile.specs.ProfileTexts.{profiles_of_text}
use Rattle.cu_profile.specs.Written.{piece_row, table_of}
use Rattle.cu_profile.proofs.AgainFacts.{again}
use Rattle.cu_profile.proofs.KeptProfiles.{valid_one}
use Rattle.cu_profile.proofs.WritingFacts.{more_written, taken_with}
use Rattle.cu_profile.proofs.writer.write_profiles.Goals as goal

pub loop-number-preserved : goal.loop-number-preserved
loop-number-preserved c =
    let i = c.loop-number.number in
    let profiles = c.args.profiles.now in
    let item = c.index-profiles-number in
    let before = c.loop-number.invariant in
    record {
      written = subst (HasRows c.write_profile.new.writer 4)
          (ap (λ (ps : List Piece). table_of (take i profiles) ++ map (piece_row i) ps) c.pieces.ensures.all ∙ more_written profiles item.result i (omega arith) item.is)
          (c.in_ok-write_profile.ensures (table_of (take i profiles)) before.written);
      valid = subst (λ (ps : List (List Piece)). All IsProfile ps) (taken_with profiles item.result i (omega arith) item.is)
          (All-append IsProfile (take i profiles) (item.result ∷ []) before.valid (valid_one item.result c.pieces.ensures.valid));
    }

pub returns-clause-text : goal.returns-clause-text
returns-clause-text c =
    let profiles = c.args.profiles.now in
    let whole : take c.loop-number.number profiles ≡ profiles = take_all c.loop-number.number profiles (omega arith) in
    IfOk-weaker c.finish.result _ _
    (λ text h. rows_of c.loop-number.writer text.items 4 _ h c.loop-number.invariant.written ∙ ap (λ (ps : List (List Piece)). rows_text (table_of ps)) whole)
    c.finish.ensures

pub returns-clause-again : goal.returns-clause-again
returns-clause-again c =
    let profiles = c.args.profiles.now in
    let whole : take c.loop-number.number profiles ≡ profiles = take_all c.loop-number.number profiles (omega arith) in
    let valid = subst (λ (ps : List (List Piece)). All IsProfile ps) whole c.loop-number.invariant.valid in
    IfOk-weaker c.finish.result _ _
    (λ text h. ap profiles_of_text (rows_of c.loop-number.writer text.items 4 _ h c.loop-number.invariant.written ∙ ap (λ (ps : List (List Piece)). rows_text (table_of ps)) whole)
    ∙ again profiles valid c.requires.profiles c.requires.pieces)
    c.finish.ensures
