-- A name that differs has other bytes, so what it holds stays.
use Rattle.std.proofs.Common.{arith}
use Rattle.std.proofs.lemmas.Map.Text.{text_keys}
use Rattle.cu_io.proofs.sure.SureShelfShelf.store_content.Goals as goal

pub returns-clause-others : goal.returns-clause-others
returns-clause-others c = λ other differs. grind (arith, text_keys)
