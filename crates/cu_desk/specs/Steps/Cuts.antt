-- A client's line, cut behind the client.
use Rattle.std.specs.Prelude.{ℕ, List, Option, Some, None, ◌≡◌, codes}
use Rattle.cu_model.specs.Queries.{fields_of_line}
use Rattle.cu_desk.specs.declared.lines.ClientText.{ClientText}
use Rattle.cu_desk.specs.DeskLines.{client_asked, fields_asked}
use Rattle.cu_desk.specs.Machine.{Fails}

-- the line asks for what the text behind its client does, for that client; or it has no such text or no client
abbrev pub CutsClient : List ℕ → Option ClientText → Type 0
CutsClient line None = (nodes arcs profiles : ℕ) → fields_asked nodes arcs profiles (fields_of_line line) ≡ Fails (codes "line")
CutsClient line (Some cut) =
    (nodes arcs profiles : ℕ)
    → fields_asked nodes arcs profiles (fields_of_line line) ≡ client_asked nodes arcs profiles cut.client (fields_of_line cut.text.now)
