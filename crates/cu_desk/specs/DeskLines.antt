-- What the lines of a desk ask for, and the checks that they fail, in their order: `line`, `client`, then those of a query or of an edit.
use Rattle.std.specs.Prelude.{ℕ, List, [], ◌∷◌, Result, Ok, Err, nat_le, length, if◌then◌else◌, codes, bytes_eq}
use Rattle.cu_model.specs.declared.queries.Query.{Query}
use Rattle.cu_model.specs.declared.queries.QueryRefusal.{QueryRefusal}
use Rattle.cu_model.specs.declared.queries.QueryRefusal.TheVariants as query
use Rattle.cu_model.specs.declared.roads.Edit.{Edit}
use Rattle.cu_model.specs.Networks.{NetworkValue}
use Rattle.cu_model.specs.Numbers.{is_number_word, number_value}
use Rattle.cu_model.specs.Queries.{fields_of_line, query_of_fields}
use Rattle.cu_script.specs.declared.lines.EditRefusal.{EditRefusal}
use Rattle.cu_script.specs.declared.lines.EditRefusal.TheVariants as edit
use Rattle.cu_script.specs.EditLines.{edit_of_fields}
use Rattle.cu_session.specs.Refusals.{check_word, edit_check_words}
use Rattle.cu_desk.specs.declared.lines.Kind.{Kind}
use Rattle.cu_desk.specs.declared.lines.Kind.TheVariants as kind
use Rattle.cu_desk.specs.declared.lines.TheConstants.{MAX_CLIENT}
use Rattle.cu_desk.specs.Machine.{DeskAsked, AsksStep, AsksCancel, AsksQuery, AsksEdit, FailsFor, Fails}

-- a client's query; one that fails the check of its form is of no client
abbrev pub asked_by_query : ℕ → Result Query QueryRefusal → DeskAsked
asked_by_query client (Ok query) = AsksQuery client query
asked_by_query client (Err query.Line) = Fails (codes "line")
asked_by_query client (Err refusal) = FailsFor client (check_word refusal)

-- a client's edit, likewise
abbrev pub asked_by_edit : ℕ → Result Edit EditRefusal → DeskAsked
asked_by_edit client (Ok edit) = AsksEdit client edit
asked_by_edit client (Err edit.Line) = Fails (codes "line")
asked_by_edit client (Err refusal) = FailsFor client (edit_check_words refusal)

-- `x` is a cancel where no more fields follow
abbrev pub kind_before : List (List ℕ) → Kind
kind_before [] = kind.Cancel
kind_before (field ∷ fields) = kind.Edit

-- the kind of a client's fields, by the first; what is no query and no cancel is an edit or nothing
abbrev pub kind_of : List (List ℕ) → Kind
kind_of [] = kind.Edit
kind_of (word ∷ fields) =
    if bytes_eq word (codes "q") then kind.Query
    else if bytes_eq word (codes "x") then kind_before fields
    else kind.Edit

-- what a client's fields of a kind ask for, where there are so many nodes, roads and profiles
abbrev pub asked_as : Kind → (nodes arcs profiles client : ℕ) → List (List ℕ) → DeskAsked
asked_as kind.Query nodes arcs profiles client fields = asked_by_query client (query_of_fields nodes fields)
asked_as kind.Cancel nodes arcs profiles client fields = AsksCancel client
asked_as kind.Edit nodes arcs profiles client fields = asked_by_edit client (edit_of_fields arcs profiles fields)

-- the client is checked behind the form of its line, and before all else
abbrev pub checked_client : ℕ → DeskAsked → DeskAsked
checked_client client (Fails words) = Fails words
checked_client client asked = if nat_le client MAX_CLIENT then asked else Fails (codes "client")

-- what the fields behind a client's number ask for
abbrev pub client_asked : (nodes arcs profiles client : ℕ) → List (List ℕ) → DeskAsked
client_asked nodes arcs profiles client fields = checked_client client (asked_as (kind_of fields) nodes arcs profiles client fields)

-- what the fields of a line ask for: a client's number word, then what that client asks for
abbrev pub fields_asked : (nodes arcs profiles : ℕ) → List (List ℕ) → DeskAsked
fields_asked nodes arcs profiles [] = Fails (codes "line")
fields_asked nodes arcs profiles (word ∷ fields) =
    if is_number_word word then client_asked nodes arcs profiles (number_value word) fields else Fails (codes "line")

-- what the text of a line asks for, where there are so many
abbrev pub desk_asked_among : (nodes arcs profiles : ℕ) → List ℕ → DeskAsked
desk_asked_among nodes arcs profiles text =
    if bytes_eq text (codes "step") then AsksStep else fields_asked nodes arcs profiles (fields_of_line text)

-- what the text of a line asks for over a network
abbrev pub desk_asked_of : NetworkValue → List ℕ → DeskAsked
desk_asked_of g text = desk_asked_among g.nodes (length g.arcs) (length g.profiles) text
