-- Why a run stops before all is done: the one line that says it, and the status that goes with it.
use Rattle.std.specs.Prelude.{ℕ, List, [], ◌∷◌, ◌++◌, Option, Some, None, codes, decimal}
use Rattle.cu_interval.specs.declared.ways.Dir.{Dir}
use Rattle.cu_interval.specs.declared.ways.Way.{Way}
use Rattle.cu_interval.specs.declared.ways.Way.TheVariants.{Road, Via}
use Rattle.cu_cli.specs.declared.stops.Difference.{Difference}
use Rattle.cu_cli.specs.declared.stops.Role.{Role}
use Rattle.cu_cli.specs.declared.stops.Role.TheVariants as role
use Rattle.cu_cli.specs.declared.stops.Stop.{Stop}
use Rattle.cu_cli.specs.declared.stops.Stop.TheVariants as stop
use Rattle.cu_order.specs.declared.refusals.OrderRefusal.{OrderRefusal}
use Rattle.cu_order.specs.declared.refusals.OrderRefusal.TheVariants as order
use Rattle.cu_profile.specs.declared.refusals.ProfileRefusal.{ProfileRefusal}
use Rattle.cu_profile.specs.declared.refusals.ProfileRefusal.TheVariants as profile
use Rattle.cu_roads.specs.declared.refusals.File.{File}
use Rattle.cu_roads.specs.declared.refusals.File.TheVariants.{Nodes, Roads}
use Rattle.cu_roads.specs.declared.refusals.RoadRefusal.{RoadRefusal}
use Rattle.cu_roads.specs.declared.refusals.RoadRefusal.TheVariants as road
use Rattle.cu_pack.specs.declared.refusals.Field.{Field}
use Rattle.cu_pack.specs.declared.refusals.Field.TheVariants as field
use Rattle.cu_pack.specs.declared.refusals.PackRefusal.{PackRefusal}
use Rattle.cu_pack.specs.declared.refusals.PackRefusal.TheVariants as pack
use Rattle.cu_session.specs.Refusals.{piece_refusal_words}
use Rattle.cu_wait.specs.declared.refusals.MeasuredRefusal.{MeasuredRefusal}
use Rattle.cu_wait.specs.declared.refusals.MeasuredRefusal.TheVariants as measured
use Rattle.cu_router.specs.Swept.{dir_word}

-- a word, and numbers behind it, each behind a space
abbrev pub numbers_text : List ℕ → List ℕ → List ℕ
numbers_text word [] = word
numbers_text word (number ∷ numbers) = numbers_text (word ++ codes " " ++ decimal number) numbers

abbrev pub file_word : File → List ℕ
file_word Nodes = codes "nodes"
file_word Roads = codes "roads"

-- a table, a row of it, and a word
abbrev pub row_fault : List ℕ → ℕ → List ℕ → List ℕ
row_fault file row word = file ++ codes " " ++ decimal row ++ codes " " ++ word

abbrev pub profile_fault : ProfileRefusal → List ℕ
profile_fault profile.Header = codes "profiles header"
profile_fault (profile.Fields row) = row_fault (codes "profiles") row (codes "fields")
profile_fault (profile.Number row) = row_fault (codes "profiles") row (codes "number")
profile_fault (profile.Sequence row) = row_fault (codes "profiles") row (codes "sequence")
profile_fault (profile.TooMany row) = row_fault (codes "profiles") row (codes "count")
profile_fault (profile.Row row refusal) = row_fault (codes "profiles") row [] ++ piece_refusal_words refusal
profile_fault profile.NoMemory = []

abbrev pub road_fault : RoadRefusal → List ℕ
road_fault (road.Header file) = file_word file ++ codes " header"
road_fault (road.Fields file row) = row_fault (file_word file) row (codes "fields")
road_fault (road.Number file row) = row_fault (file_word file) row (codes "number")
road_fault (road.Sequence file row) = row_fault (file_word file) row (codes "sequence")
road_fault (road.TooManyNodes row) = row_fault (codes "nodes") row (codes "count")
road_fault (road.TooManyArcs row) = row_fault (codes "roads") row (codes "count")
road_fault (road.NodeRange row) = row_fault (codes "roads") row (codes "node")
road_fault (road.ProfileRange row) = row_fault (codes "roads") row (codes "profile")
road_fault (road.Profiles refusal) = profile_fault refusal
road_fault road.NoMemory = []

abbrev pub order_fault : OrderRefusal → List ℕ
order_fault (order.Number row) = decimal row ++ codes " number"
order_fault (order.Range row) = decimal row ++ codes " range"
order_fault (order.Twice row) = decimal row ++ codes " twice"
order_fault (order.Count rows) = decimal rows ++ codes " count"
order_fault order.NoMemory = []

abbrev pub measured_fault : MeasuredRefusal → List ℕ
measured_fault measured.Header = codes "header"
measured_fault (measured.Fields row) = decimal row ++ codes " fields"
measured_fault (measured.Number row) = decimal row ++ codes " number"
measured_fault (measured.Sequence row) = decimal row ++ codes " sequence"
measured_fault (measured.TooMany row) = decimal row ++ codes " count"
measured_fault (measured.Mode row) = decimal row ++ codes " mode"
measured_fault (measured.Limit row) = decimal row ++ codes " limit"
measured_fault (measured.Start row) = decimal row ++ codes " start"
measured_fault (measured.Rising row) = decimal row ++ codes " rising"
measured_fault measured.NoMemory = []

abbrev pub field_word : Field → List ℕ
field_word field.Nodes = codes "nodes"
field_word field.Arcs = codes "arcs"
field_word field.Profiles = codes "profiles"
field_word field.Edges = codes "edges"
field_word field.Pieces = codes "pieces"
field_word field.Entries = codes "entries"

abbrev pub file_fault : PackRefusal → List ℕ
file_fault pack.Short = codes "short"
file_fault pack.Magic = codes "magic"
file_fault (pack.Version found) = numbers_text (codes "version") (found ∷ [])
file_fault (pack.Length said found) = numbers_text (codes "length") (said ∷ found ∷ [])
file_fault pack.Digest = codes "digest"
file_fault (pack.Limit whose) = codes "limit " ++ field_word whose
file_fault (pack.Size counted found) = numbers_text (codes "size") (counted ∷ found ∷ [])
file_fault (pack.Order rank) = numbers_text (codes "order") (rank ∷ [])
file_fault (pack.RoadArc arc) = numbers_text (codes "arc") (arc ∷ [])
file_fault (pack.Profile number) = numbers_text (codes "profile") (number ∷ [])
file_fault (pack.Graph rank) = numbers_text (codes "graph") (rank ∷ [])
file_fault (pack.Ways edge dir) = numbers_text (codes "ways") (edge ∷ []) ++ codes " " ++ dir_word dir
file_fault (pack.Bound edge dir) = numbers_text (codes "bound") (edge ∷ []) ++ codes " " ++ dir_word dir
file_fault pack.NoMemory = []

-- the way that a list takes, if it isn't empty
abbrev pub way_words : Option Way → List ℕ
way_words None = codes "none"
way_words (Some (Road arc)) = codes "road " ++ decimal arc
way_words (Some (Via rank)) = codes "via " ++ decimal rank

-- the first list that differs, and the second from which on it does
abbrev pub place_words : ℕ → Dir → ℕ → List ℕ
place_words edge dir second = codes "differs " ++ decimal edge ++ codes " " ++ dir_word dir ++ codes " " ++ decimal second

-- the line of a hierarchy that isn't the built one
abbrev pub difference_text : Difference → List ℕ
difference_text found =
    place_words found.edge found.dir found.second ++ (codes " " ++ way_words found.stored) ++ (codes " " ++ way_words found.built)

abbrev pub role_word : Role → List ℕ
role_word role.Nodes = codes "nodes"
role_word role.Roads = codes "roads"
role_word role.Profiles = codes "profiles"
role_word role.Order = codes "order"
role_word role.Hierarchy = codes "hierarchy"
role_word role.Edits = codes "edits"
role_word role.Out = codes "out"

abbrev pub line_of : List ℕ → List ℕ
line_of text = text ++ 10 ∷ []

-- what is said of a stop: its one line, or nothing
abbrev pub said_of : Stop → List ℕ
said_of stop.Words = line_of (codes "words")
said_of (stop.Fault whose) = line_of (codes "shelf: fault " ++ role_word whose)
said_of (stop.TooLong whose) = line_of (codes "shelf: long " ++ role_word whose)
said_of (stop.Network refusal) = line_of (codes "network: " ++ road_fault refusal)
said_of (stop.Measured refusal) = line_of (codes "measured: " ++ measured_fault refusal)
said_of (stop.Order refusal) = line_of (codes "order: " ++ order_fault refusal)
said_of (stop.File refusal) = line_of (codes "file: " ++ file_fault refusal)
said_of stop.TooManyEdges = line_of (codes "too many shortcuts")
said_of (stop.TooLarge bytes) = line_of (numbers_text (codes "too large") (bytes ∷ []))
said_of (stop.Differs found) = line_of (difference_text found)
said_of _ = []

-- the status of a stop, by number
abbrev pub status_of : Stop → ℕ
status_of stop.Words = 2
status_of (stop.Fault whose) = 3
status_of (stop.TooLong whose) = 3
status_of (stop.Network refusal) = 4
status_of (stop.Measured refusal) = 4
status_of (stop.Order refusal) = 5
status_of (stop.File refusal) = 6
status_of stop.Source = 7
status_of stop.Sink = 8
status_of stop.NoMemory = 9
status_of (stop.Differs found) = 10
status_of stop.TooManyEdges = 11
status_of stop.TakeLimit = 12
status_of (stop.TooLarge bytes) = 13

-- what is said where a run stopped, if it did
abbrev pub said_at : Option Stop → List ℕ
said_at None = []
said_at (Some why) = said_of why

-- the status of a run: 0 where all was done
abbrev pub status_at : Option Stop → ℕ
status_at None = 0
status_at (Some why) = status_of why
