-- Replies that say what is so of times in one sense say it in another, where the one follows from the other.
use Rattle.std.proofs.Common.{ℕ, List, [], ◌∷◌, Option}
use Rattle.cu_model.specs.declared.queries.Query.{Query}
use Rattle.cu_reach.specs.declared.departures.Departure.{Departure}
use Rattle.cu_reach.specs.declared.departures.Departure.TheVariants.{Depart, TooLate, NoWalk, Long}
use Rattle.cu_reach.specs.declared.lines.LatestAsked.{LatestAsked}
use Rattle.cu_reach.specs.Departures.{IsLatestOf}
use Rattle.cu_reach.specs.NodeFields.{TableValue}
use Rattle.cu_reach.specs.ReachAnswers.{AreRowTimes, AreRows, SaysLatest, SaysReach, SaysTable, query_at}
use Rattle.cu_reach.specs.ReachTexts.{SaysDeparture}

pub says_reach : (P Q : ℕ → Option ℕ → Type 0) → ((v : ℕ) (time : Option ℕ) → P v time → Q v time) → (nodes : ℕ) (reply : List ℕ)
    → SaysReach P nodes reply → SaysReach Q nodes reply
says_reach P Q so nodes reply (times, long, are, said) = (times, long, (λ v time at. so v time (are v time at)), said)

row_times_so : (P Q : ℕ → Option ℕ → Type 0) → ((v : ℕ) (time : Option ℕ) → P v time → Q v time) → (targets : List ℕ) (times : List (Option ℕ))
    → AreRowTimes P targets times → AreRowTimes Q targets times
row_times_so P Q so [] times none = none
row_times_so P Q so (target ∷ targets) times (time, rest, cut, is, are) = (time, rest, cut, so target time is, row_times_so P Q so targets rest are)

rows_so : (P Q : ℕ → ℕ → Option ℕ → Type 0) → ((u v : ℕ) (time : Option ℕ) → P u v time → Q u v time) → (targets sources : List ℕ) (rows : List (List (Option ℕ)))
    → AreRows P targets sources rows → AreRows Q targets sources rows
rows_so P Q so targets [] rows none = none
rows_so P Q so targets (source ∷ sources) rows (row, rest, cut, is, are) =
    (row, rest, cut, row_times_so (P source) (Q source) (so source) targets row is, rows_so P Q so targets sources rest are)

pub says_table : (P Q : ℕ → ℕ → Option ℕ → Type 0) → ((u v : ℕ) (time : Option ℕ) → P u v time → Q u v time) → (asked : TableValue) (reply : List ℕ)
    → SaysTable P asked reply → SaysTable Q asked reply
says_table P Q so asked reply (rows, are, said) = (rows, rows_so P Q so asked.targets asked.sources rows are, said)

departure_so : (P Q : ℕ → List ℕ → Type 0) → ((second : ℕ) (text : List ℕ) → P second text → Q second text) → (departure : Departure) (reply : List ℕ)
    → SaysDeparture P departure reply → SaysDeparture Q departure reply
departure_so P Q so (Depart second arrive) reply (text, said, is) = (text, said, so second text is)
departure_so P Q so TooLate reply said = said
departure_so P Q so NoWalk reply said = said
departure_so P Q so (Long edge dir at) reply said = said

pub says_latest : (Is As : Departure → Type 0) (P Q : Query → List ℕ → Type 0) → ((departure : Departure) → Is departure → As departure)
    → ((query : Query) (text : List ℕ) → P query text → Q query text) → (asked : LatestAsked) (reply : List ℕ)
    → SaysLatest Is P asked reply → SaysLatest As Q asked reply
says_latest Is As P Q so same asked reply (departure, is, said) = (
  departure,
  so departure is,
  departure_so (λ second text. P (query_at asked second) text) (λ second text. Q (query_at asked second) text)
      (λ second text. same (query_at asked second) text) departure reply said,
)

-- the latest departure by least arrivals is that by others that are the same
pub latest_so : (P Q : ℕ → ℕ → Type 0) (No Nor : Type 0) → ((second arrival : ℕ) → P second arrival → Q second arrival)
    → ((second arrival : ℕ) → Q second arrival → P second arrival) → (No → Nor) → (by : ℕ) (departure : Departure)
    → IsLatestOf P No by departure → IsLatestOf Q Nor by departure
latest_so P Q No Nor to back none by (Depart second arrive) (least, early, le, last) =
    (to second arrive least, early, le, λ later arrival after before is. last later arrival after before (back later arrival is))
latest_so P Q No Nor to back none by TooLate (arrival, least, late) = (arrival, to 0 arrival least, late)
latest_so P Q No Nor to back none by NoWalk is = none is
latest_so P Q No Nor to back none by (Long edge dir at) is = is
