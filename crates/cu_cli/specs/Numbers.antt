-- The numbers that a user meets, each once as a plain numeral. The other definitions name them by the constants of the program, and these
-- equations say which they are: a program with another constant has another contract.
use Rattle.std.specs.Prelude.{ℕ, ◌≡◌, ◌*◌}
use Rattle.cu_model.specs.declared.limits.TheConstants.{DAY, MAX_ARCS, MAX_NODES, MAX_PROFILES, MAX_TRAVEL, MAX_UNTIL}
use Rattle.cu_io.specs.declared.disk.DiskShelf.{DiskShelf}
use Rattle.cu_io.specs.Adapters.{disk_state}
use Rattle.cu_tables.specs.declared.fields.TheConstants.{WIDEST}
use Rattle.cu_chordal.specs.declared.graph.TheConstants.{MAX_EDGES}
use Rattle.cu_reach.specs.declared.departures.TheConstants.{MOST_QUERIES}
use Rattle.cu_reach.specs.declared.lines.TheConstants.{LATEST_BY, MAX_TABLE}
use Rattle.cu_profile.specs.declared.rows.TheConstants.{MAX_ROWS}
use Rattle.cu_wait.specs.declared.rows.TheConstants.{MAX_MEASURED}
use Rattle.cu_roads.specs.declared.places.TheConstants.{MAX_COORDINATE}
use Rattle.cu_roads.specs.declared.grids.TheConstants.{DISTANCE, EASING, EXTRA_RANGE, FREE_RANGE, LEAST_FREE, MAX_SIDE, PROFILES, RUSH}
use Rattle.cu_roads.specs.declared.draws.TheConstants.{INCREMENT, MULTIPLIER}
use Rattle.cu_script.specs.declared.lines.TheConstants.{MAX_EDIT_LINE}
use Rattle.cu_desk.specs.declared.lines.TheConstants.{MAX_CLIENT}
use Rattle.cu_session.specs.Sessions.{take_limit}
use Rattle.cu_cli.specs.declared.commands.trial.turns.TheConstants.{MAX_TURNS}

-- the most nodes, roads, profiles and shortcuts of a network, and the most measured profiles of a text
pub record AreMostOfEach : Type 0 where
  pub nodes : MAX_NODES ≡ 262144
  pub roads : MAX_ARCS ≡ 1048576
  pub profiles : MAX_PROFILES ≡ 1048576
  pub shortcuts : MAX_EDGES ≡ 16777216
  pub measured : MAX_MEASURED ≡ 49710

-- the seconds of a day; the most that a `travel` piece takes, seven days; the latest that an `until` piece arrives, eight days after its
-- midnight; and the latest second by which one may ask to arrive
pub record AreSeconds : Type 0 where
  pub day : DAY ≡ 86400
  pub travel : MAX_TRAVEL ≡ 604800
  pub until : MAX_UNTIL ≡ 691200
  pub by : LATEST_BY ≡ 1099511627776

-- the rows of a table are counted up to the first number, and a number of a row is read up to the second; the greatest coordinate
pub record AreInTables : Type 0 where
  pub rows : MAX_ROWS ≡ 4294967295
  pub widest : WIDEST ≡ 4294967295
  pub coordinate : MAX_COORDINATE ≡ 1000000000

-- the most pieces and way entries of a packed file, and the most bytes of any file of the shelf of real files, whatever stands behind it
pub record AreInFiles : Type 0 where
  pub pieces : MAX_PROFILES * DAY ≡ 90596966400
  pub entries : 2 * MAX_EDGES * DAY ≡ 2899102924800
  pub bytes : (shelf : DiskShelf ℕ ℕ ℕ) → (disk_state shelf).most ≡ 4294967296

-- the most bytes of a line before its end; the most times of a table that a line asks for; the greatest number of a client; the most
-- queries that a latest departure takes; and the bytes of an input that is too long
pub record AreInScripts : Type 0 where
  pub line : MAX_EDIT_LINE ≡ 4194304
  pub table : MAX_TABLE ≡ 1048576
  pub client : MAX_CLIENT ≡ 65535
  pub queries : MOST_QUERIES ≡ 20
  pub taken : take_limit ≡ 1099511627776

-- the most nodes of a row or column of a grid, and how far they lie apart; its profiles; the seconds at which its rush hour begins and
-- eases; the least that a road takes, and in how many seconds that, and what the rush hour adds, are drawn
pub record AreInGrids : Type 0 where
  pub side : MAX_SIDE ≡ 512
  pub distance : DISTANCE ≡ 100
  pub profiles : PROFILES ≡ 64
  pub rush : RUSH ≡ 25200
  pub easing : EASING ≡ 32400
  pub free : LEAST_FREE ≡ 20
  pub range : FREE_RANGE ≡ 100
  pub extra : EXTRA_RANGE ≡ 600

-- the numbers of the generator by which grids and trials are drawn, and the most turns of a trial
pub record AreInDraws : Type 0 where
  pub multiplier : MULTIPLIER ≡ 6364136223846793005
  pub increment : INCREMENT ≡ 1442695040888963407
  pub turns : MAX_TURNS ≡ 1000000

-- all of them
pub record AreTheNumbers : Type 0 where
  pub most : AreMostOfEach
  pub seconds : AreSeconds
  pub tables : AreInTables
  pub files : AreInFiles
  pub scripts : AreInScripts
  pub grids : AreInGrids
  pub draws : AreInDraws
