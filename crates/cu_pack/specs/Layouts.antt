-- Where the sections of a packed file lie: one behind the other, behind a header and before a digest.
use Rattle.std.specs.Prelude.{ℕ, ◌≤◌, ◌+◌, ◌*◌, ◌==◌, if◌then◌else◌}
use Rattle.cu_model.specs.declared.limits.TheConstants.{DAY, MAX_ARCS, MAX_NODES, MAX_PROFILES}
use Rattle.cu_chordal.specs.declared.graph.TheConstants.{MAX_EDGES}
use Rattle.cu_pack.specs.declared.layout.Counts.{Counts}
use Rattle.cu_pack.specs.declared.layout.Layout.{Layout}

-- no more of each than there may be: a profile has at most a piece for each second of the day, and a way list at most an entry
pub record AreInLimits (c : Counts) : Type 0 where
  pub nodes : c.nodes ≤ MAX_NODES
  pub arcs : c.arcs ≤ MAX_ARCS
  pub profiles : c.profiles ≤ MAX_PROFILES
  pub edges : c.edges ≤ MAX_EDGES
  pub pieces : c.pieces ≤ MAX_PROFILES * DAY
  pub entries : c.entries ≤ 2 * MAX_EDGES * DAY

abbrev pub rank_of_at : Counts → ℕ
rank_of_at c = 52 + 4 * c.nodes

abbrev pub arcs_at : Counts → ℕ
arcs_at c = rank_of_at c + 4 * c.nodes

abbrev pub profile_starts_at : Counts → ℕ
profile_starts_at c = arcs_at c + 12 * c.arcs

abbrev pub pieces_at : Counts → ℕ
pieces_at c = profile_starts_at c + 8 * (c.profiles + 1)

abbrev pub edge_starts_at : Counts → ℕ
edge_starts_at c = pieces_at c + 12 * c.pieces

abbrev pub uppers_at : Counts → ℕ
uppers_at c = edge_starts_at c + 4 * (c.nodes + 1)

abbrev pub way_starts_at : Counts → ℕ
way_starts_at c = uppers_at c + 4 * c.edges

abbrev pub entries_at : Counts → ℕ
entries_at c = way_starts_at c + 8 * (2 * c.edges + 1)

abbrev pub bounds_at : Counts → ℕ
bounds_at c = entries_at c + 12 * c.entries

-- how many bytes the least bounds of all lists have, which the first version doesn't keep
abbrev pub bounds_length : Counts → ℕ
bounds_length c = if c.version == 2 then 16 * c.edges else 0

abbrev pub digest_at : Counts → ℕ
digest_at c = bounds_at c + bounds_length c

-- the bytes of a file with so many of each
abbrev pub file_length : Counts → ℕ
file_length c = digest_at c + 32

-- where the sections of such a file start
abbrev pub layout_of : Counts → Layout
layout_of c = record {
  node_at = 52;
  rank_of = rank_of_at c;
  arcs = arcs_at c;
  profile_starts = profile_starts_at c;
  pieces = pieces_at c;
  edge_starts = edge_starts_at c;
  uppers = uppers_at c;
  way_starts = way_starts_at c;
  entries = entries_at c;
  bounds = bounds_at c;
  digest = digest_at c;
  length = file_length c;
}
