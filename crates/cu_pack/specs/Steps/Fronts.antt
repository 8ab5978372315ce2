-- Files whose bounds nobody has looked at.
use Rattle.std.specs.Prelude.{ℕ, List, ◌≡◌, ◌++◌, length}
use Rattle.sha2.specs.Sha256.{sha256}
use Rattle.cu_interval.specs.Hierarchies.{HierarchyValue, IsHierarchy}
use Rattle.cu_pack.specs.Checks.{HasWays, IsIn, body_in, digest_in}
use Rattle.cu_pack.specs.Layouts.{file_length}
use Rattle.cu_pack.specs.Places.{StandsAt}
use Rattle.cu_pack.specs.Reading.{decoded}
use Rattle.cu_pack.specs.Spelling.{IsVersion, arcs_section, counts_of, edges_section, header, order_section, profiles_section, ways_section}

-- the sections between the header and the bounds
abbrev pub parts : HierarchyValue → List ℕ
parts h = order_section h ++ (arcs_section h ++ (profiles_section h ++ (edges_section h ++ ways_section h)))

-- all bytes before the bounds, in a version
unfoldable pub front : ℕ → HierarchyValue → List ℕ
front version h = header (counts_of version h) ++ parts h

-- bytes with the header, the sections, the length and a digest of a hierarchy's file, whatever stands in the place of its bounds
pub record SpellsSections (bytes : List ℕ) (h : HierarchyValue) : Type 0 where
  pub version : ℕ
  pub known : IsVersion version
  pub sound : IsHierarchy h
  pub begins : StandsAt bytes 0 (front version h)
  pub long : length bytes ≡ file_length (counts_of version h)
  pub digest : digest_in bytes ≡ sha256 (body_in bytes)

-- bytes are a hierarchy's file of version 2 up to the bounds, of so many edges
pub record IsFrontOf (bytes : List ℕ) (edges : ℕ) (h : HierarchyValue) : Type 0 where
  pub sound : IsHierarchy h
  pub begins : bytes ≡ front 2 h
  pub count : edges ≡ length h.edges

-- bytes of a version that pass all checks but that of the bounds, and so spell the sections of what they say
pub record PassesIn (version : ℕ) (bytes : List ℕ) : Type 0 where
  pub kind : IsIn version bytes
  pub ways : HasWays bytes
  pub told : SpellsSections bytes (decoded bytes)
