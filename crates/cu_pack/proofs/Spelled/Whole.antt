-- A whole file: a header, the sections, the bounds and a digest.
use Rattle.std.proofs.Common.{◌≡◌, ◌+◌, ◌-◌, ◌*◌, ◌++◌, ◌∙◌, List, [], ℕ, ap, arith, flat_map, inr, length, refl, sym, take}
use Rattle.sha2.specs.Sha256.{sha256}
use Rattle.cu_interval.specs.Hierarchies.{HierarchyValue}
use Rattle.cu_bounds.specs.KeptBounds.{bounds_of}
use Rattle.cu_pack.specs.declared.layout.Counts.{Counts}
use Rattle.cu_pack.specs.Checks.{sealed}
use Rattle.cu_pack.specs.Layouts.{bounds_at}
use Rattle.cu_pack.specs.Spelling.{body, counts_of, header, long, spelling, spelling_in}
use Rattle.cu_pack.specs.Steps.Fronts.{IsFrontOf, SpellsSections, front, parts}
use Rattle.cu_pack.proofs.Read.Bodies.{range_kept, sealed_digest, sealed_front, sealed_long}
use Rattle.cu_pack.proofs.Spelled.Parts.{body_parts, front_long}

-- a header, and the sections behind it
pub front_put : (version : ℕ) (h : HierarchyValue) (counts : Counts) (none headed put : List ℕ) → counts ≡ counts_of version h → none ≡ [] → headed ≡ none ++ header counts
    → put ≡ headed ++ parts h → put ≡ front version h
unfolding front
front_put version h counts none headed put same empty head more =
    let start = head ∙ ap (λ (bs : List ℕ). bs ++ header counts) empty ∙ ap header same in
    more ∙ ap (λ (bs : List ℕ). bs ++ parts h) start

-- with the bounds, and the digest in the place of whatever stands behind them
pub spelled : (h : HierarchyValue) (put bounded last all : List ℕ) → put ≡ front 2 h → bounded ≡ put ++ flat_map long (bounds_of h) → length last ≡ 32
    → all ≡ bounded ++ last → sealed all ≡ spelling h
unfolding spelling_in
spelled h put bounded last all begins more short end =
    let whole : bounded ≡ body 2 h = more ∙ ap (λ (bs : List ℕ). bs ++ flat_map long (bounds_of h)) begins ∙ sym (body_parts 2 h) in
    ap sealed end ∙ sealed_front bounded last short ∙ ap (λ (bs : List ℕ). bs ++ sha256 bs) whole

-- where as many bytes stand behind all that is before the bounds as these and the digest have, they are whatever they are
pub room_told : (bytes all : List ℕ) (edges : ℕ) (h : HierarchyValue) → IsFrontOf bytes edges h → take (length bytes) all ≡ bytes → length all ≡ length bytes + (16 * edges + 32)
    → SpellsSections (sealed all) h
room_told bytes all edges h f before room =
    let long : length bytes ≡ bounds_at (counts_of 2 h) = ap length f.begins ∙ front_long 2 h f.sound in
    let same = sealed_long all (sealed all) (omega (arith, room)) refl in
    let size : length (front 2 h) - 0 ≡ length bytes = omega (arith, ap length f.begins) in
    let kept = range_kept all (sealed all) (omega (arith, room)) refl 0 (length (front 2 h)) (omega arith) (omega (arith, same, room, ap length f.begins)) in
    record {
      version = 2;
      known = inr refl;
      sound = f.sound;
      begins = ap (λ n. take n (sealed all)) (omega arith) ∙ sym kept ∙ ap (λ n. take n all) size ∙ before ∙ f.begins;
      long = omega (arith, same, room, long, f.count);
      digest = sealed_digest all;
    }
