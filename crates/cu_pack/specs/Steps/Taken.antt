-- What a writer and a digest took of bytes, where a block of them is yet to be passed on.
use Rattle.std.specs.Prelude.{◌≡◌, ◌++◌, ℕ, List, [], Option}
use Rattle.std.specs.Io.KnownBytes.{Appends, append_known}
use Rattle.std.proofs.Common.{append_assoc, subst, sym}
use Rattle.std.proofs.KnownBytes.{Appends-nil, Appends-trans}
use Rattle.std.proofs.lemmas.List.{append-nil}
use Rattle.sha2.specs.declared.Sha256.{Sha256}
use Rattle.sha2.specs.Hashers.{Holds256}

-- what the digest took, and the block behind it, are this message
abbrev pub HoldsAll : Sha256 → List ℕ → List ℕ → Type 0
HoldsAll digest block message = (front : List ℕ) × Holds256 digest front × (message ≡ front ++ block)

-- these bytes came behind what the writer held and the block, and the digest took what was passed on of them
pub record TakesOn (held : Option (List ℕ)) (digest : Sha256) (block : List ℕ) (held_now : Option (List ℕ)) (digest_now : Sha256) (block_now bytes : List ℕ) : Type 0 where
  pub written : Appends (append_known held block) (append_known held_now block_now) bytes
  pub hashed : (message : List ℕ) → HoldsAll digest block message → HoldsAll digest_now block_now (message ++ bytes)

-- nothing came
pub takes_nothing : (held : Option (List ℕ)) (digest : Sha256) (block : List ℕ) → TakesOn held digest block held digest block []
takes_nothing held digest block = record {
  written = Appends-nil (append_known held block);
  hashed = λ message holds. subst (λ (all : List ℕ). HoldsAll digest block all) (sym (append-nil message)) holds;
}

-- some bytes came, and then others
pub takes_more : (held : Option (List ℕ)) (digest : Sha256) (block : List ℕ) (held_next : Option (List ℕ)) (digest_next : Sha256) (block_next : List ℕ)
    (held_now : Option (List ℕ)) (digest_now : Sha256) (block_now : List ℕ) (xs ys : List ℕ)
    → TakesOn held digest block held_next digest_next block_next xs → TakesOn held_next digest_next block_next held_now digest_now block_now ys
    → TakesOn held digest block held_now digest_now block_now (xs ++ ys)
takes_more held digest block held_next digest_next block_next held_now digest_now block_now xs ys one two = record {
  written = Appends-trans (append_known held block) (append_known held_next block_next) (append_known held_now block_now) xs ys one.written two.written;
  hashed = λ message holds.
      subst (λ (all : List ℕ). HoldsAll digest_now block_now all) (append_assoc message xs ys) (two.hashed (message ++ xs) (one.hashed message holds));
}
