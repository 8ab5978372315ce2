-- What a writer and a digest take, block by block.
use Rattle.std.proofs.Common.{◌≡◌, ◌++◌, ◌∙◌, ℕ, List, [], Some, ap, append_assoc, refl, subst, sym}
use Rattle.std.specs.Prelude.{Option, None}
use Rattle.std.specs.Io.KnownBytes.{Appends, append_known}
use Rattle.std.proofs.KnownBytes.{Appends-trans}
use Rattle.std.proofs.lemmas.List.{append-nil}
use Rattle.sha2.specs.declared.Sha256.{Sha256}
use Rattle.sha2.specs.Hashers.{Holds256}
use Rattle.sha2.specs.Sha256.{sha256}
use Rattle.cu_pack.specs.Steps.Taken.{HoldsAll, TakesOn}

-- where the block is empty, the writer holds all
no_block : (held : Option (List ℕ)) → append_known held [] ≡ held
no_block None = refl
no_block (Some bytes) = ap (λ (bs : List ℕ). Some bs) (append-nil bytes)

empty_block : (held : Option (List ℕ)) (block : List ℕ) → block ≡ [] → append_known held block ≡ held
empty_block held block empty = ap (append_known held) empty ∙ no_block held

behind_block : (held : Option (List ℕ)) (block piece : List ℕ) → Appends (append_known held block) (append_known held (block ++ piece)) piece
behind_block None block piece = tt
behind_block (Some bytes) block piece = sym (append_assoc bytes block piece)

-- a piece comes into the block
pub gathered : (held : Option (List ℕ)) (digest : Sha256) (block piece : List ℕ) → TakesOn held digest block held digest (block ++ piece) piece
gathered held digest block piece = record {
  written = behind_block held block piece;
  hashed = λ message (front, holds, is). (front, holds, ap (λ (bs : List ℕ). bs ++ piece) is ∙ append_assoc front block piece);
}

module _ (held : Option (List ℕ)) (digest : Sha256) (block : List ℕ) (empty : block ≡ []) where
  holds_front : (message : List ℕ) → HoldsAll digest block message → Holds256 digest message
  holds_front message (front, holds, is) = subst (Holds256 digest) (sym (is ∙ ap (λ (bs : List ℕ). front ++ bs) empty ∙ append-nil front)) holds

  -- a piece is sent behind an empty block
  pub sent : (held_now : Option (List ℕ)) (digest_now : Sha256) (piece : List ℕ) → Appends held held_now piece
      → ((message : List ℕ) → Holds256 digest message → Holds256 digest_now (message ++ piece)) → TakesOn held digest block held_now digest_now block piece
  sent held_now digest_now piece appends hashed = record {
    written =
        subst (λ (known : Option (List ℕ)). Appends known (append_known held_now block) piece) (sym (empty_block held block empty))
        (subst (λ (known : Option (List ℕ)). Appends held known piece) (sym (empty_block held_now block empty)) appends);
    hashed = λ message holds.
        (message ++ piece, hashed message (holds_front message holds), sym (append-nil (message ++ piece)) ∙ ap (λ (bs : List ℕ). (message ++ piece) ++ bs) (sym empty));
  }

-- the block is sent
passed : (held held_now : Option (List ℕ)) (block : List ℕ) → Appends held held_now block → Appends (append_known held block) held_now []
passed None held_now block appends = tt
passed (Some bytes) None block appends = appends
passed (Some bytes) (Some now) block appends = appends ∙ sym (append-nil (bytes ++ block))

-- what is left in the block is sent, and behind it the digest of all
pub finished : (held held_sent held_now : Option (List ℕ)) (digest digest_sent : Sha256) (block message bytes : List ℕ) → HoldsAll digest block message
    → ((m : List ℕ) → Holds256 digest m → Holds256 digest_sent (m ++ block)) → ((m : List ℕ) → Holds256 digest_sent m → bytes ≡ sha256 m)
    → Appends held held_sent block → Appends held_sent held_now bytes → Appends (append_known held block) held_now (sha256 message)
finished held held_sent held_now digest digest_sent block message bytes (front, holds, is) hashed sum sent_block appends =
    let all = subst (Holds256 digest_sent) (sym is) (hashed front holds) in
    subst (λ (bs : List ℕ). Appends (append_known held block) held_now bs) (sum message all)
    (Appends-trans (append_known held block) held_sent held_now [] bytes (passed held held_sent block sent_block) appends)

-- all bytes of a file, from nothing on, and their digest behind them
module _ (held : Option (List ℕ)) (digest : Sha256) (block : List ℕ) (held_next : Option (List ℕ)) (digest_next : Sha256) (block_next : List ℕ) (bytes : List ℕ)
    (empty : block ≡ []) (taken : TakesOn held digest block held_next digest_next block_next bytes) where
  pub holds_whole : Holds256 digest [] → HoldsAll digest_next block_next bytes
  holds_whole none = taken.hashed [] ([], none, sym empty)

  pub sealed_whole : (held_now : Option (List ℕ)) → Appends (append_known held_next block_next) held_now (sha256 bytes) → Appends held held_now (bytes ++ sha256 bytes)
  sealed_whole held_now end =
      subst (λ (known : Option (List ℕ)). Appends known held_now (bytes ++ sha256 bytes)) (empty_block held block empty)
      (Appends-trans (append_known held block) (append_known held_next block_next) held_now bytes (sha256 bytes) taken.written end)
