-- Bytes taken in one read after another.
use Rattle.std.proofs.Common.{◌≡◌, ◌++◌, ◌∙◌, ℕ, List, [], take, refl, ap, append_assoc}
use Rattle.std.specs.Prelude.{Option, None, Some}
use Rattle.cu_io.specs.Transfers.{Moves, Takes}

-- what a read moved was taken
pub takes_read : (before now : Option (List ℕ)) (buffer : List ℕ) (n : ℕ) → Moves before now buffer n → Takes before now (take n buffer)
takes_read None now buffer n h = tt
takes_read (Some bytes) now buffer n h = (h.0, h.1, h.2)

-- some bytes, and then more
pub takes_more : (before then now : Option (List ℕ)) (first second : List ℕ) → Takes before then first → Takes then now second → Takes before now (first ++ second)
takes_more None then now first second h k = tt
takes_more (Some bytes) None now first second h k = absurd (cc h.1)
takes_more (Some bytes) (Some left) now first second h k =
    let same : left ≡ h.0 = cc h.1 in
    (k.0, k.1, h.2 ∙ ap (λ (t : List ℕ). first ++ t) (cc (same, k.2)) ∙ assoc first second k.0)
  where
    assoc : (xs ys zs : List ℕ) → xs ++ (ys ++ zs) ≡ (xs ++ ys) ++ zs
    assoc xs ys zs = rw append_assoc

-- nothing was taken
pub takes_nothing : (before : Option (List ℕ)) → Takes before before []
takes_nothing None = tt
takes_nothing (Some bytes) = (bytes, refl, refl)
