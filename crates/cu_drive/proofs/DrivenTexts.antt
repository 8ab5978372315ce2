-- The text of a drive, road by road.
use Rattle.std.proofs.Common.{◌≡◌, ◌∙◌, ℕ, List, [], ◌∷◌, ◌++◌, Bool, true, false, refl, sym, ap, append_assoc}
use Rattle.std.proofs.lemmas.List.{append-nil}
use Rattle.std.specs.Prelude.{codes, decimal}
use Rattle.std.specs.List.{flat_map, join_by}
use Rattle.cu_model.specs.Networks.{NetworkValue}
use Rattle.cu_model.specs.Roads.{drive}
use Rattle.cu_drive.specs.Drives.{Entered, entered}
use Rattle.cu_model.specs.Answers.{arrive_text}
use Rattle.cu_drive.specs.DriveAnswers.{stop_text, says_drive}
use Rattle.cu_drive.specs.RoadTexts.{arrival_text, driven_text, entered_text, first_after, number_text}

-- the drive of a walk behind another goes on from where and when that arrives
pub entered-append : (g : NetworkValue) (walk more : List ℕ) (t : ℕ) → entered g (walk ++ more) t ≡ entered g walk t ++ entered g more (drive g walk t)
entered-append g [] more t = refl
entered-append g (road ∷ walk) more t =
    ap (λ (rest : List Entered). record { road = road; second = t } ∷ rest) (entered-append g walk more (drive g (road ∷ []) t))

module _ (text : Bool → ℕ → ℕ → List ℕ) (g : NetworkValue) where
  pub driven_text-append : (first : Bool) (walk more : List ℕ) (t : ℕ)
      → driven_text text g first (walk ++ more) t ≡ driven_text text g first walk t ++ driven_text text g (first_after first walk) more (drive g walk t)
  driven_text-append first [] more t = refl
  driven_text-append first (road ∷ []) more t =
      ap (λ (w : List ℕ). w ++ driven_text text g false more (drive g (road ∷ []) t)) (sym (append-nil (text first road t)))
  driven_text-append first (road ∷ next ∷ walk) more t =
      ap (λ (w : List ℕ). text first road t ++ w) (driven_text-append false (next ∷ walk) more (drive g (road ∷ []) t))
      ∙ sym (append_assoc (text first road t) (driven_text text g false (next ∷ walk) (drive g (road ∷ []) t)) (driven_text text g false more (drive g (road ∷ next ∷ walk) t)))

  -- the text of a walk cut before one of its roads
  pub text_cut : (first : Bool) (done : List ℕ) (road : ℕ) (left : List ℕ) (t : ℕ)
      → driven_text text g first (done ++ (road ∷ left)) t
      ≡ driven_text text g first done t ++ (text (first_after first done) road (drive g done t) ++ driven_text text g false left (drive g (road ∷ []) (drive g done t)))
  text_cut first done road left t = driven_text-append first done (road ∷ left) t

  -- and behind it
  pub text_more : (first : Bool) (done : List ℕ) (road t : ℕ)
      → driven_text text g first (done ++ (road ∷ [])) t ≡ driven_text text g first done t ++ text (first_after first done) road (drive g done t)
  text_more first done road t =
      text_cut first done road [] t ∙ ap (λ (w : List ℕ). driven_text text g first done t ++ w) (append-nil (text (first_after first done) road (drive g done t)))

pub not_first : (first : Bool) (done : List ℕ) (road : ℕ) → first_after first (done ++ (road ∷ [])) ≡ false
not_first first [] road = refl
not_first first (x ∷ done) road = refl

blanks : (g : NetworkValue) (walk : List ℕ) (t : ℕ) → driven_text entered_text g false walk t ≡ flat_map (λ (stop : Entered). (32 ∷ []) ++ stop_text stop) (entered g walk t)
blanks g [] t = refl
blanks g (road ∷ walk) t = ap (λ (w : List ℕ). (32 ∷ (decimal road ++ 44 ∷ decimal t)) ++ w) (blanks g walk (drive g (road ∷ []) t))

-- the roads of a drive, each with its second, are `road,second` with a blank between two
entered_joined : (g : NetworkValue) (walk : List ℕ) (t : ℕ) → driven_text entered_text g true walk t ≡ join_by stop_text (32 ∷ []) (entered g walk t)
entered_joined g [] t = refl
entered_joined g (road ∷ walk) t = ap (λ (w : List ℕ). (decimal road ++ 44 ∷ decimal t) ++ w) (blanks g walk (drive g (road ∷ []) t))

number_blanks : (g : NetworkValue) (walk : List ℕ) (t : ℕ) → driven_text number_text g false walk t ≡ flat_map (λ (road : ℕ). (32 ∷ []) ++ decimal road) walk
number_blanks g [] t = refl
number_blanks g (road ∷ walk) t = ap (λ (w : List ℕ). (32 ∷ decimal road) ++ w) (number_blanks g walk (drive g (road ∷ []) t))

-- where each is its number alone, they are the walk's roads with a blank between two, whenever they are entered
numbers_joined : (g : NetworkValue) (walk : List ℕ) (t : ℕ) → driven_text number_text g true walk t ≡ join_by decimal (32 ∷ []) walk
numbers_joined g [] t = refl
numbers_joined g (road ∷ walk) t = ap (λ (w : List ℕ). decimal road ++ w) (number_blanks g walk (drive g (road ∷ []) t))

-- in numbers alone an arrival is said as in the reply to a query
pub numbers_said : (g : NetworkValue) (second arrival : ℕ) (walk : List ℕ) → arrival_text (codes " arcs=") number_text g second arrival walk ≡ arrive_text arrival walk
numbers_said g second arrival walk = ap (λ (roads : List ℕ). codes "arrive=" ++ decimal arrival ++ codes " arcs=" ++ roads) (numbers_joined g walk second)

-- with the seconds it is said by its drive
pub seconds_said : (g : NetworkValue) (second arrival : ℕ) (walk : List ℕ) → arrival_text (codes " drive=") entered_text g second arrival walk ≡ says_drive g second arrival walk
seconds_said g second arrival walk = ap (λ (roads : List ℕ). codes "arrive=" ++ decimal arrival ++ codes " drive=" ++ roads) (entered_joined g walk second)
