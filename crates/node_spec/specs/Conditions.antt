-- Conditions as a text: names between commas.
--     names_in text      the names of the text
--     IsCondition name      this name can be a condition
--     AreConditions names      these names can be conditions
use Rattle.std.specs.Prelude.{◌≡◌, ◌≢◌, ◌<◌, ◌≤◌, ◌||◌, ◌==◌, ℕ, Bool, true, List, [], ◌∷◌, All, length, codes}
use Rattle.std.specs.Prelude.{bytes_eq}
use Rattle.std.specs.List.{slice_split, IsDistinct}
use Rattle.std.specs.Char.{is_ascii_alphanumeric}

-- own: the names between commas; the empty text has none
abbrev pub names_in : List ℕ → List (List ℕ)
names_in [] = []
names_in (b ∷ text) = slice_split (λ c. c == 44) (b ∷ text)

-- own: a byte that a condition's name may hold
abbrev pub is_name_byte : ℕ → Bool
is_name_byte b = is_ascii_alphanumeric b || b == 45 || b == 95

-- own: 1 to 64 ASCII letters, digits, `-` or `_`, and not `default`, which always holds
pub record IsCondition (name : List ℕ) : Type 0 where
  pub nonempty : 0 < length name
  pub short : length name ≤ 64
  pub plain : All (λ b. is_name_byte b ≡ true) name
  pub other : name ≢ codes "default"

-- own: at most 32 names, none of them twice
pub record AreConditions (names : List (List ℕ)) : Type 0 where
  pub few : length names ≤ 32
  pub each : All IsCondition names
  pub distinct : IsDistinct bytes_eq names
