-- Needs: who asks (by its URL), what for (the specifier as HTML normalizes it), and the URL that has to come of it.
--     counted needs      each need once, at its first place
--     NoClash needs      needs of one referrer and one specifier have one target
--     IsAsked asked      the text stands for itself at every base, and is no folder's
use Rattle.std.specs.List.{list_any}
use Rattle.std.specs.Prelude.{Bool, ◌&&◌, not, bytes_eq, ℕ, List, [], ◌∷◌, ◌++◌, if◌then◌else◌, ◌≡◌, ◌≢◌, Contains}
use Rattle.std.specs.Prelude.{false}
use Rattle.std.specs.Str.{IsUtf8}
use Rattle.url_spec.specs.Specifiers.{normalized, ends_in_slash}
use Rattle.layout_spec.specs.declared.Need.{Need}

-- the same need
abbrev pub is_need : Need → Need → Bool
is_need one other =
    bytes_eq one.referrer other.referrer && bytes_eq one.asked other.asked && bytes_eq one.target other.target

-- own: a need is put at the end, unless it is there
abbrev pub with_need : List Need → Need → List Need
with_need needs need = if list_any (is_need need) needs then needs else needs ++ need ∷ []

-- own: these needs, and behind them each of the others that isn't there yet, once, at its first place
abbrev pub counted_onto : List Need → List Need → List Need
counted_onto needs [] = needs
counted_onto needs (need ∷ more) = counted_onto (with_need needs need) more

-- own: another need agrees with this one in referrer and normalized specifier, and has another target
abbrev pub clashes : Need → Need → Bool
clashes need other =
    bytes_eq other.referrer need.referrer && bytes_eq other.asked need.asked && not (bytes_eq other.target need.target)

abbrev pub counted : List Need → List Need
counted needs = counted_onto [] needs

-- own: needs of one referrer and one specifier have one target
abbrev pub NoClash : List Need → Type 0
NoClash needs =
    (one other : Need) → Contains needs one → Contains needs other → one.referrer ≡ other.referrer
    → one.asked ≡ other.asked → one.target ≡ other.target

-- own: a URL or a bare text that can be the key of a mapping: it isn't empty, is its own normalized specifier at every
-- base, and ends in no `/`
pub record IsAsked (asked : List ℕ) : Type 0 where
  pub nonempty : asked ≢ []
  pub utf8 : IsUtf8 asked
  pub normal : (base : List ℕ) → normalized base asked ≡ asked
  pub no_folder : ends_in_slash asked ≡ false
