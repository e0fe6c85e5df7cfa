-- The key that is taken among the keys of an object, as a function (Node.js, ECMAScript modules: PATTERN_KEY_COMPARE,
-- PACKAGE_IMPORTS_EXPORTS_RESOLVE). What it finds stands in PatternKeys.
--     KeyFound                  a key and how it matches
--     key_match asked key       how the key matches the text that is asked for, where it does
--     first_key asked keys      of the keys that match, the one that no other precedes
--     pattern_match asked found      what stands for `*`, where the key is a pattern
--     pattern_trailer text      what stands behind the first `*`; without one, nothing
--     pattern_at asked key base trailer      how the key with this base and trailer matches, where it does
--     better_key key found later      this key, which matches so, unless the one that was found behind it goes before
--         it
--     with_key key found later      the same where the key matches; else what was found behind it
use Rattle.std.specs.Prelude.{◌==◌, ◌&&◌, ◌||◌, ◌-◌, not, ℕ, nat_le, nat_lt, nat_eq, Bool, true, false, List, [], ◌∷◌}
use Rattle.std.specs.Prelude.{take, drop, length, filter, bytes_eq, if◌then◌else◌, Option, Some, None}
use Rattle.std.specs.List.{ends_with}
use Rattle.url_spec.specs.Specifiers.{begins}
use Rattle.node_spec.specs.PatternKeys.{KeyMatch, Itself, PatternMatch}

pub record KeyFound : Type 0 where
  pub key : List ℕ
  pub found : KeyMatch

-- how many `*` stand in the text
abbrev pub star_count : List ℕ → ℕ
star_count text = length (filter (λ b. b == 42) text)

-- what stands before the first `*`; without one, all
abbrev pub pattern_base : List ℕ → List ℕ
pattern_base [] = []
pattern_base (b ∷ text) = if b == 42 then [] else b ∷ pattern_base text

abbrev pub pattern_trailer : List ℕ → List ℕ
pattern_trailer [] = []
pattern_trailer (b ∷ text) = if b == 42 then text else pattern_trailer text

-- PACKAGE_IMPORTS_EXPORTS_RESOLVE, "If matchKey starts with but is not equal to patternBase"
abbrev pub fits : List ℕ → List ℕ → List ℕ → List ℕ → Bool
fits asked key base trailer =
    begins asked base
    && (not (bytes_eq asked base)
    && (bytes_eq trailer [] || (ends_with nat_eq asked trailer && nat_le (length key) (length asked))))

abbrev pub pattern_at : List ℕ → List ℕ → List ℕ → List ℕ → Option KeyMatch
pattern_at asked key base trailer =
    if fits asked key base trailer then Some (PatternMatch (length base) (length asked - length trailer)) else None

abbrev pub key_match : List ℕ → List ℕ → Option KeyMatch
key_match asked key =
    if star_count key == 0 then (if bytes_eq key asked then Some Itself else None)
    else if star_count key == 1 then pattern_at asked key (pattern_base key) (pattern_trailer key)
    else None

-- PATTERN_KEY_COMPARE: the longer base, and then the longer key, whose pattern match ends earlier
abbrev pub goes_before : KeyMatch → KeyMatch → Bool
goes_before Itself Itself = false
goes_before Itself (PatternMatch from to) = true
goes_before (PatternMatch from to) Itself = false
goes_before (PatternMatch from to) (PatternMatch other_from other_to) =
    nat_lt other_from from || (from == other_from && nat_lt to other_to)

abbrev pub better_key : List ℕ → KeyMatch → Option KeyFound → Option KeyFound
better_key key found None = Some (record { key = key; found = found })
better_key key found (Some later) =
    if goes_before later.found found then Some later else Some (record { key = key; found = found })

abbrev pub with_key : List ℕ → Option KeyMatch → Option KeyFound → Option KeyFound
with_key key None later = later
with_key key (Some found) later = better_key key found later

abbrev pub first_key : List ℕ → List (List ℕ) → Option KeyFound
first_key asked [] = None
first_key asked (key ∷ more) = with_key key (key_match asked key) (first_key asked more)

-- PACKAGE_IMPORTS_EXPORTS_RESOLVE, "patternMatch"
abbrev pub pattern_match : List ℕ → KeyMatch → Option (List ℕ)
pattern_match asked Itself = None
pattern_match asked (PatternMatch from to) = Some (take (to - from) (drop from asked))
