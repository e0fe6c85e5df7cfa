-- Worked examples: choices of needs, written as lists of places and targets.
--     ChoosesAs needs asked mappings      the choice for the specifier
use Rattle.std.specs.Cmp.Lexicographic.{slice_cmp}
use Rattle.std.specs.FinMap.{from_entries}
use Rattle.std.specs.Ordering.{nat_cmp}
use Rattle.std.specs.Prelude.{ℕ, List, [], ◌∷◌, map, codes}
use Prim.Native.String.{String}
use Rattle.layout_spec.specs.WorkedExamples.{need}
use Rattle.layout_spec.specs.declared.Need.{Need}
use Rattle.fewest_spec.specs.Fewest.{IsFewest}

abbrev pub written : List (String × String) → List (List ℕ × List ℕ)
written mappings = map (λ mapping. (codes mapping.0, codes mapping.1)) mappings

pub record ChoosesAs (needs : List Need) (asked : String) (mappings : List (String × String)) : Type 0 where
  pub is : IsFewest needs (codes asked) (from_entries {R = slice_cmp nat_cmp} (written mappings))

abbrev pub in_a : String
in_a = "https://app.test/a/node_modules/c/index.mjs"

abbrev pub in_b : String
in_b = "https://app.test/b/node_modules/c/index.mjs"

-- two folders that ask for packages of one name
abbrev pub two_folders : List Need
two_folders = need "https://app.test/a/m.mjs" "c" in_a ∷ need "https://app.test/b/m.mjs" "c" in_b ∷ []

abbrev pub x_itself : String
x_itself = "https://app.test/app/x.mjs"

abbrev pub x_below : String
x_below = "https://app.test/app/app/x.mjs"

abbrev pub in_root : String
in_root = "https://app.test/node_modules/c/index.mjs"

pub record FewestExamples : Type 0 where
  pub none : ChoosesAs [] "c" []
  -- one target stands at the top level
  pub one : ChoosesAs (need "https://app.test/a/m.mjs" "c" in_a ∷ []) "c" (("", in_a) ∷ [])
  -- a need that its target's URL itself serves wants no place
  pub free : ChoosesAs (need "https://app.test/app/n.mjs" x_itself x_itself ∷ []) x_itself []
  pub two : ChoosesAs two_folders "c" (("", in_a) ∷ ("https://app.test/b/", in_b) ∷ [])
  -- a third need with the first one's target changes nothing
  pub three :
      ChoosesAs (need "https://app.test/a/n.mjs" "c" in_a ∷ two_folders) "c"
      (("", in_a) ∷ ("https://app.test/b/", in_b) ∷ [])
  -- the top level would change the need that wants no place
  pub free_stays :
      ChoosesAs
      (need "https://app.test/app/m.mjs" x_itself x_below ∷ need "https://app.test/app/n.mjs" x_itself x_itself ∷ [])
      x_itself
      (("https://app.test/app/m.mjs", x_below) ∷ [])
  -- what most folders use stands at the top level, though its address is the greater one
  pub most :
      ChoosesAs (need "https://app.test/d/m.mjs" "c" in_b ∷ two_folders) "c"
      (("", in_b) ∷ ("https://app.test/a/", in_a) ∷ [])
  -- of two as good targets the smaller stands at the top level, whoever wants it
  pub smaller :
      ChoosesAs (need "https://app.test/a/m.mjs" "c" in_b ∷ need "https://app.test/b/m.mjs" "c" in_a ∷ []) "c"
      (("", in_a) ∷ ("https://app.test/a/", in_b) ∷ [])
  pub smaller_above :
      ChoosesAs
      (need "https://app.test/m.mjs" "c" in_root
      ∷ need "https://app.test/b/m.mjs" "c" in_b
      ∷ need "https://app.test/b/d/m.mjs" "c" in_b ∷ [])
      "c"
      (("", in_b) ∷ ("https://app.test/m.mjs", in_root) ∷ [])
  -- two versions in folders one in the other; of two as good places the one whose text is smaller holds the mapping
  pub nested :
      ChoosesAs
      (need "https://app.test/m.mjs" "c" in_root
      ∷ need "https://app.test/a/m.mjs" "c" in_root
      ∷ need "https://app.test/a/b/m.mjs" "c" in_a ∷ [])
      "c"
      (("", in_root) ∷ ("https://app.test/a/b/", in_a) ∷ [])
  pub three_targets :
      ChoosesAs (need "https://app.test/m.mjs" "c" in_root ∷ two_folders) "c"
      (("", in_a) ∷ ("https://app.test/b/", in_b) ∷ ("https://app.test/m.mjs", in_root) ∷ [])
  -- a page at the URL of a folder is a place of the modules below, so one of these is scoped
  pub below_page :
      ChoosesAs (need "https://app.test/app/" "c" in_a ∷ need "https://app.test/app/m.mjs" "c" in_b ∷ []) "c"
      (("", in_a) ∷ ("https://app.test/app/m.mjs", in_b) ∷ [])
  -- a specifier is mapped to itself, where two scopes would be needed otherwise
  pub to_itself :
      ChoosesAs
      (need "https://app.test/app/a/m.mjs" x_itself x_below
      ∷ need "https://app.test/app/b/m.mjs" x_itself x_below
      ∷ need "https://app.test/app/n/m.mjs" x_itself x_itself ∷ [])
      x_itself
      (("", x_below) ∷ ("https://app.test/app/n/", x_itself) ∷ [])
