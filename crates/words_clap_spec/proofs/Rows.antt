-- Rows of matches, found by the argument's name and added.
use Rattle.clap.specs.Walk.{at_row, default_rows, has_row, reading_by, with_default}
use Rattle.clap.specs.Words.{Row, Rule, Text}
use Rattle.std.proofs.Common.{◌≡◌, ◌||◌, List, [], ◌∷◌, ◌++◌, Option, Some, None, is_some, find, Bool, true, false, if◌then◌else◌, refl, ap, ◌∙◌}
use Rattle.std.specs.List.{fold, list_all}
use Rattle.std.specs.Option.{option_or}
use Rattle.std.proofs.lemmas.Bool.{and_parts}
use Rattle.words_clap_spec.specs.Holding.{is_row}

pub option_or-none : {X : Type 0} (found : Option X) → option_or found None ≡ found
option_or-none None = refl
option_or-none (Some found) = refl

pub find-append : (id : Text) (rows more : List Row) → find (is_row id) (rows ++ more) ≡ option_or (find (is_row id) rows) (find (is_row id) more)
find-append id [] more = refl
find-append id (r ∷ rows) more = by_test (is_row id r) (find-append id rows more)
  where
    by_test : (test : Bool) → find (is_row id) (rows ++ more) ≡ option_or (find (is_row id) rows) (find (is_row id) more)
        → (if test then Some r else find (is_row id) (rows ++ more))
        ≡ option_or (if test then Some r else find (is_row id) rows) (find (is_row id) more)
    by_test true below = refl
    by_test false below = below

-- where no row has the name, the change is put at the end
pub at_row-none : (id : Text) (change : Row → List Row) (missing rows : List Row) → find (is_row id) rows ≡ None → at_row id change missing rows ≡ rows ++ missing
at_row-none id change missing [] none = refl
at_row-none id change missing (r ∷ rows) none = by_test (is_row id r) (at_row-none id change missing rows) none
  where
    by_test : (test : Bool) → (find (is_row id) rows ≡ None → at_row id change missing rows ≡ rows ++ missing)
        → (if test then Some r else find (is_row id) rows) ≡ None
        → (if test then change r ++ rows else r ∷ at_row id change missing rows) ≡ r ∷ (rows ++ missing)
    by_test true below none = absurd (let bad : true ≡ false = ap is_some none in cc)
    by_test false below none = ap (λ rs. r ∷ rs) (below none)

-- rows without the name stay in front of a change
pub at_row-append : (id : Text) (change : Row → List Row) (missing rows more : List Row) → find (is_row id) rows ≡ None → at_row id change missing (rows ++ more) ≡ rows ++ at_row id change missing more
at_row-append id change missing [] more none = refl
at_row-append id change missing (r ∷ rows) more none = by_test (is_row id r) (at_row-append id change missing rows more) none
  where
    by_test : (test : Bool)
        → (find (is_row id) rows ≡ None → at_row id change missing (rows ++ more) ≡ rows ++ at_row id change missing more)
        → (if test then Some r else find (is_row id) rows) ≡ None
        → (if test then change r ++ (rows ++ more) else r ∷ at_row id change missing (rows ++ more))
        ≡ r ∷ (rows ++ at_row id change missing more)
    by_test true below none = absurd (let bad : true ≡ false = ap is_some none in cc)
    by_test false below none = ap (λ rs. r ∷ rs) (below none)

pub has_row-none : (id : Text) (rows : List Row) → find (is_row id) rows ≡ None → has_row id rows ≡ false
has_row-none id [] none = refl
has_row-none id (r ∷ rows) none = by_test (is_row id r) (has_row-none id rows) none
  where
    by_test : (test : Bool) → (find (is_row id) rows ≡ None → has_row id rows ≡ false)
        → (if test then Some r else find (is_row id) rows) ≡ None → (test || has_row id rows) ≡ false
    by_test true below none = absurd (let bad : true ≡ false = ap is_some none in cc)
    by_test false below none = below none

-- ---- defaults

abbrev pub no_texts : List Text → Bool
no_texts [] = true
no_texts (text ∷ texts) = false

abbrev pub has_no_default : Rule → Bool
has_no_default a = no_texts a.defaults

-- where no argument has a default, no row comes to those that are there
pub no_defaults : (rules : List Rule) (rows : List Row) → list_all has_no_default rules ≡ true
    → fold with_default rows rules ≡ rows
no_defaults [] rows none = refl
no_defaults (a ∷ rules) rows none =
    let both = and_parts (has_no_default a) (list_all has_no_default rules) none in
    ap (λ r. fold with_default r rules) (by_test (has_row a.id rows) a.defaults both.0)
    ∙ no_defaults rules rows both.1
  where
    by_test : (test : Bool) (texts : List Text) → no_texts texts ≡ true
        → (if test then rows else default_rows a.id (reading_by a) texts rows) ≡ rows
    by_test true texts empty = refl
    by_test false [] empty = refl
    by_test false (text ∷ texts) empty = absurd (let bad : false ≡ true = empty in cc)
