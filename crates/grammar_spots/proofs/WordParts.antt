-- The words and operators are their parts.
use Rattle.std.proofs.Common.{◌≡◌, ℕ, Bool, true, false, ◌&&◌, ◌||◌, bytes_eq, List, [], ◌∷◌, ◌++◌, refl, sym, ◌∙◌, ap}
use Rattle.std.specs.List.{list_any}
use Rattle.std.proofs.lemmas.List.Folds.{list_any-append}
use Rattle.grammar_spec.specs.Sights.{reserved, assignment_operators, operators}
use Rattle.grammar_spots.specs.Words.{is_one_of, reserved_first, reserved_second, reserved_third, reserved_last}
use Rattle.grammar_spots.specs.Words.{assignments_first, assignments_last, operators_first, operators_last}

two_parts : (text : List ℕ) (xs ys : List (List ℕ)) → (is_one_of text xs || is_one_of text ys) ≡ is_one_of text (xs ++ ys)
two_parts text xs ys = sym (list_any-append (λ word. bytes_eq text word) xs ys)

pub assignment_operators_are : (text : List ℕ) → (is_one_of text assignments_first || is_one_of text assignments_last) ≡ is_one_of text assignment_operators
assignment_operators_are text = two_parts text assignments_first assignments_last

pub operators_are : (text : List ℕ) → (is_one_of text operators_first || is_one_of text operators_last) ≡ is_one_of text operators
operators_are text = two_parts text operators_first operators_last

pub reserved_are : (text : List ℕ)
    → (is_one_of text reserved_first || (is_one_of text reserved_second || (is_one_of text reserved_third || is_one_of text reserved_last)))
    ≡ is_one_of text reserved
reserved_are text =
    ap (λ b. is_one_of text reserved_first || (is_one_of text reserved_second || b)) (two_parts text reserved_third reserved_last)
    ∙ (ap (λ b. is_one_of text reserved_first || b) (two_parts text reserved_second (reserved_third ++ reserved_last))
    ∙ two_parts text reserved_first (reserved_second ++ (reserved_third ++ reserved_last)))
