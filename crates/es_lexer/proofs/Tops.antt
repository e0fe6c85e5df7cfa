-- The last item of a list of open brackets.
use Rattle.std.proofs.Common.{◌≡◌, ◌-◌, suc, List, [], ◌∷◌, ◌++◌, length, take, Some, refl, arith, slice_get, ◌∙◌, ap}
use Rattle.std.proofs.lemmas.List.{take_at, length_push}
use Rattle.es_lexer.specs.declared.state.Open.{Open}
use Rattle.es_lexer.specs.Open.{top_of}

pub last_is_top : (xs : List Open) → slice_get xs (length xs - 1) ≡ top_of xs
last_is_top [] = refl
last_is_top (x ∷ []) = refl
last_is_top (x ∷ y ∷ xs) =
    let e : length (x ∷ y ∷ xs) - 1 ≡ suc (length (y ∷ xs) - 1) = omega arith in
    ap (λ n. slice_get (x ∷ y ∷ xs) n) e ∙ last_is_top (y ∷ xs)

pub top_of_more : (front : List Open) (x : Open) → top_of (front ++ x ∷ []) ≡ Some x
top_of_more [] x = refl
top_of_more (y ∷ []) x = refl
top_of_more (y ∷ z ∷ front) x = top_of_more (z ∷ front) x

pub front_of : (front : List Open) (x : Open) → take (length (front ++ x ∷ []) - 1) (front ++ x ∷ []) ≡ front
front_of front x = let e : length front ≡ length (front ++ x ∷ []) - 1 = omega (arith, length_push front x) in take_at front (x ∷ []) _ e
