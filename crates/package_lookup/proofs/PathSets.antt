-- Lists of distinct paths.
use Rattle.std.proofs.Common.{◌≡◌, ℕ, false, List, [], ◌∷◌, ◌++◌, ap, ◌∙◌}
use Rattle.std.specs.Prelude.{bytes_eq, All, if◌then◌else◌}
use Rattle.std.specs.List.{IsDistinct, AllByRecursion}
use Rattle.std.proofs.lemmas.Bool.{cond-false}
use Rattle.std.proofs.lemmas.List.Elements.{All-head, All-tail, recursion_from_All}
use Rattle.tree_spec.specs.LookAskings.{is_seen, with_seen}
use Rattle.tree_spec.specs.LookLimits.{Trail}
use Rattle.tree_spec.proofs.FootprintSets.{seen_by, trail_of}
use Rattle.indexmap.specs.IndexSet.{insert_key}

-- a set keeps the order of first insertions
pub inserted : (path : List ℕ) (paths : List (List ℕ)) → insert_key bytes_eq paths path ≡ with_seen paths path
inserted path paths = ap (λ seen. if seen then paths else paths ++ path ∷ []) (seen_by path paths)

pub inserted_new : (path : List ℕ) (paths : List (List ℕ)) → is_seen path paths ≡ false
    → insert_key bytes_eq paths path ≡ paths ++ path ∷ []
inserted_new path paths new = inserted path paths ∙ cond-false _ _ _ new

-- ---- lists that have no path in common

abbrev pub Apart : List (List ℕ) → List ℕ → Type 0
Apart paths path = All (λ other. bytes_eq path other ≡ false) paths

apart_append : (P : List ℕ → Type 0) (xs ys : List (List ℕ)) → AllByRecursion P xs → AllByRecursion P ys
    → AllByRecursion P (xs ++ ys)
apart_append P [] ys a b = b
apart_append P (x ∷ xs) ys a b = (a.0, apart_append P xs ys a.1 b)

pub distinct_append : (xs ys : List (List ℕ)) → IsDistinct bytes_eq xs → IsDistinct bytes_eq ys → All (Apart ys) xs
    → IsDistinct bytes_eq (xs ++ ys)
unfolding IsDistinct
distinct_append [] ys some more apart = more
distinct_append (x ∷ xs) ys some more apart = (
  apart_append (λ y. bytes_eq x y ≡ false) xs ys some.0
      (recursion_from_All (λ y. bytes_eq x y ≡ false) ys (All-head (Apart ys) x xs apart)),
  distinct_append xs ys some.1 more (All-tail (Apart ys) x xs apart),
)

-- a path that is new behind the paths of a trail
pub appended : (paths : List (List ℕ)) (size : ℕ) (question after : List (List ℕ)) (path : List ℕ) (old : Trail)
    → trail_of paths size question ≡ old → is_seen path old.paths ≡ false
    → after ≡ insert_key bytes_eq paths path
    → trail_of after size question ≡ trail_of (old.paths ++ path ∷ []) old.size old.question
appended paths size question after path old same new inserts =
    let unseen : is_seen path paths ≡ false = ap (λ (t : Trail). is_seen path t.paths) same ∙ new in
    let keys : after ≡ paths ++ path ∷ [] = inserts ∙ inserted_new path paths unseen in
    (λ i. record {
      paths = (keys ∙ ap (λ (t : Trail). t.paths ++ path ∷ []) same) i;
      size = (same i).size;
      question = (same i).question;
    })
