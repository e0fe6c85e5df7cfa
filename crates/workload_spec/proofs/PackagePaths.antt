-- The paths of packages are paths.
use Rattle.std.proofs.Common.{◌≡◌, ◌≢◌, ◌≤◌, ◌<◌, ◌+◌, ◌^◌, ◌%◌, ◌++◌, ℕ, List, [], ◌∷◌, length, codes, true, refl, sym, ap, arith}
use Rattle.std.specs.Fmt.{decimal}
use Rattle.std.specs.Prelude.{All}
use Rattle.std.proofs.lemmas.Fmt.{decimal_by_steps, length-decimal-le}
use Rattle.std.proofs.lemmas.List.{append-nil, append_assoc, length-append}
use Rattle.std.proofs.lemmas.List.Elements.{All-nil, All-cons, All-append}
use Rattle.tree_spec.specs.Paths.{IsSegment, HasDepth, IsPath, root, child}
use Rattle.url_spec.specs.PathTests.{is_segment}
use Rattle.url_spec.proofs.PathDecisions.{segment_by_test}
use Rattle.workload_spec.specs.Packages.{package_path}

-- ---- the name of a package

apart : (other : ℕ) → other < 48 → (number : ℕ) → number < 2 ^ 64 → All (λ b. b ≢ other) (decimal number)
apart other below number small =
    decimal_by_steps (λ m ds. All (λ b. b ≢ other) ds)
    (λ m l. All-cons (λ b. b ≢ other) (48 + m) [] (λ e. omega (arith, e, below)) (All-nil (λ b. b ≢ other)))
    (λ m ds l all. All-append (λ b. b ≢ other) ds ((48 + m % 10) ∷ []) all (All-cons (λ b. b ≢ other) (48 + m % 10) [] (λ e. omega (arith, e, below)) (All-nil (λ b. b ≢ other))))
    number small

name_is_segment : (number : ℕ) → number < 2 ^ 64 → IsSegment (112 ∷ decimal number)
name_is_segment number small = record {
  nonempty = λ e. absurd (cc);
  no_slash = All-cons (λ b. b ≢ 47) 112 (decimal number) (λ e. omega (arith, e)) (apart 47 (omega arith) number small);
  no_nul = All-cons (λ b. b ≢ 0) 112 (decimal number) (λ e. omega (arith, e)) (apart 0 (omega arith) number small);
  not_here = λ e. absurd (cc);
  not_up = λ e. absurd (cc);
}

-- ---- what stands in a package

in_modules : HasDepth 1 (codes "/node_modules")
in_modules = child 0 1 (codes "/") (codes "node_modules") (codes "/node_modules") (root (codes "/") refl) (segment_by_test (codes "node_modules") refl) refl refl

package_has_depth : (number : ℕ) → number < 2 ^ 64 → HasDepth 2 (package_path number [])
package_has_depth number small =
    child 1 2 (codes "/node_modules") (112 ∷ decimal number) (package_path number []) in_modules (name_is_segment number small) refl
    (ap (λ rest. codes "/node_modules/p" ++ rest) (append-nil (decimal number)))

deeper : (depth number : ℕ) (front name : List ℕ) → HasDepth depth (package_path number front) → is_segment name ≡ true → HasDepth (depth + 1) (package_path number (front ++ 47 ∷ name))
deeper depth number front name has is =
    child depth (depth + 1) (package_path number front) name (package_path number (front ++ 47 ∷ name)) has (segment_by_test name is) refl
    (ap (λ rest. codes "/node_modules/p" ++ rest) (sym (append_assoc (decimal number) front (47 ∷ name))))

path_of : (depth number : ℕ) (rest : List ℕ) → number < 2 ^ 64 → depth ≤ 64 → length rest ≤ 900 → HasDepth depth (package_path number rest) → IsPath (package_path number rest)
path_of depth number rest small few short has = record {
  depth = depth;
  segments = has;
  few = few;
  short =
      let digits = length-decimal-le 20 number (omega arith) (omega arith) small in
      let both = length-append (decimal number) rest in
      omega (arith, digits, both, short);
}

one_below : (number : ℕ) (name : List ℕ) → number < 2 ^ 64 → is_segment name ≡ true → HasDepth 3 (package_path number (47 ∷ name))
one_below number name small is = deeper 2 number [] name (package_has_depth number small) is

module _ (number : ℕ) (small : number < 2 ^ 64) where
  pub manifest_is_path : IsPath (package_path number (codes "/package.json"))
  manifest_is_path = path_of 3 number (codes "/package.json") small (omega arith) (omega arith) (one_below number (codes "package.json") small refl)

  pub index_is_path : IsPath (package_path number (codes "/index.js"))
  index_is_path = path_of 3 number (codes "/index.js") small (omega arith) (omega arith) (one_below number (codes "index.js") small refl)

  pub inner_is_path : IsPath (package_path number (codes "/x/a.js"))
  inner_is_path =
      path_of 4 number (codes "/x/a.js") small (omega arith) (omega arith)
      (deeper 3 number (codes "/x") (codes "a.js") (one_below number (codes "x") small refl) refl)

  own_folder : HasDepth 4 (package_path number (codes "/node_modules/c"))
  own_folder = deeper 3 number (codes "/node_modules") (codes "c") (one_below number (codes "node_modules") small refl) refl

  pub own_manifest_is_path : IsPath (package_path number (codes "/node_modules/c/package.json"))
  own_manifest_is_path =
      path_of 5 number (codes "/node_modules/c/package.json") small (omega arith) (omega arith)
      (deeper 4 number (codes "/node_modules/c") (codes "package.json") own_folder refl)

  pub own_module_is_path : IsPath (package_path number (codes "/node_modules/c/index.mjs"))
  own_module_is_path =
      path_of 5 number (codes "/node_modules/c/index.mjs") small (omega arith) (omega arith)
      (deeper 4 number (codes "/node_modules/c") (codes "index.mjs") own_folder refl)
