-- The config of a measure can be one.
use Rattle.std.proofs.Common.{◌≡◌, ℕ, List, [], ◌∷◌, Some, None, codes, refl, sym, subst, ◌∙◌}
use Rattle.std.specs.List.{IsDistinct}
use Rattle.std.specs.Prelude.{bytes_eq}
use Rattle.tree_spec.proofs.FootprintSets.{distinct_one}
use Rattle.url.proofs.OnLiterals.{url_on_literals}
use Rattle.url_spec.specs.Bases.{base_of}
use Rattle.url_spec.specs.Parsing.{text_of, parse_alone}

measure_base_is : base_of (codes "https://app.test/") ≡ Some (codes "https://app.test/")
unfolding base_of parse_alone text_of url_on_literals
measure_base_is = refl

pub is_measure_base : (base : List ℕ) → base_of (codes "https://app.test/") ≡ Some base → base ≡ codes "https://app.test/"
is_measure_base base is = let same : Some base ≡ Some (codes "https://app.test/") = sym is ∙ measure_base_is in cc

pub some_measure_base : base_of (codes "https://app.test/") ≡ None → ⊥
some_measure_base none = let same : None ≡ Some (codes "https://app.test/") = sym none ∙ measure_base_is in absurd (cc)

pub one_entry_is_distinct : (entries : List (List ℕ)) → entries ≡ codes "./app.mjs" ∷ [] → IsDistinct bytes_eq entries
one_entry_is_distinct entries is = subst (IsDistinct bytes_eq) (sym is) (distinct_one (codes "./app.mjs"))
