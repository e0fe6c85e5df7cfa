-- A specifier that isn't relative and has an answer is bare.
use Rattle.std.proofs.Common.{◌≡◌, ◌≢◌, ℕ, List, [], ◌∷◌, Bool, true, false, Option, Some, None, refl, sym, ◌∙◌, subst}
use Rattle.std.specs.Prelude.{◌||◌, Ok, codes, bytes_eq, option_map, if◌then◌else◌}
use Rattle.std.proofs.lemmas.Bool.{cond-false, true≢false}
use Rattle.std.proofs.lemmas.Slice.Eq.{bytes_eq-Decides}
use Rattle.asking_spec.specs.Askings.{outcome, and_ok}
use Rattle.tree_spec.specs.LookAskings.{Sights}
use Rattle.tree_spec.specs.FoldersAbove.{folder_of}
use Rattle.url_spec.specs.Parsing.{parse_alone}
use Rattle.url_spec.specs.Schemes.{scheme_of, url_scheme}
use Rattle.url_spec.specs.Specifiers.{begins, is_relative, ends_in_slash}
use Rattle.node_spec.specs.BuiltinNames.{is_builtin}
use Rattle.node_spec.specs.EsmResolve.{judged, by_scheme}
use Rattle.node_spec.specs.NodeAnswers.{Url, Module, Resolving, refuses}
use Rattle.node_spec.specs.Laws.{IsBare, AnsweredIsBare}
use Rattle.node_spec.specs.PackageImportsResolve.{imports_resolve}
use Rattle.node_spec.specs.PackageResolve.{package_resolve}
use Rattle.node_spec.specs.declared.Cause.{Cause}
use Rattle.node_spec.specs.declared.Cause.TheVariants.{Builtin, ExternalUrl, InvalidSpecifier}

-- the asking for a URL leads to this module
abbrev LeadsTo : Sights → Resolving Url → Module → Type 0
LeadsTo sights asking found = outcome sights (and_ok asking judged) ≡ Ok found

none_parsed : (url : Option (List ℕ)) → option_map url_scheme url ≡ None → url ≡ None
none_parsed None e = refl
none_parsed (Some url) e = absurd (cc)

no_scheme_no_url : (specifier : List ℕ) → scheme_of specifier ≡ None → parse_alone specifier ≡ None
unfolding scheme_of
no_scheme_no_url specifier e = none_parsed (parse_alone specifier) e

module _ (sights : Sights) (found : Module) where
  refused : (cause : Cause) → LeadsTo sights (refuses cause) found → ⊥
  refused cause e = cc

  two_refused : (test : Bool) → LeadsTo sights (if test then refuses Builtin else refuses ExternalUrl) found → ⊥
  two_refused true e = refused Builtin e
  two_refused false e = refused ExternalUrl e

  -- what a package's name is judged by, before it is looked for
  package_tests : (empty builtin folder : Bool) (rest : Resolving Url)
      → LeadsTo sights (if empty then refuses InvalidSpecifier
      else if builtin then refuses Builtin
      else if folder then refuses InvalidSpecifier
      else rest) found
      → (empty ≡ false) × (folder ≡ false)
  package_tests true builtin folder rest e = absurd (refused InvalidSpecifier e)
  package_tests false true folder rest e = absurd (refused Builtin e)
  package_tests false false true rest e = absurd (refused InvalidSpecifier e)
  package_tests false false false rest e = (refl, refl)

  import_tests : (alone root folder : Bool) (rest : Resolving Url)
      → LeadsTo sights (if alone || (root || folder) then refuses InvalidSpecifier else rest) found → folder ≡ false
  import_tests true root folder rest e = absurd (refused InvalidSpecifier e)
  import_tests false true folder rest e = absurd (refused InvalidSpecifier e)
  import_tests false false true rest e = absurd (refused InvalidSpecifier e)
  import_tests false false false rest e = refl

  nonempty_start : (specifier : List ℕ) → begins specifier (codes "#") ≡ true → specifier ≢ []
  nonempty_start [] e same = true≢false (sym e)
  nonempty_start (b ∷ rest) e same = cc

  module _ (conditions : List (List ℕ)) (parent specifier : List ℕ) (no_url_is : parse_alone specifier ≡ None) where
    by_start : (start : Bool) → begins specifier (codes "#") ≡ start
        → LeadsTo sights (if start
        then imports_resolve conditions (folder_of parent) specifier
        else package_resolve conditions (folder_of parent) specifier) found
        → IsBare specifier
    by_start true is e = record {
      no_url = no_url_is;
      nonempty = nonempty_start specifier is;
      no_folder = import_tests (bytes_eq specifier (codes "#")) (begins specifier (codes "#/")) (ends_in_slash specifier) _ e;
    }
    by_start false is e =
        let tests =
        package_tests (bytes_eq specifier []) (is_builtin specifier) (ends_in_slash specifier) _ e in
        record {
          no_url = no_url_is;
          nonempty = λ same. true≢false (sym ((bytes_eq-Decides specifier []).1 same) ∙ tests.0);
          no_folder = tests.1;
        }

  bare_by_scheme : (conditions : List (List ℕ)) (parent specifier : List ℕ) (scheme : Option (List ℕ))
      → scheme_of specifier ≡ scheme → is_relative specifier ≡ false
      → LeadsTo sights (by_scheme conditions parent specifier scheme) found → IsBare specifier
  bare_by_scheme conditions parent specifier (Some scheme) is other e =
      absurd (two_refused (bytes_eq scheme (codes "node")) e)
  bare_by_scheme conditions parent specifier None is other e =
      by_start conditions parent specifier (no_scheme_no_url specifier is) (begins specifier (codes "#")) refl
      (subst (λ asking. LeadsTo sights asking found) (cond-false _ _ _ other) e)

pub answered_is_bare : AnsweredIsBare
answered_is_bare sights conditions parent specifier found other e =
    bare_by_scheme sights found conditions parent specifier (scheme_of specifier) refl other e
