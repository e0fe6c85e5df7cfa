-- Which rule is followed.
--     empty_is, builtin_is, slash_is, nameless_is, named_is      a bare specifier
--     name_refused, name_is        a package's name with a subpath
--     record_is, null_is           a subpath by a record
--     main_of, inside_of           a subpath in a package without exports
--     relative_is, import_is, bare_is      a specifier that is no URL
--     node_scheme, other_scheme, no_scheme      a specifier by its scheme
use Rattle.std.proofs.Common.{◌≡◌, ℕ, List, [], Bool, true, false, Option, Some, None, refl, sym, ap, ◌∙◌}
use Rattle.std.specs.Prelude.{bytes_eq, codes, if◌then◌else◌}
use Rattle.std.proofs.lemmas.Bool.{cond-true, cond-false}
use Rattle.asking_spec.specs.Askings.{and_ok}
use Rattle.tree_spec.specs.FoldersAbove.{folder_of}
use Rattle.url_spec.specs.Specifiers.{begins, ends_in_slash, is_relative}
use Rattle.node_spec.specs.BuiltinNames.{is_builtin}
use Rattle.node_spec.specs.EsmResolve.{no_url, by_scheme}
use Rattle.node_spec.specs.FileLooks.{url_in, check_url, without_host}
use Rattle.node_spec.specs.LegacyMainResolve.{main_file}
use Rattle.node_spec.specs.NodeAnswers.{Url, refuses}
use Rattle.node_spec.specs.PackageExportsResolve.{exported}
use Rattle.node_spec.specs.PackageImportsResolve.{imports_resolve}
use Rattle.node_spec.specs.PackageResolve.{lacks_name, name_length, is_package_name, split_at, inside, by_files, by_record, in_modules, by_name, package_resolve}
use Rattle.node_spec.specs.PackageSelfResolve.{Subpath, is_null}
use Rattle.node_spec.specs.Records.{Record}
use Rattle.node_spec.specs.Resolution.{joined_url}
use Rattle.node_spec.specs.declared.Cause.TheVariants.{Builtin, ExternalUrl, InvalidSpecifier}
use Rattle.web_url.specs.Asking.{scheme_named}
use Rattle.web_url.specs.declared.specifier.Scheme.TheVariants.{NotUrl, Node, Other}
use Rattle.node_resolve.specs.SelfNamed.{named_itself, found_or}
use Rattle.node_resolve.proofs.Forms.{self_is}

module _ (conditions : List (List ℕ)) (from text : List ℕ) where
  pub empty_is : bytes_eq text [] ≡ true → package_resolve conditions from text ≡ refuses InvalidSpecifier
  empty_is a = cond-true _ _ _ a

  pub builtin_is : bytes_eq text [] ≡ false → is_builtin text ≡ true
      → package_resolve conditions from text ≡ refuses Builtin
  builtin_is a b = cond-false _ _ _ a ∙ cond-true _ _ _ b

  pub slash_is : bytes_eq text [] ≡ false → is_builtin text ≡ false → ends_in_slash text ≡ true
      → package_resolve conditions from text ≡ refuses InvalidSpecifier
  slash_is a b s = cond-false _ _ _ a ∙ (cond-false _ _ _ b ∙ cond-true _ _ _ s)

  pub nameless_is : bytes_eq text [] ≡ false → is_builtin text ≡ false → ends_in_slash text ≡ false
      → lacks_name text ≡ true → package_resolve conditions from text ≡ refuses InvalidSpecifier
  nameless_is a b s l = cond-false _ _ _ a ∙ (cond-false _ _ _ b ∙ (cond-false _ _ _ s ∙ cond-true _ _ _ l))

  pub named_is : (asked : Subpath) → bytes_eq text [] ≡ false → is_builtin text ≡ false → ends_in_slash text ≡ false
      → lacks_name text ≡ false → asked ≡ split_at (name_length text) text
      → package_resolve conditions from text ≡ by_name conditions from asked
  named_is asked a b s l e =
      cond-false _ _ _ a ∙ (cond-false _ _ _ b ∙ (cond-false _ _ _ s ∙ (cond-false _ _ _ l
      ∙ ap (by_name conditions from) (sym e))))

module _ (conditions : List (List ℕ)) (from : List ℕ) (asked : Subpath) where
  pub name_refused : is_package_name asked.name ≡ false → by_name conditions from asked ≡ refuses InvalidSpecifier
  name_refused e = cond-false _ _ _ e

  pub name_is : is_package_name asked.name ≡ true
      → by_name conditions from asked
      ≡ and_ok (named_itself conditions from asked) (found_or (in_modules conditions from asked))
  name_is e = cond-true _ _ _ e ∙ self_is (in_modules conditions from asked) conditions asked from

module _ (conditions : List (List ℕ)) (folder subpath : List ℕ) (of_package : Record) where
  pub record_is : is_null of_package.exports ≡ false
      → by_record conditions folder subpath (Some of_package) ≡ exported conditions folder subpath of_package.exports
  record_is e = cond-false _ _ _ e

  pub null_is : (main : Option (List ℕ)) → is_null of_package.exports ≡ true → of_package.main ≡ main
      → by_record conditions folder subpath (Some of_package) ≡ by_files folder subpath main
  null_is main e m = cond-true _ _ _ e ∙ ap (by_files folder subpath) m

module _ (folder subpath : List ℕ) (main : Option (List ℕ)) where
  pub main_of : bytes_eq subpath (codes ".") ≡ true → by_files folder subpath main ≡ main_file folder main
  main_of e = cond-true _ _ _ e

  pub inside_of : (found : Option Url) → bytes_eq subpath (codes ".") ≡ false → url_in folder subpath ≡ found
      → by_files folder subpath main ≡ inside folder found
  inside_of found e f = cond-false _ _ _ e ∙ ap (inside folder) f

module _ (conditions : List (List ℕ)) (parent specifier : List ℕ) where
  pub relative_is : is_relative specifier ≡ true
      → no_url conditions parent specifier ≡ check_url (without_host (joined_url parent specifier))
  relative_is e = cond-true _ _ _ e

  pub import_is : (from : List ℕ) → from ≡ folder_of parent → is_relative specifier ≡ false
      → begins specifier (codes "#") ≡ true → no_url conditions parent specifier ≡ imports_resolve conditions from specifier
  import_is from f e b =
      cond-false _ _ _ e ∙ (cond-true _ _ _ b ∙ ap (λ folder. imports_resolve conditions folder specifier) (sym f))

  pub bare_is : (from : List ℕ) → from ≡ folder_of parent → is_relative specifier ≡ false
      → begins specifier (codes "#") ≡ false → no_url conditions parent specifier ≡ package_resolve conditions from specifier
  bare_is from f e b =
      cond-false _ _ _ e ∙ (cond-false _ _ _ b ∙ ap (λ folder. package_resolve conditions folder specifier) (sym f))

  by_node : (b : Bool) → Node ≡ (if b then Node else Other)
      → (if b then refuses {X = Url} Builtin else refuses ExternalUrl) ≡ refuses Builtin
  by_node true e = refl
  by_node false e = absurd (cc)

  by_other : (b : Bool) → Other ≡ (if b then Node else Other)
      → (if b then refuses {X = Url} Builtin else refuses ExternalUrl) ≡ refuses ExternalUrl
  by_other true e = absurd (cc)
  by_other false e = refl

  never : (b : Bool) → NotUrl ≡ (if b then Node else Other) → ⊥
  never true e = cc
  never false e = cc

  pub node_scheme : (scheme : Option (List ℕ)) → Node ≡ scheme_named scheme
      → by_scheme conditions parent specifier scheme ≡ refuses Builtin
  node_scheme None e = absurd (cc)
  node_scheme (Some scheme) e = by_node (bytes_eq scheme (codes "node")) e

  pub other_scheme : (scheme : Option (List ℕ)) → Other ≡ scheme_named scheme
      → by_scheme conditions parent specifier scheme ≡ refuses ExternalUrl
  other_scheme None e = absurd (cc)
  other_scheme (Some scheme) e = by_other (bytes_eq scheme (codes "node")) e

  pub no_scheme : (scheme : Option (List ℕ)) → NotUrl ≡ scheme_named scheme
      → by_scheme conditions parent specifier scheme ≡ no_url conditions parent specifier
  no_scheme None e = refl
  no_scheme (Some scheme) e = absurd (never (bytes_eq scheme (codes "node")) e)
