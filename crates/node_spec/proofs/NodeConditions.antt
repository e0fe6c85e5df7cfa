-- Conditions are a set in the whole of Node's resolution.
use Rattle.std.proofs.Common.{◌≡◌, ℕ, Bool, true, false, List, [], Option, Some, None, Result, Ok, Err, refl, ap, ◌∙◌}
use Rattle.std.specs.Prelude.{◌&&◌, ◌||◌, not, bytes_eq, codes, cond}
use Rattle.std.specs.List.{list_all}
use Rattle.std.proofs.Math.Path.{fun_ext}
use Rattle.asking_spec.specs.Askings.{and_then, on_ok, and_ok}
use Rattle.json_spec.specs.Value.{Json, a_null, a_bool, a_number, a_text, a_list, an_object, Items, no_items, an_item, Members, no_members, a_member, names_of}
use Rattle.tree_spec.specs.FoldersAbove.{folder_of}
use Rattle.tree_spec.specs.LookAskings.{LookAsking}
use Rattle.url_spec.specs.Schemes.{scheme_of}
use Rattle.url_spec.specs.Specifiers.{begins, is_relative, ends_in_slash}
use Rattle.node_spec.specs.BuiltinNames.{is_builtin}
use Rattle.node_spec.proofs.ConditionSets.{tried_alike}
use Rattle.node_spec.specs.EsmResolve.{judged, no_url, by_scheme}
use Rattle.node_spec.specs.Laws.{IsSameSet}
use Rattle.node_spec.specs.LookupPackageScope.{package_scope}
use Rattle.node_spec.specs.NodeAnswers.{Url, Refusal, Resolving}
use Rattle.node_spec.specs.Laws.{NodeConditionsAreASet}
use Rattle.node_spec.specs.PackageExportsResolve.{is_dotted, is_mixed_object, has_dotted, main_export, subpath_export, exported}
use Rattle.node_spec.specs.PackageImportsExportsResolve.{Subpaths, at_key, by_key}
use Rattle.node_spec.specs.PackageImportsResolve.{bares_from, imported, imported_in, imported_at, imports_resolve}
use Rattle.node_spec.specs.PackageResolve.{package_folder, by_record, in_folder, in_modules, by_name, split_at, name_length, lacks_name, is_package_name, package_resolve}
use Rattle.node_spec.specs.PackageSelfResolve.{Subpath, is_null, has_name, self_in, self_at, self_or}
use Rattle.node_spec.specs.PackageTargetResolve.{Bares, Found, after_item, after_member, target_comes, items_come, members_come, no_bares, target_url, package_target, judge_bare}
use Rattle.node_spec.specs.PackageTargets.{Rules, has_index_key, is_tried}
use Rattle.node_spec.specs.PatternKeyCompare.{KeyFound, first_key, pattern_match}
use Rattle.node_spec.specs.ReadPackageJson.{record_at}
use Rattle.node_spec.specs.Records.{Record, field}
use Rattle.node_spec.specs.declared.Cause.{Cause}
use Rattle.node_spec.specs.declared.Cause.TheVariants as cause

-- ---- parts

same_both : {A : Type 0} (b : Bool) (x y x' y' : A) → x ≡ x' → y ≡ y' → cond b x y ≡ cond b x' y'
same_both true x y x' y' e f = e
same_both false x y x' y' e f = f

then_same : {X Y : Type 0} (asking other : LookAsking X) (next after : X → LookAsking Y) → asking ≡ other
    → ((value : X) → next value ≡ after value) → and_then asking next ≡ and_then other after
then_same asking other next after e f =
    ap (λ a. and_then a next) e ∙ ap (and_then other) (fun_ext f)

on_ok_same : {X Y : Type 0} (next after : X → Resolving Y) → ((value : X) → next value ≡ after value)
    → (first : Result X Refusal) → on_ok next first ≡ on_ok after first
on_ok_same next after e (Ok value) = e value
on_ok_same next after e (Err refusal) = refl

ok_same : {X Y : Type 0} (asking : Resolving X) (next after : X → Resolving Y)
    → ((value : X) → next value ≡ after value) → and_ok asking next ≡ and_ok asking after
ok_same asking next after e = then_same asking asking (on_ok next) (on_ok after) refl (on_ok_same next after e)

module _ (some other : List (List ℕ)) (same : IsSameSet some other) where
  abbrev rules : List (List ℕ) → Option (List ℕ) → Bool → Rules
  rules conditions star imports = record { conditions = conditions; pattern_match = star; is_imports = imports }

  -- ---- targets

  module _ {X : Type 0} (bares : Bares X) (star : Option (List ℕ)) (imports : Bool) where
    items_step : (item : Json) (more : Items) (last : Option X)
        → target_comes bares (rules some star imports) item last ≡ target_comes bares (rules other star imports) item last
        → ((l : Option X) → items_come bares (rules some star imports) more l
        ≡ items_come bares (rules other star imports) more l)
        → and_then (target_comes bares (rules some star imports) item last)
        (after_item (λ l. items_come bares (rules some star imports) more l))
        ≡ and_then (target_comes bares (rules other star imports) item last)
        (after_item (λ l. items_come bares (rules other star imports) more l))
    items_step item more last e f =
        then_same (target_comes bares (rules some star imports) item last)
        (target_comes bares (rules other star imports) item last)
        (after_item (λ l. items_come bares (rules some star imports) more l))
        (after_item (λ l. items_come bares (rules other star imports) more l)) e
        (λ first. ap (λ rest. after_item rest first) (fun_ext f))

    member_step : (key : List ℕ) (value : Json) (more : Members) (last : Option X)
        → target_comes bares (rules some star imports) value last
        ≡ target_comes bares (rules other star imports) value last
        → ((l : Option X) → members_come bares (rules some star imports) more l
        ≡ members_come bares (rules other star imports) more l)
        → members_come bares (rules some star imports) (a_member key value more) last
        ≡ members_come bares (rules other star imports) (a_member key value more) last
    member_step key value more last e f =
        ap (λ b. cond b (and_then (target_comes bares (rules some star imports) value last)
        (after_member (λ l. members_come bares (rules some star imports) more l)))
        (members_come bares (rules some star imports) more last)) (tried_alike some other key same)
        ∙ same_both (is_tried other key) _ _ _ _
        (then_same (target_comes bares (rules some star imports) value last)
        (target_comes bares (rules other star imports) value last)
        (after_member (λ l. members_come bares (rules some star imports) more l))
        (after_member (λ l. members_come bares (rules other star imports) more l)) e
        (λ first. ap (λ rest. after_member rest first) (fun_ext f))) (f last)

    mutual
      target_same : (target : Json) (last : Option X)
          → target_comes bares (rules some star imports) target last
          ≡ target_comes bares (rules other star imports) target last
      target_same a_null last = refl
      target_same (a_bool b) last = refl
      target_same (a_number number) last = refl
      target_same (a_text text) last = refl
      target_same (a_list no_items) last = refl
      target_same (a_list (an_item item more)) last = items_step item more last (target_same item last) (items_same more)
      target_same (an_object fields) last = same_both (has_index_key fields) _ _ _ _ refl (members_same fields last)

      items_same : (items : Items) (last : Option X)
          → items_come bares (rules some star imports) items last
          ≡ items_come bares (rules other star imports) items last
      items_same no_items last = refl
      items_same (an_item item more) last = items_step item more last (target_same item last) (items_same more)

      members_same : (fields : Members) (last : Option X)
          → members_come bares (rules some star imports) fields last
          ≡ members_come bares (rules other star imports) fields last
      members_same no_members last = refl
      members_same (a_member key value more) last =
          member_step key value more last (target_same value last) (members_same more)

  package_same : (bares : Bares Found) (star : Option (List ℕ)) (imports : Bool) (folder : List ℕ) (nothing : Cause)
      (target : Json) → package_target bares (rules some star imports) folder nothing target
      ≡ package_target bares (rules other star imports) folder nothing target
  package_same bares star imports folder nothing target =
      ap (λ asking. and_then asking (target_url folder nothing)) (target_same bares star imports target None)

  -- ---- keys

  abbrev paths : Bares Found → List (List ℕ) → Bool → List ℕ → Cause → Members → Subpaths
  paths bares conditions imports folder nothing fields = record {
    bares = bares;
    conditions = conditions;
    is_imports = imports;
    folder = folder;
    nothing = nothing;
    members = fields;
  }

  at_same : (bares : Bares Found) (imports : Bool) (folder : List ℕ) (nothing : Cause) (fields : Members)
      (asked : List ℕ) (chosen : Option KeyFound)
      → at_key (paths bares some imports folder nothing fields) asked chosen
      ≡ at_key (paths bares other imports folder nothing fields) asked chosen
  at_same bares imports folder nothing fields asked None = refl
  at_same bares imports folder nothing fields asked (Some chosen) =
      package_same bares (pattern_match asked chosen.found) imports folder nothing (field chosen.key fields)

  key_same : (bares : Bares Found) (imports : Bool) (folder : List ℕ) (nothing : Cause) (fields : Members)
      (asked : List ℕ)
      → by_key (paths bares some imports folder nothing fields) asked
      ≡ by_key (paths bares other imports folder nothing fields) asked
  key_same bares imports folder nothing fields asked =
      at_same bares imports folder nothing fields asked (first_key asked (names_of fields))

  -- ---- exports

  main_same : (folder : List ℕ) (exports : Json) → main_export some folder exports ≡ main_export other folder exports
  main_same folder a_null = refl
  main_same folder (a_bool b) = refl
  main_same folder (a_number number) = refl
  main_same folder (a_text text) = package_same no_bares None false folder cause.NotExported (a_text text)
  main_same folder (a_list items) = package_same no_bares None false folder cause.NotExported (a_list items)
  main_same folder (an_object fields) =
      package_same no_bares None false folder cause.NotExported
      (cond (has_dotted fields) (field (codes ".") fields) (an_object fields))

  subpath_same : (folder subpath : List ℕ) (exports : Json)
      → subpath_export some folder subpath exports ≡ subpath_export other folder subpath exports
  subpath_same folder subpath a_null = refl
  subpath_same folder subpath (a_bool b) = refl
  subpath_same folder subpath (a_number number) = refl
  subpath_same folder subpath (a_text text) = refl
  subpath_same folder subpath (a_list items) = refl
  subpath_same folder subpath (an_object fields) =
      same_both (list_all is_dotted (names_of fields)) _ _ _ _
      (key_same no_bares false folder cause.NotExported fields subpath)
      refl

  exported_same : (folder subpath : List ℕ) (exports : Json)
      → exported some folder subpath exports ≡ exported other folder subpath exports
  exported_same folder subpath exports =
      same_both (is_mixed_object exports) _ _ _ _ refl
      (same_both (bytes_eq subpath (codes ".")) _ _ _ _ (main_same folder exports) (subpath_same folder subpath exports))

  -- ---- the package itself

  self_in_same : (rest more : Resolving Url) → rest ≡ more → (scope : List ℕ) (asked : Subpath)
      (held : Option Record) → self_in rest some scope asked held ≡ self_in more other scope asked held
  self_in_same rest more e scope asked None = e
  self_in_same rest more e scope asked (Some of_scope) =
      same_both (has_name of_scope.name asked.name && not (is_null of_scope.exports)) _ _ _ _
      (exported_same scope asked.subpath of_scope.exports) e

  self_at_same : (rest more : Resolving Url) → rest ≡ more → (asked : Subpath) (scope : Option (List ℕ))
      → self_at rest some asked scope ≡ self_at more other asked scope
  self_at_same rest more e asked None = e
  self_at_same rest more e asked (Some scope) =
      ok_same (record_at scope) (self_in rest some scope asked) (self_in more other scope asked)
      (self_in_same rest more e scope asked)

  self_same : (rest more : Resolving Url) → rest ≡ more → (from : List ℕ) (asked : Subpath)
      → self_or rest some from asked ≡ self_or more other from asked
  self_same rest more e from asked =
      then_same (package_scope from) (package_scope from) (self_at rest some asked) (self_at more other asked) refl
      (self_at_same rest more e asked)

  -- ---- packages

  record_same : (folder subpath : List ℕ) (held : Option Record)
      → by_record some folder subpath held ≡ by_record other folder subpath held
  record_same folder subpath None = refl
  record_same folder subpath (Some of_package) =
      same_both (is_null of_package.exports) _ _ _ _ refl (exported_same folder subpath of_package.exports)

  folder_same : (subpath : List ℕ) (folder : Option (List ℕ)) → in_folder some subpath folder ≡ in_folder other subpath folder
  folder_same subpath None = refl
  folder_same subpath (Some folder) =
      ok_same (record_at folder) (by_record some folder subpath) (by_record other folder subpath)
      (record_same folder subpath)

  modules_same : (from : List ℕ) (asked : Subpath) → in_modules some from asked ≡ in_modules other from asked
  modules_same from asked =
      then_same (package_folder from asked.name) (package_folder from asked.name) (in_folder some asked.subpath)
      (in_folder other asked.subpath) refl (folder_same asked.subpath)

  name_same : (from : List ℕ) (asked : Subpath) → by_name some from asked ≡ by_name other from asked
  name_same from asked =
      same_both (is_package_name asked.name) _ _ _ _
      (self_same (in_modules some from asked) (in_modules other from asked) (modules_same from asked) from asked) refl

  bare_same : (from text : List ℕ) → package_resolve some from text ≡ package_resolve other from text
  bare_same from text =
      same_both (bytes_eq text []) _ _ _ _ refl (same_both (is_builtin text) _ _ _ _ refl
      (same_both (ends_in_slash text) _ _ _ _ refl (same_both (lacks_name text) _ _ _ _ refl
      (name_same from (split_at (name_length text) text)))))

  -- ---- imports

  bares_same : (folder : List ℕ) → bares_from some folder ≡ bares_from other folder
  bares_same folder =
      ap (λ (asks : List ℕ → Resolving Url). let bares : Bares Found = record { ask = asks; judge = judge_bare } in bares)
      (fun_ext (bare_same folder))

  imported_same : (scope text : List ℕ) (imports : Json) → imported some scope text imports ≡ imported other scope text imports
  imported_same scope text a_null = refl
  imported_same scope text (a_bool b) = refl
  imported_same scope text (a_number number) = refl
  imported_same scope text (a_text target) = refl
  imported_same scope text (a_list items) = refl
  imported_same scope text (an_object fields) =
      ap (λ bares. by_key (paths bares some true scope cause.ImportNotDefined fields) text) (bares_same scope)
      ∙ key_same (bares_from other scope) true scope cause.ImportNotDefined fields text

  imported_in_same : (scope text : List ℕ) (held : Option Record)
      → imported_in some scope text held ≡ imported_in other scope text held
  imported_in_same scope text None = refl
  imported_in_same scope text (Some of_scope) = imported_same scope text of_scope.imports

  imported_at_same : (text : List ℕ) (scope : Option (List ℕ)) → imported_at some text scope ≡ imported_at other text scope
  imported_at_same text None = refl
  imported_at_same text (Some scope) =
      ok_same (record_at scope) (imported_in some scope text) (imported_in other scope text) (imported_in_same scope text)

  imports_same : (from text : List ℕ) → imports_resolve some from text ≡ imports_resolve other from text
  imports_same from text =
      same_both (bytes_eq text (codes "#") || (begins text (codes "#/") || ends_in_slash text)) _ _ _ _ refl
      (then_same (package_scope from) (package_scope from) (imported_at some text) (imported_at other text) refl
      (imported_at_same text))

  -- ---- specifiers

  no_url_same : (parent specifier : List ℕ) → no_url some parent specifier ≡ no_url other parent specifier
  no_url_same parent specifier =
      same_both (is_relative specifier) _ _ _ _ refl
      (same_both (begins specifier (codes "#")) _ _ _ _ (imports_same (folder_of parent) specifier) (bare_same (folder_of parent) specifier))

  scheme_same : (parent specifier : List ℕ) (scheme : Option (List ℕ))
      → by_scheme some parent specifier scheme ≡ by_scheme other parent specifier scheme
  scheme_same parent specifier None = no_url_same parent specifier
  scheme_same parent specifier (Some scheme) = refl

pub node_conditions_are_a_set : NodeConditionsAreASet
node_conditions_are_a_set some other parent specifier same =
    ap (λ asking. and_ok asking judged) (scheme_same some other same parent specifier (scheme_of specifier))
