-- What a value in a record is.
--     main_text, main_list, main_dotted, main_plain      the subpath `.` by what is exported
--     subpath_by_key, subpath_none        another subpath
use Rattle.std.proofs.Common.{◌≡◌, ℕ, List, true, false, sym, ap, ◌∙◌}
use Rattle.std.specs.Prelude.{codes}
use Rattle.std.proofs.lemmas.Bool.{cond-true, cond-false}
use Rattle.std.specs.List.{list_all}
use Rattle.json_spec.specs.Value.{Json, a_text, a_list, an_object, Items, Members, names_of}
use Rattle.node_spec.specs.NodeAnswers.{refuses}
use Rattle.node_spec.specs.PackageExportsResolve.{is_dotted, has_dotted, main_target, main_export, export_paths, subpath_export}
use Rattle.node_spec.specs.PackageImportsExportsResolve.{by_key}
use Rattle.node_spec.specs.Records.{field}
use Rattle.node_spec.specs.declared.Cause.TheVariants.{NotExported}

module _ (conditions : List (List ℕ)) (folder : List ℕ) (json : Json) where
  pub main_text : (text : List ℕ) → json ≡ a_text text → main_export conditions folder json ≡ main_target conditions folder json
  main_text text e = ap (main_export conditions folder) e ∙ ap (main_target conditions folder) (sym e)

  pub main_list : (items : Items) → json ≡ a_list items → main_export conditions folder json ≡ main_target conditions folder json
  main_list items e = ap (main_export conditions folder) e ∙ ap (main_target conditions folder) (sym e)

  pub main_dotted : (members : Members) → json ≡ an_object members → has_dotted members ≡ true
      → main_export conditions folder json ≡ main_target conditions folder (field (codes ".") members)
  main_dotted members e d =
      ap (main_export conditions folder) e ∙ ap (main_target conditions folder) (cond-true _ (field (codes ".") members) (an_object members) d)

  pub main_plain : (members : Members) → json ≡ an_object members → has_dotted members ≡ false
      → main_export conditions folder json ≡ main_target conditions folder json
  main_plain members e d =
      ap (main_export conditions folder) e
      ∙ (ap (main_target conditions folder) (cond-false _ (field (codes ".") members) (an_object members) d)
      ∙ ap (main_target conditions folder) (sym e))

  pub subpath_by_key : (subpath : List ℕ) (members : Members) → json ≡ an_object members
      → list_all is_dotted (names_of members) ≡ true
      → subpath_export conditions folder subpath json ≡ by_key (export_paths conditions folder members) subpath
  subpath_by_key subpath members e d =
      ap (subpath_export conditions folder subpath) e
      ∙ cond-true _ (by_key (export_paths conditions folder members) subpath) (refuses NotExported) d

  pub subpath_none : (subpath : List ℕ) (members : Members) → json ≡ an_object members
      → list_all is_dotted (names_of members) ≡ false
      → subpath_export conditions folder subpath json ≡ refuses NotExported
  subpath_none subpath members e d =
      ap (subpath_export conditions folder subpath) e
      ∙ cond-false _ (by_key (export_paths conditions folder members) subpath) (refuses NotExported) d
