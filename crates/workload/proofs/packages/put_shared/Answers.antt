use Rattle.std.proofs.Common.{◌≡◌, ◌%◌, ◌∙◌, codes, refl, sym, subst, arith}
use Rattle.tree_spec.specs.Paths.{IsPath}
use Rattle.workload_spec.specs.Packages.{package_path, shared_manifest, shared_text}
use Rattle.workload_spec.proofs.PackagePaths.{own_manifest_is_path, own_module_is_path}
use Rattle.workload.specs.Putting.{IsPut}
use Rattle.workload.proofs.Puttings.{on_ok, put_as, shared_put}
use Rattle.workload.proofs.packages.put_shared.Goals as goal

pub put-requires : goal.put-requires
put-requires c =
    let small = c.requires in
    let e : c.as_str.result.now ≡ package_path c.args.number (codes "/node_modules/c/package.json") = c.as_str.ensures.value ∙ c.in_ok-manifest.ensures.ok in
    subst IsPath (sym e) (own_manifest_is_path c.args.number (omega (arith, small)))

pub put-requires-2 : goal.put-requires-2
put-requires-2 c =
    let small = c.requires in
    let e : c.as_str-2.result.now ≡ package_path c.args.number (codes "/node_modules/c/index.mjs") = c.as_str-2.ensures.value ∙ c.in_ok-module.ensures.ok in
    subst IsPath (sym e) (own_module_is_path c.args.number (omega (arith, small)))

pub returns : goal.returns
returns c =
    let test = c.if-number-ne3.false in
    let is : c.args.number % 10 ≡ 3 = omega (arith, test) in
    let e : c.as_str.result.now ≡ package_path c.args.number (codes "/node_modules/c/package.json") = c.as_str.ensures.value ∙ c.in_ok-manifest.ensures.ok in
    let f : c.as_str-2.result.now ≡ package_path c.args.number (codes "/node_modules/c/index.mjs") = c.as_str-2.ensures.value ∙ c.in_ok-module.ensures.ok in
    let first : IsPut c.args.folder.now (package_path c.args.number (codes "/node_modules/c/package.json")) shared_manifest c.put.new.folder =
    subst (λ path. IsPut c.args.folder.now path shared_manifest c.put.new.folder) e c.in_ok-put.ensures in
    on_ok c.put-2.result (λ last. shared_put c.args.number _ _ _ _ _ _ _ is refl first last)
    (put_as c.put-2.result _ _ _ _ _ (shared_text (codes "1")) f refl c.put-2.ensures)
