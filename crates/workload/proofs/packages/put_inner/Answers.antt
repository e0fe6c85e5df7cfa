use Rattle.std.proofs.Common.{rules, ◌≡◌, codes, refl, sym, subst, arith}
use Rattle.tree_spec.specs.Paths.{IsPath}
use Rattle.workload_spec.specs.Packages.{package_path}
use Rattle.workload_spec.proofs.PackagePaths.{inner_is_path}
use Rattle.workload.proofs.Puttings.{put_as}
use Rattle.workload.proofs.packages.put_inner.Goals as goal

pub put-requires : goal.put-requires
put-requires c =
    let small = c.requires in
    let e : c.as_str.result.now ≡ package_path c.args.number (codes "/x/a.js") = search rules in
    subst IsPath (sym e) (inner_is_path c.args.number (omega (arith, small)))

pub returns : goal.returns
returns c =
    let e : c.as_str.result.now ≡ package_path c.args.number (codes "/x/a.js") = search rules in
    put_as c.put.result _ _ _ _ _ _ e refl c.put.ensures
