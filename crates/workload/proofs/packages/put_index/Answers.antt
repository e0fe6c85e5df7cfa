use Rattle.std.proofs.Common.{rules, ◌≡◌, codes, sym, subst, arith}
use Rattle.tree_spec.specs.Paths.{IsPath}
use Rattle.workload_spec.specs.Packages.{package_path, index_text}
use Rattle.workload_spec.proofs.PackagePaths.{index_is_path}
use Rattle.workload.proofs.Puttings.{put_as}
use Rattle.workload.proofs.packages.put_index.Goals as goal

pub put-requires : goal.put-requires
put-requires c =
    let small = c.requires in
    let e : c.as_str.result.now ≡ package_path c.args.number (codes "/index.js") = search rules in
    subst IsPath (sym e) (index_is_path c.args.number (omega (arith, small)))

pub returns : goal.returns
returns c =
    let e : c.as_str.result.now ≡ package_path c.args.number (codes "/index.js") = search rules in
    let f : c.as_str-2.result.now ≡ index_text c.args.number c.args.is_last = search rules in
    put_as c.put.result _ _ _ _ _ _ e f c.put.ensures
