use Rattle.workload.proofs.Puttings.{on_ok, put_then}
use Rattle.workload.proofs.packages.put_package.Goals as goal

pub returns : goal.returns
returns c =
    on_ok c.put_shared.result
    (λ more. put_then _ _ _ _ _ _ c.in_ok-put_manifest.ensures (put_then _ _ _ _ _ _ c.in_ok-put_inner.ensures (put_then _ _ _ _ _ _ c.in_ok-put_index.ensures more)))
    c.put_shared.ensures
