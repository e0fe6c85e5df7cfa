use Rattle.std.proofs.Common.{codes, refl}
use Rattle.url_spec.proofs.PathDecisions.{path_by_test}
use Rattle.workload.proofs.Puttings.{on_ok, three_put}
use Rattle.workload.proofs.packages.put_first.Goals as goal

pub put-requires : goal.put-requires
put-requires c = path_by_test (codes "/app.mjs") refl

pub put-requires-2 : goal.put-requires-2
put-requires-2 c = path_by_test (codes "/node_modules/c/package.json") refl

pub put-requires-3 : goal.put-requires-3
put-requires-3 c = path_by_test (codes "/node_modules/c/index.mjs") refl

pub returns : goal.returns
returns c = on_ok c.put-3.result (λ last. three_put _ _ _ _ _ _ _ _ _ _ c.in_ok-put.ensures c.in_ok-put-2.ensures last) c.put-3.ensures
