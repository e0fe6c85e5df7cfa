use Rattle.std.proofs.Common.{◌≡◌, flat_map, map}
use Rattle.web_url.proofs.PathLemmas.{read_name}
use Rattle.web_url.proofs.paths.spelled_path.Given as goal

abbrev pub invariant-loop-name : goal.invariant-loop-name
invariant-loop-name l = l.bytes.items ≡ flat_map read_name (map (λ x. x.now) l.yielded)
