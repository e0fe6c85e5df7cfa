use Rattle.std.proofs.Common.{rules, ap, ℕ, List, ◌++◌}
use Rattle.std.specs.Prelude.{codes}
use Rattle.std.proofs.lemmas.Result.{on_ok_weaker}
use Rattle.json_spec.specs.Value.{a_text}
use Rattle.map_print.specs.PrintedLists.{value_text}
use Rattle.map_print.specs.declared.print.Values.TheVariants.{Digests}
use Rattle.map_print.proofs.PrintedParts.{part}
use Rattle.map_print.proofs.print.push_integrity_member.Goals as goal

pub returns : goal.returns
returns c = on_ok_weaker c.push_mappings.result (part (λ pair. pair.0) (λ pair. a_text (value_text Digests c.args.folder.now pair.1)) (codes "integrity") c.as_slice.result.now c.args.pairs.now (search rules) (λ rest. ap (λ (xs : List ℕ). xs ++ rest) c.as_slice.ensures) (search rules)) c.push_mappings.ensures
