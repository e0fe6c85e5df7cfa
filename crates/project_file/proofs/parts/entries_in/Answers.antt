use Rattle.std.proofs.Common.{rules, true, ◌≡◌}
use Rattle.std.specs.List.{IsDistinct}
use Rattle.std.specs.Prelude.{bytes_eq}
use Rattle.ordered_json.specs.Lists.{values_of}
use Rattle.ordered_json.specs.Shown.{items_of}
use Rattle.project_file.proofs.PartLemmas.{not_so}
use Rattle.project_file.proofs.parts.entries_in.Goals as goal

pub returns-then-not-branch : goal.returns-then-not-branch
returns-then-not-branch c =
    not_so (items_of (values_of c.args.items.now)) (IsDistinct bytes_eq) c.in-Some.entries (search rules)
    (λ distinct. let yes : c.in_ok-are_distinct.field-0 ≡ true = (rw c.as_slice.ensures at c.in_ok-are_distinct.ensures).1 distinct in absurd (search rules))
