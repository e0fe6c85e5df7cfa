use Rattle.std.proofs.Common.{subst, ◌<◌, ◌≤◌, ℕ, List, length}
use Rattle.tree_spec.specs.Limits.{limit_number}
use Rattle.tree_spec.specs.declared.LimitName.TheVariants.{Map}
use Rattle.import_map_spec.specs.ParsedMap.{ParsedMap}
use Rattle.layout_spec.specs.PrintedMap.{map_text}
use Rattle.scope_builder.specs.Lists.{Lists}
use Rattle.map_print.specs.Printed.{IsPrinted}
use Rattle.map_print.proofs.Limits.{above_limit, is_printed, far_above_limit}
use Rattle.map_print.proofs.print.print_map.Goals as goal

pub returns-clause-printed : goal.returns-clause-printed
returns-clause-printed c =
    subst (λ base. IsPrinted base c.args.layout.now c.args.integrity.now c.in_ok-bytes.bytes.items) c.in_ok-folder.ensures
    (is_printed c.in_ok-folder.folder c.args.layout.now c.args.integrity.now c.in_ok-bytes.bytes.items c.in_ok-bytes.ensures (subst (λ (xs : List ℕ). length xs ≤ limit_number Map) c.as_slice.ensures.value (c.is_too_large.ensures.within c.if-is_too_large.false)))

pub returns-then-is_too_large-clause-too_large : goal.returns-then-is_too_large-clause-too_large
returns-then-is_too_large-clause-too_large c = λ _.
    subst (λ base. (m : ParsedMap) → Lists c.args.layout.now c.args.integrity.now m → limit_number Map < length (map_text base m)) c.in_ok-folder.ensures
    (above_limit c.in_ok-folder.folder c.args.layout.now c.args.integrity.now c.in_ok-bytes.bytes.items c.in_ok-bytes.ensures (subst (λ (xs : List ℕ). limit_number Map < length xs) c.as_slice.ensures.value (c.is_too_large.ensures.above c.if-is_too_large.true)))

pub returns-then-is_far_too_large-clause-too_large : goal.returns-then-is_far_too_large-clause-too_large
returns-then-is_far_too_large-clause-too_large c = λ _.
    subst (λ base. (m : ParsedMap) → Lists c.args.layout.now c.args.integrity.now m → limit_number Map < length (map_text base m)) c.in_ok-folder.ensures
    (far_above_limit c.in_ok-folder.folder c.args.layout.now c.args.integrity.now c.size.result c.size.ensures (c.is_far_too_large.ensures c.if-is_far_too_large.true))
