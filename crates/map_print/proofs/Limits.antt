-- The text of a map whose lists were printed.
use Rattle.std.proofs.Common.{◌≡◌, ◌==◌, ℕ, false, ◌<◌, ◌≤◌, List, [], ◌∷◌, length, sym, ◌∙◌, subst, arith}
use Rattle.std.specs.Prelude.{Ok, All, IsUtf8}
use Rattle.tree_spec.specs.Limits.{limit_number}
use Rattle.tree_spec.specs.declared.LimitName.TheVariants.{Map}
use Rattle.json_spec.specs.PrintedValue.{printed}
use Rattle.import_map_spec.specs.ParsedMap.{ParsedMap}
use Rattle.import_map_spec.specs.Parsing.{ParsesMap}
use Rattle.layout_spec.proofs.TextBack.{texts_are_plain, texts_read_back}
use Rattle.layout_spec.specs.PrintedMap.{map_text}
use Rattle.scope_builder.specs.Lists.{Lists}
use Rattle.scope_builder.specs.declared.keyed.Layout.{Layout}
use Rattle.layout_spec.specs.ShortForms.{folder_text}
use Rattle.map_print.proofs.LeastSizes.{map_is_larger}
use Rattle.map_print.proofs.Listing.{lists_text}
use Rattle.map_print.specs.LeastSizes.{map_least}
use Rattle.map_print.specs.Printed.{IsPrinted}
use Rattle.map_print.specs.PrintedLists.{layout_value}

module _ (base : List ℕ) (layout : Layout) (integrity : List (List ℕ × List ℕ)) (bytes : List ℕ) (is : bytes ≡ printed 0 (layout_value base layout integrity) (10 ∷ [])) where
  text : (m : ParsedMap) → Lists layout integrity m → bytes ≡ map_text base m
  text m l = is ∙ lists_text base layout integrity m l

  pub above_limit : limit_number Map < length bytes → (m : ParsedMap) → Lists layout integrity m → limit_number Map < length (map_text base m)
  above_limit above m l = subst (λ (whole : List ℕ). limit_number Map < length whole) (text m l) above

  pub is_printed : length bytes ≤ limit_number Map → IsPrinted base layout integrity bytes
  is_printed within = record {
    text = text;
    within = within;
    reads_back = λ m l kept. subst (λ whole. ParsesMap base whole (Ok m)) (sym (text m l)) (texts_read_back base m kept);
    plain = λ m l kept. subst (λ whole. IsUtf8 whole × All (λ (b : ℕ). (b == 60) ≡ false) whole) (sym (text m l)) (texts_are_plain base m kept);
  }

pub far_above_limit : (base : List ℕ) (layout : Layout) (integrity : List (List ℕ × List ℕ)) (size : ℕ) → size ≡ length (folder_text base) → limit_number Map < map_least size layout integrity → (m : ParsedMap) → Lists layout integrity m → limit_number Map < length (map_text base m)
far_above_limit base layout integrity size is above m l =
    let least : map_least size layout integrity ≤ length (printed 0 (layout_value base layout integrity) (10 ∷ [])) =
    subst (λ n. map_least n layout integrity ≤ length (printed 0 (layout_value base layout integrity) (10 ∷ []))) (sym is) (map_is_larger base layout integrity) in
    subst (λ (whole : List ℕ). limit_number Map < length whole) (lists_text base layout integrity m l) (omega (arith, above, least))
