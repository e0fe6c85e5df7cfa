-- The layout of needs, as it is handed out.
--     HasFewest needs map      the map is the layout with the fewest mappings, and too many choices are none
--     FewestLists needs layout      the lists of the layout with the fewest mappings that serves the needs
use Rattle.std.specs.Prelude.{List, []}
use Rattle.import_map_spec.specs.ParsedMap.{ParsedMap}
use Rattle.layout_spec.specs.declared.Need.{Need}
use Rattle.fewest_spec.specs.Fewest.{IsFewestLayout}
use Rattle.fewest_spec.specs.Wishes.{HasTooManyChoices}
use Rattle.scope_builder.specs.Lists.{Lists}
use Rattle.scope_builder.specs.declared.keyed.Layout.{Layout}

-- own: the lists are the entries of the layout with the fewest mappings
pub record FewestLists (needs : List Need) (layout : Layout) : Type 0 where
  pub m : ParsedMap
  pub is_fewest : IsFewestLayout needs m
  pub lists : Lists layout [] m

-- own: the map is that layout, and no specifier has too many choices
pub record HasFewest (needs : List Need) (m : ParsedMap) : Type 0 where
  pub is_fewest : IsFewestLayout needs m
  pub few : HasTooManyChoices needs → ⊥
