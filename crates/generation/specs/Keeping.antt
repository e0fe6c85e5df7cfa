-- What is kept between maps. None of it says where it comes from, so that it stays right whatever changes.
--     Digested      bytes, and the text of their digest
--     LaidNeeds      needs, and the lists of a layout
--     IsLaid laid      it is the layout with the fewest mappings that serves the needs
use Rattle.std.specs.Prelude.{ℕ, List}
use Rattle.layout_spec.specs.declared.Need.{Need}
use Rattle.fewest_spec.specs.Wishes.{HasTooManyChoices}
use Rattle.layout.specs.Layouts.{FewestLists}
use Rattle.scope_builder.specs.declared.keyed.Layout.{Layout}

pub record Digested : Type 0 where
  pub bytes : List ℕ
  pub text : List ℕ

pub record LaidNeeds : Type 0 where
  pub needs : List Need
  pub layout : Layout

pub record IsLaid (laid : LaidNeeds) : Type 0 where
  pub fewest : FewestLists laid.needs laid.layout
  pub few : HasTooManyChoices laid.needs → ⊥
