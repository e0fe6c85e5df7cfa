-- What holds among the parts of a chunk.
--
-- AreParts alloc start row right filled     the address and the right are those of the row, which came from alloc and
-- has
--                                           64 places; `filled` says which of them have a value
use Rattle.std.specs.Prelude.{◌≡◌, Bool, List, length, map, is_some}
use Rattle.std.specs.declared.alloc.Global.{Global}
use Rattle.slot_arena.specs.declared.block.Start.{Start}
use Rattle.slot_arena.specs.declared.block.Row.{Row}
use Rattle.slot_arena.specs.declared.block.Right.{Right}

pub record AreParts {X : Type 0} (alloc : Global) (start : Start X) (row : Row X) (right : Right X Global)
    (filled : List Bool) : Type 0 where
  pub row_here : row.start ≡ start.first
  pub right_here : right.start ≡ start.first
  pub right_count : right.count ≡ 64
  pub right_from : right.from ≡ alloc
  pub long : length row.places ≡ 64
  pub told : filled ≡ map is_some row.places
