-- Rows of the table of needs, and what adding a need finds.
--     asks_alike one other           two needs are of one row
--     IsFresh needs need after       the need is of a row of its own, and is put at the end
--     IsKnown needs need             the need is there, and clashes with none
--     ClashesAt needs need first     the need at this place clashes with it, and none before
--     Adds needs need after result   what adding the need comes to; only where it is a new one, the table changes
use Rattle.std.specs.Prelude.{◌≡◌, ◌≢◌, ℕ, Bool, true, false, List, [], ◌∷◌, ◌++◌, bytes_eq, Some, slice_get, take}
use Rattle.std.specs.Prelude.{Contains, Result, Ok, Err, IfErr}
use Rattle.std.specs.List.{list_any}
use Rattle.std.specs.Ordering.{on, eq_of_both}
use Rattle.layout_spec.specs.declared.Need.{Need}
use Rattle.layout_spec.specs.Needs.{clashes, with_need}
use Rattle.need_table.specs.declared.needs.Added.{Added}
use Rattle.need_table.specs.declared.needs.Added.TheVariants.{New, Known}
use Rattle.need_table.specs.declared.needs.NeedFault.{NeedFault}
use Rattle.need_table.specs.declared.needs.NeedFault.TheVariants.{Clash, Memory}

-- own: they have one referrer and one specifier
abbrev pub asks_alike : Need → Need → Bool
asks_alike = eq_of_both (on (λ need. need.referrer) bytes_eq) (on (λ need. need.asked) bytes_eq)

pub record IsFresh (needs : List Need) (need : Need) (after : List Need) : Type 0 where
  pub none_alike : list_any (asks_alike need) needs ≡ false
  pub clear : list_any (clashes need) needs ≡ false
  pub is_new : after ≡ with_need needs need
  pub at_end : after ≡ needs ++ need ∷ []

pub record IsKnown (needs : List Need) (need : Need) : Type 0 where
  pub stands : Contains needs need
  pub clear : list_any (clashes need) needs ≡ false
  pub stays : with_need needs need ≡ needs

pub record ClashesAt (needs : List Need) (need : Need) (first : ℕ) : Type 0 where
  pub other : Need
  pub stands : slice_get needs first ≡ Some other
  pub alike : asks_alike need other ≡ true
  pub apart : other.target ≢ need.target
  pub clash : clashes need other ≡ true
  pub found : list_any (clashes need) needs ≡ true
  pub none_before : list_any (clashes need) (take first needs) ≡ false

-- own: one part for each result; memory is wanting only for a need of a row of its own; and unless the need is put
-- there, the table is as it was
pub record Adds (needs : List Need) (need : Need) (after : List Need) (result : Result Added NeedFault) : Type 0 where
  pub new : result ≡ Ok New → IsFresh needs need after
  pub known : result ≡ Ok Known → IsKnown needs need
  pub clash : IfErr result (λ fault. (first : ℕ) → fault ≡ Clash first → ClashesAt needs need first)
  pub lost : result ≡ Err Memory → list_any (asks_alike need) needs ≡ false
  pub same : result ≢ Ok New → after ≡ needs
