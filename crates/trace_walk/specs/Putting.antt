-- What puts a request into the tables.
--     IsKnown modules target place          the module stands at this place among these
--     PutsNeed referrer needs spellings need spelling after spelled result
--                                           a need is put among the others with its spelling, or clashes with one
--     Puts config referrer old new result   the tables grow by no visit and by one target, and the needs stay
--                                           of URLs where this referrer is one; or a refusal of the walk
use Rattle.std.specs.Prelude.{◌≡◌, ◌≢◌, ◌+◌, ℕ, true, List, length, slice_get, Some, Result, IfErr, OnOk}
use Rattle.std.specs.List.{list_any}
use Rattle.layout_spec.specs.declared.Need.{Need}
use Rattle.url_spec.specs.Parsing.{IsUrl}
use Rattle.trace_spec.specs.declared.TraceFault.{TraceFault}
use Rattle.trace_spec.specs.declared.TraceFault.TheVariants.{Memory}
use Rattle.trace_spec.specs.Checks.{Spelling}
use Rattle.trace_spec.specs.Modules.{Config, Module, is_module}
use Rattle.trace_walk.specs.declared.referrer.Referrer.{Referrer}
use Rattle.trace_walk.specs.declared.tables.Tables.{Tables}
use Rattle.trace_walk.specs.Kinds.{IsOfWalk}
use Rattle.trace_walk.specs.Refusing.{IsClash}
use Rattle.trace_walk.specs.Walking.{IsAdded, KeepsUrls, Grows}

pub record IsKnown (modules : List Module) (target : Module) (place : ℕ) : Type 0 where
  pub there : list_any (is_module target) modules ≡ true
  pub at : slice_get modules place ≡ Some target

pub record PutsNeed (referrer : Referrer) (needs : List Need) (spellings : List Spelling) (need : Need)
    (spelling : Spelling) (after : List Need) (spelled : List Spelling)
    (result : Result (Unit {0}) TraceFault) : Type 0 where
  pub added : OnOk result (IsAdded needs spellings need spelling after spelled)
  pub clash : IfErr result (λ fault. fault ≢ Memory → IsClash referrer needs need spellings spelling fault)
  pub kind : IfErr result (λ fault. (config : Config) → IsOfWalk config fault)

pub record Puts (config : Config) (referrer : List ℕ) (old new : Tables)
    (result : Result (Unit {0}) TraceFault) : Type 0 where
  pub grows : OnOk result (Grows config 0 old new)
  pub counts : OnOk result (length new.targets.items ≡ length old.targets.items + 1)
  pub sources : OnOk result (new.sources ≡ old.sources)
  pub urls : OnOk result (KeepsUrls (IsUrl referrer) old.needs new.needs)
  pub kind : IfErr result (IsOfWalk config)
