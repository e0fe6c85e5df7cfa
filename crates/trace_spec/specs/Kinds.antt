-- What can be refused whatever the tree holds.
--     IsTraceLimit limit               a trace can pass this limit
--     IsUnservable config path url     what isn't served at its web name, as shown, with that name
--     IsOfTrace config fault           a trace of this config can end so
use Rattle.std.specs.Prelude.{◌≡◌, ◌≤◌, ⊤, ℕ, List, length, Option, None}
use Rattle.tree_spec.specs.declared.LimitName.{LimitName}
use Rattle.tree_spec.specs.declared.LimitName.TheVariants as limit
use Rattle.tree_spec.specs.Limits.{limit_number}
use Rattle.trace_spec.specs.declared.TraceFault.{TraceFault}
use Rattle.trace_spec.specs.declared.TraceFault.TheVariants.{Unservable, Refused, Clash, NotModule, Limit, ReadFault}
use Rattle.trace_spec.specs.declared.TraceFault.TheVariants.{Memory}
use Rattle.trace_spec.specs.Walking.{Referrer}
use Rattle.trace_spec.specs.Modules.{Config, Module, web_name, shown, served_at}

-- own: the limits that a trace can pass; those of entries, of a session, of a map and of choices aren't its own
abbrev pub IsTraceLimit : LimitName → Type 0
IsTraceLimit limit.File = ⊤
IsTraceLimit limit.Bytes = ⊤
IsTraceLimit limit.Looks = ⊤
IsTraceLimit limit.Modules = ⊤
IsTraceLimit limit.ModuleRequests = ⊤
IsTraceLimit limit.Requests = ⊤
IsTraceLimit limit.Specifier = ⊤
IsTraceLimit limit.Brackets = ⊤
IsTraceLimit limit.Depth = ⊤
IsTraceLimit limit.Entries = ⊥
IsTraceLimit limit.Session = ⊥
IsTraceLimit limit.Map = ⊥
IsTraceLimit limit.Choices = ⊥

-- own: the page, or a module, that isn't served at its web name
pub record IsUnservable (config : Config) (path : List ℕ) (url : Option (List ℕ)) : Type 0 where
  pub which : Referrer Module
  pub path_is : path ≡ shown config which
  pub url_is : url ≡ web_name config which
  pub lost : served_at config which ≡ None

-- own: no definition refuses by a failed look or by want of memory
abbrev pub IsOfTrace : Config → TraceFault → Type 0
IsOfTrace config (Refused referrer specifier why) = length specifier ≤ limit_number limit.Specifier
IsOfTrace config (Unservable path url) = IsUnservable config path url
IsOfTrace config (Clash referrer first first_to second second_to) =
    (length first ≤ limit_number limit.Specifier) × (length second ≤ limit_number limit.Specifier)
IsOfTrace config (NotModule path reason) = ⊤
IsOfTrace config (Limit which) = IsTraceLimit which
IsOfTrace config ReadFault = ⊥
IsOfTrace config Memory = ⊥
