-- What the whole walk leaves behind.
--     AreWalked config tables              each module is named, the tables are whole, their requests are those of the
--                                          page and of the modules and lead to modules, and those of a source stand in
--                                          its bytes
--     IsWalked config result before after  the tables are walked, after no more steps than they have modules and
--                                          requests; and whatever the result is, no more steps than there may be of
--                                          both, and a refusal is one of a walk
use Rattle.std.specs.Prelude.{◌≡◌, ◌≤◌, ◌+◌, ℕ, length, Result, IfErr, IfOk}
use Rattle.tree_spec.specs.declared.LimitName.TheVariants.{Modules, Requests}
use Rattle.tree_spec.specs.Limits.{limit_number}
use Rattle.trace_spec.specs.declared.TraceFault.{TraceFault}
use Rattle.trace_spec.specs.Modules.{Config}
use Rattle.trace_walk.specs.declared.tables.Tables.{Tables}
use Rattle.trace_walk.specs.Kinds.{IsOfWalk}
use Rattle.trace_walk.specs.Shown.{before_of}
use Rattle.trace_walk.specs.Walking.{AllNamed, AreBeside, IsWhole, module_requests}

pub record AreWalked (config : Config) (tables : Tables) : Type 0 where
  pub named : AllNamed config tables.modules.entries
  pub whole : IsWhole (before_of tables)
  pub counted : length tables.targets.items ≡ length config.entries + module_requests (before_of tables).sources
  pub beside : AreBeside tables

pub record IsWalked (config : Config) (result : Result Tables TraceFault) (before after : ℕ) : Type 0 where
  pub tables : IfOk result (AreWalked config)
  pub steps : IfOk result (λ tables. after ≤ before + (length tables.sources.items + length tables.targets.items))
  pub bounded : after ≤ before + (limit_number Modules + limit_number Requests)
  pub kind : IfErr result (IsOfWalk config)
