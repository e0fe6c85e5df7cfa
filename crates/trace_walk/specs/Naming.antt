-- Names of modules, and what is kept of them.
--     IsServedAs base target name      the module's web name at a base, which leads back to its path, and its text
--     NamedAt      a base, a module, and its URL there
--     AskedBy      the name of who asks, the specifier, and what it asks for
use Rattle.std.specs.Prelude.{◌≡◌, ℕ, List, Some}
use Rattle.url_spec.specs.WebNames.{web}
use Rattle.trace_spec.specs.Modules.{Module, served_name}
use Rattle.trace_walk.specs.declared.tables.Name.{Name}

pub record IsServedAs (base : List ℕ) (target : Module) (name : Name) : Type 0 where
  pub named : web base target.path target.suffix ≡ Some name.url
  pub served : served_name base target.path (web base target.path target.suffix) ≡ Some name.url
  pub text : name.text ≡ name.url

pub record NamedAt : Type 0 where
  pub base : List ℕ
  pub target : Module
  pub url : List ℕ

pub record AskedBy : Type 0 where
  pub referrer : List ℕ
  pub specifier : List ℕ
  pub asked : List ℕ
