-- The URL of a page, and what keeps it from being traced.
--     PageAt      a base, a page's path and its URL
--     IsPageAt at      the page has this URL at the base, which is no folder's
--     IsOfPage config at      it is of the config's page, at its base
--     IsUnserved config stop      the page isn't served at its web name, or memory is wanting
--     IsUnservedAt config url stop      the same, where this is its web name
use Rattle.std.specs.Prelude.{◌≡◌, ℕ, List, Option, None, Some, [], false}
use Rattle.url_spec.specs.Specifiers.{ends_in_slash}
use Rattle.url_spec.specs.WebNames.{web}
use Rattle.trace_spec.specs.declared.TraceFault.TheVariants.{Unservable}
use Rattle.trace_spec.specs.Modules.{Config, served_at, web_name}
use Rattle.trace_spec.specs.Walking.{the_page}
use Rattle.generator_spec.specs.declared.Refusal.TheVariants.{Trace}
use Rattle.generation.specs.declared.stop.Stop.{Stop}
use Rattle.generation.specs.declared.stop.Stop.TheVariants.{Refused, Memory}

pub record PageAt : Type 0 where
  pub base : List ℕ
  pub page : List ℕ
  pub url : List ℕ

pub record IsPageAt (at : PageAt) : Type 0 where
  pub url : web at.base at.page [] ≡ Some at.url
  pub file : ends_in_slash at.url ≡ false

pub record IsOfPage (config : Config) (at : PageAt) : Type 0 where
  pub base : at.base ≡ config.base
  pub page : at.page ≡ config.page

pub data IsUnserved (config : Config) (stop : Stop) : Type 0 where
  refused :
      served_at config the_page ≡ None → stop ≡ Refused (Trace (Unservable config.page (web_name config the_page)))
      → IsUnserved config stop
  memory : stop ≡ Memory → IsUnserved config stop

pub data IsUnservedAt (config : Config) (url : Option (List ℕ)) (stop : Stop) : Type 0 where
  refused : stop ≡ Refused (Trace (Unservable config.page url)) → IsUnservedAt config url stop
  memory : stop ≡ Memory → IsUnservedAt config url stop
