use Rattle.std.proofs.Common.{rules, ◌<◌, length, sym, ap, ◌∙◌, subst}
use Rattle.std.specs.Prelude.{option_and_then, slice_get}
use Rattle.trace_spec.specs.Modules.{Module}
use Rattle.url_spec.specs.WebNames.{web}
use Rattle.generation.specs.Pairing.{HasUrlAt, Paired}
use Rattle.generation.proofs.Pairings.{url_at}
use Rattle.generation.proofs.kept_pairs.KeptPairs.has_url.Goals as goal

pub returns-in-Some : goal.returns-in-Some
returns-in-Some c =
    let modules = c.args.trace.now.gathered.modules in
    λ t. subst (λ (p : Paired). HasUrlAt c.args.config.now modules p.modules c.args.place) c.self.view_is
    (url_at c.args.config.now modules c.self.inside.modules.items c.args.place c.index.result.now c.in-Some.url c.eq.result
    (subst (λ (p : Paired). c.args.place < length p.modules) (sym c.self.view_is) c.requires) (search rules)
    (sym c.in-Some.is ∙ (c.in_ok-url.ensures ∙ ap (λ base. option_and_then (λ (m : Module). web base m.path m.suffix) (slice_get modules c.args.place)) c.base.ensures))
    (search rules) t)
