use Rattle.std.proofs.Common.{rules, ◌∙◌, ap, filter}
use Rattle.std.specs.Prelude.{bytes_eq, not}
use Rattle.std.proofs.lemmas.Fn.{filter_same}
use Rattle.project_config.proofs.entries.without.Goals as goal

pub returns : goal.returns
returns c =
    c.from_vec.ensures
    ∙ (filter_same _ (λ other. not (bytes_eq c.args.entry.now other)) _ (λ x b f' k. search rules) _ _ c.retain.ensures.filtered
    ∙ ap (filter (λ other. not (bytes_eq c.args.entry.now other))) c.into_vec-left.ensures)
