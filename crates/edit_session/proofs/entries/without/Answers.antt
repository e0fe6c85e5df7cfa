use Rattle.std.proofs.Common.{rules, ◌∙◌, ap, filter}
use Rattle.std.specs.Prelude.{bytes_eq, not}
use Rattle.std.proofs.lemmas.Fn.{filter_same}
use Rattle.edit_session.proofs.DraftsMade.{without_entries}
use Rattle.edit_session.proofs.entries.without.Goals as goal

pub returns-clause-is : goal.returns-clause-is
returns-clause-is c =
    c.from_vec.ensures
    ∙ (filter_same _ (λ other. not (bytes_eq c.args.entry.now other)) _ (λ x b f' k. search rules) _ _ c.retain.ensures.filtered
    ∙ ap (filter (λ other. not (bytes_eq c.args.entry.now other))) c.into_vec-left.ensures)

pub returns-clause-entries : goal.returns-clause-entries
returns-clause-entries c = without_entries c.args.entry.now c.args.entries c.from_vec.result (returns-clause-is c)
