use Rattle.std.proofs.Common.{Some, ◌∙◌, ap, sym}
use Rattle.trace_walk.proofs.TableLemmas.{not_among, known_at, text_of}
use Rattle.trace_walk.proofs.tables.known_name.Goals as goal

pub returns-in-None-clause-unknown : goal.returns-in-None-clause-unknown
returns-in-None-clause-unknown c = λ none. not_among c.args.target.now c.args.modules.now.entries (sym c.in-None.ensures.value)

pub returns-in_ok-copy-in-Some-clause-known : goal.returns-in_ok-copy-in-Some-clause-known
returns-in_ok-copy-in-Some-clause-known c = (
  known_at c.args.target.now c.args.modules.now.entries c.in-Some.place c.in-Some.field-0-1.now c.in-Some.name.now (sym c.in-Some.ensures.key) (sym c.in-Some.ensures.value) c.in-Some.ensures.entry,
  λ config all. text_of config c.args.target.now c.args.modules.now.entries c.in-Some.name.now (sym c.in-Some.ensures.value) all ∙ ap Some (sym c.in_ok-copy-in-Some.ensures),
)
