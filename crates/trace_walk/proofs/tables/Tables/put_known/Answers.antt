use Rattle.std.proofs.Common.{refl}
use Rattle.trace_spec.specs.declared.TraceFault.TheVariants.{Memory}
use Rattle.trace_walk.proofs.TableLemmas.{known_place, known_given, one_target, memory_given, grows_by_none, puts_refused}
use Rattle.trace_walk.proofs.UrlLemmas.{added_urls}
use Rattle.trace_walk.proofs.tables.Tables.put_known.Goals as goal

pub returns-clause-put : goal.returns-clause-put
returns-clause-put c = λ r is.
    known_given c.args.config.now r c.args.self.now (record { modules = c.args.self.now.modules; sources = c.args.self.now.sources; needs = c.put_spelled.new.needs; spellings = c.put_spelled.new.spellings; targets = c.push_target.new.targets }) (record { referrer = c.args.referrer.now.text; asked = c.args.asked; target = c.args.known.text }) (record { referrer = c.args.referrer.now.shown; specifier = c.args.specifier.now; target = c.args.target.now }) c.args.known.place c.requires.known refl (record { sources = refl; added = c.in_ok-put_spelled.ensures.added; targets = c.in_ok-push_target.ensures })

pub returns-clause-puts : goal.returns-clause-puts
returns-clause-puts c = record {
  grows = grows_by_none c.args.config.now c.args.self.now _ _ _ c.args.known.place c.requires.beside (known_place c.args.self.now.modules.entries c.args.target.now c.args.known.place c.requires.known) c.requires.room refl (record { sources = refl; added = c.in_ok-put_spelled.ensures.added; targets = c.in_ok-push_target.ensures });
  counts = one_target _ _ c.args.known.place c.in_ok-push_target.ensures;
  sources = refl;
  urls = λ url all. added_urls c.args.self.now.needs c.put_spelled.new.needs _ c.args.referrer.now.text c.in_ok-put_spelled.ensures.added.needs_are refl url all;
  kind = tt;
}

pub returns-in_err-put_spelled-clause-puts : goal.returns-in_err-put_spelled-clause-puts
returns-in_err-put_spelled-clause-puts c =
    puts_refused c.args.config.now _ _ _ c.in_err-put_spelled.field-0.0 c.from_residual.result c.from_residual.ensures.1 (c.in_err-put_spelled.ensures.kind c.args.config.now)

pub returns-in_err-push_target-clause-put : goal.returns-in_err-push_target-clause-put
returns-in_err-push_target-clause-put c = λ r is. memory_given _ c.from_residual-in_err-push_target.result _ c.from_residual-in_err-push_target.ensures.1

pub returns-in_err-push_target-clause-puts : goal.returns-in_err-push_target-clause-puts
returns-in_err-push_target-clause-puts c = puts_refused c.args.config.now _ _ _ Memory c.from_residual-in_err-push_target.result c.from_residual-in_err-push_target.ensures.1 tt
