use Rattle.std.proofs.Common.{◌++◌, ◌∷◌, [], Ok, refl, ap, ◌∙◌, subst}
use Rattle.trace_spec.specs.declared.TraceFault.TheVariants.{Memory}
use Rattle.trace_spec.specs.Checks.{Spelling, needed}
use Rattle.trace_walk.specs.declared.tables.Tables.{Tables}
use Rattle.trace_walk.specs.Shown.{before_of}
use Rattle.trace_walk.specs.Walking.{IsGiven}
use Rattle.trace_walk.proofs.TableLemmas.{memory_given, new_given, grows_by_one, one_target, puts_refused}
use Rattle.trace_walk.proofs.UrlLemmas.{added_urls}
use Rattle.trace_walk.proofs.tables.Tables.put_new.Goals as goal

pub returns-in_err-text-clause-put : goal.returns-in_err-text-clause-put
returns-in_err-text-clause-put c = λ r is. memory_given _ c.from_residual.result c.args.self.now c.from_residual.ensures.1

pub returns-in_err-text-clause-puts : goal.returns-in_err-text-clause-puts
returns-in_err-text-clause-puts c = puts_refused c.args.config.now _ _ _ Memory c.from_residual.result c.from_residual.ensures.1 tt

pub returns-in_err-put_spelled-clause-puts : goal.returns-in_err-put_spelled-clause-puts
returns-in_err-put_spelled-clause-puts c =
    puts_refused c.args.config.now _ _ _ c.in_err-put_spelled.field-0.0 c.from_residual-in_err-put_spelled.result c.from_residual-in_err-put_spelled.ensures.1 (c.in_err-put_spelled.ensures.kind c.args.config.now)

pub returns-clause-puts : goal.returns-clause-puts
returns-clause-puts c = record {
  grows = grows_by_one c.args.config.now c.args.self.now _ _ (record { referrer = c.args.referrer.now.shown; specifier = c.args.specifier.now; target = c.args.target }) c.args.name c.requires.beside c.requires.room c.in_ok-put_module.ensures.put.0 c.in_ok-put_module.ensures.put.1 c.requires.named
      (record { sources = refl; added = c.in_ok-put_spelled.ensures.added; targets = c.in_ok-push_target.ensures ∙ ap (λ n. c.args.self.now.targets.items ++ n ∷ []) c.len-place.ensures.len });
  counts = one_target _ _ _ c.in_ok-push_target.ensures;
  sources = refl;
  urls = λ url all. added_urls c.args.self.now.needs c.put_spelled.new.needs _ c.args.referrer.now.text c.in_ok-put_spelled.ensures.added.needs_are refl url all;
  kind = tt;
}

pub returns-clause-put : goal.returns-clause-put
returns-clause-put c = λ r is.
    let new : Tables = record { modules = c.put_module.new.modules; sources = c.args.self.now.sources; needs = c.put_spelled.new.needs; spellings = c.put_spelled.new.spellings; targets = c.push_target.new.targets } in
    let spelling : Spelling = record { referrer = c.args.referrer.now.shown; specifier = c.args.specifier.now; target = c.args.target } in
    subst (λ t. IsGiven (needed c.args.config.now (before_of c.args.self.now) r (record { referrer = c.args.referrer.now.text; asked = c.args.asked; target = t }) spelling) (Ok (before_of new))) c.in_ok-text.ensures
    (new_given c.args.config.now r c.args.self.now new (record { referrer = c.args.referrer.now.text; asked = c.args.asked; target = c.in_ok-text.text }) spelling c.args.name c.requires.beside c.requires.new c.in_ok-put_module.ensures.put.0 c.in_ok-put_module.ensures.put.1
    (record { sources = refl; added = c.in_ok-put_spelled.ensures.added; targets = c.in_ok-push_target.ensures ∙ ap (λ n. c.args.self.now.targets.items ++ n ∷ []) c.len-place.ensures.len }))

pub returns-in_err-push_target-clause-put : goal.returns-in_err-push_target-clause-put
returns-in_err-push_target-clause-put c = λ r is. memory_given _ c.from_residual-in_err-push_target.result _ c.from_residual-in_err-push_target.ensures.1

pub returns-in_err-push_target-clause-puts : goal.returns-in_err-push_target-clause-puts
returns-in_err-push_target-clause-puts c = puts_refused c.args.config.now _ _ _ Memory c.from_residual-in_err-push_target.result c.from_residual-in_err-push_target.ensures.1 tt
