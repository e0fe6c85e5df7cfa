use Rattle.std.proofs.Common.{◌+◌, length, sym, ap, ◌∙◌}
use Rattle.trace_walk.specs.Shown.{before_of}
use Rattle.trace_walk.specs.Walking.{module_requests}
use Rattle.request_trace.proofs.NamedModules.{named_at_base}
use Rattle.request_trace.proofs.folder_trace.trace_of.Goals as goal

pub returns-clause-entries : goal.returns-clause-entries
returns-clause-entries c = c.in_ok-trace.ensures.entries ∙ ap length c.entries.ensures.entries

pub of-requires-clause-named : goal.of-requires-clause-named
of-requires-clause-named c =
    named_at_base c.args.config.now c.in_ok-base.base c.args.tables.modules.entries
    (c.in_ok-base.ensures ∙ c.base.ensures) c.requires.named

pub of-requires-clause-whole : goal.of-requires-clause-whole
of-requires-clause-whole c = c.requires.whole

pub of-requires-clause-counted : goal.of-requires-clause-counted
of-requires-clause-counted c =
    c.requires.counted
    ∙ ap (λ n. n + module_requests (before_of c.args.tables).sources) (sym (ap length c.entries.ensures.entries))

pub of-requires-clause-beside : goal.of-requires-clause-beside
of-requires-clause-beside c = c.requires.beside
