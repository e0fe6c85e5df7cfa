use Rattle.std.proofs.Common.{subst, ◌∙◌}
use Rattle.tree_spec.specs.declared.Look.TheVariants.{File}
use Rattle.package_lookup.specs.Readings.{IsReadingOf}
use Rattle.package_lookup.proofs.ReadingLemmas.{read_before}
use Rattle.package_lookup.proofs.packages.read_now.Goals as goal

pub keep_reading-requires-clause-reading : goal.keep_reading-requires-clause-reading
keep_reading-requires-clause-reading c =
    c.in_ok-copy.ensures (File c.args.bytes.value)
    (subst (λ bytes. IsReadingOf (File bytes) c.in_ok-reading.reading) (c.as_bytes.ensures ∙ c.deref.ensures)
    c.in_ok-reading.ensures)

pub returns-clause-record : goal.returns-clause-record
returns-clause-record c =
    read_before c.args.bytes.value c.in_ok-reading.reading c.record_in.result
    (subst (λ bytes. IsReadingOf (File bytes) c.in_ok-reading.reading) (c.as_bytes.ensures ∙ c.deref.ensures)
    c.in_ok-reading.ensures)
    c.record_in.ensures.record
