use Rattle.std.proofs.Common.{subst, sym}
use Rattle.package_lookup.specs.Recorded.{IsRecorded}
use Rattle.package_lookup.specs.SeenLooks.{entry_of, look_seen}
use Rattle.package_lookup.proofs.ReadingLemmas.{read_before}
use Rattle.package_lookup.proofs.packages.recorded.Goals as goal

pub returns-in-Some-clause-record : goal.returns-in-Some-clause-record
returns-in-Some-clause-record c =
    subst (λ seen. IsRecorded (entry_of seen) c.record_in.result) (sym c.in-File.is)
    (read_before c.in-File.bytes.value c.in-Some.reading c.record_in.result
    (rw (c.in-File.is, c.in-Some.is) at (c.ready.ensures (look_seen c.args.seen) c.requires.readings)) c.record_in.ensures.record)

pub returns-in-Some-clause-named : goal.returns-in-Some-clause-named
returns-in-Some-clause-named c =
    let read = rw c.in-Some.is at (c.ready.ensures (look_seen c.args.seen) c.requires.readings) in
    c.record_in.ensures.named read.named
