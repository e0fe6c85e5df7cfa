use Rattle.std.proofs.Common.{arith}
use Rattle.std.proofs.lemmas.Str.Pattern.{find_char}
use Rattle.node_resolve.proofs.NameLemmas.{slash_none, slash_at}
use Rattle.node_resolve.proofs.package_name.until_slash.Goals as goal

pub returns-in-None-clause-is : goal.returns-in-None-clause-is
returns-in-None-clause-is c =
    slash_none c.args.text.now
    (rw c.in-None.is at (find_char 47 c.args.text.now c.find.result c.find.ensures.cases (omega arith)))

pub returns-in-Some-clause-is : goal.returns-in-Some-clause-is
returns-in-Some-clause-is c =
    let found = rw c.in-Some.is at (find_char 47 c.args.text.now c.find.result c.find.ensures.cases (omega arith)) in
    slash_at c.args.text.now c.in-Some.at found.0 found.1 found.2
