use Rattle.std.proofs.Common.{◌≡◌, ◌∙◌, ◌⊎◌, inl, inr, List, [], map, sym, subst, ⊎_elim}
use Rattle.std.specs.Prelude.{string_bytes}
use Rattle.clap.specs.Kinds.{IsAmong}
use Rattle.clap.specs.Words.{kind_of}
use Rattle.words_parse.specs.Shown.{shown}
use Rattle.words_spec.proofs.PlainIsRead.{one_asked}
use Rattle.words_parse.proofs.parse.Goals as goal

pub returns-in-Some-clause-plain : goal.returns-in-Some-clause-plain
returns-in-Some-clause-plain c = λ asked plain.
    one_asked (map string_bytes c.args.words.now) (shown c.in-Some.command) asked c.in-Some.ensures plain

pub returns-in-Some-clause-asks : goal.returns-in-Some-clause-asks
returns-in-Some-clause-asks c = c.in-Some.ensures

pub returns-clause-plain : goal.returns-clause-plain
returns-clause-plain c = λ asked plain. absurd (c.in-None.ensures asked plain)
