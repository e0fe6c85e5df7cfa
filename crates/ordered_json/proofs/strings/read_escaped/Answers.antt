use Rattle.json_spec.specs.Strings.{in_utf8, no_utf8, no_string}
use Rattle.ordered_json.proofs.strings.read_escaped.Goals as goal

pub returns-in-None : goal.returns-in-None
returns-in-None c = no_string (rw c.in-None.is at c.in_ok-read_characters.ensures)

pub returns-in-None-2 : goal.returns-in-None-2
returns-in-None-2 c = let found = rw c.in-Some.is at c.in_ok-read_characters.ensures in no_utf8 found.0 (rw c.in-None-2.is at c.in_ok-utf8_text-in-Some.ensures)

pub returns-in-Some-2 : goal.returns-in-Some-2
returns-in-Some-2 c =
    let found = rw c.in-Some.is at c.in_ok-read_characters.ensures in
    let text = rw c.in-Some-2.is at c.in_ok-utf8_text-in-Some.ensures in
    rw text.1 (in_utf8 found.0 text.0, found.1)
