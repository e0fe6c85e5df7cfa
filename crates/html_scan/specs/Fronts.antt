-- What the code finds, in the words of the definitions.
--     front_of f      the piece at the front
--     value_of v      an attribute's value
--     test_of end     whether a byte ends the run
--     value_if_named wanted b rest     the value of the attribute whose name begins with b, where the name is the
--                                      wanted one
use Rattle.std.specs.Prelude.{ℕ, Bool, List, Option, Some, None, if◌then◌else◌, ◌==◌, bytes_eq}
use Rattle.page_spec.specs.Pieces.{front, ends_name}
use Rattle.page_spec.specs.Pieces as pieces
use Rattle.page_spec.specs.Attributes.{value, attribute_at, ends_attribute_name, ends_unquoted}
use Rattle.page_spec.specs.Attributes as attributes
use Rattle.page_spec.specs.Tokenizer.{lowered}
use Rattle.html_scan.specs.declared.runs.End.{End}
use Rattle.html_scan.specs.declared.runs.End.TheVariants.{TagName, Name, At, Unquoted}
use Rattle.html_scan.specs.declared.values.Value.{Value}
use Rattle.html_scan.specs.declared.front.Front.{Front}

abbrev pub front_of : Front → pieces.Front
front_of f = front f.kind f.within f.rest.now

abbrev pub value_of : Value → attributes.Value
value_of v = value v.text.now v.tail.now

abbrev pub test_of : End → ℕ → Bool
test_of TagName = ends_name
test_of Name = ends_attribute_name
test_of (At byte) = λ b. b == byte
test_of Unquoted = ends_unquoted

abbrev pub value_if_named : List ℕ → ℕ → List ℕ → Option attributes.Value
value_if_named wanted b rest =
    if bytes_eq (lowered (attribute_at b rest).name) (lowered wanted) then Some (attribute_at b rest).value else None
