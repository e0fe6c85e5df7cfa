-- How the parser finds out whether a text is a module's, and its import calls, from token to token.
use Rattle.std.specs.Prelude.{ℕ, Bool, false, not, ◌&&◌, ◌||◌, List, codes, if◌then◌else◌, Option, Some, None}
use Rattle.module_spec.specs.declared.token.Token.{Token}
use Rattle.module_spec.specs.Places.{is_text_kind}
use Rattle.es_module_parser.specs.declared.expect.Seen.{Seen}
use Rattle.es_module_parser.specs.declared.declaring.After.{After}
use Rattle.es_module_parser.specs.declared.declaring.After.TheVariants.{Other, Import, Dot, Call, Argument}
use Rattle.es_module_parser.specs.Progress.{word_is, mark_is}

abbrev pub expression_begins : Seen → List ℕ → Bool
expression_begins seen text = mark_is seen.kind text (codes "(") || mark_is seen.kind text (codes ".")

abbrev pub shows : After → Seen → List ℕ → Bool
shows Other seen text = false
shows (Import top) seen text = top && not (expression_begins seen text)
shows Dot seen text = word_is seen.kind text (codes "meta")
shows Call seen text = false
shows (Argument s) seen text = false

abbrev pub declares_now : After → Seen → List ℕ → Bool
declares_now after seen text = shows after seen text || seen.top && word_is seen.kind text (codes "export")

abbrev pub after_import : Seen → List ℕ → After
after_import seen text =
    if mark_is seen.kind text (codes ".") then Dot else if mark_is seen.kind text (codes "(") then Call else Other

abbrev pub after_next : After → Token → Seen → List ℕ → After
after_next Other token seen text = Other
after_next (Import top) token seen text = after_import seen text
after_next Dot token seen text = Other
after_next Call token seen text = if is_text_kind seen.kind then Argument token else Other
after_next (Argument s) token seen text = Other

abbrev pub after_token : After → Token → Seen → List ℕ → After
after_token after token seen text =
    if seen.plain && word_is seen.kind text (codes "import") then Import seen.top else after_next after token seen text

abbrev pub call_at : After → Seen → List ℕ → Option Token
call_at Other seen text = None
call_at (Import top) seen text = None
call_at Dot seen text = None
call_at Call seen text = None
call_at (Argument s) seen text =
    if mark_is seen.kind text (codes ")") || mark_is seen.kind text (codes ",") then Some s else None

abbrev pub declares_at_end : After → Bool
declares_at_end Other = false
declares_at_end (Import top) = top
declares_at_end Dot = false
declares_at_end Call = false
declares_at_end (Argument s) = false
