-- Markup behind its `<`: where a tag or a comment ends. HTML Standard, 13.2.5, "Tokenization"; Infra Standard, "Code
-- points".
--     lowered bytes                the bytes in ASCII lowercase
--     may_end state                a `>` in this state is the last byte of its tag or comment
--     is_last state byte           the byte is the last one of its tag or comment
--     next_state state byte        the state behind a byte that isn't the last one
--     behind_markup state bytes    what is left behind the markup; None where the page ends before the markup does
-- own: the tokenizer's states without those that change no place where markup ends: what stands behind a quoted
-- value, or behind the `/` of a tag, is read as what stands before an attribute name. `<!` begins no doctype and no
-- CDATA section, but a bogus comment where no two dashes follow.
use Rattle.std.specs.Char.{is_ascii_alphabetic, is_ascii_whitespace, to_ascii_lowercase}
use Rattle.std.specs.Prelude.{ℕ, Bool, true, false, ◌&&◌, ◌||◌, ◌==◌, List, [], ◌∷◌, if◌then◌else◌, Option, Some, None}
use Rattle.std.specs.Prelude.{map}
use Rattle.page_spec.specs.declared.kinds.State.{State}
use Rattle.page_spec.specs.declared.kinds.State.TheVariants.{TagOpen, EndTagOpen, MarkupDeclarationOpen}
use Rattle.page_spec.specs.declared.kinds.State.TheVariants.{MarkupDeclarationDash, BogusComment, CommentStart}
use Rattle.page_spec.specs.declared.kinds.State.TheVariants.{CommentStartDash, Comment, CommentEndDash, CommentEnd}
use Rattle.page_spec.specs.declared.kinds.State.TheVariants.{CommentEndBang, TagName, BeforeAttributeName}
use Rattle.page_spec.specs.declared.kinds.State.TheVariants.{AttributeName, AfterAttributeName, BeforeAttributeValue}
use Rattle.page_spec.specs.declared.kinds.State.TheVariants.{AttributeValueDoubleQuoted, AttributeValueSingleQuoted}
use Rattle.page_spec.specs.declared.kinds.State.TheVariants.{AttributeValueUnquoted}

abbrev pub lowered : List ℕ → List ℕ
lowered = map to_ascii_lowercase

abbrev pub may_end : State → Bool
may_end TagOpen = false
may_end Comment = false
may_end CommentEndDash = false
may_end AttributeValueDoubleQuoted = false
may_end AttributeValueSingleQuoted = false
may_end other = true

abbrev pub is_last : State → ℕ → Bool
is_last state b = b == 62 && may_end state

abbrev pub next_state : State → ℕ → State
next_state TagOpen b =
    if is_ascii_alphabetic b then TagName
    else if b == 47 then EndTagOpen
    else if b == 33 then MarkupDeclarationOpen
    else BogusComment
next_state EndTagOpen b = if is_ascii_alphabetic b then TagName else BogusComment
next_state MarkupDeclarationOpen b = if b == 45 then MarkupDeclarationDash else BogusComment
next_state MarkupDeclarationDash b = if b == 45 then CommentStart else BogusComment
next_state BogusComment b = BogusComment
next_state CommentStart b = if b == 45 then CommentStartDash else Comment
next_state CommentStartDash b = if b == 45 then CommentEnd else Comment
next_state Comment b = if b == 45 then CommentEndDash else Comment
next_state CommentEndDash b = if b == 45 then CommentEnd else Comment
next_state CommentEnd b = if b == 33 then CommentEndBang else if b == 45 then CommentEnd else Comment
next_state CommentEndBang b = if b == 45 then CommentEndDash else Comment
next_state TagName b = if is_ascii_whitespace b || b == 47 then BeforeAttributeName else TagName
next_state BeforeAttributeName b = if is_ascii_whitespace b || b == 47 then BeforeAttributeName else AttributeName
next_state AttributeName b =
    if b == 61 then BeforeAttributeValue
    else if b == 47 then BeforeAttributeName
    else if is_ascii_whitespace b then AfterAttributeName
    else AttributeName
next_state AfterAttributeName b =
    if b == 61 then BeforeAttributeValue
    else if b == 47 then BeforeAttributeName
    else if is_ascii_whitespace b then AfterAttributeName
    else AttributeName
next_state BeforeAttributeValue b =
    if b == 34 then AttributeValueDoubleQuoted
    else if b == 39 then AttributeValueSingleQuoted
    else if is_ascii_whitespace b then BeforeAttributeValue
    else AttributeValueUnquoted
next_state AttributeValueDoubleQuoted b = if b == 34 then BeforeAttributeName else AttributeValueDoubleQuoted
next_state AttributeValueSingleQuoted b = if b == 39 then BeforeAttributeName else AttributeValueSingleQuoted
next_state AttributeValueUnquoted b = if is_ascii_whitespace b then BeforeAttributeName else AttributeValueUnquoted

abbrev pub behind_markup : State → List ℕ → Option (List ℕ)
behind_markup state [] = None
behind_markup state (b ∷ rest) = if is_last state b then Some rest else behind_markup (next_state state b) rest
