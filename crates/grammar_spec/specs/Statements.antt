-- The grammar of a module's statements: what each rule says. After ECMA-262, 13 to 16; own where it differs.
use Rattle.std.specs.Prelude.{codes}
use Prim.Native.String.{String}
use Rattle.grammar_spec.specs.declared.names.Rule.{Rule}
use Rattle.grammar_spec.specs.declared.names.Rule.TheVariants.{Module, Item, Import, Clause, Star, Named, Word, With}
use Rattle.grammar_spec.specs.declared.names.Rule.TheVariants.{Export, Vars, Var, Init, Binding, Elem, BindProp, Short}
use Rattle.grammar_spec.specs.declared.names.Rule.TheVariants.{Key, Function, Params, Class, Member, Modifier, Block}
use Rattle.grammar_spec.specs.declared.names.Rule.TheVariants.{Statement, Condition, Rest, Head, Next, Case, End, Expr}
use Rattle.grammar_spec.specs.declared.names.Rule.TheVariants.{Assign, Arrow, Cond, Bin, Unary, Left, Tail, Args}
use Rattle.grammar_spec.specs.declared.names.Rule.TheVariants.{Spread, Primary, Prop, Template}
use Rattle.grammar_spec.specs.declared.names.Test.TheVariants as test
use Rattle.grammar_spec.specs.declared.names.Guard.TheVariants as guard
use Rattle.grammar_spec.specs.Forms.{Form, quoted, one, ahead, ◌▸◌, ◌∣◌, maybe, many, rule, asks, nested, headed, list}
use Rattle.grammar_spec.specs.Forms.{places}

-- a quoted word
abbrev pub q : String → Form
q word = quoted (codes word)

-- the kinds of tokens
abbrev pub ident : Form
ident = one test.Ident

abbrev pub name : Form
name = one test.Name

abbrev pub private : Form
private = one test.Private

abbrev pub number : Form
number = one test.Number

abbrev pub text : Form
text = one test.Text

abbrev pub same_line : Form
same_line = ahead guard.SameLine

unfoldable pub body : Rule → Form
body Module = many (rule Item) ▸ ahead guard.EndOfText
body Item = ahead guard.ImportDeclaration ▸ rule Import ∣ rule Export ∣ rule Statement
body Import =
    q "import" ▸ (asks text ∣ rule Clause ▸ q "from" ▸ asks text) ▸ maybe (rule With) ▸ rule End
body Clause = rule Star ∣ rule Named ∣ ident ▸ maybe (q "," ▸ (rule Star ∣ rule Named))
body Star = q "*" ▸ q "as" ▸ ident
body Named = q "{" ▸ list (rule Word ▸ maybe (q "as" ▸ rule Word)) ▸ q "}"
body Word = name ∣ text
body With = q "with" ▸ q "{" ▸ list (rule Word ▸ q ":" ▸ text) ▸ q "}"
body Export =
    q "export"
    ▸ (q "*" ▸ maybe (q "as" ▸ rule Word) ▸ q "from" ▸ asks text ▸ maybe (rule With) ▸ rule End
    ∣ rule Named ▸ maybe (q "from" ▸ asks text ▸ maybe (rule With)) ▸ rule End
    ∣ q "default" ▸ (rule Function ∣ rule Class ∣ rule Assign ▸ rule End)
    ∣ rule Vars ▸ rule End ∣ rule Function ∣ rule Class)
body Vars = (q "var" ∣ q "let" ∣ q "const") ▸ rule Var ▸ many (q "," ▸ rule Var)
body Var = rule Binding ▸ maybe (rule Init)
body Init = q "=" ▸ rule Assign
body Binding =
    nested
    (ident ∣ q "[" ▸ places (rule Elem) ▸ q "]" ∣ q "{" ▸ list (rule BindProp) ▸ q "}")
body Elem = q "..." ▸ rule Binding ∣ rule Binding ▸ maybe (rule Init)
body BindProp =
    q "..." ▸ rule Binding ∣ rule Short ∣ rule Key ▸ q ":" ▸ rule Binding ▸ maybe (rule Init)
body Short = ahead guard.Shorthand ▸ ident ▸ maybe (rule Init)
body Key = name ∣ text ∣ number ∣ q "[" ▸ rule Assign ▸ q "]"
body Function =
    maybe (ahead guard.AsyncFunction ▸ q "async")
    ▸ q "function" ▸ maybe (q "*") ▸ maybe ident ▸ rule Params ▸ rule Block
body Params = q "(" ▸ list (rule Elem) ▸ q ")"
body Class =
    q "class"
    ▸ nested (maybe ident ▸ maybe (q "extends" ▸ rule Left) ▸ q "{" ▸ many (rule Member) ▸ q "}")
body Member =
    q ";" ∣ ahead guard.StaticBlock ▸ q "static" ▸ rule Block
    ∣ many (rule Modifier) ▸ maybe (q "*") ▸ (rule Key ∣ private)
    ▸ (rule Params ▸ rule Block ∣ maybe (rule Init) ▸ rule End)
body Modifier = ahead guard.Modifies ▸ (q "get" ∣ q "set" ∣ q "async" ∣ q "static")
body Block = q "{" ▸ many (rule Statement) ▸ q "}"
body Statement =
    nested
    (rule Block ∣ q ";" ∣ rule Vars ▸ rule End ∣ rule Function ∣ rule Class
    ∣ q "if" ▸ rule Condition ▸ rule Statement ▸ maybe (q "else" ▸ rule Statement)
    ∣ q "for" ▸ maybe (q "await") ▸ q "(" ▸ (q ";" ▸ rule Rest ∣ rule Head ▸ rule Next) ▸ q ")" ▸ rule Statement
    ∣ q "while" ▸ rule Condition ▸ rule Statement
    ∣ q "do" ▸ rule Statement ▸ q "while" ▸ rule Condition ▸ maybe (q ";")
    ∣ (q "continue" ∣ q "break") ▸ maybe (same_line ▸ ident) ▸ rule End
    ∣ q "return" ▸ maybe (same_line ▸ rule Expr) ▸ rule End
    ∣ q "throw" ▸ same_line ▸ rule Expr ▸ rule End
    ∣ q "switch" ▸ rule Condition ▸ q "{" ▸ many (rule Case) ▸ q "}"
    ∣ q "try" ▸ rule Block
    ▸ (q "catch" ▸ maybe (q "(" ▸ rule Binding ▸ q ")") ▸ rule Block ▸ maybe (q "finally" ▸ rule Block)
    ∣ q "finally" ▸ rule Block)
    ∣ q "debugger" ▸ rule End
    ∣ ahead guard.Label ▸ ident ▸ q ":" ▸ rule Statement
    ∣ rule Expr ▸ rule End)
body Condition = q "(" ▸ rule Expr ▸ q ")"
body Rest = maybe (rule Expr) ▸ q ";" ▸ maybe (rule Expr)
body Head = headed (rule Vars ∣ rule Expr)
body Next = q "of" ▸ rule Assign ∣ q "in" ▸ rule Expr ∣ q ";" ▸ rule Rest
body Case = (q "case" ▸ rule Expr ∣ q "default") ▸ q ":" ▸ many (rule Statement)
body End = q ";" ∣ ahead guard.BeforeCurly ∣ ahead guard.EndOfText ∣ ahead guard.NewLine
body Expr = rule Assign ▸ many (q "," ▸ rule Assign)
body Assign =
    nested
    (ahead guard.Arrow ▸ rule Arrow ∣ ahead guard.AsyncArrow ▸ q "async" ▸ rule Arrow
    ∣ q "yield" ▸ maybe (same_line ▸ maybe (q "*") ▸ rule Assign)
    ∣ rule Cond ▸ maybe (one test.AssignOp ▸ rule Assign))
body Arrow = (ident ∣ rule Params) ▸ q "=>" ▸ (rule Block ∣ rule Assign)
body Cond = rule Bin ▸ maybe (q "?" ▸ rule Assign ▸ q ":" ▸ rule Assign)
body Bin = rule Unary ▸ many (one test.BinOp ▸ rule Unary)
body Unary =
    nested
    ((q "delete" ∣ q "void" ∣ q "typeof" ∣ q "+" ∣ q "-" ∣ q "~" ∣ q "!" ∣ q "++" ∣ q "--" ∣ q "await") ▸ rule Unary
    ∣ ahead guard.PrivateIn ▸ private
    ∣ rule Left ▸ maybe (same_line ▸ (q "++" ∣ q "--")))
body Left = many (ahead guard.NewOperator ▸ q "new") ▸ rule Primary ▸ many (rule Tail)
body Tail =
    q "." ▸ (name ∣ private) ∣ q "[" ▸ rule Expr ▸ q "]" ∣ rule Args ∣ rule Template
    ∣ q "?." ▸ (name ∣ private ∣ q "[" ▸ rule Expr ▸ q "]" ∣ rule Args ∣ rule Template)
body Args = q "(" ▸ list (rule Spread) ▸ q ")"
body Spread = q "..." ▸ rule Assign ∣ rule Assign
body Primary =
    rule Function ∣ rule Class ∣ ident ∣ q "this" ∣ q "super" ∣ q "null" ∣ q "true" ∣ q "false"
    ∣ number ∣ text ∣ one test.Regex ∣ rule Template ∣ q "(" ▸ rule Expr ▸ q ")"
    ∣ q "[" ▸ places (rule Spread) ▸ q "]" ∣ q "{" ▸ list (rule Prop) ▸ q "}" ∣ q "new" ▸ q "." ▸ name
    ∣ q "import"
    ▸ (q "." ▸ name
    ∣ q "(" ▸ asks (rule Assign) ▸ maybe (one test.Comma ▸ rule Assign) ▸ maybe (q ",") ▸ q ")")
body Prop =
    q "..." ▸ rule Assign ∣ rule Short
    ∣ many (rule Modifier) ▸ maybe (q "*") ▸ rule Key ▸ (rule Params ▸ rule Block ∣ q ":" ▸ rule Assign)
body Template =
    one test.TemplateWhole
    ∣ one test.TemplateHead ▸ rule Expr ▸ many (one test.TemplateMiddle ▸ rule Expr) ▸ one test.TemplateTail
