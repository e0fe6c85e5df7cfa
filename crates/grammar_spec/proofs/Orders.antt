-- No rule leads to itself without a token: the rules have an order, and what a rule reads before it takes one is lower.
use Rattle.std.proofs.Common.{◌≡◌, ◌≤◌, ℕ, Bool, true, false, not, ◌&&◌, ◌||◌, refl, nat_lt, arith}
use Rattle.std.proofs.lemmas.Bool.Decides.{nat_tests}
use Rattle.grammar_spec.specs.declared.names.Rule.{Rule}
use Rattle.grammar_spec.specs.declared.names.Rule.TheVariants as rules
use Rattle.grammar_spec.specs.Forms.{Form, quoted, one, ahead, ◌▸◌, ◌∣◌, maybe, many, rule, asks, nested, headed}
use Rattle.grammar_spec.specs.Statements.{body}

-- the rule may match and take nothing
abbrev pub rule_stays : Rule → Bool
rule_stays rules.Module = true
rule_stays rules.Item = false
rule_stays rules.Import = false
rule_stays rules.Clause = false
rule_stays rules.Star = false
rule_stays rules.Named = false
rule_stays rules.Word = false
rule_stays rules.With = false
rule_stays rules.Export = false
rule_stays rules.Vars = false
rule_stays rules.Var = false
rule_stays rules.Init = false
rule_stays rules.Binding = false
rule_stays rules.Elem = false
rule_stays rules.BindProp = false
rule_stays rules.Short = false
rule_stays rules.Key = false
rule_stays rules.Function = false
rule_stays rules.Params = false
rule_stays rules.Class = false
rule_stays rules.Member = false
rule_stays rules.Modifier = false
rule_stays rules.Block = false
rule_stays rules.Statement = false
rule_stays rules.Condition = false
rule_stays rules.Rest = false
rule_stays rules.Head = false
rule_stays rules.Next = false
rule_stays rules.Case = false
rule_stays rules.End = true
rule_stays rules.Expr = false
rule_stays rules.Assign = false
rule_stays rules.Arrow = false
rule_stays rules.Cond = false
rule_stays rules.Bin = false
rule_stays rules.Unary = false
rule_stays rules.Left = false
rule_stays rules.Tail = false
rule_stays rules.Args = false
rule_stays rules.Spread = false
rule_stays rules.Primary = false
rule_stays rules.Prop = false
rule_stays rules.Template = false

abbrev pub can_stay : Form → Bool
can_stay (quoted word) = false
can_stay (one asked) = false
can_stay (ahead guard) = true
can_stay (a ▸ b) = can_stay a && can_stay b
can_stay (a ∣ b) = can_stay a || can_stay b
can_stay (maybe a) = true
can_stay (many a) = true
can_stay (rule r) = rule_stays r
can_stay (asks a) = can_stay a
can_stay (nested a) = can_stay a
can_stay (headed a) = can_stay a

pub body_stays : (r : Rule) → can_stay (body r) ≡ rule_stays r
unfolding body
body_stays rules.Module = refl
body_stays rules.Item = refl
body_stays rules.Import = refl
body_stays rules.Clause = refl
body_stays rules.Star = refl
body_stays rules.Named = refl
body_stays rules.Word = refl
body_stays rules.With = refl
body_stays rules.Export = refl
body_stays rules.Vars = refl
body_stays rules.Var = refl
body_stays rules.Init = refl
body_stays rules.Binding = refl
body_stays rules.Elem = refl
body_stays rules.BindProp = refl
body_stays rules.Short = refl
body_stays rules.Key = refl
body_stays rules.Function = refl
body_stays rules.Params = refl
body_stays rules.Class = refl
body_stays rules.Member = refl
body_stays rules.Modifier = refl
body_stays rules.Block = refl
body_stays rules.Statement = refl
body_stays rules.Condition = refl
body_stays rules.Rest = refl
body_stays rules.Head = refl
body_stays rules.Next = refl
body_stays rules.Case = refl
body_stays rules.End = refl
body_stays rules.Expr = refl
body_stays rules.Assign = refl
body_stays rules.Arrow = refl
body_stays rules.Cond = refl
body_stays rules.Bin = refl
body_stays rules.Unary = refl
body_stays rules.Left = refl
body_stays rules.Tail = refl
body_stays rules.Args = refl
body_stays rules.Spread = refl
body_stays rules.Primary = refl
body_stays rules.Prop = refl
body_stays rules.Template = refl

abbrev pub order : Rule → ℕ
order rules.Module = 10
order rules.Item = 9
order rules.Import = 0
order rules.Clause = 1
order rules.Star = 0
order rules.Named = 0
order rules.Word = 0
order rules.With = 0
order rules.Export = 0
order rules.Vars = 0
order rules.Var = 1
order rules.Init = 0
order rules.Binding = 0
order rules.Elem = 1
order rules.BindProp = 1
order rules.Short = 0
order rules.Key = 0
order rules.Function = 0
order rules.Params = 0
order rules.Class = 0
order rules.Member = 1
order rules.Modifier = 0
order rules.Block = 0
order rules.Statement = 8
order rules.Condition = 0
order rules.Rest = 8
order rules.Head = 8
order rules.Next = 0
order rules.Case = 0
order rules.End = 0
order rules.Expr = 7
order rules.Assign = 6
order rules.Arrow = 1
order rules.Cond = 5
order rules.Bin = 4
order rules.Unary = 3
order rules.Left = 2
order rules.Tail = 1
order rules.Args = 0
order rules.Spread = 7
order rules.Primary = 1
order rules.Prop = 1
order rules.Template = 0

-- what the form reads before it takes a token are rules lower than this
abbrev pub below : ℕ → Form → Bool
below k (quoted word) = true
below k (one asked) = true
below k (ahead guard) = true
below k (a ▸ b) = below k a && (not (can_stay a) || below k b)
below k (a ∣ b) = below k a && below k b
below k (maybe a) = below k a
below k (many a) = below k a
below k (rule r) = nat_lt (order r) k
below k (asks a) = below k a
below k (nested a) = below k a
below k (headed a) = below k a

pub body_below : (r : Rule) → below (order r) (body r) ≡ true
unfolding body
body_below rules.Module = refl
body_below rules.Item = refl
body_below rules.Import = refl
body_below rules.Clause = refl
body_below rules.Star = refl
body_below rules.Named = refl
body_below rules.Word = refl
body_below rules.With = refl
body_below rules.Export = refl
body_below rules.Vars = refl
body_below rules.Var = refl
body_below rules.Init = refl
body_below rules.Binding = refl
body_below rules.Elem = refl
body_below rules.BindProp = refl
body_below rules.Short = refl
body_below rules.Key = refl
body_below rules.Function = refl
body_below rules.Params = refl
body_below rules.Class = refl
body_below rules.Member = refl
body_below rules.Modifier = refl
body_below rules.Block = refl
body_below rules.Statement = refl
body_below rules.Condition = refl
body_below rules.Rest = refl
body_below rules.Head = refl
body_below rules.Next = refl
body_below rules.Case = refl
body_below rules.End = refl
body_below rules.Expr = refl
body_below rules.Assign = refl
body_below rules.Arrow = refl
body_below rules.Cond = refl
body_below rules.Bin = refl
body_below rules.Unary = refl
body_below rules.Left = refl
body_below rules.Tail = refl
body_below rules.Args = refl
body_below rules.Spread = refl
body_below rules.Primary = refl
body_below rules.Prop = refl
body_below rules.Template = refl

-- higher than all
abbrev pub highest : ℕ
highest = 11

rule_below : (r : Rule) → nat_lt (order r) highest ≡ true
rule_below rules.Module = refl
rule_below rules.Item = refl
rule_below rules.Import = refl
rule_below rules.Clause = refl
rule_below rules.Star = refl
rule_below rules.Named = refl
rule_below rules.Word = refl
rule_below rules.With = refl
rule_below rules.Export = refl
rule_below rules.Vars = refl
rule_below rules.Var = refl
rule_below rules.Init = refl
rule_below rules.Binding = refl
rule_below rules.Elem = refl
rule_below rules.BindProp = refl
rule_below rules.Short = refl
rule_below rules.Key = refl
rule_below rules.Function = refl
rule_below rules.Params = refl
rule_below rules.Class = refl
rule_below rules.Member = refl
rule_below rules.Modifier = refl
rule_below rules.Block = refl
rule_below rules.Statement = refl
rule_below rules.Condition = refl
rule_below rules.Rest = refl
rule_below rules.Head = refl
rule_below rules.Next = refl
rule_below rules.Case = refl
rule_below rules.End = refl
rule_below rules.Expr = refl
rule_below rules.Assign = refl
rule_below rules.Arrow = refl
rule_below rules.Cond = refl
rule_below rules.Bin = refl
rule_below rules.Unary = refl
rule_below rules.Left = refl
rule_below rules.Tail = refl
rule_below rules.Args = refl
rule_below rules.Spread = refl
rule_below rules.Primary = refl
rule_below rules.Prop = refl
rule_below rules.Template = refl

-- ---- laws

pub both : (a b : Bool) → a ≡ true → b ≡ true → (a && b) ≡ true
both true b e f = f
both false b e f = e

pub both_first : (a b : Bool) → (a && b) ≡ true → a ≡ true
both_first true b e = refl
both_first false b e = e

pub both_second : (a b : Bool) → (a && b) ≡ true → b ≡ true
both_second true b e = e
both_second false b e = absurd (cc)

pub then_second : (a b : Bool) → (not a || b) ≡ true → a ≡ true → b ≡ true
then_second true b e f = e
then_second false b e f = absurd (cc)

or_then : (a b : Bool) → b ≡ true → (not a || b) ≡ true
or_then true b e = e
or_then false b e = refl

or_same : (a b c : Bool) → (b ≡ true → c ≡ true) → (not a || b) ≡ true → (not a || c) ≡ true
or_same true b c up e = up e
or_same false b c up e = refl

pub higher : (j k : ℕ) (f : Form) → j ≤ k → below j f ≡ true → below k f ≡ true
higher j k (quoted word) up e = refl
higher j k (one asked) up e = refl
higher j k (ahead guard) up e = refl
higher j k (a ▸ b) up e =
    both _ _ (higher j k a up (both_first _ _ e)) (or_same (can_stay a) _ _ (higher j k b up) (both_second (below j a) _ e))
higher j k (a ∣ b) up e =
    both _ _ (higher j k a up (both_first _ _ e)) (higher j k b up (both_second (below j a) _ e))
higher j k (maybe a) up e = higher j k a up e
higher j k (many a) up e = higher j k a up e
higher j k (rule r) up e = grind (arith, nat_tests)
higher j k (asks a) up e = higher j k a up e
higher j k (nested a) up e = higher j k a up e
higher j k (headed a) up e = higher j k a up e

pub all_below : (f : Form) → below highest f ≡ true
all_below (quoted word) = refl
all_below (one asked) = refl
all_below (ahead guard) = refl
all_below (a ▸ b) = both _ _ (all_below a) (or_then (can_stay a) _ (all_below b))
all_below (a ∣ b) = both _ _ (all_below a) (all_below b)
all_below (maybe a) = all_below a
all_below (many a) = all_below a
all_below (rule r) = rule_below r
all_below (asks a) = all_below a
all_below (nested a) = all_below a
all_below (headed a) = all_below a
