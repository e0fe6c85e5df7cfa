use Rattle.std.proofs.Common.{refl}
use Rattle.grammar_table.proofs.NodeForms.{forms}
use Rattle.grammar_spec.specs.Statements.{body as body_form}
use Rattle.grammar_table.proofs.table.body.Goals as goal

pub returns-in-Module : goal.returns-in-Module
unfolding body_form
returns-in-Module c = rw c.in-Module.is (simp forms refl)

pub returns-in-Item : goal.returns-in-Item
unfolding body_form
returns-in-Item c = rw c.in-Item.is (simp forms refl)

pub returns-in-Import : goal.returns-in-Import
unfolding body_form
returns-in-Import c = rw c.in-Import.is (simp forms refl)

pub returns-in-Clause : goal.returns-in-Clause
unfolding body_form
returns-in-Clause c = rw c.in-Clause.is (simp forms refl)

pub returns-in-Star : goal.returns-in-Star
unfolding body_form
returns-in-Star c = rw c.in-Star.is (simp forms refl)

pub returns-in-Named : goal.returns-in-Named
unfolding body_form
returns-in-Named c = rw c.in-Named.is (simp forms refl)

pub returns-in-Word : goal.returns-in-Word
unfolding body_form
returns-in-Word c = rw c.in-Word.is (simp forms refl)

pub returns-in-With : goal.returns-in-With
unfolding body_form
returns-in-With c = rw c.in-With.is (simp forms refl)

pub returns-in-Export : goal.returns-in-Export
unfolding body_form
returns-in-Export c = rw c.in-Export.is (simp forms refl)

pub returns-in-Vars : goal.returns-in-Vars
unfolding body_form
returns-in-Vars c = rw c.in-Vars.is (simp forms refl)

pub returns-in-Var : goal.returns-in-Var
unfolding body_form
returns-in-Var c = rw c.in-Var.is (simp forms refl)

pub returns-in-Init : goal.returns-in-Init
unfolding body_form
returns-in-Init c = rw c.in-Init.is (simp forms refl)

pub returns-in-Binding : goal.returns-in-Binding
unfolding body_form
returns-in-Binding c = rw c.in-Binding.is (simp forms refl)

pub returns-in-Elem : goal.returns-in-Elem
unfolding body_form
returns-in-Elem c = rw c.in-Elem.is (simp forms refl)

pub returns-in-BindProp : goal.returns-in-BindProp
unfolding body_form
returns-in-BindProp c = rw c.in-BindProp.is (simp forms refl)

pub returns-in-Short : goal.returns-in-Short
unfolding body_form
returns-in-Short c = rw c.in-Short.is (simp forms refl)

pub returns-in-Key : goal.returns-in-Key
unfolding body_form
returns-in-Key c = rw c.in-Key.is (simp forms refl)

pub returns-in-Function : goal.returns-in-Function
unfolding body_form
returns-in-Function c = rw c.in-Function.is (simp forms refl)

pub returns-in-Params : goal.returns-in-Params
unfolding body_form
returns-in-Params c = rw c.in-Params.is (simp forms refl)

pub returns-in-Class : goal.returns-in-Class
unfolding body_form
returns-in-Class c = rw c.in-Class.is (simp forms refl)

pub returns-in-Member : goal.returns-in-Member
unfolding body_form
returns-in-Member c = rw c.in-Member.is (simp forms refl)

pub returns-in-Modifier : goal.returns-in-Modifier
unfolding body_form
returns-in-Modifier c = rw c.in-Modifier.is (simp forms refl)

pub returns-in-Block : goal.returns-in-Block
unfolding body_form
returns-in-Block c = rw c.in-Block.is (simp forms refl)

pub returns-in-Statement : goal.returns-in-Statement
unfolding body_form
returns-in-Statement c = rw c.in-Statement.is (simp forms refl)

pub returns-in-Condition : goal.returns-in-Condition
unfolding body_form
returns-in-Condition c = rw c.in-Condition.is (simp forms refl)

pub returns-in-Rest : goal.returns-in-Rest
unfolding body_form
returns-in-Rest c = rw c.in-Rest.is (simp forms refl)

pub returns-in-Head : goal.returns-in-Head
unfolding body_form
returns-in-Head c = rw c.in-Head.is (simp forms refl)

pub returns-in-Next : goal.returns-in-Next
unfolding body_form
returns-in-Next c = rw c.in-Next.is (simp forms refl)

pub returns-in-Case : goal.returns-in-Case
unfolding body_form
returns-in-Case c = rw c.in-Case.is (simp forms refl)

pub returns-in-End : goal.returns-in-End
unfolding body_form
returns-in-End c = rw c.in-End.is (simp forms refl)

pub returns-in-Expr : goal.returns-in-Expr
unfolding body_form
returns-in-Expr c = rw c.in-Expr.is (simp forms refl)

pub returns-in-Assign : goal.returns-in-Assign
unfolding body_form
returns-in-Assign c = rw c.in-Assign.is (simp forms refl)

pub returns-in-Arrow : goal.returns-in-Arrow
unfolding body_form
returns-in-Arrow c = rw c.in-Arrow.is (simp forms refl)

pub returns-in-Cond : goal.returns-in-Cond
unfolding body_form
returns-in-Cond c = rw c.in-Cond.is (simp forms refl)

pub returns-in-Bin : goal.returns-in-Bin
unfolding body_form
returns-in-Bin c = rw c.in-Bin.is (simp forms refl)

pub returns-in-Unary : goal.returns-in-Unary
unfolding body_form
returns-in-Unary c = rw c.in-Unary.is (simp forms refl)

pub returns-in-Left : goal.returns-in-Left
unfolding body_form
returns-in-Left c = rw c.in-Left.is (simp forms refl)

pub returns-in-Tail : goal.returns-in-Tail
unfolding body_form
returns-in-Tail c = rw c.in-Tail.is (simp forms refl)

pub returns-in-Args : goal.returns-in-Args
unfolding body_form
returns-in-Args c = rw c.in-Args.is (simp forms refl)

pub returns-in-Spread : goal.returns-in-Spread
unfolding body_form
returns-in-Spread c = rw c.in-Spread.is (simp forms refl)

pub returns-in-Primary : goal.returns-in-Primary
unfolding body_form
returns-in-Primary c = rw c.in-Primary.is (simp forms refl)

pub returns-in-Prop : goal.returns-in-Prop
unfolding body_form
returns-in-Prop c = rw c.in-Prop.is (simp forms refl)

pub returns-in-Template : goal.returns-in-Template
unfolding body_form
returns-in-Template c = rw c.in-Template.is (simp forms refl)
