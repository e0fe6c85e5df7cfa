use Rattle.grammar_table.specs.NodeForms.{form_of}
use Rattle.es_grammar.specs.Turning.{jobs_of, state_of}
use Rattle.es_grammar.proofs.Absences.{passes_or, passes_maybe, passes_many, passes_call, leads_or, leads_maybe, leads_many, leads_call, enter_leads}
use Rattle.es_grammar.proofs.reader.Reader.open.Goals as goal

pub returns-then-lacks-clause-stands : goal.returns-then-lacks-clause-stands
returns-then-lacks-clause-stands c = passes_or c.in-Or.first c.in-Or.second c.in-Or.is c.if-lacks.ensures

pub returns-then-lacks-clause-turns : goal.returns-then-lacks-clause-turns
returns-then-lacks-clause-turns c =
    leads_or c.args.tokens.now c.args.self.now.context c.args.self.now.at (jobs_of c.args.self.now) c.in-Or.first c.in-Or.second c.in-Or.is
    c.if-lacks.ensures

pub returns-then-lacks-2-clause-stands : goal.returns-then-lacks-2-clause-stands
returns-then-lacks-2-clause-stands c = passes_maybe c.in-Maybe.inner c.in-Maybe.is c.if-lacks-2.ensures

pub returns-then-lacks-2-clause-turns : goal.returns-then-lacks-2-clause-turns
returns-then-lacks-2-clause-turns c =
    leads_maybe c.args.tokens.now c.args.self.now.context c.args.self.now.at (jobs_of c.args.self.now) c.in-Maybe.inner c.in-Maybe.is c.if-lacks-2.ensures

pub returns-then-lacks-3-clause-stands : goal.returns-then-lacks-3-clause-stands
returns-then-lacks-3-clause-stands c = passes_many c.in-Many.inner c.in-Many.is c.if-lacks-3.ensures

pub returns-then-lacks-3-clause-turns : goal.returns-then-lacks-3-clause-turns
returns-then-lacks-3-clause-turns c =
    leads_many c.args.tokens.now c.args.self.now.context c.args.self.now.at (jobs_of c.args.self.now) c.in-Many.inner c.in-Many.is c.if-lacks-3.ensures

pub returns-else-lacks-clause-turns : goal.returns-else-lacks-clause-turns
returns-else-lacks-clause-turns c =
    enter_leads c.args.tokens.now (jobs_of c.args.self.now) c.args.self.now.context c.args.self.now.at (form_of c.args.node.now) (state_of c.enter.new.self) c.enter.result c.enter.ensures.turns

pub returns-else-lacks-2-clause-turns : goal.returns-else-lacks-2-clause-turns
returns-else-lacks-2-clause-turns c =
    enter_leads c.args.tokens.now (jobs_of c.args.self.now) c.args.self.now.context c.args.self.now.at (form_of c.args.node.now) (state_of c.enter-in-Maybe.new.self) c.enter-in-Maybe.result c.enter-in-Maybe.ensures.turns

pub returns-else-lacks-3-clause-turns : goal.returns-else-lacks-3-clause-turns
returns-else-lacks-3-clause-turns c =
    enter_leads c.args.tokens.now (jobs_of c.args.self.now) c.args.self.now.context c.args.self.now.at (form_of c.args.node.now) (state_of c.enter-in-Many.new.self) c.enter-in-Many.result c.enter-in-Many.ensures.turns

pub returns-then-begins_none-clause-stands : goal.returns-then-begins_none-clause-stands
returns-then-begins_none-clause-stands c = passes_call c.in-Call.rule c.in-Call.is c.if-begins_none.ensures

pub returns-then-begins_none-clause-turns : goal.returns-then-begins_none-clause-turns
returns-then-begins_none-clause-turns c =
    leads_call c.args.tokens.now c.args.self.now.context c.args.self.now.at (jobs_of c.args.self.now) c.in-Call.rule c.in-Call.is
    c.if-begins_none.ensures

pub returns-else-begins_none-clause-turns : goal.returns-else-begins_none-clause-turns
returns-else-begins_none-clause-turns c =
    enter_leads c.args.tokens.now (jobs_of c.args.self.now) c.args.self.now.context c.args.self.now.at (form_of c.args.node.now) (state_of c.enter-in-Call.new.self) c.enter-in-Call.result c.enter-in-Call.ensures.turns

pub returns-in_default : goal.returns-in_default
returns-in_default c =
    record {
      stands = c.enter-in_default.ensures.stands;
      turns = enter_leads c.args.tokens.now (jobs_of c.args.self.now) c.args.self.now.context c.args.self.now.at (form_of c.args.node.now) (state_of c.enter-in_default.new.self) c.enter-in_default.result c.enter-in_default.ensures.turns;
    }
