-- Each text has an outline or a first fault, since it has tokens or a first fault among them.
use Rattle.std.proofs.Common.{◌-◌, ℕ, List, length, reverse, Result, Err, refl}
use Rattle.module_spec.specs.declared.token.Token.{Token}
use Rattle.module_spec.specs.declared.token.LexFault.{LexFault}
use Rattle.module_spec.specs.declared.request.ModuleFault.{ModuleFault}
use Rattle.module_spec.specs.Tokens.{ReadsTokens}
use Rattle.module_spec.specs.Tokens.ReadsTokens.{all as all_tokens, fault as no_tokens}
use Rattle.module_spec.specs.Places.{places}
use Rattle.module_spec.specs.Outlines.{Outline, ReadsOutline, outlined, lexical_fault}
use Rattle.module_spec.specs.Outlines.ReadsOutline.{all, fault}
use Rattle.es_lexer.proofs.Outcomes.{some_tokens}
use Rattle.es_module_parser.specs.Laws.{SomeOutline}

read_so : {text : List ℕ} {out : Result (List Token) LexFault} → ReadsTokens text out → (found : Result Outline ModuleFault) × ReadsOutline text found
read_so {text} (all_tokens {before} x n e) = (outlined (reverse (places (length text) before)), all x n refl)
read_so {text} (no_tokens {left} {kind} x n e) = (Err (lexical_fault (length text - left) kind), fault x n refl)

pub some_outline : SomeOutline
some_outline text = read_so (some_tokens text).1
