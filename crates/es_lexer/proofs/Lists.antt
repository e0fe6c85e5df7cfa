-- All tokens of a text.
use Rattle.std.proofs.Common.{◌≡◌, ◌<◌, ℕ, List, [], ◌∷◌, ◌++◌, length, map, reverse, Option, Some, None, Result, Ok, Err, sym, ◌∙◌, ap, subst}
use Rattle.std.proofs.lemmas.Grind.{reverse_onto}
use Rattle.module_spec.specs.declared.token.Token.{Token}
use Rattle.module_spec.specs.declared.token.LexFault.{LexFault}
use Rattle.module_spec.specs.Spellings.{hashbang_rest}
use Rattle.module_spec.specs.Tokens.{Lexeme, Reaches, ReadsTokens, token_of}
use Rattle.module_spec.specs.Tokens.Reaches.{begin, go}
use Rattle.module_spec.specs.Tokens.ReadsTokens.{all, fault}
use Rattle.module_spec.proofs.Suffixes.{next_shorter}
use Rattle.es_lexer.specs.Steps.{NextIs}

-- the tokens so far, by what the lexer is told as
pub record Listing (text : List ℕ) (lexer : List ℕ × List ℕ) (tokens : List Token) : Type 0 where
  pub whole : lexer.0 ≡ text
  pub before : List Lexeme
  pub reached : Reaches text before lexer.1
  pub listed : tokens ≡ reverse (map (token_of (length text)) before)

pub nothing_listed : (text : List ℕ) (lexer : List ℕ × List ℕ) (tokens : List Token) → lexer ≡ (text, hashbang_rest text) → tokens ≡ [] → Listing text lexer tokens
nothing_listed text lexer tokens e f = record { whole = ap (λ (p : List ℕ × List ℕ). p.0) e; before = []; reached = begin (ap (λ (p : List ℕ × List ℕ). p.1) e); listed = f }

-- what a call says, for the tokens so far
pub said : (text : List ℕ) (lexer : List ℕ × List ℕ) (tokens : List Token) (out : Result (Option Token) LexFault) (after : List ℕ) → (l : Listing text lexer tokens) → ((before : List Lexeme) → Reaches lexer.0 before lexer.1 → NextIs lexer.0 before lexer.1 out after) → NextIs text l.before lexer.1 out after
said text lexer tokens out after l next = subst (λ t. NextIs t l.before lexer.1 out after) l.whole (next l.before (subst (λ t. Reaches t l.before lexer.1) (sym l.whole) l.reached))

pub all_listed : (text : List ℕ) (lexer : List ℕ × List ℕ) (tokens : List Token) (after : List ℕ) → (l : Listing text lexer tokens) → NextIs text l.before lexer.1 (Ok None) after → ReadsTokens text (Ok tokens)
all_listed text lexer tokens after l s = all l.reached s.0 (ap (λ ts. Ok ts) l.listed)

pub fault_found : (text : List ℕ) (lexer : List ℕ × List ℕ) (tokens : List Token) (after : List ℕ) (f : LexFault) → (l : Listing text lexer tokens) → NextIs text l.before lexer.1 (Err f) after → ReadsTokens text (Err f)
fault_found text lexer tokens after f l s = fault l.reached s.1 (ap (λ x. Err x) s.2)

pub one_more_listed : (text : List ℕ) (lexer new : List ℕ × List ℕ) (tokens more : List Token) (t : Token) → (l : Listing text lexer tokens) → new.0 ≡ lexer.0 → NextIs text l.before lexer.1 (Ok (Some t)) new.1 → more ≡ tokens ++ t ∷ [] → Listing text new more
one_more_listed text lexer new tokens more t l e s f =
    record {
      whole = e ∙ l.whole;
      before = s.lexeme ∷ l.before;
      reached = go l.reached s.next;
      listed = f ∙ (ap (λ (ts : List Token). ts ++ t ∷ []) l.listed ∙ (ap (λ (u : Token). reverse (map (token_of (length text)) l.before) ++ u ∷ []) s.told ∙ sym (reverse_onto (map (token_of (length text)) l.before) (token_of (length text) s.lexeme) [])));
    }

pub listing_shorter : (text : List ℕ) (lexer : List ℕ × List ℕ) (tokens : List Token) (after : List ℕ) (t : Token) → (l : Listing text lexer tokens) → NextIs text l.before lexer.1 (Ok (Some t)) after → length after < length lexer.1
listing_shorter text lexer tokens after t l s = next_shorter l.before lexer.1 after s.lexeme s.next
