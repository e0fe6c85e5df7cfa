-- Worked examples of tokens.
use Rattle.std.specs.Prelude.{[], ◌∷◌, Ok, Err, codes}
use Rattle.std.proofs.Common.{refl}
use Rattle.module_spec.specs.declared.token.Kind.TheVariants as kinds
use Rattle.module_spec.specs.declared.token.Mark.TheVariants as marks
use Rattle.module_spec.specs.declared.token.Sort.TheVariants as sorts
use Rattle.module_spec.specs.declared.token.LexKind.TheVariants.{Unreadable}
use Rattle.module_spec.specs.Characters.{name_size}
use Rattle.module_spec.specs.Spellings.{blank_rest}
use Rattle.module_spec.specs.Sorts.{word}
use Rattle.module_spec.specs.Examples.{span, TokenExamples}
use Rattle.module_spec.proofs.examples.DepthExamples.{as_many_as_may, one_too_many}
use Rattle.module_spec.specs.Tokens.{Lexeme, lexeme, piece, next_at, Reaches, ReadsTokens}
use Rattle.module_spec.specs.Tokens.Balanced.{same, neither, closed}
use Rattle.module_spec.specs.Tokens.Outside.{first, later}
use Rattle.module_spec.specs.Tokens.Innermost.{none, bracket}
use Rattle.module_spec.specs.Tokens.Slash.{start, token}
use Rattle.module_spec.specs.Tokens.Skips.{stop, more}
use Rattle.module_spec.specs.Tokens.IsNext.{next}
use Rattle.module_spec.specs.Tokens.Reaches.{begin, go}
use Rattle.module_spec.specs.Tokens.ReadsTokens.{all, fault}

-- ---- one token behind others

empty_reached_0 : Reaches (codes "") [] []
empty_reached_0 = begin refl

empty : ReadsTokens (codes "") (Ok ([]))
unfolding name_size blank_rest word piece next_at
empty = all empty_reached_0 (next start (none same) (stop refl) refl) refl

abbrev regex_1 : Lexeme
regex_1 = lexeme sorts.Name (codes "x=/b/c") (codes "=/b/c")

abbrev regex_2 : Lexeme
regex_2 = lexeme (sorts.Punctuator marks.Operator) (codes "=/b/c") (codes "/b/c")

abbrev regex_3 : Lexeme
regex_3 = lexeme sorts.Regex (codes "/b/c") []

regex_reached_0 : Reaches (codes "x=/b/c") [] (codes "x=/b/c")
regex_reached_0 = begin refl

regex_reached_1 : Reaches (codes "x=/b/c") (regex_1 ∷ []) (codes "=/b/c")
unfolding name_size blank_rest word piece next_at
regex_reached_1 = go regex_reached_0 (next start (none same) (stop refl) refl)

regex_reached_2 : Reaches (codes "x=/b/c") (regex_2 ∷ regex_1 ∷ []) (codes "/b/c")
unfolding name_size blank_rest word piece next_at
regex_reached_2 = go regex_reached_1 (next (token (none same) refl) (none (neither refl refl same)) (stop refl) refl)

regex_reached_3 : Reaches (codes "x=/b/c") (regex_3 ∷ regex_2 ∷ regex_1 ∷ []) []
unfolding name_size blank_rest word piece next_at
regex_reached_3 = go regex_reached_2 (next (token (none (neither refl refl same)) refl) (none (neither refl refl (neither refl refl same))) (stop refl) refl)

regex : ReadsTokens (codes "x=/b/c") (Ok (span kinds.Name 0 1 ∷ span kinds.Punctuator 1 2 ∷ span kinds.Regex 2 6 ∷ []))
unfolding name_size blank_rest word piece next_at
regex = all regex_reached_3 (next (token (none (neither refl refl (neither refl refl same))) refl) (none (neither refl refl (neither refl refl (neither refl refl same)))) (stop refl) refl) refl

abbrev division_1 : Lexeme
division_1 = lexeme sorts.Name (codes "a /b/ c") (codes " /b/ c")

abbrev division_2 : Lexeme
division_2 = lexeme (sorts.Punctuator marks.Operator) (codes "/b/ c") (codes "b/ c")

abbrev division_3 : Lexeme
division_3 = lexeme sorts.Name (codes "b/ c") (codes "/ c")

abbrev division_4 : Lexeme
division_4 = lexeme (sorts.Punctuator marks.Operator) (codes "/ c") (codes " c")

abbrev division_5 : Lexeme
division_5 = lexeme sorts.Name (codes "c") []

division_reached_0 : Reaches (codes "a /b/ c") [] (codes "a /b/ c")
division_reached_0 = begin refl

division_reached_1 : Reaches (codes "a /b/ c") (division_1 ∷ []) (codes " /b/ c")
unfolding name_size blank_rest word piece next_at
division_reached_1 = go division_reached_0 (next start (none same) (stop refl) refl)

division_reached_2 : Reaches (codes "a /b/ c") (division_2 ∷ division_1 ∷ []) (codes "b/ c")
unfolding name_size blank_rest word piece next_at
division_reached_2 = go division_reached_1 (next (token (none same) refl) (none (neither refl refl same)) (more refl (stop refl)) refl)

division_reached_3 : Reaches (codes "a /b/ c") (division_3 ∷ division_2 ∷ division_1 ∷ []) (codes "/ c")
unfolding name_size blank_rest word piece next_at
division_reached_3 = go division_reached_2 (next (token (none (neither refl refl same)) refl) (none (neither refl refl (neither refl refl same))) (stop refl) refl)

division_reached_4 : Reaches (codes "a /b/ c") (division_4 ∷ division_3 ∷ division_2 ∷ division_1 ∷ []) (codes " c")
unfolding name_size blank_rest word piece next_at
division_reached_4 = go division_reached_3 (next (token (none (neither refl refl (neither refl refl same))) refl) (none (neither refl refl (neither refl refl (neither refl refl same)))) (stop refl) refl)

division_reached_5 : Reaches (codes "a /b/ c") (division_5 ∷ division_4 ∷ division_3 ∷ division_2 ∷ division_1 ∷ []) []
unfolding name_size blank_rest word piece next_at
division_reached_5 = go division_reached_4 (next (token (none (neither refl refl (neither refl refl (neither refl refl same)))) refl) (none (neither refl refl (neither refl refl (neither refl refl (neither refl refl same))))) (more refl (stop refl)) refl)

division : ReadsTokens (codes "a /b/ c") (Ok (span kinds.Name 0 1 ∷ span kinds.Punctuator 2 3 ∷ span kinds.Name 3 4 ∷ span kinds.Punctuator 4 5 ∷ span kinds.Name 6 7 ∷ []))
unfolding name_size blank_rest word piece next_at
division = all division_reached_5 (next (token (none (neither refl refl (neither refl refl (neither refl refl (neither refl refl same))))) refl) (none (neither refl refl (neither refl refl (neither refl refl (neither refl refl (neither refl refl same)))))) (stop refl) refl) refl

abbrev brackets_1 : Lexeme
brackets_1 = lexeme sorts.Name (codes "if(a)/b/") (codes "(a)/b/")

abbrev brackets_2 : Lexeme
brackets_2 = lexeme (sorts.Punctuator marks.OpenRound) (codes "(a)/b/") (codes "a)/b/")

abbrev brackets_3 : Lexeme
brackets_3 = lexeme sorts.Name (codes "a)/b/") (codes ")/b/")

abbrev brackets_4 : Lexeme
brackets_4 = lexeme (sorts.Punctuator marks.CloseRound) (codes ")/b/") (codes "/b/")

abbrev brackets_5 : Lexeme
brackets_5 = lexeme sorts.Regex (codes "/b/") []

brackets_reached_0 : Reaches (codes "if(a)/b/") [] (codes "if(a)/b/")
brackets_reached_0 = begin refl

brackets_reached_1 : Reaches (codes "if(a)/b/") (brackets_1 ∷ []) (codes "(a)/b/")
unfolding name_size blank_rest word piece next_at
brackets_reached_1 = go brackets_reached_0 (next start (none same) (stop refl) refl)

brackets_reached_2 : Reaches (codes "if(a)/b/") (brackets_2 ∷ brackets_1 ∷ []) (codes "a)/b/")
unfolding name_size blank_rest word piece next_at
brackets_reached_2 = go brackets_reached_1 (next (token (none same) refl) (none (neither refl refl same)) (stop refl) refl)

brackets_reached_3 : Reaches (codes "if(a)/b/") (brackets_3 ∷ brackets_2 ∷ brackets_1 ∷ []) (codes ")/b/")
unfolding name_size blank_rest word piece next_at
brackets_reached_3 = go brackets_reached_2 (next (token (none (neither refl refl same)) refl) (bracket same refl) (stop refl) refl)

brackets_reached_4 : Reaches (codes "if(a)/b/") (brackets_4 ∷ brackets_3 ∷ brackets_2 ∷ brackets_1 ∷ []) (codes "/b/")
unfolding name_size blank_rest word piece next_at
brackets_reached_4 = go brackets_reached_3 (next (token (bracket same refl) refl) (bracket (neither refl refl same) refl) (stop refl) refl)

brackets_reached_5 : Reaches (codes "if(a)/b/") (brackets_5 ∷ brackets_4 ∷ brackets_3 ∷ brackets_2 ∷ brackets_1 ∷ []) []
unfolding name_size blank_rest word piece next_at
brackets_reached_5 = go brackets_reached_4 (next (token (bracket (neither refl refl same) refl) refl) (none (closed refl refl (neither refl refl same) refl (first refl) (neither refl refl same))) (stop refl) refl)

brackets : ReadsTokens (codes "if(a)/b/") (Ok (span kinds.Name 0 2 ∷ span kinds.Punctuator 2 3 ∷ span kinds.Name 3 4 ∷ span kinds.Punctuator 4 5 ∷ span kinds.Regex 5 8 ∷ []))
unfolding name_size blank_rest word piece next_at
brackets = all brackets_reached_5 (next (token (none (closed refl refl (neither refl refl same) refl (first refl) (neither refl refl same))) refl) (none (neither refl refl (closed refl refl (neither refl refl same) refl (first refl) (neither refl refl same)))) (stop refl) refl) refl

abbrev wrong_closer_1 : Lexeme
wrong_closer_1 = lexeme (sorts.Punctuator marks.OpenRound) (codes "(]") (codes "]")

wrong_closer_reached_0 : Reaches (codes "(]") [] (codes "(]")
wrong_closer_reached_0 = begin refl

wrong_closer_reached_1 : Reaches (codes "(]") (wrong_closer_1 ∷ []) (codes "]")
unfolding name_size blank_rest word piece next_at
wrong_closer_reached_1 = go wrong_closer_reached_0 (next start (none same) (stop refl) refl)

wrong_closer : ReadsTokens (codes "(]") (Err (record { at = 1; kind = Unreadable }))
unfolding name_size blank_rest word piece next_at
wrong_closer = fault wrong_closer_reached_1 (next (token (none same) refl) (bracket same refl) (stop refl) refl) refl

abbrev open_at_end_1 : Lexeme
open_at_end_1 = lexeme (sorts.Punctuator marks.OpenRound) (codes "(") []

open_at_end_reached_0 : Reaches (codes "(") [] (codes "(")
open_at_end_reached_0 = begin refl

open_at_end_reached_1 : Reaches (codes "(") (open_at_end_1 ∷ []) []
unfolding name_size blank_rest word piece next_at
open_at_end_reached_1 = go open_at_end_reached_0 (next start (none same) (stop refl) refl)

open_at_end : ReadsTokens (codes "(") (Err (record { at = 1; kind = Unreadable }))
unfolding name_size blank_rest word piece next_at
open_at_end = fault open_at_end_reached_1 (next (token (none same) refl) (bracket same refl) (stop refl) refl) refl

abbrev unclosed_text_1 : Lexeme
unclosed_text_1 = lexeme sorts.Name (codes "a'b") (codes "'b")

unclosed_text_reached_0 : Reaches (codes "a'b") [] (codes "a'b")
unclosed_text_reached_0 = begin refl

unclosed_text_reached_1 : Reaches (codes "a'b") (unclosed_text_1 ∷ []) (codes "'b")
unfolding name_size blank_rest word piece next_at
unclosed_text_reached_1 = go unclosed_text_reached_0 (next start (none same) (stop refl) refl)

unclosed_text : ReadsTokens (codes "a'b") (Err (record { at = 1; kind = Unreadable }))
unfolding name_size blank_rest word piece next_at
unclosed_text = fault unclosed_text_reached_1 (next (token (none same) refl) (none (neither refl refl same)) (stop refl) refl) refl

abbrev template_1 : Lexeme
template_1 = lexeme (sorts.Punctuator marks.OpenRound) (codes "(`${a}${b}`)") (codes "`${a}${b}`)")

abbrev template_2 : Lexeme
template_2 = lexeme sorts.TemplateHead (codes "`${a}${b}`)") (codes "a}${b}`)")

abbrev template_3 : Lexeme
template_3 = lexeme sorts.Name (codes "a}${b}`)") (codes "}${b}`)")

abbrev template_4 : Lexeme
template_4 = lexeme sorts.TemplateMiddle (codes "}${b}`)") (codes "b}`)")

abbrev template_5 : Lexeme
template_5 = lexeme sorts.Name (codes "b}`)") (codes "}`)")

abbrev template_6 : Lexeme
template_6 = lexeme sorts.TemplateTail (codes "}`)") (codes ")")

abbrev template_7 : Lexeme
template_7 = lexeme (sorts.Punctuator marks.CloseRound) (codes ")") []

template_reached_0 : Reaches (codes "(`${a}${b}`)") [] (codes "(`${a}${b}`)")
template_reached_0 = begin refl

template_reached_1 : Reaches (codes "(`${a}${b}`)") (template_1 ∷ []) (codes "`${a}${b}`)")
unfolding name_size blank_rest word piece next_at
template_reached_1 = go template_reached_0 (next start (none same) (stop refl) refl)

template_reached_2 : Reaches (codes "(`${a}${b}`)") (template_2 ∷ template_1 ∷ []) (codes "a}${b}`)")
unfolding name_size blank_rest word piece next_at
template_reached_2 = go template_reached_1 (next (token (none same) refl) (bracket same refl) (stop refl) refl)

template_reached_3 : Reaches (codes "(`${a}${b}`)") (template_3 ∷ template_2 ∷ template_1 ∷ []) (codes "}${b}`)")
unfolding name_size blank_rest word piece next_at
template_reached_3 = go template_reached_2 (next (token (bracket same refl) refl) (bracket same refl) (stop refl) refl)

template_reached_4 : Reaches (codes "(`${a}${b}`)") (template_4 ∷ template_3 ∷ template_2 ∷ template_1 ∷ []) (codes "b}`)")
unfolding name_size blank_rest word piece next_at
template_reached_4 = go template_reached_3 (next (token (bracket same refl) refl) (bracket (neither refl refl same) refl) (stop refl) refl)

template_reached_5 : Reaches (codes "(`${a}${b}`)") (template_5 ∷ template_4 ∷ template_3 ∷ template_2 ∷ template_1 ∷ []) (codes "}`)")
unfolding name_size blank_rest word piece next_at
template_reached_5 = go template_reached_4 (next (token (bracket (neither refl refl same) refl) refl) (bracket same refl) (stop refl) refl)

template_reached_6 : Reaches (codes "(`${a}${b}`)") (template_6 ∷ template_5 ∷ template_4 ∷ template_3 ∷ template_2 ∷ template_1 ∷ []) (codes ")")
unfolding name_size blank_rest word piece next_at
template_reached_6 = go template_reached_5 (next (token (bracket same refl) refl) (bracket (neither refl refl same) refl) (stop refl) refl)

template_reached_7 : Reaches (codes "(`${a}${b}`)") (template_7 ∷ template_6 ∷ template_5 ∷ template_4 ∷ template_3 ∷ template_2 ∷ template_1 ∷ []) []
unfolding name_size blank_rest word piece next_at
template_reached_7 = go template_reached_6 (next (token (bracket (neither refl refl same) refl) refl) (bracket (closed refl refl (neither refl refl same) refl (later refl (neither refl refl same) refl (first refl)) same) refl) (stop refl) refl)

template : ReadsTokens (codes "(`${a}${b}`)") (Ok (span kinds.Punctuator 0 1 ∷ span kinds.TemplateHead 1 4 ∷ span kinds.Name 4 5 ∷ span kinds.TemplateMiddle 5 8 ∷ span kinds.Name 8 9 ∷ span kinds.TemplateTail 9 11 ∷ span kinds.Punctuator 11 12 ∷ []))
unfolding name_size blank_rest word piece next_at
template = all template_reached_7 (next (token (bracket (closed refl refl (neither refl refl same) refl (later refl (neither refl refl same) refl (first refl)) same) refl) refl) (none (closed refl refl (closed refl refl (neither refl refl same) refl (later refl (neither refl refl same) refl (first refl)) same) refl (first refl) same)) (stop refl) refl) refl

pub token_examples : TokenExamples
token_examples = record { empty = empty; regex = regex; division = division; brackets = brackets; wrong_closer = wrong_closer; open_at_end = open_at_end; unclosed_text = unclosed_text; template = template; most_open = as_many_as_may 4096 refl; too_deep = one_too_many 4096 refl }
