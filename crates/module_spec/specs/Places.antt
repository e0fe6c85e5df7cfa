-- The tokens of a module text in their places.
--     placed size before t      the token behind these, in a text of so many bytes
--     places size before      the tokens that were read, the last one first, as they are placed
--     is_word t word, is_mark t mark      the token is this name, this punctuator
--     is_top t      the token is plain, and no bracket is open before it
use Rattle.std.specs.Prelude.{ℕ, Bool, true, false, not, ◌&&◌, ◌==◌, bytes_eq, List, [], ◌∷◌}
use Rattle.module_spec.specs.declared.token.Kind as kinds
use Rattle.module_spec.specs.declared.token.Kind.TheVariants as kind
use Rattle.module_spec.specs.declared.token.Token.{Token}
use Rattle.module_spec.specs.Tokens.{Lexeme, depth, is_property, token_of}

-- a token with its text; whether it is plain, so that no `.` and no `?.` stands before it (ECMA-262, 13.3); and how
-- many brackets are open before it and behind it
pub record Placed : Type 0 where
  pub token : Token
  pub text : List ℕ
  pub plain : Bool
  pub depth : ℕ
  pub behind : ℕ

abbrev pub placed : ℕ → List Lexeme → Lexeme → Placed
placed size before t =
    record {
      token = token_of size t;
      text = t.text;
      plain = not (is_property before);
      depth = depth before;
      behind =
          depth (t ∷ before);
    }

abbrev pub places : ℕ → List Lexeme → List Placed
places size [] = []
places size (t ∷ before) = placed size before t ∷ places size before

-- ---- what a token is to a form

-- the kind is that of names; that of private names is another one
abbrev pub is_name_kind : kinds.Kind → Bool
is_name_kind kind.Name = true
is_name_kind kind.Private = false
is_name_kind kind.Number = false
is_name_kind kind.Text = false
is_name_kind kind.TemplateWhole = false
is_name_kind kind.TemplateHead = false
is_name_kind kind.TemplateMiddle = false
is_name_kind kind.TemplateTail = false
is_name_kind kind.Regex = false
is_name_kind kind.Punctuator = false

-- the kind is that of string literals
abbrev pub is_text_kind : kinds.Kind → Bool
is_text_kind kind.Name = false
is_text_kind kind.Private = false
is_text_kind kind.Number = false
is_text_kind kind.Text = true
is_text_kind kind.TemplateWhole = false
is_text_kind kind.TemplateHead = false
is_text_kind kind.TemplateMiddle = false
is_text_kind kind.TemplateTail = false
is_text_kind kind.Regex = false
is_text_kind kind.Punctuator = false

-- the kind is that of punctuators
abbrev pub is_punctuator_kind : kinds.Kind → Bool
is_punctuator_kind kind.Name = false
is_punctuator_kind kind.Private = false
is_punctuator_kind kind.Number = false
is_punctuator_kind kind.Text = false
is_punctuator_kind kind.TemplateWhole = false
is_punctuator_kind kind.TemplateHead = false
is_punctuator_kind kind.TemplateMiddle = false
is_punctuator_kind kind.TemplateTail = false
is_punctuator_kind kind.Regex = false
is_punctuator_kind kind.Punctuator = true

-- ECMA-262, 12.7
abbrev pub is_name : Placed → Bool
is_name t = is_name_kind t.token.kind

-- ECMA-262, 12.9.4
abbrev pub is_text : Placed → Bool
is_text t = is_text_kind t.token.kind

-- own: a name that is spelled with an escape is no word. ECMA-262, 12.7.2
abbrev pub is_word : Placed → List ℕ → Bool
is_word t word = is_name t && bytes_eq t.text word

-- ECMA-262, 12.8
abbrev pub is_mark : Placed → List ℕ → Bool
is_mark t mark = is_punctuator_kind t.token.kind && bytes_eq t.text mark

-- own: where a declaration may begin
abbrev pub is_top : Placed → Bool
is_top t = t.plain && t.depth == 0
