-- The tokens of a text so far, as they are kept.
use Rattle.std.proofs.Common.{◌≡◌, ◌<◌, ◌≤◌, ℕ, Bool, List, [], ◌∷◌, ◌++◌, All, length, map, reverse, slice_range, Option, Some, None, Result, Ok, Err, refl, sym, ◌∙◌, ap, subst}
use Rattle.std.proofs.lemmas.Grind.{reverse_onto}
use Rattle.std.proofs.lemmas.List.{map-append}
use Rattle.std.proofs.lemmas.List.Elements.{All-nil, All-push}
use Rattle.module_spec.specs.declared.token.Token.{Token}
use Rattle.module_spec.specs.declared.token.LexFault.{LexFault}
use Rattle.module_spec.specs.Spans.{IsSpan}
use Rattle.module_spec.specs.Spellings.{hashbang_rest}
use Rattle.module_spec.specs.Tokens.{Lexeme, Reaches, ReadsTokens, token_of, depth}
use Rattle.module_spec.specs.Tokens.Reaches.{begin, go}
use Rattle.module_spec.specs.Tokens.ReadsTokens.{fault}
use Rattle.module_spec.proofs.Suffixes.{next_shorter}
use Rattle.module_spec.proofs.TokenLaws.{one_reach}
use Rattle.es_lexer.specs.Steps.{NextIs, GivesToken}
use Rattle.grammar_spec.specs.Sights.{Sight, sight, sights, has_line_end, end_of}
use Rattle.grammar_tokens.specs.declared.spot.Spot.{Spot}
use Rattle.grammar_tokens.specs.Spots.{sight_of, IsSpot}
use Rattle.grammar_spots.specs.Making.{sight_at, IsSpotOf}
use Rattle.grammar_spots.specs.Texts.{IsCut, AreSpots, SpotsOf}

-- the tokens so far, by what the lexer is told as, and where the last one ends
pub record SoFar (text : List ℕ) (lexer : List ℕ × List ℕ) (spots : List Spot) (end : ℕ) : Type 0 where
  pub whole : lexer.0 ≡ text
  pub before : List Lexeme
  pub reached : Reaches text before lexer.1
  pub are : AreSpots text before spots
  pub last : end ≡ end_of (length text) before

pub nothing_kept : (text : List ℕ) (lexer : List ℕ × List ℕ) (spots : List Spot) → lexer ≡ (text, hashbang_rest text) → spots ≡ []
    → SoFar text lexer spots 0
nothing_kept text lexer spots e f =
    record {
      whole = ap (λ (p : List ℕ × List ℕ). p.0) e;
      before = [];
      reached = begin (ap (λ (p : List ℕ × List ℕ). p.1) e);
      are = record {
        sights = ap (map (sight_of text)) f;
        kept = subst (λ (z : List Spot). All (IsSpot text) z) (sym f) (All-nil (IsSpot text));
        cut = subst (λ (z : List Spot). All (IsCut text) z) (sym f) (All-nil (IsCut text));
      };
      last = refl;
    }

module _ {text : List ℕ} {lexer : List ℕ × List ℕ} {spots : List Spot} {end : ℕ} where
  -- what a call says, for the tokens so far
  pub said : (out : Result (Option Token) LexFault) (after : List ℕ) → (l : SoFar text lexer spots end)
      → ((before : List Lexeme) → Reaches lexer.0 before lexer.1 → NextIs lexer.0 before lexer.1 out after)
      → NextIs text l.before lexer.1 out after
  said out after l next =
      subst (λ t. NextIs t l.before lexer.1 out after) l.whole
      (next l.before (subst (λ t. Reaches t l.before lexer.1) (sym l.whole) l.reached))

  pub all_kept : (after : List ℕ) → (l : SoFar text lexer spots end) → NextIs text l.before lexer.1 (Ok None) after
      → SpotsOf text spots
  all_kept after l s = record { before = l.before; rest = lexer.1; reached = l.reached; ends = s.0; are = l.are }

  pub fault_found : (after : List ℕ) (f : LexFault) → (l : SoFar text lexer spots end)
      → NextIs text l.before lexer.1 (Err f) after → ReadsTokens text (Err f)
  fault_found after f l s = fault l.reached s.1 (ap (λ x. Err x) s.2)

  pub shorter : (after : List ℕ) (t : Token) → (l : SoFar text lexer spots end)
      → NextIs text l.before lexer.1 (Ok (Some t)) after → length after < length lexer.1
  shorter after t l s = next_shorter l.before lexer.1 after s.lexeme s.next

  -- the number of open brackets that the lexer tells
  pub open_before : (d : ℕ) → (l : SoFar text lexer spots end)
      → (before : List Lexeme) × Reaches lexer.0 before lexer.1 × (d ≡ depth before) → d ≡ depth l.before
  open_before d l told =
      told.2 ∙ ap depth (one_reach text told.0 l.before lexer.1 (subst (λ t. Reaches t told.0 lexer.1) l.whole told.1) l.reached)

  pub open_behind : (new : List ℕ × List ℕ) (d : ℕ) (t : Token) → (l : SoFar text lexer spots end) → new.0 ≡ lexer.0
      → (s : NextIs text l.before lexer.1 (Ok (Some t)) new.1)
      → (before : List Lexeme) × Reaches new.0 before new.1 × (d ≡ depth before) → d ≡ depth (s.lexeme ∷ l.before)
  open_behind new d t l e s told =
      told.2
      ∙ ap depth (one_reach text told.0 (s.lexeme ∷ l.before) new.1 (subst (λ z. Reaches z told.0 new.1) (e ∙ l.whole) told.1) (go l.reached s.next))

  -- the token as the grammar sees it
  pub seen : (new : List ℕ × List ℕ) (t : Token) (line : Bool) (before behind : ℕ) → (l : SoFar text lexer spots end)
      → (s : NextIs text l.before lexer.1 (Ok (Some t)) new.1) → line ≡ has_line_end (slice_range text end t.from)
      → before ≡ depth l.before → behind ≡ depth (s.lexeme ∷ l.before)
      → sight_at text t line before behind ≡ sight text l.before s.lexeme
  seen new t line before behind l s e f g =
      let told = s.told in
      let slice = s.slice in
      let last = l.last in
      rw (f, g, e, last, slice) (rw told refl)

  pub one_more_kept : (new : List ℕ × List ℕ) (more : List Spot) (t : Token) (spot : Spot) (line : Bool) (before behind : ℕ)
      → (l : SoFar text lexer spots end) → new.0 ≡ lexer.0 → (s : NextIs text l.before lexer.1 (Ok (Some t)) new.1)
      → IsSpan lexer.0 t → line ≡ has_line_end (slice_range text end t.from)
      → before ≡ depth l.before → behind ≡ depth (s.lexeme ∷ l.before)
      → IsSpotOf text t line before behind spot → more ≡ spots ++ spot ∷ [] → SoFar text new more t.to
  one_more_kept new more t spot line before behind l e s spans lined f g is grown =
      let span = subst (λ z. IsSpan z t) l.whole spans in
      let from = is.from in
      let to = is.to in
      record {
        whole = e ∙ l.whole;
        before = s.lexeme ∷ l.before;
        reached = go l.reached s.next;
        are = record {
          sights =
              ap (map (sight_of text)) grown ∙ (map-append (sight_of text) spots (spot ∷ [])
              ∙ (ap (λ (xs : List Sight). xs ++ sight_of text spot ∷ []) l.are.sights
              ∙ (ap (λ (x : Sight). reverse (sights text l.before) ++ x ∷ []) (is.sight ∙ seen new t line before behind l s lined f g)
              ∙ sym (reverse_onto (sights text l.before) (sight text l.before s.lexeme) []))));
          kept = subst (λ (z : List Spot). All (IsSpot text) z) (sym grown) (All-push (IsSpot text) spots spot l.are.kept is.kept);
          cut =
              subst (λ (z : List Spot). All (IsCut text) z) (sym grown)
              (All-push (IsCut text) spots spot l.are.cut (record { begins = rw from span.begins; ends = rw to span.ends }));
        };
        last = ap (λ (z : Token). z.to) s.told;
      }
