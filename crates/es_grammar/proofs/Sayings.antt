-- What is said of a text, by how its reading ends.
use Rattle.std.proofs.Common.{◌≡◌, ◌<◌, ◌-◌, ◌+◌, ◌≤◌, ℕ, Bool, true, false, ◌&&◌, ◌==◌, bytes_eq, List, [], ◌∷◌, ◌++◌, All, map, reverse, length, drop, take, slice_range, Option, Some, None, option_map, Result, Ok, Err, IfOk, is_ok, if◌then◌else◌, refl, sym, ◌∙◌, ap, subst, arith, rules}
use Rattle.std.specs.List.{slice_get}
use Rattle.std.specs.Bool.{Decides}
use Rattle.std.proofs.lemmas.Option.{slice_get-map, slice_get_within, get_or_from_slice_get}
use Rattle.std.proofs.lemmas.List.{length-take-le, length-drop}
use Rattle.std.proofs.lemmas.List.Elements.{All-get_or}
use Rattle.std.proofs.lemmas.Bool.Decides.{Decides-like, Decides-and, Decides-eqb}
use Rattle.std.proofs.lemmas.Bool.{false≢true}
use Rattle.std.proofs.lemmas.Slice.Eq.{bytes_eq-Decides}
use Rattle.module_spec.specs.declared.token.LexFault.{LexFault}
use Rattle.module_spec.specs.declared.request.Request.{Request}
use Rattle.module_spec.specs.Tokens.{Lexeme, ReadsTokens, token_of}
use Rattle.module_spec.specs.Outlines.{Outline, ReadsOutline}
use Rattle.module_spec.specs.StringValues.{string_value}
use Rattle.module_spec.proofs.TokenLaws.{one_tokens}
use Rattle.grammar_spec.specs.declared.answer.Strict.{Strict}
use Rattle.grammar_spec.specs.declared.answer.Strict.TheVariants as strict
use Rattle.grammar_spec.specs.Sights.{Sight, sights, place_of, place_from}
use Rattle.grammar_spec.specs.Readings.{Place, Outcome, stays, takes, misses, faults, too_deep, ReadsModule}
use Rattle.grammar_spec.specs.Verdicts.{Verdict, matches, syntax_at, nested_too_deep, verdict, ReadsGrammar, IsStrict}
use Rattle.grammar_spec.specs.Verdicts.{request_of, and_request, requests_at, or_nothing}
use Rattle.grammar_spec.specs.Verdicts.ReadsGrammar.{reads}
use Rattle.grammar_tokens.specs.declared.spot.Spot.{Spot}
use Rattle.grammar_tokens.specs.Spots.{sight_of, IsSpot}
use Rattle.grammar_spots.specs.Texts.{SpotsOf}
use Rattle.es_grammar.specs.declared.reader.End.{End}
use Rattle.es_grammar.specs.declared.reader.End.TheVariants as end
use Rattle.es_grammar.specs.Unwinding.{Tells, TellsOf}
use Rattle.es_grammar.specs.Unwinding.Tells.{nothing, faulty, deep, missing}
use Rattle.es_grammar.specs.Saying.{AreKept, AnswersTo, SaysOf}

-- ---- a text with an outline has no fault among its tokens

pub no_fault : (text : List ℕ) (outline : Outline) (f : LexFault) → ReadsOutline text (Ok outline) → ReadsTokens text (Err f) → ⊥
no_fault text outline f (ReadsOutline.all r n e) wrong = absurd (let same = one_tokens text _ _ (ReadsTokens.all r n refl) wrong in cc)
no_fault text outline f (ReadsOutline.fault r n e) wrong = absurd (cc)

-- ---- requests

pub all_at : {X : Type 0} (P : X → Type 0) (xs : List X) (i : ℕ) (x : X) → All P xs → slice_get xs i ≡ Some x → P x
all_at P xs i x all e = subst P (get_or_from_slice_get xs i x x e) (All-get_or P xs i x (slice_get_within xs i x e) all)

nil_behind : (xs : List Request) → xs ≡ xs ++ []
nil_behind xs = search (rules)

one_behind : (xs : List Request) (r : Request) (ys : List Request) → xs ++ r ∷ ys ≡ (xs ++ r ∷ []) ++ ys
one_behind [] r ys = refl
one_behind (x ∷ xs) r ys = ap (λ (z : List Request). x ∷ z) (one_behind xs r ys)

one_on : (tokens : List Sight) (at : ℕ) (rest : List ℕ) (found more : List Request) (whole : List Request)
    → whole ≡ found ++ requests_at tokens (at ∷ rest) → more ≡ found ++ and_request (slice_get tokens at) []
    → whole ≡ more ++ requests_at tokens rest
one_on tokens at rest found more whole e f = by_token (slice_get tokens at) e f where
  by_token : (t : Option Sight) → whole ≡ found ++ and_request t (requests_at tokens rest) → more ≡ found ++ and_request t []
      → whole ≡ more ++ requests_at tokens rest
  by_token None e f = e ∙ ap (λ (x : List Request). x ++ requests_at tokens rest) (nil_behind found ∙ sym f)
  by_token (Some t) e f =
      e
      ∙ (one_behind found (request_of t) (requests_at tokens rest)
      ∙ ap (λ (x : List Request). x ++ requests_at tokens rest) (sym f))

pub one_more : (tokens : List Sight) (at : ℕ) (left rest : List ℕ) (found more : List Request) (whole : List Request)
    → left ≡ at ∷ rest → whole ≡ found ++ requests_at tokens left
    → more ≡ found ++ and_request (slice_get tokens at) [] → whole ≡ more ++ requests_at tokens rest
one_more tokens at left rest found more whole is e f =
    one_on tokens at rest found more whole (e ∙ ap (λ (l : List ℕ). found ++ requests_at tokens l) is) f

abbrev made : ℕ → ℕ → List ℕ → Request
made from to text = record { from = from; to = to; text = text }

same_made : (from : ℕ) {to other : ℕ} {x y : List ℕ} → to ≡ other → x ≡ y → made from to x ≡ made from other y
same_made from {to} {other} {x} {y} a b = ap (λ n. made from n x) a ∙ ap (λ z. made from other z) b

pub request_is : (text : List ℕ) (s : Spot) (literal : List ℕ) (value : Option (List ℕ)) (said : List ℕ) → s.from ≤ s.to
    → s.to ≤ length text → literal ≡ slice_range text s.from s.to → value ≡ string_value literal → said ≡ or_nothing value
    → made s.from s.to said ≡ request_of (sight_of text s)
request_is text s literal value said l m e f g =
    let dropped = length-drop s.from text in
    let taken = length-take-le (s.to - s.from) (drop s.from text) (omega (dropped, l, m, arith)) in
    let size : s.from + length (slice_range text s.from s.to) ≡ s.to = omega (taken, l, arith) in
    same_made s.from (sym size) (g ∙ ap or_nothing (f ∙ ap string_value e))

module _ (text : List ℕ) (spots : List Spot) (at : ℕ) where
  found_at : {t : Option Spot} → slice_get spots at ≡ t
      → slice_get (map (sight_of text) spots) at ≡ option_map (sight_of text) t
  found_at e = slice_get-map (sight_of text) spots at ∙ ap (option_map (sight_of text)) e

  pub put_none : (found : List Request) → slice_get spots at ≡ None
      → found ≡ found ++ and_request (slice_get (map (sight_of text) spots) at) []
  put_none found e =
      nil_behind found ∙ ap (λ (t : Option Sight). found ++ and_request t []) (sym (found_at e))

  pub put_some : (found more : List Request) (s : Spot) (r : Request) → slice_get spots at ≡ Some s
      → r ≡ request_of (sight_of text s) → more ≡ found ++ r ∷ []
      → more ≡ found ++ and_request (slice_get (map (sight_of text) spots) at) []
  put_some found more s r e f g =
      g
      ∙ (ap (λ (x : Request). found ++ x ∷ []) f ∙ ap (λ (t : Option Sight). found ++ and_request t []) (sym (found_at e)))

  pub put_pushed : {X E : Type 0} (told : Result X E) (found more : List Request) (s : Spot) (r : Request)
      → slice_get spots at ≡ Some s → r ≡ request_of (sight_of text s)
      → more ≡ (if is_ok told then found ++ r ∷ [] else found)
      → IfOk told (λ x. more ≡ found ++ and_request (slice_get (map (sight_of text) spots) at) [])
  put_pushed (Ok x) found more s r e f g = put_some found more s r e f g
  put_pushed (Err x) found more s r e f g = tt

-- ---- equal requests

both_same : (a b : Request) → (a.from ≡ b.from) × ((a.to ≡ b.to) × (a.text ≡ b.text)) → a ≡ b
both_same a b e = rw (e.0, e.1.0, e.1.1) refl

pub request_Decides : (a b : Request) → Decides ((a.from == b.from) && ((a.to == b.to) && bytes_eq a.text b.text)) (a ≡ b)
request_Decides a b =
    Decides-like _ (both_same a b)
    (λ e. (ap (λ (r : Request). r.from) e, (ap (λ (r : Request). r.to) e, ap (λ (r : Request). r.text) e)))
    (Decides-and _ _ (Decides-eqb a.from b.from)
    (Decides-and _ _ (Decides-eqb a.to b.to) (bytes_eq-Decides a.text b.text)))

pub same_lists : (r : Bool) {xs ys some other : List Request} → xs ≡ some → ys ≡ other → Decides r (xs ≡ ys)
    → Decides r (some ≡ other)
same_lists r e f d = (λ t. sym e ∙ (d.0 t ∙ f), λ s. d.1 (e ∙ (s ∙ sym f)))

pub agrees_as : {outline : Outline} {found : List Request} → Decides true (found ≡ outline.requests)
    → IsStrict outline (matches found) strict.Agrees
agrees_as d = IsStrict.agrees (d.0 refl)

pub differs_as : {outline : Outline} {found listed : List Request} → Decides false (found ≡ outline.requests)
    → listed ≡ outline.requests → IsStrict outline (matches found) (strict.Differs found listed)
differs_as {outline} {found} d e =
    subst (λ z. IsStrict outline (matches found) (strict.Differs found z)) (sym e) (IsStrict.differs (λ s. false≢true (d.1 s)))

pub ok_on : {X E : Type 0} (P Q : X → Type 0) (r : Result X E) → ((x : X) → P x → Q x) → IfOk r P → IfOk r Q
ok_on P Q (Ok x) f h = f x h
ok_on P Q (Err e) f h = tt

-- ---- the answer

module _ (text : List ℕ) (spots : List Spot) (outline : Outline) (asked : List ℕ) (told : End) (answer : Strict) where
  pub by_nothing : told ≡ end.Nothing → IsStrict outline (matches []) answer → AnswersTo text spots outline asked told answer
  by_nothing e s = subst (λ z. AnswersTo text spots outline asked z answer) (sym e) at_nothing where
    at_nothing : AnswersTo text spots outline asked end.Nothing answer
    at_nothing outcome nothing = s

  pub by_match : told ≡ end.Matches
      → IsStrict outline (matches (requests_at (map (sight_of text) spots) asked)) answer
      → AnswersTo text spots outline asked told answer
  by_match e s = subst (λ z. AnswersTo text spots outline asked z answer) (sym e) at_match where
    at_match : AnswersTo text spots outline asked end.Matches answer
    at_match outcome Tells.matches = s

  pub by_miss : (at : ℕ) → told ≡ end.Misses → at ≡ place_of text (map (sight_of text) spots) 0 → answer ≡ strict.Syntax at
      → AnswersTo text spots outline asked told answer
  by_miss at e f s = subst (λ z. AnswersTo text spots outline asked z answer) (sym e) at_miss where
    at_miss : AnswersTo text spots outline asked end.Misses answer
    at_miss outcome missing =
        subst (λ z. IsStrict outline (syntax_at z) answer) f
        (subst (λ z. IsStrict outline (syntax_at at) z) (sym s) IsStrict.refused)

  pub by_fault : (n at : ℕ) → told ≡ end.Faults n → at ≡ place_of text (map (sight_of text) spots) n
      → answer ≡ strict.Syntax at → AnswersTo text spots outline asked told answer
  by_fault n at e f s = subst (λ z. AnswersTo text spots outline asked z answer) (sym e) at_fault where
    at_fault : AnswersTo text spots outline asked (end.Faults n) answer
    at_fault outcome faulty =
        subst (λ z. IsStrict outline (syntax_at z) answer) f
        (subst (λ z. IsStrict outline (syntax_at at) z) (sym s) IsStrict.refused)

  pub by_depth : told ≡ end.TooDeep → answer ≡ strict.TooDeep → AnswersTo text spots outline asked told answer
  by_depth e s = subst (λ z. AnswersTo text spots outline asked z answer) (sym e) at_depth where
    at_depth : AnswersTo text spots outline asked end.TooDeep answer
    at_depth outcome deep = subst (λ z. IsStrict outline nested_too_deep z) (sym s) IsStrict.deep

  pub says : (tokens : List Sight) → tokens ≡ map (sight_of text) spots → (of : SpotsOf text spots) → TellsOf tokens told asked
      → AnswersTo text spots outline asked told answer → SaysOf text outline answer
  says tokens e of t a =
      let same = of.are.sights in
      record {
        verdict = verdict text (reverse (sights text of.before)) t.outcome;
        reads = reads of.reached of.ends (subst (λ z. ReadsModule z t.outcome) (e ∙ same) t.reads) refl;
        is = subst (λ z. IsStrict outline (verdict text z t.outcome) answer) same (a t.outcome t.tells);
      }

module _ {E : Type 0} (text : List ℕ) (spots : List Spot) (outline : Outline) (asked : List ℕ) (told : End)
    (r : Result Strict E) where
  pub nothing_on : (found : List Request) → told ≡ end.Nothing → found ≡ []
      → IfOk r (λ a. IsStrict outline (matches found) a) → IfOk r (λ a. AnswersTo text spots outline asked told a)
  nothing_on found e f s =
      ok_on (λ a. IsStrict outline (matches found) a) (λ a. AnswersTo text spots outline asked told a) r
      (λ a i. by_nothing text spots outline asked told a e (subst (λ z. IsStrict outline (matches z) a) f i)) s

  pub match_on : (found : List Request) → told ≡ end.Matches → found ≡ requests_at (map (sight_of text) spots) asked
      → IfOk r (λ a. IsStrict outline (matches found) a) → IfOk r (λ a. AnswersTo text spots outline asked told a)
  match_on found e f s =
      ok_on (λ a. IsStrict outline (matches found) a) (λ a. AnswersTo text spots outline asked told a) r
      (λ a i. by_match text spots outline asked told a e (subst (λ z. IsStrict outline (matches z) a) f i)) s

  pub says_on : (tokens : List Sight) → tokens ≡ map (sight_of text) spots → SpotsOf text spots → TellsOf tokens told asked
      → IfOk r (λ a. AnswersTo text spots outline asked told a) → IfOk r (λ a. SaysOf text outline a)
  says_on tokens e of t s =
      ok_on (λ a. AnswersTo text spots outline asked told a) (λ a. SaysOf text outline a) r
      (λ a i. says text spots outline asked told a tokens e of t i) s

pub kept_at : {text bytes : List ℕ} {spots slice : List Spot} → SpotsOf text spots → bytes ≡ text → slice ≡ spots
    → All (IsSpot bytes) slice
kept_at {text} {bytes} {spots} of b e =
    subst (λ z. All (IsSpot bytes) z) (sym e) (subst (λ z. All (IsSpot z) spots) (sym b) of.are.kept)

pub kept_slice : {text : List ℕ} {spots slice : List Spot} → SpotsOf text spots → slice ≡ spots → AreKept text slice
kept_slice {text} of e = subst (λ z. AreKept text z) (sym e) (record { within = of.are.kept; cut = of.are.cut })

pub says_all : {E : Type 0} (text bytes : List ℕ) (spots slice : List Spot) (outline : Outline)
    (asked items : List ℕ) (told : End) (tokens : List Sight) (r : Result Strict E) → SpotsOf text spots → bytes ≡ text → slice ≡ spots
    → tokens ≡ map (sight_of bytes) slice → TellsOf tokens told items → asked ≡ items
    → IfOk r (λ a. AnswersTo text slice outline asked told a) → IfOk r (λ a. SaysOf text outline a)
says_all text bytes spots slice outline asked items told tokens r of b s e t q h =
    says_on text spots outline items told r tokens
    (e ∙ (ap (λ z. map (sight_of z) slice) b ∙ ap (map (sight_of text)) s)) of t
    (subst (λ z. IfOk r (λ a. AnswersTo text z outline items told a)) s
    (subst (λ z. IfOk r (λ a. AnswersTo text slice outline z told a)) q h))

pub ruleset saying = (says_all, kept_at, kept_slice)
