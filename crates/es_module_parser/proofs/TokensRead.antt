-- The tokens so far, by what the parser keeps of them.
use Rattle.std.specs.Prelude.{IfOk, IfErr, IfSome}
use Rattle.std.proofs.Common.{◌≡◌, ◌<◌, ◌==◌, ◌&&◌, ◌||◌, not, codes, ℕ, Bool, true, false, if◌then◌else◌, List, [], ◌∷◌, ◌++◌, length, reverse, Option, Some, None, Result, Ok, Err, refl, sym, ◌∙◌, ap, subst, slice_range, append_assoc, append-nil}
use Rattle.std.proofs.lemmas.Grind.{reverse_onto}
use Rattle.module_spec.specs.declared.token.Token.{Token}
use Rattle.module_spec.specs.declared.token.LexFault.{LexFault}
use Rattle.module_spec.specs.declared.request.Request.{Request}
use Rattle.module_spec.specs.declared.request.ModuleFault as module_faults
use Rattle.module_spec.specs.declared.request.ModuleFault.TheVariants.{Unreadable, TooDeep, TooManyRequests}
use Rattle.module_spec.specs.Spans.{IsSpan}
use Rattle.module_spec.specs.Spellings.{hashbang_rest}
use Rattle.module_spec.specs.Tokens.{Lexeme, Reaches, depth, is_property}
use Rattle.module_spec.specs.Tokens.Reaches.{begin, go}
use Rattle.module_spec.specs.Places.{Placed, placed, places, is_top, is_word}
use Rattle.module_spec.specs.StringValues.{string_value}
use Rattle.module_spec.specs.Outlines.{ReadsOutline, requests, findings, declares, outline_of, outlined, asked_by, most_requests, lexical_fault}
use Rattle.module_spec.specs.Outlines.ReadsOutline.{all, fault}
use Rattle.module_spec.proofs.TokenLaws.{one_reach}
use Rattle.module_spec.proofs.Suffixes.{next_shorter}
use Rattle.es_lexer.specs.Steps.{NextIs}
use Rattle.es_module_parser.specs.declared.fault.OutlineFault.{OutlineFault}
use Rattle.es_module_parser.specs.declared.expect.Seen.{Seen}
use Rattle.es_module_parser.specs.declared.expect.Expect.TheVariants.{ImportDeclaration, BehindDefault, SecondBinding, NameSpaceImport, ImportedBinding, ImportBraces, FromClause, ModuleSpecifier, ExportDeclaration, ExportAll, ModuleExportName, ExportBraces, NamedExports, NamedSpecifier}
use Rattle.es_module_parser.specs.declared.declaring.After.{After}
use Rattle.es_module_parser.specs.declared.declaring.After.TheVariants.{Other, Import}
use Rattle.es_module_parser.specs.declared.progress.Progress.{Progress}
use Rattle.es_module_parser.specs.declared.progress.Progress.TheVariants.{Outside, Inside, Broken}
use Rattle.es_module_parser.specs.declared.progress.Next.{Next}
use Rattle.es_module_parser.specs.declared.progress.Next.TheVariants.{Goes, Specifier}
use Rattle.es_module_parser.specs.Faults as faults
use Rattle.es_module_parser.specs.Progress.{IsIdle, seen_at, word_is, stepped, progress_heard, requests_heard, progress_behind, requests_behind, fault_asked, or_outside, ended}
use Rattle.es_module_parser.specs.declared.requests.Outline as told_outlines
use Rattle.es_module_parser.specs.Outlines.{as_outline, EndsAs}
use Rattle.es_module_parser.specs.Declaring.{declares_now, after_token, call_at, declares_at_end}
use Rattle.es_module_parser.proofs.FormSteps.{seen_of, finished, finished_behind, resumed, begun_step, step_resumed, step_deep, Deep, DeepNext}
use Rattle.es_module_parser.proofs.CallSteps.{after_of, Headed, call_stands, finished_resumed, deep_outside, deep_heard}
use Rattle.es_module_parser.proofs.DeclaringSteps.{declares_from, declare_step, declared_at_end}

pub record Reading (text : List ℕ) (lexer : List ℕ × List ℕ) (progress : Progress) (so_far : List Request) (after : After) (declared : Bool) : Type 0 where
  pub whole : lexer.0 ≡ text
  pub before : List Lexeme
  pub reached : Reaches text before lexer.1
  pub deep : Deep progress (depth before)
  pub following : after ≡ after_of (places (length text) before)
  pub headed : Headed text (places (length text) before)
  pub asking : (later : List Placed) → requests [] (findings [] None (reverse (places (length text) before) ++ later)) ≡ finished (places (length text) before) progress so_far later
  pub declaring : (later : List Placed) → declares (reverse (places (length text) before) ++ later) ≡ (declared || declares_from after later)

pub nothing_read : (text : List ℕ) (lexer : List ℕ × List ℕ) (so_far : List Request) → lexer ≡ (text, hashbang_rest text) → so_far ≡ [] → Reading text lexer Outside so_far Other false
nothing_read text lexer so_far e f = record { whole = ap (λ (p : List ℕ × List ℕ). p.0) e; before = []; reached = begin (ap (λ (p : List ℕ × List ℕ). p.1) e); deep = tt; following = refl; headed = tt; asking = λ later. rw f refl; declaring = λ later. refl }

-- what a call of the lexer says, for the tokens so far
pub said : {text : List ℕ} {lexer : List ℕ × List ℕ} {progress : Progress} {so_far : List Request} {after : After} {declared : Bool} (out : Result (Option Token) LexFault) (rest : List ℕ) → (r : Reading text lexer progress so_far after declared) → ((before : List Lexeme) → Reaches lexer.0 before lexer.1 → NextIs lexer.0 before lexer.1 out rest) → NextIs text r.before lexer.1 out rest
said {text} {lexer} out rest r next = subst (λ t. NextIs t r.before lexer.1 out rest) r.whole (next r.before (subst (λ t. Reaches t r.before lexer.1) (sym r.whole) r.reached))

-- what is told of the tokens that some reader gave, for the tokens that are known to stand before
told : {A : Type 0} {value : A} (of : List Lexeme → A) (text : List ℕ) (now : List ℕ × List ℕ) (before : List Lexeme) → now.0 ≡ text → Reaches text before now.1 → ((some : List Lexeme) × Reaches now.0 some now.1 × (value ≡ of some)) → value ≡ of before
told of text now before e r t = t.2 ∙ ap of (one_reach text t.0 before now.1 (subst (λ x. Reaches x t.0 now.1) e t.1) r)

-- ---- the text's end

abbrev end_of : Option module_faults.ModuleFault → List Request → Result (List Request) module_faults.ModuleFault
end_of None so_far = Ok so_far
end_of (Some f) so_far = Err f

at_end : (before : List Placed) (p : Progress) (so_far : List Request) → finished before p so_far [] ≡ end_of (ended p) so_far
at_end before Outside so_far = refl
at_end before (Broken f) so_far = refl
at_end before (Inside ImportDeclaration word None) so_far = refl
at_end before (Inside ImportDeclaration word (Some inner)) so_far = refl
at_end before (Inside BehindDefault word None) so_far = refl
at_end before (Inside BehindDefault word (Some inner)) so_far = refl
at_end before (Inside SecondBinding word None) so_far = refl
at_end before (Inside SecondBinding word (Some inner)) so_far = refl
at_end before (Inside NameSpaceImport word None) so_far = refl
at_end before (Inside NameSpaceImport word (Some inner)) so_far = refl
at_end before (Inside ImportedBinding word None) so_far = refl
at_end before (Inside ImportedBinding word (Some inner)) so_far = refl
at_end before (Inside ImportBraces word None) so_far = refl
at_end before (Inside ImportBraces word (Some inner)) so_far = refl
at_end before (Inside FromClause word None) so_far = refl
at_end before (Inside FromClause word (Some inner)) so_far = refl
at_end before (Inside ModuleSpecifier word None) so_far = refl
at_end before (Inside ModuleSpecifier word (Some inner)) so_far = refl
at_end before (Inside ExportDeclaration word None) so_far = refl
at_end before (Inside ExportDeclaration word (Some inner)) so_far = refl
at_end before (Inside ExportAll word None) so_far = refl
at_end before (Inside ExportAll word (Some inner)) so_far = refl
at_end before (Inside ModuleExportName word None) so_far = refl
at_end before (Inside ModuleExportName word (Some inner)) so_far = refl
at_end before (Inside ExportBraces word None) so_far = refl
at_end before (Inside ExportBraces word (Some inner)) so_far = refl
at_end before (Inside NamedExports word None) so_far = refl
at_end before (Inside NamedExports word (Some inner)) so_far = refl
at_end before (Inside NamedSpecifier word None) so_far = refl
at_end before (Inside NamedSpecifier word (Some inner)) so_far = refl

ends : {text : List ℕ} {lexer : List ℕ × List ℕ} {progress : Progress} {so_far : List Request} {after : After} {declared : Bool} (end : Option module_faults.ModuleFault) → (r : Reading text lexer progress so_far after declared) → end ≡ ended progress → outlined (reverse (places (length text) r.before)) ≡ outline_of (end_of end so_far) (declared || declares_at_end after)
ends {text} {progress} {so_far} {after} {declared} end r e =
    let all_of : List Placed = reverse (places (length text) r.before) in
    let none = append-nil all_of in
    let asks = sym (ap (λ (ts : List Placed). requests [] (findings [] None ts)) none) ∙ (r.asking [] ∙ (at_end (places (length text) r.before) progress so_far ∙ ap (λ f. end_of f so_far) (sym e))) in
    let shows = sym (ap (λ (ts : List Placed). declares ts) none) ∙ (r.declaring [] ∙ ap (λ d. declared || d) (declared_at_end after)) in
    ap (λ x. outline_of x (declares all_of)) asks ∙ ap (λ d. outline_of (end_of end so_far) d) shows

whole_read : {text : List ℕ} {lexer : List ℕ × List ℕ} {progress : Progress} {so_far : List Request} {after : After} {declared : Bool} (rest : List ℕ) → (r : Reading text lexer progress so_far after declared) → NextIs text r.before lexer.1 (Ok None) rest → None ≡ ended progress → (asked : List Request) (shows : Bool) → asked ≡ so_far → shows ≡ (declared || declares_at_end after) → ReadsOutline text (Ok (record { requests = asked; declares = shows }))
whole_read rest r s e asked shows f g = all r.reached s.0 (rw (f, g) (sym (ends None r e)))

fault_says : (text : List ℕ) (f : module_faults.ModuleFault) → ReadsOutline text (Err f) → faults.IsFaultOf text (faults.fault_of f)
fault_says text (Unreadable at) r = r
fault_says text TooDeep r = r
fault_says text TooManyRequests r = r

fault_read : {text : List ℕ} {lexer : List ℕ × List ℕ} {progress : Progress} {so_far : List Request} {after : After} {declared : Bool} (rest : List ℕ) (f : module_faults.ModuleFault) (out : OutlineFault) → (r : Reading text lexer progress so_far after declared) → NextIs text r.before lexer.1 (Ok None) rest → Some f ≡ ended progress → out ≡ faults.fault_of f → faults.IsFaultOf text out
fault_read {text} rest f out r s e g = subst (λ o. faults.IsFaultOf text o) (sym g) (fault_says text f (all r.reached s.0 (sym (ends (Some f) r e))))

-- what is told at the text's end
pub ends_whole : {text : List ℕ} {lexer : List ℕ × List ℕ} {progress : Progress} {so_far : List Request} {after : After} {declared : Bool} (rest : List ℕ) (end : Option module_faults.ModuleFault)
    → (r : Reading text lexer progress so_far after declared) → NextIs text r.before lexer.1 (Ok None) rest → end ≡ ended progress
    → (out : Result told_outlines.Outline OutlineFault) → EndsAs end so_far (declared || declares_at_end after) out
    → IfOk out (λ outline. ReadsOutline text (Ok (as_outline outline)))
ends_whole rest None r s e (Ok outline) f = whole_read rest r s e outline.requests outline.declares f.0 f.1
ends_whole rest (Some g) r s e (Ok outline) f = absurd f
ends_whole rest None r s e (Err other) f = tt
ends_whole rest (Some g) r s e (Err other) f = tt

pub ends_fault : {text : List ℕ} {lexer : List ℕ × List ℕ} {progress : Progress} {so_far : List Request} {after : After} {declared : Bool} (rest : List ℕ) (end : Option module_faults.ModuleFault)
    → (r : Reading text lexer progress so_far after declared) → NextIs text r.before lexer.1 (Ok None) rest → end ≡ ended progress
    → (out : Result told_outlines.Outline OutlineFault) → EndsAs end so_far (declared || declares_at_end after) out
    → IfErr out (λ other. faults.IsFaultOf text other)
ends_fault rest None r s e (Ok outline) f = tt
ends_fault rest (Some g) r s e (Ok outline) f = tt
ends_fault rest None r s e (Err other) f = absurd f
ends_fault rest (Some g) r s e (Err other) f = fault_read rest g other r s e f

pub lexical_read : {text : List ℕ} {lexer : List ℕ × List ℕ} {progress : Progress} {so_far : List Request} {after : After} {declared : Bool} (rest : List ℕ) (f : LexFault) (out : OutlineFault) → (r : Reading text lexer progress so_far after declared) → NextIs text r.before lexer.1 (Err f) rest → out ≡ faults.lexical_fault f.at f.kind → faults.IsFaultOf text out
lexical_read {text} rest f out r s e =
    subst (λ o. faults.IsFaultOf text o) (sym e) (fault_says text (lexical_fault f.at f.kind) (fault r.reached s.1 (ap (λ (g : LexFault). Err (lexical_fault g.at f.kind)) s.2)))

-- ---- one token more

pub shorter : {text : List ℕ} {lexer : List ℕ × List ℕ} {progress : Progress} {so_far : List Request} {after : After} {declared : Bool} (rest : List ℕ) (token : Token) → (r : Reading text lexer progress so_far after declared) → NextIs text r.before lexer.1 (Ok (Some token)) rest → length rest < length lexer.1
shorter {lexer} rest token r s = next_shorter r.before lexer.1 rest s.lexeme s.next

turned_over : (xs : List Placed) (x : Placed) (ys : List Placed) → reverse (x ∷ xs) ++ ys ≡ reverse xs ++ (x ∷ ys)
turned_over xs x ys = ap (λ (zs : List Placed). zs ++ ys) (reverse_onto xs x []) ∙ append_assoc (reverse xs) (x ∷ []) ys

or_assoc : (a b c : Bool) → (a || (b || c)) ≡ ((a || b) || c)
or_assoc true b c = refl
or_assoc false b c = refl

limit_kept : (c : Bool) (before : List Placed) (so_far more : List Request) (later : List Placed) → (if c then Err TooManyRequests else requests more (findings before None later)) ≡ finished before (or_outside (if c then Some TooManyRequests else None)) (if c then so_far else more) later
limit_kept true before so_far more later = refl
limit_kept false before so_far more later = refl

asked_kept : (before : List Placed) (t : Placed) (value : Option (List ℕ)) (so_far : List Request) (later : List Placed) → string_value t.text ≡ value → finished_behind before Specifier t so_far later ≡ finished before (progress_behind Specifier t.token value so_far) (requests_behind Specifier t.token value so_far) later
asked_kept before t None so_far later e = rw e refl
asked_kept before t (Some text) so_far later e = rw e (limit_kept (length so_far == most_requests) before so_far (so_far ++ asked_by t text ∷ []) later)

next_kept : (before : List Placed) (n : Next) (t : Placed) (so_far : List Request) (later : List Placed) → finished_behind before n t so_far later ≡ finished before (progress_behind n t.token (string_value t.text) so_far) (requests_behind n t.token (string_value t.text) so_far) later
next_kept before (Goes p) t so_far later = refl
next_kept before Specifier t so_far later = asked_kept before t (string_value t.text) so_far later refl

deep_behind : (n : Next) (token : Token) (value : Option (List ℕ)) (so_far : List Request) (d : ℕ) → DeepNext n d → Deep (progress_behind n token value so_far) d
deep_behind (Goes p) token value so_far d x = x
deep_behind Specifier token value so_far d x = deep_outside (fault_asked token value so_far) d

-- a token that comes is what the text has at its span
headed_by : {text : List ℕ} (before : List Lexeme) (old rest : List ℕ) (token : Token) → (s : NextIs text before old (Ok (Some token)) rest) → IsSpan text token → Headed text (placed (length text) before s.lexeme ∷ places (length text) before)
headed_by {text} before old rest token s span = (subst (λ x. IsSpan text x) s.told span, subst (λ (x : Token). slice_range text x.from x.to ≡ s.lexeme.text) s.told s.slice)

-- and so is the string of a call that is heard
pub call_read : {text : List ℕ} {lexer : List ℕ × List ℕ} {progress : Progress} {so_far : List Request} {after : After} {declared : Bool} (seen : Seen) (spelled : List ℕ) (c : Option Token) → (r : Reading text lexer progress so_far after declared) → c ≡ call_at after seen spelled → IfSome c (λ token. IsSpan text token)
call_read {text} {after} seen spelled c r e = subst (λ x. IfSome x (λ token. IsSpan text token)) (sym e) (call_stands text (places (length text) r.before) after seen spelled r.headed r.following)

pub read_on : {text : List ℕ} {lexer : List ℕ × List ℕ} {progress : Progress} {so_far : List Request} {after : After} {declared : Bool} (new : List ℕ × List ℕ) (c : Option Token) (heard : Progress) (asked : List Request) (n : Next) (p : Progress) (more : List Request) (a : After) (now : Bool) (token : Token) (spelled : List ℕ) (property : Bool) (d behind : ℕ) (seen : Seen)
    → (r : Reading text lexer progress so_far after declared) → new.0 ≡ lexer.0 → IsSpan lexer.0 token → NextIs text r.before lexer.1 (Ok (Some token)) new.1
    → ((some : List Lexeme) × Reaches lexer.0 some lexer.1 × (property ≡ is_property some))
    → ((some : List Lexeme) × Reaches lexer.0 some lexer.1 × (d ≡ depth some))
    → ((some : List Lexeme) × Reaches new.0 some new.1 × (behind ≡ depth some))
    → seen ≡ seen_at token (not property) d behind
    → spelled ≡ slice_range text token.from token.to
    → c ≡ call_at after seen spelled
    → heard ≡ progress_heard progress text c so_far → asked ≡ requests_heard progress text c so_far
    → n ≡ stepped heard seen spelled
    → p ≡ progress_behind n token (string_value spelled) asked → more ≡ requests_behind n token (string_value spelled) asked
    → now ≡ (declared || declares_now after seen spelled)
    → a ≡ after_token after token seen spelled
    → Reading text new p more a now
read_on {text} {lexer} {progress} {so_far} {after} {declared} new c heard asked n p more a now token spelled property d behind seen r e span s properties depths behinds sees f calls hears asks g h i j k =
    let t : Placed = placed (length text) r.before s.lexeme in
    let held : List Placed = places (length text) r.before in
    let reached : Reaches text (s.lexeme ∷ r.before) new.1 = go r.reached s.next in
    let whole : new.0 ≡ text = e ∙ r.whole in
    let property_is : property ≡ is_property r.before = told is_property text lexer r.before r.whole r.reached properties in
    let depth_is : d ≡ t.depth = told depth text lexer r.before r.whole r.reached depths in
    let behind_is : behind ≡ t.behind = told depth text new (s.lexeme ∷ r.before) whole reached behinds in
    let spelled_is : spelled ≡ t.text = f ∙ s.slice in
    let seen_is : seen ≡ seen_of t = sees ∙ rw (property_is, depth_is, behind_is) (ap (λ (x : Token). seen_at x t.plain t.depth t.behind) s.told) in
    let call_is : c ≡ call_at (after_of held) (seen_of t) t.text = calls ∙ (ap (λ x. call_at x seen spelled) r.following ∙ (ap (λ x. call_at (after_of held) x spelled) seen_is ∙ ap (λ x. call_at (after_of held) (seen_of t) x) spelled_is)) in
    let stepped_is : n ≡ stepped heard (seen_of t) t.text = g ∙ (ap (λ x. stepped heard x spelled) seen_is ∙ ap (λ x. stepped heard (seen_of t) x) spelled_is) in
    let now_is : now ≡ (declared || declares_now after (seen_of t) t.text) = j ∙ (ap (λ x. declared || declares_now after x spelled) seen_is ∙ ap (λ x. declared || declares_now after (seen_of t) x) spelled_is) in
    let after_is : a ≡ after_token after t.token (seen_of t) t.text = k ∙ (ap (λ x. after_token after x seen spelled) s.told ∙ (ap (λ x. after_token after t.token x spelled) seen_is ∙ ap (λ x. after_token after t.token (seen_of t) x) spelled_is)) in
    let progress_is : p ≡ progress_behind n t.token (string_value t.text) asked = h ∙ rw (s.told, spelled_is) refl in
    let more_is : more ≡ requests_behind n t.token (string_value t.text) asked = i ∙ rw (s.told, spelled_is) refl in
    let deep_is : Deep heard t.depth = subst (λ q. Deep q t.depth) (sym hears) (deep_heard progress text c so_far t.depth r.deep) in
    let resumed_is : (later : List Placed) → finished held progress so_far (t ∷ later) ≡ resumed (t ∷ held) heard asked t later =
    λ later. finished_resumed text held progress so_far t later r.headed
    ∙ (ap (λ x. resumed (t ∷ held) (progress_heard progress text x so_far) (requests_heard progress text x so_far) t later) (sym call_is)
    ∙ rw (hears, asks) refl) in
    record {
      whole = whole;
      before = s.lexeme ∷ r.before;
      reached = reached;
      deep = subst (λ q. Deep q t.behind) (sym progress_is) (deep_behind n t.token (string_value t.text) asked t.behind (subst (λ q. DeepNext q t.behind) (sym stepped_is) (step_deep heard t)));
      following = after_is ∙ ap (λ x. after_token x t.token (seen_of t) t.text) r.following;
      headed = headed_by r.before lexer.1 new.1 token s (subst (λ x. IsSpan x token) r.whole span);
      asking = λ later.
          ap (λ (ts : List Placed). requests [] (findings [] None ts)) (turned_over held t later)
          ∙ (r.asking (t ∷ later)
          ∙ (resumed_is later
          ∙ (step_resumed (t ∷ held) heard t later asked deep_is
          ∙ (ap (λ q. finished_behind (t ∷ held) q t asked later) (sym stepped_is)
          ∙ (next_kept (t ∷ held) n t asked later
          ∙ rw (progress_is, more_is) refl)))));
      declaring = λ later.
          ap (λ (ts : List Placed). declares ts) (turned_over held t later)
          ∙ (r.declaring (t ∷ later)
          ∙ (ap (λ x. declared || x) (declare_step after t later)
          ∙ (or_assoc declared (declares_now after (seen_of t) t.text) (declares_from (after_token after t.token (seen_of t) t.text) later)
          ∙ rw (now_is, after_is) refl)));
    }

-- ---- a token that changes nothing

idle_begun : (top i x : Bool) (from : ℕ) → i ≡ false → x ≡ false → (if top && i then Inside ImportDeclaration from None else if top && x then Inside ExportDeclaration from None else Outside) ≡ Outside
idle_begun true i x from e f = rw (e, f) refl
idle_begun false i x from e f = refl

idle_shows : (top x after : Bool) → x ≡ false → ((false || top && x) || after) ≡ after
idle_shows true x after f = rw f refl
idle_shows false x after f = refl

idle_after : (plain top i : Bool) → i ≡ false → (if plain && i then Import top else Other) ≡ Other
idle_after true top i e = rw e refl
idle_after false top i e = refl

pub idle_on : {text : List ℕ} {lexer : List ℕ × List ℕ} {progress : Progress} {so_far : List Request} {after : After} {declared : Bool} (new : List ℕ × List ℕ) (token : Token) (spelled : List ℕ)
    → (r : Reading text lexer progress so_far after declared) → new.0 ≡ lexer.0 → IsSpan lexer.0 token → NextIs text r.before lexer.1 (Ok (Some token)) new.1 → spelled ≡ slice_range text token.from token.to → IsIdle progress after token.kind spelled
    → Reading text new progress so_far after declared
idle_on {text} {lexer} {progress} {so_far} {after} {declared} new token spelled r e span s f idle =
    let t : Placed = placed (length text) r.before s.lexeme in
    let held : List Placed = places (length text) r.before in
    let spelled_is : spelled ≡ t.text = f ∙ s.slice in
    let spells : (w : List ℕ) → word_is token.kind spelled w ≡ is_word t w = λ w. ap (λ (x : Token). word_is x.kind spelled w) s.told ∙ ap (λ (x : List ℕ). word_is t.token.kind x w) spelled_is in
    let no_import : is_word t (codes "import") ≡ false = sym (spells (codes "import")) ∙ idle.no_import in
    let no_export : is_word t (codes "export") ≡ false = sym (spells (codes "export")) ∙ idle.no_export in
    record {
      whole = e ∙ r.whole;
      before = s.lexeme ∷ r.before;
      reached = go r.reached s.next;
      deep = subst (λ p. Deep p t.behind) (sym idle.outside) tt;
      following = idle.other ∙ (sym (idle_after t.plain (is_top t) (is_word t (codes "import")) no_import) ∙ ap (λ x. after_token x t.token (seen_of t) t.text) (sym idle.other ∙ r.following));
      headed = headed_by r.before lexer.1 new.1 token s (subst (λ x. IsSpan x token) r.whole span);
      asking = λ later.
          ap (λ (ts : List Placed). requests [] (findings [] None ts)) (turned_over held t later)
          ∙ (r.asking (t ∷ later)
          ∙ (ap (λ p. finished held p so_far (t ∷ later)) idle.outside
          ∙ (finished_resumed text held Outside so_far t later r.headed
          ∙ (ap (λ x. resumed (t ∷ held) (progress_heard Outside text (call_at x (seen_of t) t.text) so_far) (requests_heard Outside text (call_at x (seen_of t) t.text) so_far) t later) (sym r.following ∙ idle.other)
          ∙ (begun_step (t ∷ held) t later so_far
          ∙ (ap (λ p. finished (t ∷ held) p so_far later) (idle_begun (is_top t) (is_word t (codes "import")) (is_word t (codes "export")) t.token.from no_import no_export)
          ∙ ap (λ p. finished (t ∷ held) p so_far later) (sym idle.outside)))))));
      declaring = λ later.
          ap (λ (ts : List Placed). declares ts) (turned_over held t later)
          ∙ (r.declaring (t ∷ later)
          ∙ ap (λ x. declared || x)
          (ap (λ a. declares_from a (t ∷ later)) idle.other
          ∙ (declare_step Other t later
          ∙ (idle_shows (is_top t) (is_word t (codes "export")) (declares_from (after_token Other t.token (seen_of t) t.text) later) no_export
          ∙ (ap (λ a. declares_from a later) (idle_after t.plain (is_top t) (is_word t (codes "import")) no_import)
          ∙ ap (λ a. declares_from a later) (sym idle.other))))));
    }
