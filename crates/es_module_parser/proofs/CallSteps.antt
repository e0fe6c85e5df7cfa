-- The import calls, by what the parser keeps of the tokens before.
use Rattle.std.specs.Prelude.{IfSome}
use Rattle.std.proofs.Common.{◌≡◌, ◌==◌, ◌&&◌, ◌||◌, codes, ℕ, Bool, true, false, if◌then◌else◌, List, [], ◌∷◌, ◌++◌, length, Option, Some, None, Result, Err, refl, sym, ◌∙◌, ap, subst, slice_range}
use Rattle.std.proofs.Math.Bool.{and-false}
use Rattle.module_spec.specs.declared.token.Token.{Token}
use Rattle.module_spec.specs.declared.request.Request.{Request}
use Rattle.module_spec.specs.declared.request.ModuleFault.{ModuleFault}
use Rattle.module_spec.specs.declared.request.ModuleFault.TheVariants.{Unreadable, TooManyRequests}
use Rattle.module_spec.specs.Spans.{IsSpan}
use Rattle.module_spec.specs.Places.{Placed, is_text, is_word, is_mark, is_top}
use Rattle.module_spec.specs.Forms.{Form, declaration, called}
use Rattle.module_spec.specs.Forms.Form.{wrong, none, alone, asks}
use Rattle.module_spec.specs.StringValues.{string_value}
use Rattle.module_spec.specs.Outlines.{Finding, requests, findings, found, with_call, asked_by, most_requests}
use Rattle.module_spec.specs.Outlines.Finding.{import_call}
use Rattle.module_spec.proofs.Terminals.{one_mark, word_is_name, name_no_mark, name_no_text}
use Rattle.es_module_parser.specs.declared.expect.Expect.{Expect}
use Rattle.es_module_parser.specs.declared.expect.Seen.{Seen}
use Rattle.es_module_parser.specs.declared.declaring.After.{After}
use Rattle.es_module_parser.specs.declared.declaring.After.TheVariants.{Other, Import, Dot, Call, Argument}
use Rattle.es_module_parser.specs.declared.progress.Progress.{Progress}
use Rattle.es_module_parser.specs.declared.progress.Progress.TheVariants.{Outside, Inside, Broken}
use Rattle.es_module_parser.specs.Progress.{mark_is, value_at, or_outside, fault_asked, requests_asked, progress_called, requests_called, progress_heard, requests_heard}
use Rattle.es_module_parser.specs.Declaring.{after_next, after_token, call_at}
use Rattle.es_module_parser.proofs.FormSteps.{seen_of, form, opened, broken, finished, resumed, Deep}

-- ---- what the last tokens were

-- behind these tokens, the last one first
abbrev pub after_of : List Placed → After
after_of [] = Other
after_of (t ∷ before) = after_token (after_of before) t.token (seen_of t) t.text

-- the last token is what the text has at its span
abbrev pub Headed : List ℕ → List Placed → Type 0
Headed text [] = Unit {0}
Headed text (t ∷ before) = IsSpan text t.token × (slice_range text t.token.from t.token.to ≡ t.text)

-- what a call's string is by what was kept, and by the tokens
pub data Heard (text : List ℕ) : Option Token → Option Placed → Type 0 where
  no_call : Heard text None None
  call : {s : Placed} → IsSpan text s.token → slice_range text s.token.from s.token.to ≡ s.text → Heard text (Some s.token) (Some s)

abbrev is_import : After → Bool
is_import Other = false
is_import (Import top) = true
is_import Dot = false
is_import Call = false
is_import (Argument s) = false

abbrev is_call : After → Bool
is_call Other = false
is_call (Import top) = false
is_call Dot = false
is_call Call = true
is_call (Argument s) = false

abbrev argument : After → Option Token
argument Other = None
argument (Import top) = None
argument Dot = None
argument Call = None
argument (Argument s) = Some s

-- behind one token more: the word, its bracket, the string
import_no_call : (dot round : Bool) → (round ≡ true → dot ≡ false) → is_call (if dot then Dot else if round then Call else Other) ≡ round
import_no_call true true h = absurd (let e = h refl in cc)
import_no_call true false h = refl
import_no_call false true h = refl
import_no_call false false h = refl

no_import : (dot round : Bool) → is_import (if dot then Dot else if round then Call else Other) ≡ false
no_import true round = refl
no_import false true = refl
no_import false false = refl

no_argument : (dot round : Bool) → argument (if dot then Dot else if round then Call else Other) ≡ None
no_argument true round = refl
no_argument false true = refl
no_argument false false = refl

text_no_import : (c : Bool) (s : Token) → is_import (if c then Argument s else Other) ≡ false
text_no_import true s = refl
text_no_import false s = refl

text_no_call : (c : Bool) (s : Token) → is_call (if c then Argument s else Other) ≡ false
text_no_call true s = refl
text_no_call false s = refl

text_argument : (c : Bool) (s : Token) → argument (if c then Argument s else Other) ≡ (if c then Some s else None)
text_argument true s = refl
text_argument false s = refl

next_import : (a : After) (x : Placed) → is_import (after_next a x.token (seen_of x) x.text) ≡ false
next_import Other x = refl
next_import (Import top) x = no_import (is_mark x (codes ".")) (is_mark x (codes "("))
next_import Dot x = refl
next_import Call x = text_no_import (is_text x) x.token
next_import (Argument s) x = refl

next_call : (a : After) (x : Placed) → is_call (after_next a x.token (seen_of x) x.text) ≡ (is_import a && is_mark x (codes "("))
next_call Other x = refl
next_call (Import top) x = import_no_call (is_mark x (codes ".")) (is_mark x (codes "(")) (λ e. one_mark x (codes "(") (codes ".") e refl)
next_call Dot x = refl
next_call Call x = text_no_call (is_text x) x.token
next_call (Argument s) x = refl

next_argument : (a : After) (x : Placed) → argument (after_next a x.token (seen_of x) x.text) ≡ (if is_call a && is_text x then Some x.token else None)
next_argument Other x = refl
next_argument (Import top) x = no_argument (is_mark x (codes ".")) (is_mark x (codes "("))
next_argument Dot x = refl
next_argument Call x = text_argument (is_text x) x.token
next_argument (Argument s) x = refl

import_or : (c top : Bool) (n : After) → is_import n ≡ false → is_import (if c then Import top else n) ≡ c
import_or true top n e = refl
import_or false top n e = e

call_or : (c top i : Bool) (n : After) (round : Bool) → (c ≡ true → round ≡ false) → is_call n ≡ (i && round) → is_call (if c then Import top else n) ≡ (i && round)
call_or true top i n round h e = rw (h refl) (sym (and-false i))
call_or false top i n round h e = e

none_and : (i : Bool) (x : Token) → None ≡ (if i && false then Some x else None)
none_and true x = refl
none_and false x = refl

argument_or : (c top i : Bool) (n : After) (text : Bool) (x : Token) → (c ≡ true → text ≡ false) → argument n ≡ (if i && text then Some x else None) → argument (if c then Import top else n) ≡ (if i && text then Some x else None)
argument_or true top i n text x h e = rw (h refl) (none_and i x)
argument_or false top i n text x h e = e

word_of : (plain word : Bool) → (plain && word) ≡ true → word ≡ true
word_of true word e = e
word_of false word e = absurd (cc)

import_of : (a : After) (x : Placed) → is_import (after_token a x.token (seen_of x) x.text) ≡ (x.plain && is_word x (codes "import"))
import_of a x = import_or (x.plain && is_word x (codes "import")) (is_top x) (after_next a x.token (seen_of x) x.text) (next_import a x)

call_of : (a : After) (x : Placed) → is_call (after_token a x.token (seen_of x) x.text) ≡ (is_import a && is_mark x (codes "("))
call_of a x =
    call_or (x.plain && is_word x (codes "import")) (is_top x) (is_import a) (after_next a x.token (seen_of x) x.text) (is_mark x (codes "("))
    (λ e. name_no_mark x (codes "(") (word_is_name x (codes "import") (word_of x.plain (is_word x (codes "import")) e)))
    (next_call a x)

argument_of : (a : After) (x : Placed) → argument (after_token a x.token (seen_of x) x.text) ≡ (if is_call a && is_text x then Some x.token else None)
argument_of a x =
    argument_or (x.plain && is_word x (codes "import")) (is_top x) (is_call a) (after_next a x.token (seen_of x) x.text) (is_text x) x.token
    (λ e. name_no_text x (word_is_name x (codes "import") (word_of x.plain (is_word x (codes "import")) e)))
    (next_argument a x)

-- ---- the call that a token ends

abbrev ends_at : Placed → Bool
ends_at t = is_mark t (codes ")") || is_mark t (codes ",")

either : (c : Bool) (x : Option Token) → x ≡ (if c then x else x)
either true x = refl
either false x = refl

call_at_is : (a : After) (t : Placed) → call_at a (seen_of t) t.text ≡ (if ends_at t then argument a else None)
call_at_is Other t = either (ends_at t) None
call_at_is (Import top) t = either (ends_at t) None
call_at_is Dot t = either (ends_at t) None
call_at_is Call t = either (ends_at t) None
call_at_is (Argument s) t = refl

heard_by : {text : List ℕ} (s : Placed) (end string plain word round : Bool) → IsSpan text s.token → slice_range text s.token.from s.token.to ≡ s.text → Heard text (if end then (if ((plain && word) && round) && string then Some s.token else None) else None) (if (string && end) && (plain && (word && round)) then Some s else None)
heard_by s false true plain word round span slice = no_call
heard_by s false false plain word round span slice = no_call
heard_by s true false false word round span slice = no_call
heard_by s true false true false round span slice = no_call
heard_by s true false true true false span slice = no_call
heard_by s true false true true true span slice = no_call
heard_by s true true false word round span slice = no_call
heard_by s true true true false round span slice = no_call
heard_by s true true true true false span slice = no_call
heard_by s true true true true true span slice = call span slice

-- the call at a token by whether a bracket of a call stands before the string
call_behind : (s : Placed) (before : List Placed) (t : Placed) (c : Bool) → is_call (after_of before) ≡ c → call_at (after_of (s ∷ before)) (seen_of t) t.text ≡ (if ends_at t then (if c && is_text s then Some s.token else None) else None)
call_behind s before t c e =
    call_at_is (after_of (s ∷ before)) t ∙ ap (λ x. if ends_at t then x else None) (argument_of (after_of before) s ∙ ap (λ d. if d && is_text s then Some s.token else None) e)

no_call_behind : {text : List ℕ} (s : Placed) (before : List Placed) (t : Placed) → is_call (after_of before) ≡ false → Heard text (call_at (after_of (s ∷ before)) (seen_of t) t.text) None
no_call_behind {text} s before t e = subst (λ c. Heard text c None) (either (ends_at t) None ∙ sym (call_behind s before t false e)) no_call

pub heard_is : (text : List ℕ) (before : List Placed) (t : Placed) → Headed text before → Heard text (call_at (after_of before) (seen_of t) t.text) (called before t)
heard_is text [] t h = no_call
heard_is text (s ∷ []) t h = no_call_behind s [] t refl
heard_is text (s ∷ (bracket ∷ [])) t h = no_call_behind s (bracket ∷ []) t (call_of Other bracket)
heard_is text (s ∷ (bracket ∷ (word ∷ before))) t h =
    let begun = call_of (after_of (word ∷ before)) bracket ∙ ap (λ i. i && is_mark bracket (codes "(")) (import_of (after_of before) word) in
    subst (λ c. Heard text c (called (s ∷ (bracket ∷ (word ∷ before))) t))
    (sym (call_behind s (bracket ∷ (word ∷ before)) t ((word.plain && is_word word (codes "import")) && is_mark bracket (codes "(")) begun))
    (heard_by s (ends_at t) (is_text s) word.plain (is_word word (codes "import")) (is_mark bracket (codes "(")) h.0 h.1)

-- ---- the string that waits stands in the text

the_token : (c : Bool) (s token : Token) → (if c then Some s else None) ≡ Some token → s ≡ token
the_token true s token e = cc
the_token false s token e = absurd (cc)

argument_stands : (text : List ℕ) (before : List Placed) (token : Token) → Headed text before → after_of before ≡ Argument token → IsSpan text token
argument_stands text [] token h e = absurd (cc)
argument_stands text (s ∷ before) token h e =
    subst (λ x. IsSpan text x) (the_token (is_call (after_of before) && is_text s) s.token token (sym (argument_of (after_of before) s) ∙ ap argument e)) h.0

if_some : (c : Bool) (P : Token → Type 0) (token : Token) → P token → IfSome (if c then Some token else None) P
if_some true P token p = p
if_some false P token p = tt

pub call_stands : (text : List ℕ) (before : List Placed) (a : After) (seen : Seen) (spelled : List ℕ) → Headed text before → a ≡ after_of before → IfSome (call_at a seen spelled) (λ token. IsSpan text token)
call_stands text before Other seen spelled h e = tt
call_stands text before (Import top) seen spelled h e = tt
call_stands text before Dot seen spelled h e = tt
call_stands text before Call seen spelled h e = tt
call_stands text before (Argument s) seen spelled h e =
    if_some (mark_is seen.kind spelled (codes ")") || mark_is seen.kind spelled (codes ",")) (λ token. IsSpan text token) s (argument_stands text before s h (sym e))

-- ---- what comes of it

abbrev with_heard : Option Placed → List Placed → Progress → List Request → Placed → List Placed → Result (List Request) ModuleFault
with_heard s before Outside so_far t later = requests so_far (with_call s (found t None (declaration t later) (λ n. findings before n later)))
with_heard s before (Inside e word None) so_far t later = requests so_far (opened word (form e (t ∷ later)) (λ a. with_call s (found t a (declaration t later) (λ n. findings before n later))))
with_heard s before (Inside e word (Some inner)) so_far t later = broken word inner (form e (t ∷ later))
with_heard s before (Broken fault) so_far t later = Err fault

finished_heard : (before : List Placed) (p : Progress) (so_far : List Request) (t : Placed) (later : List Placed) → finished before p so_far (t ∷ later) ≡ with_heard (called before t) (t ∷ before) p so_far t later
finished_heard before Outside so_far t later = refl
finished_heard before (Inside e word None) so_far t later = refl
finished_heard before (Inside e word (Some inner)) so_far t later = refl
finished_heard before (Broken fault) so_far t later = refl

-- inside of a declaration, by the fault that there is then
abbrev opened_or : ℕ → Option ModuleFault → Form → (Option ℕ → List Finding) → List Request → Result (List Request) ModuleFault
opened_or word None f next so_far = requests so_far (opened word f next)
opened_or word (Some inner) f next so_far = broken word inner f

opened_is : (before : List Placed) (e : Expect) (word : ℕ) (inner : Option ModuleFault) (so_far : List Request) (t : Placed) (later : List Placed) → opened_or word inner (form e (t ∷ later)) (λ a. found t a (declaration t later) (λ n. findings before n later)) so_far ≡ resumed before (Inside e word inner) so_far t later
opened_is before e word None so_far t later = refl
opened_is before e word (Some inner) so_far t later = refl

no_value : (word : ℕ) (f : Form) (next : Option ℕ → List Finding) (s : Placed) (so_far : List Request) → string_value s.text ≡ None → requests so_far (opened word f (λ a. import_call s ∷ next a)) ≡ broken word (Unreadable s.token.from) f
no_value word wrong next s so_far e = refl
no_value word none next s so_far e = rw e refl
no_value word alone next s so_far e = rw e refl
no_value word (asks count) next s so_far e = rw e refl

-- where a string has a value, by whether the limit is reached
abbrev limited : Bool → ℕ → Form → (Option ℕ → List Finding) → List Request → Result (List Request) ModuleFault
limited c word wrong next more = Err (Unreadable word)
limited c word none next more = if c then Err TooManyRequests else requests more (next None)
limited c word alone next more = if c then Err TooManyRequests else requests more (next None)
limited c word (asks count) next more = if c then Err TooManyRequests else requests more (next (Some count))

with_value : (word : ℕ) (f : Form) (next : Option ℕ → List Finding) (s : Placed) (value : List ℕ) (so_far : List Request) → string_value s.text ≡ Some value → requests so_far (opened word f (λ a. import_call s ∷ next a)) ≡ limited (length so_far == most_requests) word f next (so_far ++ asked_by s value ∷ [])
with_value word wrong next s value so_far e = refl
with_value word none next s value so_far e = rw e refl
with_value word alone next s value so_far e = rw e refl
with_value word (asks count) next s value so_far e = rw e refl

limit_inside : (c : Bool) (word : ℕ) (f : Form) (next : Option ℕ → List Finding) (so_far more : List Request) → limited c word f next more ≡ opened_or word (if c then Some TooManyRequests else None) f next (if c then so_far else more)
limit_inside true word wrong next so_far more = refl
limit_inside false word wrong next so_far more = refl
limit_inside true word none next so_far more = refl
limit_inside false word none next so_far more = refl
limit_inside true word alone next so_far more = refl
limit_inside false word alone next so_far more = refl
limit_inside true word (asks count) next so_far more = refl
limit_inside false word (asks count) next so_far more = refl

called_inside : (word : ℕ) (f : Form) (next : Option ℕ → List Finding) (s : Placed) (value : Option (List ℕ)) (so_far : List Request) → string_value s.text ≡ value → requests so_far (opened word f (λ a. import_call s ∷ next a)) ≡ opened_or word (fault_asked s.token value so_far) f next (requests_asked s.token value so_far)
called_inside word f next s None so_far e = no_value word f next s so_far e
called_inside word f next s (Some value) so_far e =
    with_value word f next s value so_far e ∙ limit_inside (length so_far == most_requests) word f next so_far (so_far ++ asked_by s value ∷ [])

limit_outside : (c : Bool) (before : List Placed) (so_far more : List Request) (t : Placed) (later : List Placed) → (if c then Err TooManyRequests else requests more (found t None (declaration t later) (λ n. findings before n later))) ≡ resumed before (or_outside (if c then Some TooManyRequests else None)) (if c then so_far else more) t later
limit_outside true before so_far more t later = refl
limit_outside false before so_far more t later = refl

called_step : (before : List Placed) (p : Progress) (s : Placed) (value : Option (List ℕ)) (so_far : List Request) (t : Placed) (later : List Placed) → string_value s.text ≡ value → with_heard (Some s) before p so_far t later ≡ resumed before (progress_called p s.token value so_far) (requests_called p s.token value so_far) t later
called_step before Outside s None so_far t later e = rw e refl
called_step before Outside s (Some value) so_far t later e = rw e (limit_outside (length so_far == most_requests) before so_far (so_far ++ asked_by s value ∷ []) t later)
called_step before (Inside f word None) s value so_far t later e =
    called_inside word (form f (t ∷ later)) (λ a. found t a (declaration t later) (λ n. findings before n later)) s value so_far e
    ∙ opened_is before f word (fault_asked s.token value so_far) (requests_asked s.token value so_far) t later
called_step before (Inside f word (Some inner)) s value so_far t later e = refl
called_step before (Broken fault) s value so_far t later e = refl

heard_step : {text : List ℕ} {c : Option Token} {s : Option Placed} (before : List Placed) (p : Progress) (so_far : List Request) (t : Placed) (later : List Placed) → Heard text c s → with_heard s before p so_far t later ≡ resumed before (progress_heard p text c so_far) (requests_heard p text c so_far) t later
heard_step before Outside so_far t later no_call = refl
heard_step before (Inside e word None) so_far t later no_call = refl
heard_step before (Inside e word (Some inner)) so_far t later no_call = refl
heard_step before (Broken fault) so_far t later no_call = refl
heard_step {text} before p so_far t later (call {s} span slice) =
    called_step before p s (string_value s.text) so_far t later refl
    ∙ ap (λ v. resumed before (progress_called p s.token v so_far) (requests_called p s.token v so_far) t later) (sym (ap string_value slice))

pub finished_resumed : (text : List ℕ) (before : List Placed) (p : Progress) (so_far : List Request) (t : Placed) (later : List Placed) → Headed text before → finished before p so_far (t ∷ later) ≡ resumed (t ∷ before) (progress_heard p text (call_at (after_of before) (seen_of t) t.text) so_far) (requests_heard p text (call_at (after_of before) (seen_of t) t.text) so_far) t later
finished_resumed text before p so_far t later h = finished_heard before p so_far t later ∙ heard_step (t ∷ before) p so_far t later (heard_is text before t h)

-- ---- and it keeps that a bracket is open inside of braces

pub deep_outside : (fault : Option ModuleFault) (d : ℕ) → Deep (or_outside fault) d
deep_outside None d = tt
deep_outside (Some fault) d = tt

deep_called : (p : Progress) (token : Token) (value : Option (List ℕ)) (so_far : List Request) (d : ℕ) → Deep p d → Deep (progress_called p token value so_far) d
deep_called Outside token value so_far d x = deep_outside (fault_asked token value so_far) d
deep_called (Inside e word None) token value so_far d x = x
deep_called (Inside e word (Some inner)) token value so_far d x = x
deep_called (Broken fault) token value so_far d x = tt

pub deep_heard : (p : Progress) (text : List ℕ) (c : Option Token) (so_far : List Request) (d : ℕ) → Deep p d → Deep (progress_heard p text c so_far) d
deep_heard p text None so_far d x = x
deep_heard p text (Some token) so_far d x = deep_called p token (value_at text token) so_far d x
