-- One token of what shows that a text is a module's.
use Rattle.std.proofs.Common.{◌≡◌, Bool, true, false, not, ◌&&◌, ◌||◌, ◌==◌, codes, List, [], ◌∷◌, if◌then◌else◌, refl, sym, ap}
use Rattle.module_spec.specs.declared.token.Token.{Token}
use Rattle.module_spec.specs.Places.{Placed, is_word, is_mark, is_text}
use Rattle.module_spec.specs.Forms.{begins_expression, begins_word, begins_meta}
use Rattle.module_spec.specs.Outlines.{declares}
use Rattle.module_spec.proofs.Terminals.{one_word, word_is_name, name_no_mark}
use Rattle.es_module_parser.specs.declared.declaring.After.{After}
use Rattle.es_module_parser.specs.declared.declaring.After.TheVariants.{Other, Import, Dot, Call, Argument}
use Rattle.es_module_parser.specs.Declaring.{declares_now, after_token, declares_at_end}
use Rattle.es_module_parser.proofs.FormSteps.{seen_of}

-- what the tokens that are to come show, behind those that were read
abbrev pub declares_from : After → List Placed → Bool
declares_from Other later = declares later
declares_from (Import top) later = top && not (begins_expression later) || (begins_meta later || declares later)
declares_from Dot later = begins_word (codes "meta") later || declares later
declares_from Call later = declares later
declares_from (Argument s) later = declares later

-- behind these the tokens show what they show alone
abbrev Shows : After → List Placed → Type 0
Shows a later = declares_from a later ≡ declares later

call_shows : (round : Bool) (later : List Placed) → Shows (if round then Call else Other) later
call_shows true later = refl
call_shows false later = refl

argument_shows : (text : Bool) (s : Token) (later : List Placed) → Shows (if text then Argument s else Other) later
argument_shows true s later = refl
argument_shows false s later = refl

-- the word `import`, or not: then it is no other word and no punctuator
data Spelled : Bool → Bool → Bool → Bool → Bool → Type 0 where
  is_import : Spelled true false false false false
  another : {exports meta dot round : Bool} → Spelled false exports meta dot round

spelled_by : (word exports meta dot round : Bool) → (word ≡ true → (exports ≡ false) × (meta ≡ false) × (dot ≡ false) × (round ≡ false)) → Spelled word exports meta dot round
spelled_by false exports meta dot round h = another
spelled_by true exports meta dot round h = let e = h refl in rw (e.0, e.1, e.2, e.3) is_import

spelled : (t : Placed) → Spelled (is_word t (codes "import")) (is_word t (codes "export")) (is_word t (codes "meta")) (is_mark t (codes ".")) (is_mark t (codes "("))
spelled t =
    spelled_by (is_word t (codes "import")) (is_word t (codes "export")) (is_word t (codes "meta")) (is_mark t (codes ".")) (is_mark t (codes "("))
    (λ e. let name = word_is_name t (codes "import") e in
    (one_word t (codes "import") (codes "export") e refl, one_word t (codes "import") (codes "meta") e refl, name_no_mark t (codes ".") name, name_no_mark t (codes "(") name))

import_top : (expression meta later : Bool) → ((not expression || false) || (meta || later)) ≡ (not expression || (meta || later))
import_top true meta later = refl
import_top false meta later = refl

import_case : (s plain out : Bool) (later : List Placed) (a : After) → Shows a later → (s || ((((plain && out) && true) && not (begins_expression later) || (plain && out) && false) || (((plain && true) && begins_meta later) || declares later))) ≡ ((s || (plain && out) && false) || declares_from (if plain && true then Import (plain && out) else a) later)
import_case true plain out later a e = refl
import_case false false out later a e = sym e
import_case false true false later a e = refl
import_case false true true later a e = import_top (begins_expression later) (begins_meta later) (declares later)

other_case : (s plain out exports : Bool) (later : List Placed) (a : After) → Shows a later → (s || ((((plain && out) && false) && not (begins_expression later) || (plain && out) && exports) || (((plain && false) && begins_meta later) || declares later))) ≡ ((s || (plain && out) && exports) || declares_from (if plain && false then Import (plain && out) else a) later)
other_case true plain out exports later a e = refl
other_case false false out exports later a e = sym e
other_case false true false exports later a e = sym e
other_case false true true exports later a e = ap (λ x. exports || x) (sym e)

swapped : (meta exports later : Bool) → (meta || (exports || later)) ≡ (exports || (meta || later))
swapped true true later = refl
swapped true false later = refl
swapped false exports later = refl

dot_case : (s plain out exports dot : Bool) (later : List Placed) (a : After) → Shows a later → (s || ((dot && begins_word (codes "meta") later) || ((((plain && out) && false) && not (begins_expression later) || (plain && out) && exports) || (((plain && false) && begins_meta later) || declares later)))) ≡ ((s || (plain && out) && exports) || declares_from (if plain && false then Import (plain && out) else (if dot then Dot else a)) later)
dot_case true plain out exports dot later a e = refl
dot_case false false out exports true later a e = refl
dot_case false false out exports false later a e = sym e
dot_case false true false exports true later a e = refl
dot_case false true false exports false later a e = sym e
dot_case false true true exports true later a e = swapped (begins_word (codes "meta") later) exports (declares later)
dot_case false true true exports false later a e = ap (λ x. exports || x) (sym e)

other_step : (plain out : Bool) (later : List Placed) (a : After) → Shows a later → {word exports meta dot round : Bool} → Spelled word exports meta dot round
    → ((((plain && out) && word) && not (begins_expression later) || (plain && out) && exports) || (((plain && word) && begins_meta later) || declares later)) ≡ ((false || (plain && out) && exports) || declares_from (if plain && word then Import (plain && out) else a) later)
other_step plain out later a e is_import = import_case false plain out later a e
other_step plain out later a e (another {exports}) = other_case false plain out exports later a e

import_step : (top plain out : Bool) (later : List Placed) {word exports meta dot round : Bool} → Spelled word exports meta dot round
    → (top && not (round || dot) || ((dot && begins_word (codes "meta") later) || ((((plain && out) && word) && not (begins_expression later) || (plain && out) && exports) || (((plain && word) && begins_meta later) || declares later)))) ≡ ((top && not (round || dot) || (plain && out) && exports) || declares_from (if plain && word then Import (plain && out) else (if dot then Dot else if round then Call else Other)) later)
import_step top plain out later is_import = import_case (top && true) plain out later Other refl
import_step top plain out later (another {exports} {meta} {dot} {round}) = dot_case (top && not (round || dot)) plain out exports dot later (if round then Call else Other) (call_shows round later)

dot_step : (plain out : Bool) (later : List Placed) {word exports meta dot round : Bool} → Spelled word exports meta dot round
    → (meta || ((((plain && out) && word) && not (begins_expression later) || (plain && out) && exports) || (((plain && word) && begins_meta later) || declares later))) ≡ ((meta || (plain && out) && exports) || declares_from (if plain && word then Import (plain && out) else Other) later)
dot_step plain out later is_import = import_case false plain out later Other refl
dot_step plain out later (another {exports} {meta}) = other_case meta plain out exports later Other refl

pub declare_step : (after : After) (t : Placed) (later : List Placed) → declares_from after (t ∷ later) ≡ (declares_now after (seen_of t) t.text || declares_from (after_token after t.token (seen_of t) t.text) later)
declare_step Other t later = other_step t.plain (t.depth == 0) later Other refl (spelled t)
declare_step Call t later = other_step t.plain (t.depth == 0) later (if is_text t then Argument t.token else Other) (argument_shows (is_text t) t.token later) (spelled t)
declare_step (Argument s) t later = other_step t.plain (t.depth == 0) later Other refl (spelled t)
declare_step (Import top) t later = import_step top t.plain (t.depth == 0) later (spelled t)
declare_step Dot t later = dot_step t.plain (t.depth == 0) later (spelled t)

and_true : (top : Bool) → ((top && true) || false) ≡ top
and_true true = refl
and_true false = refl

pub declared_at_end : (after : After) → declares_from after [] ≡ declares_at_end after
declared_at_end Other = refl
declared_at_end (Import top) = and_true top
declared_at_end Dot = refl
declared_at_end Call = refl
declared_at_end (Argument s) = refl
