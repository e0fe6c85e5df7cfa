-- What is put into the tables of a walk.
use Rattle.std.proofs.Common.{◌≡◌, ◌≢◌, ◌<◌, ◌≤◌, ◌+◌, ℕ, zero, suc, true, false, List, [], ◌∷◌, ◌++◌, length, Option, Some, None, Result, Ok, Err, refl, sym, ap, ◌∙◌, subst, arith, length-append, append-nil}
use Rattle.std.specs.Prelude.{All, ◌||◌, is_some, map, nat_lt, option_map, slice_get, take}
use Rattle.std.specs.Result.{IsErrAnd}
use mathlib.Core.Logic.{inl, inr}
use Rattle.std.specs.List.{list_any}
use Rattle.std.specs.Map.{keys_of, lookup, lookup_key}
use Rattle.indexmap.specs.IndexMap.{keys}
use Rattle.std.proofs.option.Match.{None-if_not_some}
use Rattle.std.proofs.lemmas.Bool.{cases_Bool, cond-true, cond-false, or_parts, lt-ltb}
use Rattle.std.proofs.lemmas.List.{map-append}
use Rattle.std.proofs.lemmas.Option.{slice_get-map, slice_get_within}
use Rattle.std.proofs.lemmas.Map.Made.{is_some-lookup}
use Rattle.std.proofs.lemmas.List.Elements.{All-push, All-head, All-tail, All-weaker}
use Rattle.tree_spec.specs.declared.LimitName.TheVariants.{Modules, Requests}
use Rattle.tree_spec.specs.Limits.{limit_number}
use Rattle.layout_spec.specs.declared.Need.{Need}
use Rattle.layout_spec.specs.Needs.{clashes, NoClash}
use Rattle.need_table.specs.Rows.{ClashesAt}
use Rattle.trace_spec.specs.declared.TraceFault.{TraceFault}
use Rattle.trace_spec.specs.declared.TraceFault.TheVariants.{ReadFault, Memory}
use Rattle.trace_spec.specs.Walking.{a_module}
use Rattle.trace_spec.specs.Walking as walking
use Rattle.trace_spec.specs.Modules.{Config, Module, is_module, file_name, served_at, shown}
use Rattle.trace_spec.specs.Checks.{Gathered, Spelling, Wanted, clashing, with_request, has_room, needed, named}
use Rattle.trace_spec.proofs.Lists.{same_module}
use Rattle.trace_spec.proofs.NeedLemmas.{no_clash_more}
use Rattle.trace_walk.specs.declared.referrer.Referrer.{Referrer}
use Rattle.trace_walk.specs.declared.tables.Name.{Name}
use Rattle.trace_walk.specs.declared.tables.Tables.{Tables}
use Rattle.module_sources.specs.Shown.{source_of}
use Rattle.trace_walk.specs.Shown.{module_at, before_of, done}
use Rattle.trace_walk.specs.Walking.{IsReferrer, IsNamed, AllNamed, AllInside, AllRead, AreBeside, IsAdded, IsGiven, Grows}
use Rattle.trace_walk.specs.Kinds.{IsOfWalk}
use Rattle.trace_walk.specs.Putting.{IsKnown, Puts}
use Rattle.trace_walk.specs.Refusing.{clash_by, IsClash, IsMisnamed}

-- ---- a module that is looked up

none_by : {X : Type 0} (found : Option X) → found ≡ None → is_some found ≡ false
none_by None e = refl
none_by (Some x) e = absurd (cc)

pub not_among : {X : Type 0} (target : Module) (entries : List (Module × X)) → lookup (is_module target) entries ≡ None → list_any (is_module target) (keys_of entries) ≡ false
not_among target entries e = sym (is_some-lookup (is_module target) entries) ∙ none_by _ e

pub is_among : {X : Type 0} (target : Module) (entries : List (Module × X)) (found : X) → lookup (is_module target) entries ≡ Some found → list_any (is_module target) (keys_of entries) ≡ true
is_among target entries found e = sym (is_some-lookup (is_module target) entries) ∙ ap is_some e

pub none_found : {X : Type 0} (target : Module) (entries : List (Module × X)) → list_any (is_module target) (keys_of entries) ≡ false → lookup (is_module target) entries ≡ None
none_found target entries fresh = None-if_not_some (lookup (is_module target) entries) (is_some-lookup (is_module target) entries ∙ fresh)

named_as : (config : Config) (target : Module) (entries : List (Module × Name)) (found : Name) → lookup (is_module target) entries ≡ Some found → AllNamed config entries → IsNamed config target found
named_as config target [] found e all = absurd (cc)
named_as config target (entry ∷ entries) found e all =
    elim (cases_Bool (is_module target entry.0)) [
      | inl here ↦
          let same : target ≡ entry.0 = same_module target entry.0 here in
          let is : entry.1 ≡ found = (let f = sym (cond-true (is_module target entry.0) (Some entry.1) (lookup (is_module target) entries) here) ∙ e in cc) in
          subst (λ m. IsNamed config m found) (sym same) (subst (IsNamed config entry.0) is (All-head (λ (x : Module × Name). IsNamed config x.0 x.1) entry entries all))
      | inr other ↦ named_as config target entries found (sym (cond-false (is_module target entry.0) (Some entry.1) (lookup (is_module target) entries) other) ∙ e) (All-tail (λ (x : Module × Name). IsNamed config x.0 x.1) entry entries all)
    ]

pub text_of : (config : Config) (target : Module) (entries : List (Module × Name)) (found : Name) → lookup (is_module target) entries ≡ Some found → AllNamed config entries → file_name config target ≡ Some found.text
text_of config target entries found e all = let is = named_as config target entries found e all in is.is ∙ ap Some (sym is.text)

-- ---- a module that is put at the end

pub keys_of-length : {X : Type 0} (entries : List (Module × X)) → length (keys_of entries) ≡ length entries
keys_of-length [] = refl
keys_of-length (entry ∷ entries) = ap suc (keys_of-length entries)

names_push : (config : Config) (old new : List (Module × Name)) (target : Module) (name : Name) → new ≡ old ++ (target, name) ∷ [] → IsNamed config target name → AllNamed config old → AllNamed config new
names_push config old new target name e is all = subst (AllNamed config) (sym e) (All-push (λ (x : Module × Name). IsNamed config x.0 x.1) old (target, name) all is)

-- what a request leaves behind whose need clashes with none
pub record IsPut (old new : Tables) (need : Need) (spelling : Spelling) (place : ℕ) : Type 0 where
  pub sources : new.sources ≡ old.sources
  pub added : IsAdded old.needs old.spellings.items need spelling new.needs new.spellings.items
  pub targets : new.targets.items ≡ old.targets.items ++ place ∷ []

-- places stay among more modules, and so does one more
places_within : (old new : List ℕ) (count more place : ℕ) → new ≡ old ++ place ∷ [] → count ≤ more → place < more → All (λ p. p < count) old → All (λ p. p < more) new
places_within old new count more place e few is all =
    subst (All (λ p. p < more)) (sym e) (All-push (λ p. p < more) old place (All-weaker (λ p. p < count) (λ p. p < more) (λ p below. (omega (arith, few, below))) old all) is)

clear_more : (old new : Tables) (need : Need) (spelling : Spelling) (place : ℕ) → IsPut old new need spelling place → NoClash old.needs → NoClash new.needs
clear_more old new need spelling place put clear = subst NoClash (sym put.added.needs_are) (no_clash_more old.needs need clear put.added.clear)

beside_more : (old new : Tables) (need : Need) (spelling : Spelling) (place : ℕ) → IsPut old new need spelling place → AreBeside old → All (λ p. p < length new.modules.entries) new.targets.items → AreBeside new
beside_more old new need spelling place put beside placed = record {
  spelled = put.added.beside;
  placed = placed;
  inside = subst (λ sources. AllInside sources.items) (sym put.sources) beside.inside;
  read = subst (λ sources. AllRead (map source_of sources.items)) (sym put.sources) beside.read;
}

pub grows_by_one : (config : Config) (old new : Tables) (need : Need) (spelling : Spelling) (name : Name) → AreBeside old → length old.targets.items < limit_number Requests → length old.modules.entries < limit_number Modules
    → new.modules.entries ≡ old.modules.entries ++ (spelling.target, name) ∷ [] → IsNamed config spelling.target name → IsPut old new need spelling (length old.modules.entries) → Grows config 0 old new
grows_by_one config old new need spelling name beside few room e is put = record {
  named = names_push config old.modules.entries new.modules.entries spelling.target name e is;
  few = λ few. let n = ap length e in let m = length-append old.modules.entries ((spelling.target, name) ∷ []) in omega arith;
  longer = let n = ap length e in let m = length-append old.modules.entries ((spelling.target, name) ∷ []) in omega arith;
  sources = let n = ap (λ s. length s.items) put.sources in omega arith;
  requests = λ within. let n = ap length put.targets in let m = length-append old.targets.items (length old.modules.entries ∷ []) in omega arith;
  beside = beside_more old new need spelling (length old.modules.entries) put beside (places_within old.targets.items new.targets.items (length old.modules.entries) (length new.modules.entries) (length old.modules.entries) put.targets (let n = ap length e in let m = length-append old.modules.entries ((spelling.target, name) ∷ []) in omega arith) (let n = ap length e in let m = length-append old.modules.entries ((spelling.target, name) ∷ []) in omega arith) beside.placed);
  clear = clear_more old new need spelling (length old.modules.entries) put;
}

pub grows_by_none : (config : Config) (old new : Tables) (need : Need) (spelling : Spelling) (place : ℕ) → AreBeside old → place < length old.modules.entries → length old.targets.items < limit_number Requests → new.modules ≡ old.modules → IsPut old new need spelling place → Grows config 0 old new
grows_by_none config old new need spelling place beside at few modules put = record {
  named = λ all. subst (λ modules. AllNamed config modules.entries) (sym modules) all;
  few = λ few. let n = ap (λ ms. length ms.entries) modules in omega arith;
  longer = let n = ap (λ ms. length ms.entries) modules in omega arith;
  sources = let n = ap (λ s. length s.items) put.sources in omega arith;
  requests = λ within. let n = ap length put.targets in let m = length-append old.targets.items (place ∷ []) in omega arith;
  beside = beside_more old new need spelling place put beside (places_within old.targets.items new.targets.items (length old.modules.entries) (length new.modules.entries) place put.targets (let n = ap (λ ms. length ms.entries) modules in omega arith) (let n = ap (λ ms. length ms.entries) modules in omega (arith, at)) beside.placed);
  clear = clear_more old new need spelling place put;
}

-- ---- targets, by the places of modules

key_is : {X : Type 0} (target : Module) (entries : List (Module × X)) (key : Module) → lookup_key (is_module target) entries ≡ Some key → target ≡ key
key_is target [] key e = absurd (cc)
key_is target (entry ∷ entries) key e =
    elim (cases_Bool (is_module target entry.0)) [
      | inl here ↦ (let f = sym (cond-true (is_module target entry.0) (Some entry.0) (lookup_key (is_module target) entries) here) ∙ e in same_module target entry.0 here ∙ (let p : entry.0 ≡ key = cc in p))
      | inr other ↦ key_is target entries key (sym (cond-false (is_module target entry.0) (Some entry.0) (lookup_key (is_module target) entries) other) ∙ e)
    ]

pub known_at : {X : Type 0} (target : Module) (entries : List (Module × X)) (place : ℕ) (key : Module) (found : X) → lookup_key (is_module target) entries ≡ Some key → lookup (is_module target) entries ≡ Some found → slice_get entries place ≡ Some (key, found)
    → IsKnown (keys_of entries) target place
known_at target entries place key found by_key by_value at = record {
  there = is_among target entries found by_value;
  at = slice_get-map (λ entry. entry.0) entries place ∙ (ap (option_map (λ entry. entry.0)) at ∙ ap Some (sym (key_is target entries key by_key)));
}

module_there : (modules : List Module) (place : ℕ) (target : Module) → slice_get modules place ≡ Some target → module_at modules place ≡ target
module_there [] place target at = absurd (cc)
module_there (m ∷ modules) zero target at = cc
module_there (m ∷ modules) (suc place) target at = module_there modules place target at

still_there : (modules more : List Module) (place : ℕ) → place < length modules → module_at (modules ++ more) place ≡ module_at modules place
still_there [] more place below = absurd (omega arith)
still_there (m ∷ modules) more zero below = refl
still_there (m ∷ modules) more (suc place) below = still_there modules more place (omega arith)

pub still_all : (modules more : List Module) (places : List ℕ) → All (λ p. p < length modules) places → map (module_at (modules ++ more)) places ≡ map (module_at modules) places
still_all modules more [] all = refl
still_all modules more (place ∷ places) all =
    (λ i. still_there modules more place (All-head (λ p. p < length modules) place places all) i ∷ still_all modules more places (All-tail (λ p. p < length modules) place places all) i)

last_there : (modules : List Module) (target : Module) → module_at (modules ++ target ∷ []) (length modules) ≡ target
last_there [] target = refl
last_there (m ∷ modules) target = last_there modules target

pub known_place : (entries : List (Module × Name)) (target : Module) (place : ℕ) → IsKnown (keys_of entries) target place → place < length entries
known_place entries target place known = let count = keys_of-length entries in let below = slice_get_within (keys_of entries) place target known.at in omega (arith, count, below)

pub one_target : (old new : List ℕ) (place : ℕ) → new ≡ old ++ place ∷ [] → length new ≡ length old + 1
one_target old new place e = ap length e ∙ length-append old (place ∷ [])

-- ---- the tables behind a request

-- a module that is known
with_known : (old new : Tables) (need : Need) (spelling : Spelling) (place : ℕ) → IsKnown (keys old.modules) spelling.target place → new.modules ≡ old.modules → IsPut old new need spelling place → with_request (before_of old) need spelling ≡ before_of new
with_known old new need spelling place known modules put = λ i. record {
  modules = (ap (λ more. keys old.modules ++ more) (cond-true (list_any (is_module spelling.target) (keys old.modules)) [] (spelling.target ∷ []) known.there) ∙ (append-nil (keys old.modules) ∙ ap keys (sym modules))) i;
  sources = map source_of (sym put.sources i).items;
  needs = sym put.added.needs_are i;
  spellings = sym put.added.spellings_are i;
  targets =
      (ap (λ last. map (module_at (keys old.modules)) old.targets.items ++ last ∷ []) (sym (module_there (keys old.modules) place spelling.target known.at))
      ∙ (sym (map-append (module_at (keys old.modules)) old.targets.items (place ∷ []))
      ∙ (λ j. map (module_at (keys (sym modules j))) (sym put.targets j)))) i;
}

-- a new one
with_new : (old new : Tables) (need : Need) (spelling : Spelling) (name : Name) → AreBeside old → list_any (is_module spelling.target) (keys old.modules) ≡ false → new.modules.entries ≡ old.modules.entries ++ (spelling.target, name) ∷ []
    → IsPut old new need spelling (length old.modules.entries) → with_request (before_of old) need spelling ≡ before_of new
with_new old new need spelling name beside fresh e put =
    let more : keys new.modules ≡ keys old.modules ++ spelling.target ∷ [] = ap keys_of e ∙ map-append (λ (entry : Module × Name). entry.0) old.modules.entries ((spelling.target, name) ∷ []) in
    let count : length (keys old.modules) ≡ length old.modules.entries = keys_of-length old.modules.entries in
    λ i. record {
      modules = (ap (λ more. keys old.modules ++ more) (cond-false (list_any (is_module spelling.target) (keys old.modules)) [] (spelling.target ∷ []) fresh) ∙ sym more) i;
      sources = map source_of (sym put.sources i).items;
      needs = sym put.added.needs_are i;
      spellings = sym put.added.spellings_are i;
      targets =
          ((λ j. sym (still_all (keys old.modules) (spelling.target ∷ []) old.targets.items (subst (λ n. All (λ p. p < n) old.targets.items) (sym count) beside.placed)) j
          ++ sym (last_there (keys old.modules) spelling.target) j ∷ [])
          ∙ (ap (λ n. map (module_at (keys old.modules ++ spelling.target ∷ [])) old.targets.items ++ module_at (keys old.modules ++ spelling.target ∷ []) n ∷ []) count
          ∙ (sym (map-append (module_at (keys old.modules ++ spelling.target ∷ [])) old.targets.items (length old.modules.entries ∷ []))
          ∙ (λ j. map (module_at (sym more j)) (sym put.targets j))))) i;
    }

put_given : (config : Config) (r : walking.Referrer Module) (before after : Gathered) (need : Need) (spelling : Spelling) → list_any (clashes need) before.needs ≡ false → has_room before.modules spelling.target ≡ true → with_request before need spelling ≡ after
    → IsGiven (needed config before r need spelling) (Ok after)
put_given config r before after need spelling clear room is = record {
  given = λ ne. cond-false _ _ _ clear ∙ (cond-true _ _ _ room ∙ ap Ok is);
  no_look = λ e. cc;
}

pub known_given : (config : Config) (r : walking.Referrer Module) (old new : Tables) (need : Need) (spelling : Spelling) (place : ℕ) → IsKnown (keys old.modules) spelling.target place → new.modules ≡ old.modules → IsPut old new need spelling place
    → IsGiven (needed config (before_of old) r need spelling) (Ok (before_of new))
known_given config r old new need spelling place known modules put =
    put_given config r (before_of old) (before_of new) need spelling put.added.clear (ap (λ b. b || nat_lt (length (keys old.modules)) (limit_number Modules)) known.there) (with_known old new need spelling place known modules put)

pub new_given : (config : Config) (r : walking.Referrer Module) (old new : Tables) (need : Need) (spelling : Spelling) (name : Name) → AreBeside old → list_any (is_module spelling.target) (keys old.modules) ≡ false → length old.modules.entries < limit_number Modules
    → new.modules.entries ≡ old.modules.entries ++ (spelling.target, name) ∷ [] → IsPut old new need spelling (length old.modules.entries) → IsGiven (needed config (before_of old) r need spelling) (Ok (before_of new))
new_given config r old new need spelling name beside fresh room e put =
    put_given config r (before_of old) (before_of new) need spelling put.added.clear
    (ap (λ b. b || nat_lt (length (keys old.modules)) (limit_number Modules)) fresh ∙ lt-ltb (length (keys old.modules)) (limit_number Modules) (let count = keys_of-length old.modules.entries in omega (arith, count, room)))
    (with_new old new need spelling name beside fresh e put)

-- ---- needs and their spellings

-- the spelling at the place of the first need that clashes
clashing_at : (need other : Need) (needs : List Need) (spellings : List Spelling) (first : ℕ) (spelling : Spelling) → slice_get needs first ≡ Some other → clashes need other ≡ true → list_any (clashes need) (take first needs) ≡ false → slice_get spellings first ≡ Some spelling → clashing need needs spellings ≡ spelling
clashing_at need other [] spellings first spelling stands clash none at = absurd (cc)
clashing_at need other (one ∷ needs) [] first spelling stands clash none at = absurd (cc)
clashing_at need other (one ∷ needs) (some ∷ spellings) zero spelling stands clash none at =
    let same : other ≡ one = (let f : Some one ≡ Some other = stands in cc) in
    let is : some ≡ spelling = (let f : Some some ≡ Some spelling = at in cc) in
    cond-true (clashes need one) some (clashing need needs spellings) (subst (λ n. clashes need n ≡ true) same clash) ∙ is
clashing_at need other (one ∷ needs) (some ∷ spellings) (suc first) spelling stands clash none at =
    cond-false (clashes need one) some (clashing need needs spellings) (or_parts (clashes need one) (list_any (clashes need) (take first needs)) none).0
    ∙ clashing_at need other needs spellings first spelling stands clash (or_parts (clashes need one) (list_any (clashes need) (take first needs)) none).1 at

pub is_clash : (referrer : Referrer) (needs : List Need) (need : Need) (spellings : List Spelling) (spelling found : Spelling) (first : ℕ) (fault : TraceFault) → ClashesAt needs need first → slice_get spellings first ≡ Some found → fault ≡ clash_by referrer found spelling → IsClash referrer needs need spellings spelling fault
is_clash referrer needs need spellings spelling found first fault at stands is = record {
  clash = at.found;
  is = is ∙ ap (λ s. clash_by referrer s spelling) (sym (clashing_at need at.other needs spellings first found at.stands at.clash at.none_before stands));
}

-- ---- what a part gives

pub handed_given : (definition : Result Gathered TraceFault) (fault : TraceFault) (result : Result (Unit {0}) TraceFault) (tables : Tables) → IsErrAnd result (λ f. f ≡ fault) → (fault ≢ Memory → definition ≡ Err fault) → (fault ≢ Memory → fault ≢ ReadFault) → IsGiven definition (done result tables)
handed_given definition fault (Ok unit) tables is given no_look = absurd is
handed_given definition fault (Err other) tables is given no_look = record {
  given = λ ne. given (λ e. ne (ap Err (is ∙ e))) ∙ ap Err (sym is);
  no_look = λ e. (let f : fault ≡ ReadFault = (let g : other ≡ ReadFault = cc in sym is ∙ g) in no_look (λ h. (let g : ReadFault ≡ Memory = sym f ∙ h in cc)) f);
}

-- memory is wanting
pub memory_given : (definition : Result Gathered TraceFault) (result : Result (Unit {0}) TraceFault) (tables : Tables) → IsErrAnd result (λ f. f ≡ Memory) → IsGiven definition (done result tables)
memory_given definition result tables is = handed_given definition Memory result tables is (λ ne. absurd (ne refl)) (λ ne. absurd (ne refl))

-- its target isn't served, or as a folder
pub given_misnamed : (config : Config) (r : walking.Referrer Module) (referrer : Referrer) (before : Gathered) (want : Wanted) (specifier : List ℕ) (target : Module) (fault : TraceFault) (result : Result (Unit {0}) TraceFault) (tables : Tables) → IsReferrer config r referrer → IsErrAnd result (λ f. f ≡ fault)
    → (fault ≢ Memory → IsMisnamed config referrer specifier target fault) → IsGiven (named config before r want (record { referrer = shown config r; specifier = specifier; target = target }) (served_at config (a_module target))) (done result tables)
given_misnamed config r referrer before want specifier target fault result tables is handed misnamed =
    handed_given (named config before r want (record { referrer = shown config r; specifier = specifier; target = target }) (served_at config (a_module target))) fault result tables handed
    (λ ne. (misnamed ne).refuses r before want is) (λ ne. (misnamed ne).no_look)

-- ---- a request that is refused

pub puts_refused : (config : Config) (referrer : List ℕ) (old new : Tables) (fault : TraceFault) (result : Result (Unit {0}) TraceFault) → IsErrAnd result (λ f. f ≡ fault) → IsOfWalk config fault → Puts config referrer old new result
puts_refused config referrer old new fault (Ok unit) is kind = absurd is
puts_refused config referrer old new fault (Err other) is kind = record { grows = tt; counts = tt; sources = tt; urls = tt; kind = subst (IsOfWalk config) (sym is) kind }
