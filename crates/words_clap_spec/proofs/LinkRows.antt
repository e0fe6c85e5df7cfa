-- The rows that `link` has after some of its words.
use Rattle.clap.specs.Takes.{settle_passes}
use Rattle.clap.specs.Walk.{Held, more_values, settled, with_values}
use Rattle.clap.specs.Words.{Row, Text}
use Rattle.clap.specs.declared.parser.matches.ValueSource.TheVariants.{CommandLine}
use Rattle.std.proofs.Common.{◌≡◌, List, [], ◌∷◌, ◌++◌, append-nil, codes, find, true, false, Some, None, option_map, refl, ap, ◌∙◌}
use Rattle.std.specs.Option.{option_or}
use Rattle.words_spec.specs.declared.LinkOption.{LinkOption}
use Rattle.words_spec.specs.declared.LinkOption.TheVariants.{Base, Page, Conditions}
use Rattle.words_spec.specs.PlainWords.{LinkOptions, value_of, with_value}
use Rattle.words_clap_spec.specs.Holding.{as_text, is_row, option_name, row}
use Rattle.words_clap_spec.proofs.LinkTurns.{after_joined, after_value, link_rules, put_value}
use Rattle.words_clap_spec.proofs.LinkTurns.{value_settled, value_settles}
use Rattle.words_clap_spec.proofs.Rows.{at_row-none, find-append, option_or-none, has_row-none}

-- the row of each option is that of its value
abbrev pub OptionRows : LinkOptions → List Row → Type 0
OptionRows options rows =
    (o : LinkOption) → find (is_row (option_name o)) rows ≡ option_map (λ value. row (option_name o) (value ∷ [])) (value_of o options)

-- what is held once these options have come
pub record HoldsOptions (options : LinkOptions) (held : Held) : Type 0 where
  pub rows : OptionRows options (settled link_rules held).rows
  pub no_entries : find (is_row (codes "entries")) (settled link_rules held).rows ≡ None
  pub settles : settle_passes link_rules false held ≡ true

pub free_row : (options : LinkOptions) (held : Held) (o : LinkOption) → HoldsOptions options held → value_of o options ≡ None → find (is_row (option_name o)) (settled link_rules held).rows ≡ None
free_row options held o has free = has.rows o ∙ ap (option_map (λ value. row (option_name o) (value ∷ []))) free

put_last : (o : LinkOption) (value : Text) (rows : List Row) → find (is_row (option_name o)) rows ≡ None → put_value o value rows ≡ rows ++ row (option_name o) (value ∷ []) ∷ []
put_last o value rows none =
    ap (with_values (option_name o) as_text CommandLine (value ∷ []))
    (at_row-none (option_name o) (λ _. []) [] rows none ∙ append-nil rows)
    ∙ at_row-none (option_name o) (more_values CommandLine (value ∷ [])) (row (option_name o) (value ∷ []) ∷ []) rows none

-- a row of another name is found no more and no less
other_row : (id : Text) (old new : List Row) (r : Row) → find (is_row id) (r ∷ []) ≡ None → new ≡ old ++ r ∷ [] → find (is_row id) new ≡ find (is_row id) old
other_row id old new r none is =
    ap (find (is_row id)) is ∙ find-append id old (r ∷ []) ∙ ap (option_or (find (is_row id) old)) none
    ∙ option_or-none (find (is_row id) old)

own_row : (id : Text) (old new : List Row) (r : Row) → find (is_row id) (r ∷ []) ≡ Some r → find (is_row id) old ≡ None → new ≡ old ++ r ∷ [] → find (is_row id) new ≡ Some r
own_row id old new r own none is =
    ap (find (is_row id)) is ∙ find-append id old (r ∷ []) ∙ ap (λ found. option_or found (find (is_row id) (r ∷ []))) none
    ∙ own

one_more_row : (options : LinkOptions) (old new : List Row) (o : LinkOption) (value : Text) → OptionRows options old → find (is_row (option_name o)) old ≡ None → new ≡ old ++ row (option_name o) (value ∷ []) ∷ [] → OptionRows (with_value o value options) new
one_more_row options old new Base value rows none is Base = own_row (codes "base") old new (row (codes "base") (value ∷ [])) refl none is
one_more_row options old new Base value rows none is Page = other_row (codes "page") old new (row (codes "base") (value ∷ [])) refl is ∙ rows Page
one_more_row options old new Base value rows none is Conditions = other_row (codes "conditions") old new (row (codes "base") (value ∷ [])) refl is ∙ rows Conditions
one_more_row options old new Page value rows none is Base = other_row (codes "base") old new (row (codes "page") (value ∷ [])) refl is ∙ rows Base
one_more_row options old new Page value rows none is Page = own_row (codes "page") old new (row (codes "page") (value ∷ [])) refl none is
one_more_row options old new Page value rows none is Conditions = other_row (codes "conditions") old new (row (codes "page") (value ∷ [])) refl is ∙ rows Conditions
one_more_row options old new Conditions value rows none is Base = other_row (codes "base") old new (row (codes "conditions") (value ∷ [])) refl is ∙ rows Base
one_more_row options old new Conditions value rows none is Page = other_row (codes "page") old new (row (codes "conditions") (value ∷ [])) refl is ∙ rows Page
one_more_row options old new Conditions value rows none is Conditions = own_row (codes "conditions") old new (row (codes "conditions") (value ∷ [])) refl none is

no_entries_still : (old new : List Row) (o : LinkOption) (value : Text) → find (is_row (codes "entries")) old ≡ None → new ≡ old ++ row (option_name o) (value ∷ []) ∷ [] → find (is_row (codes "entries")) new ≡ None
no_entries_still old new Base value none is = other_row (codes "entries") old new (row (codes "base") (value ∷ [])) refl is ∙ none
no_entries_still old new Page value none is = other_row (codes "entries") old new (row (codes "page") (value ∷ [])) refl is ∙ none
no_entries_still old new Conditions value none is = other_row (codes "entries") old new (row (codes "conditions") (value ∷ [])) refl is ∙ none

pub options_beside : (options : LinkOptions) (rows : List Row) (entries : List Text) → OptionRows options rows → OptionRows options (rows ++ row (codes "entries") entries ∷ [])
options_beside options rows entries has Base = other_row (codes "base") rows _ (row (codes "entries") entries) refl refl ∙ has Base
options_beside options rows entries has Page = other_row (codes "page") rows _ (row (codes "entries") entries) refl refl ∙ has Page
options_beside options rows entries has Conditions = other_row (codes "conditions") rows _ (row (codes "entries") entries) refl refl ∙ has Conditions

pub entries_found : (rows : List Row) (entries : List Text) → find (is_row (codes "entries")) rows ≡ None → find (is_row (codes "entries")) (rows ++ row (codes "entries") entries ∷ []) ≡ Some (row (codes "entries") entries)
entries_found rows entries none = own_row (codes "entries") rows _ (row (codes "entries") entries) refl none refl

pub holds_value : (options : LinkOptions) (held : Held) (o : LinkOption) (value : Text) → HoldsOptions options held → value_of o options ≡ None → HoldsOptions (with_value o value options) (after_value o value (settled link_rules held))
holds_value options held o value has free =
    let none = free_row options held o has free in
    let is = value_settled o held value ∙ put_last o value (settled link_rules held).rows none in
    record {
      rows = one_more_row options (settled link_rules held).rows _ o value has.rows none is;
      no_entries = no_entries_still (settled link_rules held).rows _ o value has.no_entries is;
      settles = value_settles o held value (has_row-none (option_name o) (settled link_rules held).rows none);
    }

pub holds_joined : (options : LinkOptions) (held : Held) (o : LinkOption) (value : Text) → HoldsOptions options held → value_of o options ≡ None → HoldsOptions (with_value o value options) (after_joined o value held)
holds_joined options held o value has free =
    let none = free_row options held o has free in
    let is = put_last o value (settled link_rules held).rows none in
    record {
      rows = one_more_row options (settled link_rules held).rows _ o value has.rows none is;
      no_entries = no_entries_still (settled link_rules held).rows _ o value has.no_entries is;
      settles = refl;
    }
