-- Group by group the needs are laid.
use Rattle.std.proofs.Common.{refl, sym, ap, ◌∙◌, subst, arith, append_assoc}
use Rattle.std.proofs.lemmas.Bool.{cases_Bool, true≢false}
use Rattle.std.proofs.lemmas.List.{append-nil}
use Rattle.std.proofs.lemmas.List.Elements.{Contains-append_cases, Contains-append_left, Contains-append_right}
use Rattle.std.proofs.lemmas.Cmp.{tied_itself}
use Rattle.std.proofs.lemmas.Option.{none-some}
use Rattle.std.proofs.lemmas.Slice.Eq.{bytes_eq-Decides}
use Rattle.std.specs.Cmp.Lexicographic.{slice_cmp, nat_list_cmp_total}
use Rattle.std.specs.FinMap.{get, empty, slice_cmp-IsAntisymmetric, nat_cmp-IsAntisymmetric}
use Rattle.std.specs.Ordering.{nat_cmp, ordering_then, is_gt}
use Rattle.std.specs.Prelude.{◌≡◌, ◌⊎◌, ◌↔◌, ℕ, ◌<◌, ◌*◌, List, [], ◌∷◌, ◌++◌, length, option_map, unwrap_or, Option, Some, None, bytes_eq, Contains}
use Rattle.std.specs.declared.cmp.Ordering.{Ordering}
use Rattle.std.specs.declared.cmp.Ordering.TheVariants.{Less, Equal, Greater}
use mathlib.Core.Logic.{inl, inr}
use Rattle.tree_spec.specs.Limits.{limit_number}
use Rattle.tree_spec.specs.declared.LimitName.TheVariants.{Choices}
use Rattle.import_map_spec.proofs.Entries.{get_nowhere}
use Rattle.import_map_spec.specs.ParsedMap.{Addresses, ParsedMap}
use Rattle.layout_spec.proofs.Contained.{contains_here, contains_there, contains_cases, contains_none}
use Rattle.layout_spec.specs.Needs.{NoClash}
use Rattle.layout_spec.specs.PutMappings.{nothing_mapped}
use Rattle.layout_spec.specs.Serving.{held}
use Rattle.layout_spec.specs.declared.Need.{Need}
use Rattle.scope_builder.specs.Lists.{Lists}
use Rattle.scope_builder.specs.declared.keyed.Layout.{Layout}
use Rattle.fewest_spec.specs.Fewest.{Choice, Before, IsFewest, Holds}
use Rattle.fewest_spec.specs.Wishes.{ArePlaces, HasManyChoices, HasTooManyChoices}
use Rattle.fewest_spec.proofs.Alike.{SameFor, same_back, fewest_alike, places_alike, targets_alike, fewest_in_any_order}
use Rattle.fewest_spec.proofs.Laws.{one_fewest}
use Rattle.fewest_spec.proofs.OneTarget.{no_target}
use Rattle.fewest_spec.proofs.Orders.{never_itself}
use Rattle.place_nodes.specs.Building.{InTurn}
use Rattle.place_nodes.specs.Rows.{UpTo, InOrder, IsTable}
use Rattle.layout.specs.Groups.{IsGroup, IsAsking, IsGroupLaid}
use Rattle.layout.specs.Layouts.{HasFewest, FewestLists}

-- ---- the order of needs

asked_up : (one other : Need) → UpTo one other → (one.asked ≡ other.asked) ⊎ Before one.asked other.asked
asked_up one other up = by (slice_cmp nat_cmp one.asked other.asked) refl
  where
    by : (o : Ordering) → slice_cmp nat_cmp one.asked other.asked ≡ o → (one.asked ≡ other.asked) ⊎ Before one.asked other.asked
    by Less e = inr e
    by Equal e = inl (slice_cmp-IsAntisymmetric nat_cmp-IsAntisymmetric one.asked other.asked e)
    by Greater e = absurd (true≢false (sym (ap (λ o. is_gt (ordering_then o (slice_cmp nat_cmp one.referrer other.referrer))) e) ∙ up))

referrer_up : (one other : Need) → UpTo one other → one.asked ≡ other.asked → (one.referrer ≡ other.referrer) ⊎ Before one.referrer other.referrer
referrer_up one other up same = by (slice_cmp nat_cmp one.referrer other.referrer) refl
  where
    tied : slice_cmp nat_cmp one.asked other.asked ≡ Equal
    tied = ap (slice_cmp nat_cmp one.asked) (sym same) ∙ tied_itself nat_list_cmp_total one.asked

    by : (o : Ordering) → slice_cmp nat_cmp one.referrer other.referrer ≡ o → (one.referrer ≡ other.referrer) ⊎ Before one.referrer other.referrer
    by Less e = inr e
    by Equal e = inl (slice_cmp-IsAntisymmetric nat_cmp-IsAntisymmetric one.referrer other.referrer e)
    by Greater e = absurd (true≢false (sym ((λ i. is_gt (ordering_then (tied i) (e i)))) ∙ up))

record AreInOrder (front back : List Need) : Type 0 where
  pub front_is : InOrder front
  pub back_is : InOrder back
  pub between : (one other : Need) → Contains front one → Contains back other → UpTo one other

order_parts : (front back : List Need) → InOrder (front ++ back) → AreInOrder front back
order_parts [] back order = record { front_is = tt; back_is = order; between = λ one other c d. absurd (contains_none one c) }
order_parts (need ∷ front) back order =
    let rest = order_parts front back order.1 in
    record {
      front_is = ((λ other c. order.0 other (Contains-append_left front back other c)), rest.front_is);
      back_is = rest.back_is;
      between = λ one other c d. elim (contains_cases one need front c) [
        | inl same ↦ subst (λ n. UpTo n other) same (order.0 other (Contains-append_right front back other d))
        | inr later ↦ rest.between one other later d
      ];
    }

turn_of : (asked : List ℕ) (group : List Need) → InOrder group → ((need : Need) → Contains group need → need.asked ≡ asked) → InTurn group
turn_of asked [] order alike = tt
turn_of asked (need ∷ more) order alike = (
  (λ other c. referrer_up need other (order.0 other c) (alike need (contains_here need more) ∙ sym (alike other (contains_there other need more c)))),
  turn_of asked more order.1 (λ any c. alike any (contains_there any need more c)),
)

-- what stands behind a group asks for something else
apart_behind : (left group more : List Need) (g : IsGroup left group more) → AreInOrder group more → (other : Need) → Contains more other → other.asked ≡ g.first.asked → ⊥
apart_behind left group [] g order other c same = contains_none other c
apart_behind left group (head ∷ more) g order other c same = elim (asked_up g.first head (order.between g.first head g.is_first (contains_here head more))) [
  | inl tied ↦ g.next head more refl (sym tied)
  | inr before ↦ elim (contains_cases other head more c) [
    | inl is ↦ g.next head more refl (ap (λ (n : Need). n.asked) is ∙ same)
    | inr later ↦ elim (asked_up head other (order.back_is.0 other later)) [
      | inl tied ↦ g.next head more refl (tied ∙ same)
      | inr after ↦ never_itself g.first.asked (subst (Before g.first.asked) same (nat_list_cmp_total.trans g.first.asked head.asked other.asked before after))
    ]
  ]
]

-- ---- on the way

pub record IsOnWay (rows left : List Need) (m : ParsedMap) : Type 0 where
  pub done : List Need
  pub whole : done ++ left ≡ rows
  pub order : InOrder left
  pub apart : (one other : Need) → Contains done one → Contains left other → one.asked ≡ other.asked → ⊥
  pub fewest : HasFewest done m

nothing_held : (asked place : List ℕ) → held nothing_mapped asked place ≡ None
nothing_held asked [] = get_nowhere asked
nothing_held asked (b ∷ rest) = ap (λ (scope : Addresses). get scope asked) (ap (λ (o : Option Addresses). unwrap_or o empty) (get_nowhere (b ∷ rest))) ∙ get_nowhere asked

-- where there are many choices there is a need
some_need : (needs : List Need) (asked : List ℕ) → HasManyChoices needs asked → (need : Need) × Contains needs need × (need.asked ≡ asked)
some_need needs asked m = by m.ps m.places m.many
  where
    by : (ps : List (List ℕ)) → ArePlaces needs asked ps → limit_number Choices < length ps * length m.ts → (need : Need) × Contains needs need × (need.asked ≡ asked)
    by [] are many = absurd (omega (arith, many))
    by (p ∷ ps) are many = let found = are.only p (contains_here p ps) in (found.0, found.1.is_need, found.1.asks)

nothing_fewest : HasFewest [] nothing_mapped
nothing_fewest = record {
  is_fewest = record {
    tidy = record { no_top = get_nowhere []; some = λ key scope e. absurd (none-some scope (sym (get_nowhere key) ∙ e)) };
    no_digests = refl;
    choices = λ asked. (empty, no_target [] asked (λ any c. absurd (contains_none any c)), λ place. nothing_held asked place ∙ ap (option_map Some) (sym (get_nowhere place)));
  };
  few = λ m. let found = some_need [] m.0 m.1 in contains_none found.0 found.1;
}

pub way_starts : (rows left : List Need) (m : ParsedMap) → IsTable rows → left ≡ rows → m ≡ nothing_mapped → IsOnWay rows left m
way_starts rows left m table e none = record {
  done = [];
  whole = e;
  order = subst InOrder (sym e) table.order;
  apart = λ one other c. absurd (contains_none one c);
  fewest = subst (HasFewest []) (sym none) nothing_fewest;
}

many_alike : (needs others : List Need) (asked : List ℕ) → SameFor needs others asked → HasManyChoices needs asked → HasManyChoices others asked
many_alike needs others asked same m = record {
  ps = m.ps;
  ts = m.ts;
  places = places_alike needs others asked same m.ps m.places;
  targets = targets_alike needs others asked same m.ts m.targets;
  many = m.many;
}

module _ (rows left group more : List Need) (m : ParsedMap) (table : IsTable rows) (w : IsOnWay rows left m) (g : IsGroup left group more) where
  abbrev asked : List ℕ
  asked = g.first.asked

  order : AreInOrder group more
  order = order_parts group more (subst InOrder (sym g.whole) w.order)

  in_left : (need : Need) → Contains group need → Contains left need
  in_left need c = subst (λ ns. Contains ns need) g.whole (Contains-append_left group more need c)

  in_rows : (need : Need) → Contains left need → Contains rows need
  in_rows need c = subst (λ ns. Contains ns need) w.whole (Contains-append_right w.done left need c)

  pub group_asking : IsAsking asked group
  group_asking = record {
    first = g.first;
    is_first = g.is_first;
    alike = g.alike;
    turn = turn_of asked group order.front_is g.alike;
    no_clash = λ one other c d. table.no_clash one other (in_rows one (in_left one c)) (in_rows other (in_left other d));
  }

  abbrev now : List Need
  now = w.done ++ group

  not_done : (need : Need) → need.asked ≡ asked → Contains w.done need → ⊥
  not_done need asks c = w.apart need g.first c (in_left g.first g.is_first) asks

  same_group : SameFor group now asked
  same_group need asks = (
    (λ c. Contains-append_right w.done group need c),
    (λ c. elim (Contains-append_cases w.done group need c) [
      | inl old ↦ absurd (not_done need asks old)
      | inr new ↦ new
    ]),
  )

  same_done : (other : List ℕ) → (other ≡ asked → ⊥) → SameFor w.done now other
  same_done other apart need asks = (
    (λ c. Contains-append_left w.done group need c),
    (λ c. elim (Contains-append_cases w.done group need c) [
      | inl old ↦ old
      | inr new ↦ absurd (apart (sym asks ∙ g.alike need new))
    ]),
  )

  -- in all rows too the group has all needs for its specifier
  same_rows : SameFor group rows asked
  same_rows need asks = (
    (λ c. in_rows need (in_left need c)),
    (λ c. elim (Contains-append_cases w.done left need (subst (λ ns. Contains ns need) (sym w.whole) c)) [
      | inl old ↦ absurd (not_done need asks old)
      | inr new ↦ elim (Contains-append_cases group more need (subst (λ ns. Contains ns need) (sym g.whole) new)) [
        | inl here ↦ here
        | inr behind ↦ absurd (apart_behind left group more g order need behind asks)
      ]
    ]),
  )

  pub way_many : HasManyChoices group asked → HasTooManyChoices rows
  way_many many = (asked, many_alike group rows asked same_rows many)

  none_held : (place : List ℕ) → held m asked place ≡ None
  none_held place =
      let old = w.fewest.is_fewest.choices asked in
      let is : old.0 ≡ empty = one_fewest w.done asked old.0 empty old.1 (no_target w.done asked (λ any c asks. absurd (not_done any asks c))) in
      old.2 place ∙ ap (option_map Some) (ap (λ (c : Choice). get c place) is ∙ get_nowhere place)

  module _ (after : ParsedMap) (laid : IsGroupLaid asked group m after) where
    abbrev Chosen : List ℕ → Type 0
    Chosen other = (choice : Choice) × IsFewest now other choice × Holds after other choice

    here : Chosen asked
    here = (laid.choice, fewest_alike group now asked same_group laid.choice laid.is_fewest, λ place. laid.is_laid.holds place none_held)

    elsewhere : (other : List ℕ) → (other ≡ asked → ⊥) → Chosen other
    elsewhere other apart =
        let old = w.fewest.is_fewest.choices other in
        (old.0, fewest_alike w.done now other (same_done other apart) old.0 old.1, λ place. laid.is_laid.others other place apart ∙ old.2 place)

    few : HasTooManyChoices now → ⊥
    few many =
        let found = some_need now many.0 many.1 in
        elim (cases_Bool (bytes_eq many.0 asked)) [
          | inl t ↦
              let same = (bytes_eq-Decides many.0 asked).0 t in
              laid.few (many_alike now group asked (same_back group now asked same_group) (subst (HasManyChoices now) same many.1))
          | inr f ↦
              let apart : many.0 ≡ asked → ⊥ = λ e. true≢false (sym ((bytes_eq-Decides many.0 asked).1 e) ∙ f) in
              w.fewest.few (many.0, many_alike now w.done many.0 (same_back w.done now many.0 (same_done many.0 apart)) many.1)
        ]

    pub way_on : IsOnWay rows more after
    way_on = record {
      done = now;
      whole = append_assoc w.done group more ∙ (ap (λ ns. w.done ++ ns) g.whole ∙ w.whole);
      order = order.back_is;
      apart = λ one other c d same. elim (Contains-append_cases w.done group one c) [
        | inl old ↦ w.apart one other old (subst (λ ns. Contains ns other) g.whole (Contains-append_right group more other d)) same
        | inr new ↦ apart_behind left group more g order other d (sym same ∙ g.alike one new)
      ];
      fewest = record {
        is_fewest = record {
          tidy = laid.is_laid.tidy w.fewest.is_fewest.tidy;
          no_digests = laid.is_laid.digests ∙ w.fewest.is_fewest.no_digests;
          choices = λ other. elim (cases_Bool (bytes_eq other asked)) [
            | inl t ↦ subst Chosen (sym ((bytes_eq-Decides other asked).0 t)) here
            | inr f ↦ elsewhere other (λ e. true≢false (sym ((bytes_eq-Decides other asked).1 e) ∙ f))
          ];
        };
        few = few;
      };
    }

pub way_done : (rows left : List Need) (m : ParsedMap) → IsOnWay rows left m → left ≡ [] → HasFewest rows m
way_done rows left m w none = subst (λ ns. HasFewest ns m) (sym (append-nil w.done) ∙ (ap (λ ns. w.done ++ ns) (sym none) ∙ w.whole)) w.fewest

-- ---- in any order

pub too_many_too : (needs rows : List Need) → ((need : Need) → Contains needs need ↔ Contains rows need) → HasTooManyChoices needs → HasTooManyChoices rows
too_many_too needs rows same many = (many.0, many_alike needs rows many.0 (λ need asks. same need) many.1)

pub back_again : (needs rows : List Need) → ((need : Need) → Contains needs need ↔ Contains rows need) → (need : Need) → Contains rows need ↔ Contains needs need
back_again needs rows same need = ((same need).1, (same need).0)

pub needs_laid : (needs rows : List Need) (m : ParsedMap) (layout : Layout) → ((need : Need) → Contains needs need ↔ Contains rows need) → HasFewest rows m → Lists layout [] m → FewestLists needs layout
needs_laid needs rows m layout same is lists = record { m = m; is_fewest = fewest_in_any_order rows needs m (back_again needs rows same) is.is_fewest; lists = lists }

pub needs_few : (needs rows : List Need) (m : ParsedMap) → ((need : Need) → Contains needs need ↔ Contains rows need) → HasFewest rows m → HasTooManyChoices needs → ⊥
needs_few needs rows m same is many = is.few (too_many_too needs rows same many)

pub table_of : (needs rows : List Need) → ((need : Need) → Contains needs need ↔ Contains rows need) → NoClash needs → InOrder rows → IsTable rows
table_of needs rows same no_clash order = record { order = order; no_clash = λ one other c d. no_clash one other ((same one).1 c) ((same other).1 d) }
