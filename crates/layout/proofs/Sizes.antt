-- How many places and targets there are.
use Rattle.std.proofs.Common.{sym, ap, ◌∙◌, subst, arith}
use Rattle.std.proofs.lemmas.Bool.{true≢false}
use Rattle.std.proofs.lemmas.List.{length-append, length-map}
use Rattle.std.proofs.lemmas.Nat.{mul-le}
use Rattle.std.specs.Prelude.{◌≡◌, ◌⊎◌, ℕ, zero, suc, ◌≤◌, ◌+◌, Bool, true, false, List, [], ◌∷◌, length, take, flat_map, if◌then◌else◌, Contains}
use mathlib.Core.Logic.{inl, inr}
use Rattle.tree_spec.specs.Limits.{limit_number}
use Rattle.tree_spec.specs.declared.LimitName.TheVariants.{Choices}
use Rattle.layout_spec.proofs.Contained.{contains_here, contains_there, contains_cases, contains_none, contains_flat}
use Rattle.layout_spec.specs.Places.{places, folders, is_folder}
use Rattle.layout_spec.specs.declared.Need.{Need}
use Rattle.fewest_spec.specs.Making.{put_text, places_for}
use Rattle.fewest_spec.specs.Wishes.{Ascending, ArePlaces, AreTargets, HasManyChoices}
use Rattle.fewest_spec.proofs.Amounts.{no_more}
use Rattle.fewest_spec.proofs.SomeFewest.{places_are, put_ascending, put_either, put_there}
use Rattle.fewest_spec.proofs.Wanted.{apart_down}
use Rattle.place_nodes.proofs.TooMany.{apart_up}
use Rattle.place_nodes.specs.Building.{IsBuilt, IsOver, AreOver}
use Rattle.place_nodes.specs.Nodes.{places_of}
use Rattle.place_nodes.specs.declared.nodes.Node.{Node}
use Rattle.layout.specs.Groups.{IsAsking, IsJudged, places_at_most, targets_onto}

-- ---- a text has no more places than bytes and one

folders_count : (text : List ℕ) (n : ℕ) → length (folders text n) ≤ n
folders_count text zero = omega arith
folders_count text (suc n) = by (is_folder (take (suc n) text)) (folders_count text n)
  where
    by : (b : Bool) → length (folders text n) ≤ n → length (if b then take (suc n) text ∷ folders text n else folders text n) ≤ suc n
    by true l = omega (arith, l)
    by false l = omega (arith, l)

places_count : (text : List ℕ) → length (places text) ≤ length text + 1
places_count [] = omega arith
places_count (b ∷ rest) =
    let f = folders_count (b ∷ rest) (length rest) in
    let a = length-append (folders (b ∷ rest) (length rest)) ([] ∷ []) in
    omega (arith, f, a)

abbrev all_places : List Need → List (List ℕ)
all_places group = flat_map (λ (need : Need). places need.referrer) group

all_count : (group : List Need) → length (all_places group) ≤ places_at_most group
all_count [] = omega arith
all_count (need ∷ more) =
    let p = places_count need.referrer in
    let r = all_count more in
    let a = length-append (places need.referrer) (all_places more) in
    omega (arith, p, r, a)

pub few_places : (group : List Need) (asked : List ℕ) (ps : List (List ℕ)) → ArePlaces group asked ps → length ps ≤ places_at_most group
few_places group asked ps are =
    let l = no_more ps (all_places group) (apart_down ps are.down) (λ p c.
    let found = are.only p c in
    contains_flat (λ (need : Need). places need.referrer) found.0 p group found.1.is_need found.1.under) in
    let a = all_count group in
    omega (arith, l, a)

-- ---- the room that is left

abbrev pub HasRoom : List Need → List Need → ℕ → Type 0
HasRoom rows left room = places_at_most rows + room ≡ limit_number Choices + places_at_most left

pub room_starts : (rows left : List Need) → left ≡ rows → HasRoom rows left (limit_number Choices)
room_starts rows left e = let n = ap places_at_most e in omega (arith, n)

pub room_on : (rows left more : List Need) (row : Need) (room after : ℕ) → HasRoom rows left room → left ≡ row ∷ more → after + (length row.referrer + 1) ≡ room → HasRoom rows more after
room_on rows left more row room after h e l = let n = ap places_at_most e in omega (arith, h, n, l)

pub room_done : (rows left : List Need) (room : ℕ) → HasRoom rows left room → length left ≡ 0 → places_at_most rows ≤ limit_number Choices
room_done rows left room h none = by left h none
  where
    by : (left : List Need) → places_at_most rows + room ≡ limit_number Choices + places_at_most left → length left ≡ 0 → places_at_most rows ≤ limit_number Choices
    by [] h none = omega (arith, h)
    by (need ∷ left) h none = absurd (omega (arith, none))

-- ---- the targets

onto_up : (group : List Need) (texts : List (List ℕ)) → Ascending texts → Ascending (targets_onto texts group)
onto_up [] texts up = up
onto_up (need ∷ more) texts up = onto_up more (put_text need.target texts) (put_ascending need.target texts up)

onto_kept : (group : List Need) (texts : List (List ℕ)) (t : List ℕ) → Contains texts t → Contains (targets_onto texts group) t
onto_kept [] texts t c = c
onto_kept (need ∷ more) texts t c = onto_kept more (put_text need.target texts) t (put_there need.target texts t (inr c))

pub onto_all : (group : List Need) (texts : List (List ℕ)) (need : Need) → Contains group need → Contains (targets_onto texts group) need.target
onto_all [] texts need c = absurd (contains_none need c)
onto_all (first ∷ more) texts need c = elim (contains_cases need first more c) [
  | inl same ↦ onto_kept more (put_text first.target texts) need.target (put_there first.target texts need.target (inl (ap (λ (n : Need). n.target) same)))
  | inr later ↦ onto_all more (put_text first.target texts) need later
]

onto_from : (group : List Need) (texts : List (List ℕ)) (t : List ℕ) → Contains (targets_onto texts group) t → Contains texts t ⊎ ((need : Need) × Contains group need × (need.target ≡ t))
onto_from [] texts t c = inl c
onto_from (first ∷ more) texts t c = elim (onto_from more (put_text first.target texts) t c) [
  | inr found ↦ inr (found.0, contains_there found.0 first more found.1, found.2)
  | inl put ↦ elim (put_either first.target texts t put) [
    | inl same ↦ inr (first, contains_here first more, same)
    | inr old ↦ inl old
  ]
]

pub gathered : (group : List Need) → Ascending (targets_onto [] group)
gathered group = onto_up group [] tt

pub targets_are : (asked : List ℕ) (group : List Need) → ((need : Need) → Contains group need → need.asked ≡ asked) → AreTargets group asked (targets_onto [] group)
targets_are asked group alike = record {
  up = gathered group;
  all = λ need c e. onto_all group [] need c;
  only = λ t c. elim (onto_from group [] t c) [
    | inl none ↦ absurd (contains_none t none)
    | inr found ↦ (found.0, found.1, alike found.0 found.1, found.2)
  ];
}

pub one_target_is : (asked target : List ℕ) (group : List Need) → IsAsking asked group → ((need : Need) → Contains group need → need.target ≡ target) → AreTargets group asked (target ∷ [])
one_target_is asked target group is one = record {
  up = ((λ t c. absurd (contains_none t c)), tt);
  all = λ need c e. subst (Contains (target ∷ [])) (sym (one need c)) (contains_here target []);
  only = λ t c. elim (contains_cases t target [] c) [
    | inl same ↦ (is.first, is.is_first, is.alike is.first is.is_first, one is.first is.is_first ∙ same)
    | inr none ↦ absurd (contains_none t none)
  ];
}

targets_count : (group : List Need) (asked : List ℕ) (ts us : List (List ℕ)) → AreTargets group asked ts → AreTargets group asked us → length ts ≤ length us
targets_count group asked ts us are also = no_more ts us (apart_up ts are.up) (λ t c.
    let found = are.only t c in
    subst (Contains us) found.3 (also.all found.0 found.1 found.2))

-- ---- few choices, or many

pub many_over : (group : List Need) (asked : List ℕ) (us : List (List ℕ)) → ((need : Need) → Contains group need → need.asked ≡ asked) → AreTargets group asked us → AreOver group (length us) → HasManyChoices group asked
many_over group asked us alike are over = record {
  ps = places_for group asked;
  ts = us;
  places = places_are group asked;
  targets = are;
  many = over asked (places_for group asked) alike (places_are group asked);
}

pub few_built : (group : List Need) (asked : List ℕ) (us targets : List (List ℕ)) (nodes : List Node) → AreTargets group asked us → IsBuilt group targets nodes → (IsOver (length nodes) (length us) → ⊥) → HasManyChoices group asked → ⊥
few_built group asked us targets nodes are built few m =
    let l = no_more m.ps (places_of nodes) (apart_down m.ps m.places.down) (λ p c.
    let found = m.places.only p c in
    built.all found.0 p found.1.is_need found.1.under) in
    let n = length-map nodes (λ (node : Node). node.place) in
    let t = targets_count group asked m.ts us m.targets are in
    let z = mul-le (length m.ps) (length m.ts) (length nodes) (length us) (omega (arith, l, n)) t in
    let many = m.many in
    few (omega (arith, z, many))

pub few_short : (group : List Need) (asked target : List ℕ) → AreTargets group asked (target ∷ []) → places_at_most group ≤ limit_number Choices → HasManyChoices group asked → ⊥
few_short group asked target are short m =
    let p = few_places group asked m.ps m.places in
    let t = targets_count group asked m.ts (target ∷ []) m.targets are in
    let z = mul-le (length m.ps) (length m.ts) (places_at_most group) 1 p t in
    let many = m.many in
    absurd (omega (arith, z, many, short))

-- ---- one target

pub alone_there : (target : List ℕ) (texts : List (List ℕ)) (group : List Need) → texts ≡ target ∷ [] → ((need : Need) → Contains group need → need.target ≡ target) → (need : Need) → Contains group need → Contains texts need.target
alone_there target texts group e one need c = subst (λ ts. Contains ts need.target) (sym e) (subst (Contains (target ∷ [])) (sym (one need c)) (contains_here target []))

pub judged_short : (asked target : List ℕ) (group : List Need) → IsAsking asked group → ((need : Need) → Contains group need → need.target ≡ target) → places_at_most group ≤ limit_number Choices → IsJudged asked group true
judged_short asked target group is one short = record {
  few_is = λ e m. few_short group asked target (one_target_is asked target group is one) short m;
  many_is = λ e. absurd (true≢false e);
}

pub judged_many : (asked target : List ℕ) (group : List Need) → IsAsking asked group → ((need : Need) → Contains group need → need.target ≡ target) → AreOver group 1 → IsJudged asked group false
judged_many asked target group is one over = record {
  few_is = λ e. absurd (true≢false (sym e));
  many_is = λ e. many_over group asked (target ∷ []) is.alike (one_target_is asked target group is one) over;
}

pub judged_built : (asked target : List ℕ) (group : List Need) (targets : List (List ℕ)) (nodes : List Node) → IsAsking asked group → ((need : Need) → Contains group need → need.target ≡ target) → IsBuilt group targets nodes × (IsOver (length nodes) 1 → ⊥) → IsJudged asked group true
judged_built asked target group targets nodes is one built = record {
  few_is = λ e m. few_built group asked (target ∷ []) targets nodes (one_target_is asked target group is one) built.0 built.1 m;
  many_is = λ e. absurd (true≢false e);
}
