-- The plain reader answers what the grammar has, and each text has one outcome.
use Rattle.json_spec.proofs.OneJson.{one_json}
use Rattle.json_spec.proofs.Shorter.{piece_at_most, AtMost, more_room, escape_at_most, Below, space_at_most, less_room, scalar_below}
use Rattle.tree_spec.proofs.ByteLists.{no_utf8_text}
use Rattle.std.proofs.Common.{refl, subst, arith}
use Rattle.std.proofs.lemmas.Bool.{eqb-true, eqb-false, ltb-true, ltb-false}
use Rattle.std.proofs.lemmas.Str.{IsUtf8-from_is_utf8}
use Rattle.std.specs.Prelude.{ℕ, Bool, true, false, List, [], ◌∷◌, nat_lt, ◌==◌, zero, suc, length, ◌≡◌, ◌≤◌, ◌≢◌, ◌<◌, if◌then◌else◌}
use Rattle.std.specs.Str.{is_utf8}
use Rattle.json_spec.specs.Grammar.{Reading, after_space, fault_here, text_behind, colon_at, ReadsName, name_text, no_name, name_ends, Member, paired, a_pair, behind_item, ReadsMember, member_value, member_name, MoreMembers, members_close, members_next, members_fault, members_other, members_end, ReadsMembers, no_member, first_member, member_fault, object_ends, MoreItems, items_close, items_next, items_fault, items_other, items_end, ReadsItems, no_item, first_item, item_fault, list_ends, as_object, as_list, as_text, ReadsWith, reads_text, reads_list, reads_object, reads_scalar, value_ends, IsTooDeep, Reads, most_depth, ReadsJson, json_text}
use Rattle.json_spec.specs.Laws.{JsonIsRead}
use Rattle.json_spec.specs.PlainReader.{text_plain, text_escape, text_quote, read_text, checked, string_of, read_string, name_at}
use Rattle.json_spec.specs.PlainReader.{read_name, read_member, behind_pair, members_comma, members_brace, more_members}
use Rattle.json_spec.specs.PlainReader.{first_members, read_members, items_comma, items_bracket, more_items, first_items}
use Rattle.json_spec.specs.PlainReader.{read_items, value_object, value_list, value_text, read_with, too_deep, read_value}
use Rattle.json_spec.specs.PlainReader.{read_json}
use Rattle.json_spec.specs.Strings.{escape_at, ReadsText, close, plain, escape, no_escape, control, text_ends, ReadsString, in_utf8, no_utf8, no_string}
use Rattle.json_spec.specs.Taken.{refused, Read, behind_piece, and_then, taken}
use Rattle.json_spec.specs.Value.{Json, Members, Items}

abbrev SoundText : List ℕ → Read (List ℕ) → Type 0
SoundText bytes out = ReadsText bytes out × AtMost (length bytes) out

module _ (next : List ℕ → Read (List ℕ)) (b : ℕ) (bytes : List ℕ) (sound : (more : List ℕ) → length more ≤ length bytes → SoundText more (next more)) where
  plain_sound : (t : Bool) → b ≢ 34 → b ≢ 92 → nat_lt b 32 ≡ t → SoundText (b ∷ bytes) (text_plain next b bytes t)
  plain_sound true q s e = (control (ltb-true b 32 e), tt)
  plain_sound false q s e =
      let rest = sound bytes (omega arith) in
      (plain q s (ltb-false b 32 e) rest.0, more_room (length bytes) _ (behind_piece (b ∷ []) (next bytes)) (omega arith) (piece_at_most _ (b ∷ []) (next bytes) rest.1))

  escaped_sound : (out : Read (List ℕ)) → escape_at bytes ≡ out → AtMost (length bytes) out → SoundText (92 ∷ bytes) (and_then out (λ piece middle. behind_piece piece (next middle)))
  escaped_sound (taken piece middle) e l =
      let rest = sound middle l in
      (escape e rest.0, more_room (length middle) _ (behind_piece piece (next middle)) (omega arith) (piece_at_most _ piece (next middle) rest.1))
  escaped_sound (refused tt) e l = (no_escape e, tt)

  escape_sound : (t : Bool) → b ≢ 34 → (b == 92) ≡ t → SoundText (b ∷ bytes) (text_escape next b bytes t)
  escape_sound true q e = rw (eqb-true b 92 e) (escaped_sound (escape_at bytes) refl (escape_at_most bytes))
  escape_sound false q e = plain_sound (nat_lt b 32) q (eqb-false b 92 e) refl

  quote_sound : (t : Bool) → (b == 34) ≡ t → SoundText (b ∷ bytes) (text_quote next b bytes t)
  quote_sound true e = rw (eqb-true b 34 e) (close, omega arith)
  quote_sound false e = escape_sound (b == 92) (eqb-false b 34 e) refl

text_sound : (n : ℕ) (bytes : List ℕ) → length bytes < n → SoundText bytes (read_text n bytes)
text_sound zero bytes l = absurd (omega arith)
text_sound (suc n) [] l = (text_ends, tt)
text_sound (suc n) (b ∷ bytes) l = quote_sound (λ more. read_text n more) b bytes (λ more m. text_sound n more (omega arith)) (b == 34) refl

abbrev SoundString : List ℕ → Read (List ℕ) → Type 0
SoundString bytes out = ReadsString bytes out × AtMost (length bytes) out

checked_sound : (bytes text rest : List ℕ) → SoundText bytes (taken text rest) → (t : Bool) → is_utf8 text ≡ t → SoundString bytes (checked t text rest)
checked_sound bytes text rest s true e = (in_utf8 s.0 (IsUtf8-from_is_utf8 text e), s.1)
checked_sound bytes text rest s false e = (no_utf8 s.0 (no_utf8_text text e), tt)

string_from : (bytes : List ℕ) (out : Read (List ℕ)) → SoundText bytes out → SoundString bytes (string_of out)
string_from bytes (taken text rest) s = checked_sound bytes text rest s (is_utf8 text) refl
string_from bytes (refused tt) s = (no_string s.0, tt)

string_sound : (n : ℕ) (bytes : List ℕ) → length bytes < n → SoundString bytes (read_string n bytes)
string_sound n bytes l = string_from bytes (read_text n bytes) (text_sound n bytes l)

-- ---- names

-- a reader that gives what its relation has, and takes something where it doesn't refuse
abbrev IsSound : {A : Type 0} → ℕ → (List ℕ → Reading A → Type 0) → (List ℕ → Reading A) → Type 0
IsSound n reads read = (bytes : List ℕ) → length bytes < n → reads bytes (read bytes) × Below (length bytes) (read bytes)

colon_below : (n : ℕ) (name bytes : List ℕ) → length bytes ≤ n → Below (suc n) (colon_at name bytes)
colon_below n name [] l = tt
colon_below n name (b ∷ bytes) l = go (b == 58)
  where
    go : (t : Bool) → Below (suc n) (if t then taken name bytes else fault_here (b ∷ bytes))
    go true = omega arith
    go false = tt

name_below : (bytes : List ℕ) (out : Read (List ℕ)) → AtMost (length bytes) out → Below (suc (length bytes)) (text_behind bytes (λ name rest. colon_at name (after_space rest)) out)
name_below bytes (taken name rest) l = let s = space_at_most rest in colon_below (length bytes) name (after_space rest) (omega arith)
name_below bytes (refused e) l = tt

name_step : (n b : ℕ) (bytes : List ℕ) → length (b ∷ bytes) < n → (t : Bool) → (b == 34) ≡ t → ReadsName (b ∷ bytes) (name_at n b bytes t) × Below (length (b ∷ bytes)) (name_at n b bytes t)
name_step n b bytes l true e =
    let text = string_sound n bytes (omega arith) in
    (rw (eqb-true b 34 e) (name_text text.0), name_below bytes (read_string n bytes) text.1)
name_step n b bytes l false e = (no_name (eqb-false b 34 e), tt)

name_sound : (n : ℕ) → IsSound n ReadsName (read_name n)
name_sound n [] l = (name_ends, tt)
name_sound n (b ∷ bytes) l = name_step n b bytes l (b == 34) refl

-- ---- the members of an object and the items of a list, where a value is read by value

behind_item_below : (n : ℕ) (v : Json) (out : Reading Items) → Below n out → Below n (behind_item v out)
behind_item_below n v (taken vs rest) l = l
behind_item_below n v (refused f) l = tt

behind_pair_below : (n : ℕ) (m : Member) (out : Reading Members) → Below n out → Below n (behind_pair m out)
behind_pair_below n (a_pair name v) (taken ms rest) l = l
behind_pair_below n (a_pair name v) (refused f) l = tt

module _ (n : ℕ) (reads : List ℕ → Reading Json → Type 0) (value : List ℕ → Reading Json) (sound : IsSound n reads value) where
  paired_below : (k : ℕ) (name : List ℕ) (out : Reading Json) → Below k out → Below k (paired name out)
  paired_below k name (taken v rest) l = l
  paired_below k name (refused f) l = tt

  member_from : (bytes : List ℕ) → length bytes < n → (out : Reading (List ℕ)) → ReadsName bytes out → Below (length bytes) out → ReadsMember reads bytes (and_then out (λ name middle. paired name (value (after_space middle)))) × Below (length bytes) (and_then out (λ name middle. paired name (value (after_space middle))))
  member_from bytes l (taken name middle) r m =
      let s = space_at_most middle in
      let v = sound (after_space middle) (omega arith) in
      (member_value r v.0, less_room (length (after_space middle)) _ (paired name (value (after_space middle))) (omega arith) (paired_below _ name (value (after_space middle)) v.1))
  member_from bytes l (refused f) r m = (member_name r, tt)

  member_sound : IsSound n (ReadsMember reads) (read_member value n)
  member_sound bytes l = let name = name_sound n bytes l in member_from bytes l (read_name n bytes) name.0 name.1

module _ (n : ℕ) (reads : List ℕ → Reading Json → Type 0) (member : List ℕ → Reading Member) (sound : IsSound n (ReadsMember reads) member) where
  abbrev MoreMembersAt : List ℕ → Reading Members → Type 0
  MoreMembersAt bytes out = MoreMembers reads bytes out × Below (length bytes) out

  next_member : (next : List ℕ → Reading Members) (bytes : List ℕ) → ((more : List ℕ) → length more < length bytes → MoreMembersAt more (next more)) → (out : Reading Member) → ReadsMember reads (after_space bytes) out → Below (length (after_space bytes)) out → MoreMembersAt (44 ∷ bytes) (and_then out (λ pair middle. behind_pair pair (next (after_space middle))))
  next_member next bytes ih (taken (a_pair name v) middle) r m =
      let s = space_at_most bytes in
      let t = space_at_most middle in
      let rest = ih (after_space middle) (omega arith) in
      (members_next r rest.0, less_room (length (after_space middle)) _ (behind_pair (a_pair name v) (next (after_space middle))) (omega arith) (behind_pair_below _ (a_pair name v) (next (after_space middle)) rest.1))
  next_member next bytes ih (refused f) r m = (members_fault r, tt)

  members_comma_sound : (next : List ℕ → Reading Members) (b : ℕ) (bytes : List ℕ) → ((more : List ℕ) → length more < length bytes → MoreMembersAt more (next more)) → length bytes < n → (t : Bool) → b ≢ 125 → (b == 44) ≡ t → MoreMembersAt (b ∷ bytes) (members_comma member next b bytes t)
  members_comma_sound next b bytes ih l true q e =
      let s = space_at_most bytes in
      let here = sound (after_space bytes) (omega arith) in
      rw (eqb-true b 44 e) (next_member next bytes ih (member (after_space bytes)) here.0 here.1)
  members_comma_sound next b bytes ih l false q e = (members_other q (eqb-false b 44 e), tt)

  members_brace_sound : (next : List ℕ → Reading Members) (b : ℕ) (bytes : List ℕ) → ((more : List ℕ) → length more < length bytes → MoreMembersAt more (next more)) → length bytes < n → (t : Bool) → (b == 125) ≡ t → MoreMembersAt (b ∷ bytes) (members_brace member next b bytes t)
  members_brace_sound next b bytes ih l true e = rw (eqb-true b 125 e) (members_close, omega arith)
  members_brace_sound next b bytes ih l false e = members_comma_sound next b bytes ih l (b == 44) (eqb-false b 125 e) refl

  more_members_sound : (k : ℕ) (bytes : List ℕ) → k ≤ n → length bytes < k → MoreMembersAt bytes (more_members member k bytes)
  more_members_sound zero bytes m l = absurd (omega arith)
  more_members_sound (suc k) [] m l = (members_end, tt)
  more_members_sound (suc k) (b ∷ bytes) m l = members_brace_sound (λ more. more_members member k more) b bytes (λ more o. more_members_sound k more (omega arith) (omega arith)) (omega arith) (b == 125) refl

  first_member_from : (b : ℕ) (bytes : List ℕ) → b ≢ 125 → length (b ∷ bytes) < n → (out : Reading Member) → ReadsMember reads (b ∷ bytes) out → Below (length (b ∷ bytes)) out → ReadsMembers reads (b ∷ bytes) (and_then out (λ pair middle. behind_pair pair (more_members member n (after_space middle)))) × Below (length (b ∷ bytes)) (and_then out (λ pair middle. behind_pair pair (more_members member n (after_space middle))))
  first_member_from b bytes q l (taken (a_pair name v) middle) r m =
      let t = space_at_most middle in
      let rest = more_members_sound n (after_space middle) (omega arith) (omega arith) in
      (first_member q r rest.0, less_room (length (after_space middle)) _ (behind_pair (a_pair name v) (more_members member n (after_space middle))) (omega arith) (behind_pair_below _ (a_pair name v) (more_members member n (after_space middle)) rest.1))
  first_member_from b bytes q l (refused f) r m = (member_fault q r, tt)

  first_members_sound : (b : ℕ) (bytes : List ℕ) → length (b ∷ bytes) < n → (t : Bool) → (b == 125) ≡ t → ReadsMembers reads (b ∷ bytes) (first_members member n b bytes t) × Below (length (b ∷ bytes)) (first_members member n b bytes t)
  first_members_sound b bytes l true e = (rw (eqb-true b 125 e) no_member, omega arith)
  first_members_sound b bytes l false e = let here = sound (b ∷ bytes) l in first_member_from b bytes (eqb-false b 125 e) l (member (b ∷ bytes)) here.0 here.1

  members_sound : IsSound n (ReadsMembers reads) (read_members member n)
  members_sound [] l = (object_ends, tt)
  members_sound (b ∷ bytes) l = first_members_sound b bytes l (b == 125) refl

module _ (n : ℕ) (reads : List ℕ → Reading Json → Type 0) (value : List ℕ → Reading Json) (sound : IsSound n reads value) where
  abbrev MoreItemsAt : List ℕ → Reading Items → Type 0
  MoreItemsAt bytes out = MoreItems reads bytes out × Below (length bytes) out

  next_item : (next : List ℕ → Reading Items) (bytes : List ℕ) → ((more : List ℕ) → length more < length bytes → MoreItemsAt more (next more)) → (out : Reading Json) → reads (after_space bytes) out → Below (length (after_space bytes)) out → MoreItemsAt (44 ∷ bytes) (and_then out (λ v middle. behind_item v (next (after_space middle))))
  next_item next bytes ih (taken v middle) r m =
      let s = space_at_most bytes in
      let t = space_at_most middle in
      let rest = ih (after_space middle) (omega arith) in
      (items_next r rest.0, less_room (length (after_space middle)) _ (behind_item v (next (after_space middle))) (omega arith) (behind_item_below _ v (next (after_space middle)) rest.1))
  next_item next bytes ih (refused f) r m = (items_fault r, tt)

  items_comma_sound : (next : List ℕ → Reading Items) (b : ℕ) (bytes : List ℕ) → ((more : List ℕ) → length more < length bytes → MoreItemsAt more (next more)) → length bytes < n → (t : Bool) → b ≢ 93 → (b == 44) ≡ t → MoreItemsAt (b ∷ bytes) (items_comma value next b bytes t)
  items_comma_sound next b bytes ih l true q e =
      let s = space_at_most bytes in
      let here = sound (after_space bytes) (omega arith) in
      rw (eqb-true b 44 e) (next_item next bytes ih (value (after_space bytes)) here.0 here.1)
  items_comma_sound next b bytes ih l false q e = (items_other q (eqb-false b 44 e), tt)

  items_bracket_sound : (next : List ℕ → Reading Items) (b : ℕ) (bytes : List ℕ) → ((more : List ℕ) → length more < length bytes → MoreItemsAt more (next more)) → length bytes < n → (t : Bool) → (b == 93) ≡ t → MoreItemsAt (b ∷ bytes) (items_bracket value next b bytes t)
  items_bracket_sound next b bytes ih l true e = rw (eqb-true b 93 e) (items_close, omega arith)
  items_bracket_sound next b bytes ih l false e = items_comma_sound next b bytes ih l (b == 44) (eqb-false b 93 e) refl

  more_items_sound : (k : ℕ) (bytes : List ℕ) → k ≤ n → length bytes < k → MoreItemsAt bytes (more_items value k bytes)
  more_items_sound zero bytes m l = absurd (omega arith)
  more_items_sound (suc k) [] m l = (items_end, tt)
  more_items_sound (suc k) (b ∷ bytes) m l = items_bracket_sound (λ more. more_items value k more) b bytes (λ more o. more_items_sound k more (omega arith) (omega arith)) (omega arith) (b == 93) refl

  first_item_from : (b : ℕ) (bytes : List ℕ) → b ≢ 93 → length (b ∷ bytes) < n → (out : Reading Json) → reads (b ∷ bytes) out → Below (length (b ∷ bytes)) out → ReadsItems reads (b ∷ bytes) (and_then out (λ v middle. behind_item v (more_items value n (after_space middle)))) × Below (length (b ∷ bytes)) (and_then out (λ v middle. behind_item v (more_items value n (after_space middle))))
  first_item_from b bytes q l (taken v middle) r m =
      let t = space_at_most middle in
      let rest = more_items_sound n (after_space middle) (omega arith) (omega arith) in
      (first_item q r rest.0, less_room (length (after_space middle)) _ (behind_item v (more_items value n (after_space middle))) (omega arith) (behind_item_below _ v (more_items value n (after_space middle)) rest.1))
  first_item_from b bytes q l (refused f) r m = (item_fault q r, tt)

  first_items_sound : (b : ℕ) (bytes : List ℕ) → length (b ∷ bytes) < n → (t : Bool) → (b == 93) ≡ t → ReadsItems reads (b ∷ bytes) (first_items value n b bytes t) × Below (length (b ∷ bytes)) (first_items value n b bytes t)
  first_items_sound b bytes l true e = (rw (eqb-true b 93 e) no_item, omega arith)
  first_items_sound b bytes l false e = let here = sound (b ∷ bytes) l in first_item_from b bytes (eqb-false b 93 e) l (value (b ∷ bytes)) here.0 here.1

  items_sound : IsSound n (ReadsItems reads) (read_items value n)
  items_sound [] l = (list_ends, tt)
  items_sound (b ∷ bytes) l = first_items_sound b bytes l (b == 93) refl

-- ---- values

as_list_below : (n : ℕ) (out : Reading Items) → Below n out → Below n (as_list out)
as_list_below n (taken vs rest) l = l
as_list_below n (refused f) l = tt

as_object_below : (n : ℕ) (out : Reading Members) → Below n out → Below n (as_object out)
as_object_below n (taken ms rest) l = l
as_object_below n (refused f) l = tt

as_text_below : (n : ℕ) (bytes : List ℕ) (out : Read (List ℕ)) → AtMost n out → Below (suc n) (as_text bytes out)
as_text_below n bytes (taken text rest) l = omega arith
as_text_below n bytes (refused e) l = tt

-- a reader of lists or objects is asked behind the opening bracket
abbrev IsSoundInside : {A : Type 0} → ℕ → (List ℕ → Reading A → Type 0) → (List ℕ → Reading A) → Type 0
IsSoundInside n reads read = (bytes : List ℕ) → length bytes < n → reads bytes (read bytes) × Below (suc (length bytes)) (read bytes)

module _ (n : ℕ) (items_read : List ℕ → Reading Items → Type 0) (members_read : List ℕ → Reading Members → Type 0) (items : List ℕ → Reading Items) (members : List ℕ → Reading Members) (lists : IsSoundInside n items_read items) (objects : IsSoundInside n members_read members) where
  abbrev ValueAt : List ℕ → Reading Json → Type 0
  ValueAt bytes out = ReadsWith items_read members_read bytes out × Below (length bytes) out

  object_sound : (b : ℕ) (bytes : List ℕ) → length (b ∷ bytes) < n → b ≢ 34 → b ≢ 91 → (t : Bool) → (b == 123) ≡ t → ValueAt (b ∷ bytes) (value_object members b bytes t)
  object_sound b bytes l p q true e = let here = objects bytes (omega arith) in rw (eqb-true b 123 e) (reads_object here.0, as_object_below _ (members bytes) here.1)
  object_sound b bytes l p q false e = (reads_scalar p q (eqb-false b 123 e), scalar_below (b ∷ bytes))

  list_sound : (b : ℕ) (bytes : List ℕ) → length (b ∷ bytes) < n → b ≢ 34 → (t : Bool) → (b == 91) ≡ t → ValueAt (b ∷ bytes) (value_list items members b bytes t)
  list_sound b bytes l p true e = let here = lists bytes (omega arith) in rw (eqb-true b 91 e) (reads_list here.0, as_list_below _ (items bytes) here.1)
  list_sound b bytes l p false e = object_sound b bytes l p (eqb-false b 91 e) (b == 123) refl

  text_value_sound : (b : ℕ) (bytes : List ℕ) → length (b ∷ bytes) < n → (t : Bool) → (b == 34) ≡ t → ValueAt (b ∷ bytes) (value_text n items members b bytes t)
  text_value_sound b bytes l true e = let here = string_sound n bytes (omega arith) in rw (eqb-true b 34 e) (reads_text here.0, as_text_below _ bytes (read_string n bytes) here.1)
  text_value_sound b bytes l false e = list_sound b bytes l (eqb-false b 34 e) (b == 91) refl

  with_sound : IsSound n (ReadsWith items_read members_read) (read_with n items members)
  with_sound [] l = (value_ends, tt)
  with_sound (b ∷ bytes) l = text_value_sound b bytes l (b == 34) refl

inside : {A : Type 0} (n : ℕ) (reads : List ℕ → Reading A → Type 0) (read : List ℕ → Reading A) → IsSound n reads read → IsSoundInside n (λ bytes. reads (after_space bytes)) (λ bytes. read (after_space bytes))
inside n reads read sound bytes l =
    let s = space_at_most bytes in
    let here = sound (after_space bytes) (omega arith) in
    (here.0, less_room (length (after_space bytes)) _ (read (after_space bytes)) (omega arith) here.1)

pub value_sound : (depth n : ℕ) → IsSound n (Reads depth) (read_value depth n)
value_sound zero n = with_sound n IsTooDeep IsTooDeep too_deep too_deep (λ bytes l. (refl, tt)) (λ bytes l. (refl, tt))
value_sound (suc depth) n =
    with_sound n _ _ _ _ (inside n (ReadsItems (Reads depth)) (read_items (λ xs. read_value depth n xs) n) (items_sound n (Reads depth) (λ xs. read_value depth n xs) (value_sound depth n)))
    (inside n (ReadsMembers (Reads depth)) (read_members (read_member (λ xs. read_value depth n xs) n) n) (members_sound n (Reads depth) (read_member (λ xs. read_value depth n xs) n) (member_sound n (Reads depth) (λ xs. read_value depth n xs) (value_sound depth n))))

pub json_sound : (bytes : List ℕ) → ReadsJson bytes (read_json bytes)
json_sound bytes = let s = space_at_most bytes in json_text (read_value most_depth (suc (length bytes)) (after_space bytes)) (value_sound most_depth (suc (length bytes)) (after_space bytes) (omega arith)).0

pub json_is_read : JsonIsRead
json_is_read bytes out = (
  (λ reads. one_json bytes (read_json bytes) out (json_sound bytes) reads),
  (λ is. subst (ReadsJson bytes) is (json_sound bytes)),
)
