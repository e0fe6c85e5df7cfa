-- How the arrows are found, from the last token to the first.
use Rattle.std.proofs.Common.{◌≡◌, ◌<◌, ◌≤◌, ◌-◌, ◌==◌, ℕ, zero, suc, Bool, true, false, List, [], ◌∷◌, ◌++◌, All, length, map, reverse, Some, if◌then◌else◌, refl, sym, ◌∙◌, ap, arith}
use Rattle.std.specs.Prelude.{slice_index_or as get_or, slice_set as set, replicate}
use Rattle.std.proofs.lemmas.List.{append-nil, append_assoc, get_or-set_same, get_or-set_other, length-set, length-replicate, length-reverse, get_or-reverse, get_or_past, nil_from_length}
use Rattle.std.proofs.lemmas.List.Elements.{All-pop}
use Rattle.std.proofs.lemmas.Bool.{eqb-true, eqb-false}
use Rattle.std.proofs.lemmas.Grind.{reverse_onto}
use Rattle.grammar_spec.specs.Sights.{Sight, first, is_arrow_sign, sign_behind}
use Rattle.grammar_tokens.specs.declared.spot.Spot.{Spot}
use Rattle.grammar_tokens.specs.Spots.{sight_of, arrows_behind, IsSpot, AreUnset}

-- what the signs and the arrows tell of the tokens that were passed, where the rest is left
pub record Passed (text : List ℕ) (spots rest : List Spot) (signs : List Bool) (sign : Bool) (arrows : List Bool) : Type 0 where
  pub done : List Spot
  pub whole : spots ≡ rest ++ done
  pub within : All (IsSpot text) rest
  pub size : length signs ≡ 65536
  pub tells : (d : ℕ) → d < 65536 → get_or signs d false ≡ sign_behind d (map (sight_of text) done)
  pub says : sign ≡ first is_arrow_sign (map (sight_of text) done)
  pub told : arrows ≡ reverse (arrows_behind (map (sight_of text) done))

get_unset : (count at : ℕ) → get_or (replicate count false) at false ≡ false
get_unset zero at = refl
get_unset (suc count) zero = refl
get_unset (suc count) (suc at) = get_unset count at

pub unset : (count : ℕ) (signs : List Bool) → signs ≡ replicate count false → AreUnset count signs
unset count signs e =
    record {
      size = ap length e ∙ length-replicate count false;
      unset = λ at. ap (λ (s : List Bool). get_or s at false) e ∙ get_unset count at;
    }

pub none_passed : (text : List ℕ) (spots : List Spot) (signs arrows : List Bool) → All (IsSpot text) spots
    → AreUnset 65536 signs → arrows ≡ [] → Passed text spots spots signs false arrows
none_passed text spots signs arrows h e f =
    record {
      done = [];
      whole = sym (append-nil spots);
      within = h;
      size = e.size;
      tells = λ d l. e.unset d;
      says = refl;
      told = f;
    }

sign_after : (d : ℕ) (t : Sight) (rest : List Sight) (signs : List Bool) → t.behind < length signs
    → get_or signs d false ≡ sign_behind d rest
    → get_or (set signs t.behind (first is_arrow_sign rest)) d false ≡ sign_behind d (t ∷ rest)
sign_after d t rest signs l e = by_depth (t.behind == d) refl where
  by_depth : (b : Bool) → (t.behind == d) ≡ b → get_or (set signs t.behind (first is_arrow_sign rest)) d false ≡ sign_behind d (t ∷ rest)
  by_depth true s =
      let same : t.behind ≡ d = eqb-true t.behind d s in
      ap (λ k. get_or (set signs t.behind (first is_arrow_sign rest)) k false) (sym same)
      ∙ (get_or-set_same signs t.behind (first is_arrow_sign rest) false l
      ∙ sym (ap (λ b. if b then first is_arrow_sign rest else sign_behind d rest) s))
  by_depth false s =
      get_or-set_other signs t.behind d (first is_arrow_sign rest) false (λ same. eqb-false t.behind d s (sym same))
      ∙ (e ∙ sym (ap (λ b. if b then first is_arrow_sign rest else sign_behind d rest) s))

module _ {text : List ℕ} {spots rest : List Spot} {signs arrows : List Bool} {sign : Bool} where
  -- the next token stands in the text, and its depths have signs
  pub last_within : (before : List Spot) (s : Spot) → Passed text spots rest signs sign arrows → rest ≡ before ++ s ∷ []
      → All (IsSpot text) before × IsSpot text s
  last_within before s p split = All-pop (IsSpot text) rest before (Some s) split p.within

  pub last_is : (before : List Spot) (s : Spot) → Passed text spots rest signs sign arrows → rest ≡ before ++ s ∷ [] → IsSpot text s
  last_is before s p split = (last_within before s p split).1

  pub has_sign : (d : ℕ) → Passed text spots rest signs sign arrows → d < 65536 → d < length signs
  has_sign d p l = let size = p.size in rw size l

  pub one_passed : (before : List Spot) (s : Spot) (later more : List Bool) (next : Bool)
      → Passed text spots rest signs sign arrows → rest ≡ before ++ s ∷ [] → s.depth < 65536 → s.behind < 65536
      → more ≡ arrows ++ get_or signs s.depth false ∷ [] → later ≡ set signs s.behind sign
      → next ≡ is_arrow_sign (sight_of text s) → Passed text spots before later next more
  one_passed before s later more next p split deep within f k g =
      let size = p.size in
      record {
        done = s ∷ p.done;
        whole = p.whole ∙ (ap (λ (x : List Spot). x ++ p.done) split ∙ append_assoc before (s ∷ []) p.done);
        within = (last_within before s p split).0;
        size = ap length k ∙ (length-set signs s.behind sign ∙ size);
        tells =
            λ d l. ap (λ (x : List Bool). get_or x d false) k
            ∙ (ap (λ b. get_or (set signs s.behind b) d false) p.says
            ∙ sign_after d (sight_of text s) (map (sight_of text) p.done) signs (rw size within) (p.tells d l));
        says = g;
        told =
            f
            ∙ (ap (λ (x : List Bool). x ++ get_or signs s.depth false ∷ []) p.told
            ∙ (ap (λ b. reverse (arrows_behind (map (sight_of text) p.done)) ++ b ∷ []) (p.tells s.depth deep)
            ∙ sym (reverse_onto (arrows_behind (map (sight_of text) p.done)) (sign_behind s.depth (map (sight_of text) p.done)) [])));
      }

  pub all_passed : Passed text spots rest signs sign arrows → length rest ≡ 0
      → arrows ≡ reverse (arrows_behind (map (sight_of text) spots))
  all_passed p e =
      p.told
      ∙ ap (λ (x : List Spot). reverse (arrows_behind (map (sight_of text) x)))
      (sym (p.whole ∙ ap (λ (x : List Spot). x ++ p.done) (nil_from_length rest e)))

-- ---- an arrow is looked up

pub arrow_there : (xs arrows : List Bool) (at : ℕ) → arrows ≡ reverse xs → at < length arrows
    → get_or arrows (length arrows - 1 - at) false ≡ get_or xs at false
arrow_there xs arrows at e l =
    let size : length arrows ≡ length xs = ap length e ∙ length-reverse xs in
    let back : length xs - 1 - (length xs - 1 - at) ≡ at = omega (size, l, arith) in
    ap (λ n. get_or arrows (n - 1 - at) false) size
    ∙ (ap (λ (x : List Bool). get_or x (length xs - 1 - at) false) e
    ∙ (get_or-reverse xs (length xs - 1 - at) false (omega (size, l, arith)) ∙ ap (λ n. get_or xs n false) back))

pub arrow_past : (xs arrows : List Bool) (at : ℕ) → arrows ≡ reverse xs → length arrows ≤ at → get_or xs at false ≡ false
arrow_past xs arrows at e l =
    let size : length arrows ≡ length xs = ap length e ∙ length-reverse xs in get_or_past xs at false (omega (size, l, arith))

pub ruleset passing = (none_passed, last_is, has_sign, one_passed, all_passed)
