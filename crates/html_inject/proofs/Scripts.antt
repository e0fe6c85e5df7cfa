-- A piece that begins no script begins no import map element.
use Rattle.std.specs.Prelude.{◌&&◌, ◌||◌, codes, is_some}
use Rattle.std.proofs.Common.{◌≡◌, ℕ, ◌+◌, List, length, Bool, true, false, Option, Some, None, if◌then◌else◌, refl, sym, ◌∙◌, ap}
use Rattle.page_spec.specs.declared.kinds.InjectFault.{InjectFault}
use Rattle.page_spec.specs.declared.kinds.InjectFault.TheVariants.{PageUnclear, TwoMaps}
use Rattle.page_spec.specs.Pieces.{Part}
use Rattle.page_spec.specs.Attributes.{attribute_text}
use Rattle.page_spec.specs.ImportMaps.{is_broken, is_start_of, is_script, is_map_start, raw_behind}
use Rattle.page_spec.specs.Faults.{holds_ampersand, raw_fault, fault_at}
use Rattle.html_inject.specs.Search.{plain_fault}

no_map_start : (p : Part) → is_script p ≡ false → is_map_start p ≡ false
unfolding is_map_start
no_map_start p e = rw e refl

by_tests : (n : ℕ) (seen : Bool) (a b c d : Bool) (raw : Option (List ℕ)) (fault : Option InjectFault) → (if (a || b || false && c || is_some (if false then raw else None) && d) then Some (PageUnclear n) else if seen && is_some (if false then raw else None) then Some (TwoMaps n) else if false then fault else None) ≡ (if a || b then Some (PageUnclear n) else None)
by_tests n seen true b c d raw fault = refl
by_tests n seen false true c d raw fault = refl
by_tests n true false false c d raw fault = refl
by_tests n false false false c d raw fault = refl

pub no_script_fault : (n : ℕ) (seen : Bool) (p : Part) (parts : List Part) → is_script p ≡ false → plain_fault n p ≡ fault_at n seen p parts
no_script_fault n seen p parts e =
    let m = no_map_start p e in
    sym (ap (λ c. if (is_broken p.kind || is_start_of (codes "base") p || c && holds_ampersand (attribute_text (codes "type") p.text) || is_some (if is_map_start p then raw_behind parts else None) && is_some (attribute_text (codes "src") p.text)) then Some (PageUnclear n) else if seen && is_some (if is_map_start p then raw_behind parts else None) then Some (TwoMaps n) else if c then raw_fault (n + length p.text) (raw_behind parts) else None) e ∙ (ap (λ c. if (is_broken p.kind || is_start_of (codes "base") p || false && holds_ampersand (attribute_text (codes "type") p.text) || is_some (if c then raw_behind parts else None) && is_some (attribute_text (codes "src") p.text)) then Some (PageUnclear n) else if seen && is_some (if c then raw_behind parts else None) then Some (TwoMaps n) else if false then raw_fault (n + length p.text) (raw_behind parts) else None) m ∙ by_tests n seen (is_broken p.kind) (is_start_of (codes "base") p) (holds_ampersand (attribute_text (codes "type") p.text)) (is_some (attribute_text (codes "src") p.text)) (raw_behind parts) (raw_fault (n + length p.text) (raw_behind parts))))
