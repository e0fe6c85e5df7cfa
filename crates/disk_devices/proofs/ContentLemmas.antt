-- What a look answers of a file of which a front was read that ends behind the limit, or at the file's end.
use Rattle.std.proofs.Common.{◌≡◌, ◌≤◌, ◌+◌, ◌++◌, [], ℕ, List, None, Some, Option, IfSome, length, take, option_map, arith, ap}
use Rattle.std.proofs.lemmas.List.{take_all, length-take}
use Rattle.tree_spec.specs.declared.Look.TheVariants.{File}
use Rattle.disk_devices.specs.Contents.{IsContent}

whole_list : (limit most : ℕ) (all found : List ℕ) → most ≡ limit + 1 → found ≡ take most all → length found ≤ limit → IsContent all limit (File found)
whole_list limit most all found further front short =
    let size : length found ≡ length (take most all) = ap length front in
    let known : length all ≤ limit = grind (arith, size, length-take most all, short, further) in
    (grind (arith, front, take_all most all, known, further), known)

pub whole_content : (known told : Option (List ℕ)) (limit most : ℕ) (start read found : List ℕ) → told ≡ known → most ≡ limit + 1 → start ≡ [] → IfSome (option_map (take most) told) (λ front. read ≡ start ++ front) → length read ≤ limit → found ≡ read → IfSome known (λ all. IsContent all limit (File found))
whole_content None told limit most start read found same further empty front short moved = tt
whole_content (Some all) None limit most start read found same further empty front short moved = absurd (cc)
whole_content (Some all) (Some others) limit most start read found same further empty front short moved =
    let same_list : others ≡ all = cc in
    let joined : start ++ take most others ≡ [] ++ take most all = cc in
    let whole : found ≡ [] ++ take most all = cc in
    whole_list limit most all found further whole (rw moved short)
