-- The code by which a proof tells maps apart.
use Rattle.std.specs.Prelude.{ℕ, List, refl}
use Rattle.std.specs.Coded.{Coded, code_by, coded×, coded_list, coded_option, coded_ℕ}
use Rattle.std.specs.FinMap.{code}
use Rattle.import_map_spec.specs.ParsedMap.{Addresses, ParsedMap, Texts}

abbrev coded_texts : {X : Type 0} → Coded X → Coded (Texts X)
coded_texts x = code (coded_list coded_ℕ) x

abbrev coded_addresses : Coded Addresses
coded_addresses = coded_texts (coded_option (coded_list coded_ℕ))

pub coded_map : Coded ParsedMap
coded_map =
    code_by (Addresses × (Texts Addresses × Texts (List ℕ)))
    (coded× coded_addresses (coded× (coded_texts coded_addresses) (coded_texts (coded_list coded_ℕ))))
    (λ m. (m.imports, (m.scopes, m.integrity)))
    (λ p. record { imports = p.0; scopes = p.1.0; integrity = p.1.1 })
    (λ m. refl)
