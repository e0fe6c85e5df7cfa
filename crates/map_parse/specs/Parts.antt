-- The members of a map's text that count.
--     HoldsParts parts members      each part is the value of its member, where there is one
use Rattle.std.specs.Prelude.{◌≡◌, codes, option_map}
use Rattle.json_spec.specs.Value.{Members}
use Rattle.import_map_spec.specs.Parsing.{member}
use Rattle.ordered_json.specs.Shown.{json_of}
use Rattle.map_parse.specs.declared.parts.Parts.{Parts}

pub record HoldsParts (parts : Parts) (members : Members) : Type 0 where
  pub imports : option_map json_of parts.imports ≡ member (codes "imports") members
  pub scopes : option_map json_of parts.scopes ≡ member (codes "scopes") members
  pub integrity : option_map json_of parts.integrity ≡ member (codes "integrity") members
