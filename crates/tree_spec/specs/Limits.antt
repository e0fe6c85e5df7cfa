-- The quantities that have a limit: the number that each may not pass, and the name under which it is printed.
--     limit_number which      the number
--     limit_name which      the name
use Rattle.std.specs.Prelude.{ℕ, List, codes}
use Rattle.tree_spec.specs.declared.LimitName.{LimitName}
use Rattle.tree_spec.specs.declared.LimitName.TheVariants.{File, Bytes, Looks, Modules, ModuleRequests, Requests}
use Rattle.tree_spec.specs.declared.LimitName.TheVariants.{Specifier, Entries, Brackets, Depth, Session, Map, Choices}

-- own: the number that the quantity may not pass
abbrev pub limit_number : LimitName → ℕ
limit_number File = 16777216
limit_number Bytes = 268435456
limit_number Looks = 400000
limit_number Modules = 20000
limit_number ModuleRequests = 4096
limit_number Requests = 200000
limit_number Specifier = 4096
limit_number Entries = 1024
limit_number Brackets = 4096
limit_number Depth = 128
limit_number Session = 268435456
limit_number Map = 67108864
limit_number Choices = 16777216

-- own: the name under which the quantity is printed
abbrev pub limit_name : LimitName → List ℕ
limit_name File = codes "file"
limit_name Bytes = codes "bytes"
limit_name Looks = codes "looks"
limit_name Modules = codes "modules"
limit_name ModuleRequests = codes "module-requests"
limit_name Requests = codes "requests"
limit_name Specifier = codes "specifier"
limit_name Entries = codes "entries"
limit_name Brackets = codes "brackets"
limit_name Depth = codes "depth"
limit_name Session = codes "session"
limit_name Map = codes "map"
limit_name Choices = codes "choices"
