-- What looks see.
--     entry_of seen                what stands at a path that was looked at
--     look_seen seen               the look that saw it
--     look_of seen                 the same; none is a file above the limit
--     Shows known seen             what a known look saw; none where none is known, or it saw a file above the limit
--     bytes_of look                the bytes of the file that was seen
--     within_limit look            the look, where a file above the limit is too large
--     IsWithin known               a look is known, and it saw no file above the limit
--     seen_as found                what a look answers where this stands there
use Rattle.std.specs.Prelude.{◌≡◌, ⊤, ℕ, nat_lt, false, List, length, Option, Some, None, if◌then◌else◌}
use Rattle.tree_spec.specs.Limits.{limit_number}
use Rattle.tree_spec.specs.declared.Entry.{Entry}
use Rattle.tree_spec.specs.declared.Entry.TheVariants.{Stored, Directory}
use Rattle.tree_spec.specs.declared.LimitName.TheVariants as limit
use Rattle.tree_spec.specs.declared.Look.{Look}
use Rattle.tree_spec.specs.declared.Look.TheVariants.{Absent, Folder, File, TooLarge}
use Rattle.package_lookup.specs.declared.held.Seen.{Seen}
use Rattle.package_lookup.specs.declared.held.Seen.TheVariants as seen

abbrev pub entry_of : Seen → Option Entry
entry_of seen.Absent = None
entry_of seen.Folder = Some Directory
entry_of (seen.File bytes) = Some (Stored bytes.value)

abbrev pub look_seen : Seen → Look
look_seen seen.Absent = Absent
look_seen seen.Folder = Folder
look_seen (seen.File bytes) = File bytes.value

abbrev pub look_of : Option Seen → Look
look_of None = TooLarge
look_of (Some found) = look_seen found

abbrev pub Shows : Option Look → Option Seen → Type 0
Shows None seen = seen ≡ None
Shows (Some look) seen = look_of seen ≡ look

abbrev pub bytes_of : Look → Option (List ℕ)
bytes_of Absent = None
bytes_of Folder = None
bytes_of (File bytes) = Some bytes
bytes_of TooLarge = None

-- own: how many bytes of a file may be looked at
abbrev pub within_limit : Look → Look
within_limit Absent = Absent
within_limit Folder = Folder
within_limit (File bytes) = if nat_lt (limit_number limit.File) (length bytes) then TooLarge else File bytes
within_limit TooLarge = TooLarge

abbrev pub IsWithin : Option Look → Type 0
IsWithin None = ⊥
IsWithin (Some Absent) = ⊤
IsWithin (Some Folder) = ⊤
IsWithin (Some (File bytes)) = nat_lt (limit_number limit.File) (length bytes) ≡ false
IsWithin (Some TooLarge) = ⊥

abbrev pub seen_as : Option Entry → Look
seen_as None = Absent
seen_as (Some Directory) = Folder
seen_as (Some (Stored bytes)) = within_limit (File bytes)
