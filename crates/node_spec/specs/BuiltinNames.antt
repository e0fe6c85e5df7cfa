-- The names of the modules that Node brings itself (Node.js, Modules: built-in modules). own: this list of names.
--     is_builtin text           the text is one of them
--     texts names               each name as its bytes
--     first_names, last_names   the names from `assert` to `os`, and from `path` to `zlib`
--     builtin_names             all of them
use Rattle.std.specs.Prelude.{ℕ, Bool, List, [], ◌∷◌, ◌++◌, codes, bytes_eq, map}
use Rattle.std.specs.List.{list_any}
use Prim.Native.String.{String}

abbrev pub texts : List String → List (List ℕ)
texts names = map (λ (name : String). codes name) names

abbrev pub first_names : List String
first_names =
    "assert" ∷ "assert/strict" ∷ "async_hooks" ∷ "buffer" ∷ "child_process" ∷ "cluster" ∷ "console" ∷ "constants"
    ∷ "crypto" ∷ "dgram" ∷ "diagnostics_channel" ∷ "dns" ∷ "dns/promises" ∷ "domain" ∷ "events" ∷ "fs" ∷ "fs/promises"
    ∷ "http" ∷ "http2" ∷ "https" ∷ "inspector" ∷ "inspector/promises" ∷ "module" ∷ "net" ∷ "os" ∷ []

abbrev pub last_names : List String
last_names =
    "path" ∷ "path/posix" ∷ "path/win32" ∷ "perf_hooks" ∷ "process" ∷ "punycode" ∷ "querystring" ∷ "readline"
    ∷ "readline/promises" ∷ "repl" ∷ "stream" ∷ "stream/consumers" ∷ "stream/promises" ∷ "stream/web"
    ∷ "string_decoder" ∷ "sys" ∷ "timers" ∷ "timers/promises" ∷ "tls" ∷ "trace_events" ∷ "tty" ∷ "url" ∷ "util"
    ∷ "util/types" ∷ "v8" ∷ "vm" ∷ "wasi" ∷ "worker_threads" ∷ "zlib" ∷ []

abbrev pub builtin_names : List (List ℕ)
builtin_names = texts first_names ++ texts last_names

unfoldable pub is_builtin : List ℕ → Bool
is_builtin text = list_any (bytes_eq text) builtin_names
