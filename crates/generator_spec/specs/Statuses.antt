-- The exit statuses.
--     done_status               the map is written, or it serves each need
--     refused_status            a request or the page is refused, or an entry isn't there to be taken out
--     words_status              the words are wrong
--     limit_status              a limit is passed
--     read_fault_status         a look failed
--     write_fault_status        the write failed, or the output did
--     differences_status        a need isn't served, or a module doesn't agree with the statement grammar
--     file_status               a file that the command needs isn't there, or isn't of its form
--     memory_status             want of memory
--     not_reached_status        no chain of requests leads to the file
--     LeavesTree status         with this status the tree is as it was; with that of success it may be too
use Rattle.std.specs.Prelude.{◌≡◌, ◌⊎◌, ℕ}

abbrev pub done_status : ℕ
done_status = 0

abbrev pub refused_status : ℕ
refused_status = 1

abbrev pub words_status : ℕ
words_status = 2

abbrev pub limit_status : ℕ
limit_status = 3

abbrev pub read_fault_status : ℕ
read_fault_status = 4

abbrev pub write_fault_status : ℕ
write_fault_status = 5

abbrev pub differences_status : ℕ
differences_status = 6

abbrev pub file_status : ℕ
file_status = 7

abbrev pub memory_status : ℕ
memory_status = 8

abbrev pub not_reached_status : ℕ
not_reached_status = 10

abbrev pub LeavesTree : ℕ → Type 0
LeavesTree status =
    (status ≡ refused_status) ⊎ (status ≡ words_status) ⊎ (status ≡ limit_status) ⊎ (status ≡ read_fault_status)
    ⊎ (status ≡ differences_status) ⊎ (status ≡ file_status) ⊎ (status ≡ memory_status)
    ⊎ (status ≡ not_reached_status)
