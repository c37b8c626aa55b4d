-- What a read answers: how many bytes stand at the start of the buffer, also where it failed.
use Rattle.std.specs.Prelude.{ℕ, Result, Ok, Err}
use Rattle.files.specs.declared.Unread.{Unread}

abbrev pub count_of : Result ℕ Unread → ℕ
count_of (Ok count) = count
count_of (Err failed) = failed.count
