-- From which thread on one is looked for that can be claimed.
use Rattle.std.specs.Prelude.{Option, None, Some}
use Rattle.step_names.specs.Thread.{Thread}
use Rattle.book_log.specs.Log.{Log}
use Rattle.book_events.specs.Cursors.{IsUpTo, LeavesNoneOut}
use Rattle.shared_book.specs.Away.{Away, is_thread_among}

-- no thread before this one can be claimed
abbrev pub NoneBefore : Log → Away → Thread → Type 0
NoneBefore log away place = LeavesNoneOut log (is_thread_among away.outside) place

-- if a thread was found the place is up to it; if there is none it is any
abbrev pub IsSought : Option Thread → Thread → Type 0
IsSought None now = Unit {0}
IsSought (Some t) now = IsUpTo t now
