-- What a caller that claims a thread is given, at the log that it finds, and the threads that are claimed and passed by then.
use Rattle.std.specs.Prelude.{◌≡◌, ◌<◌, false, length, Option, None, Some}
use Rattle.step_names.specs.Thread.{Thread}
use Rattle.book_log.specs.Log.{Log}
use Rattle.book_events.specs.FirstMove.{IsFirstToMove}
use Rattle.book_events.specs.Tickets.{IsMoving}
use Rattle.book_events.specs.declared.ticket.Ticket.{Ticket}
use Rattle.shared_book.specs.Away.{Away, is_thread_among}
use Rattle.shared_book.specs.declared.claiming.Offer.{Offer}
use Rattle.shared_book.specs.declared.claiming.Offer.TheVariants as offer

abbrev pub thread_of : Option Ticket → Option Thread
thread_of None = None
thread_of (Some k) = Some k.thread

-- a ticket has its thread's frame in this log's world, and the machine of that frame's level
abbrev pub IsTicketAt : Log → Option Ticket → Type 0
IsTicketAt at None = Unit {0}
IsTicketAt at (Some k) = IsMoving at k.thread k.machine k.frame

-- the ticket of the least thread that has a move, and is neither claimed nor passed by; none, where there is no such thread
pub record IsClaim (at : Log) (away : Away) (found : Option Ticket) : Type 0 where
  pub least : IsFirstToMove at (is_thread_among away.outside) (thread_of found)
  pub ticket : IsTicketAt at found

-- ---- offers

abbrev pub ticket_of : Offer → Option Ticket
ticket_of (offer.Ticket k) = Some k
ticket_of (offer.Busy n) = None
ticket_of offer.Idle = None

abbrev pub thread_offered : Offer → Option Thread
thread_offered o = thread_of (ticket_of o)

-- a ticket as for a claim; and where there is none, so many claims are out, or none is
abbrev pub IsOffer : Log → Away → Offer → Type 0
IsOffer at away (offer.Ticket k) = IsClaim at away (Some k)
IsOffer at away (offer.Busy n) = IsClaim at away None × (n ≡ length away.claimed) × (0 < n)
IsOffer at away offer.Idle = IsClaim at away None × (length away.claimed ≡ 0)

-- ---- inside

-- a thread that can be claimed, if there is one
abbrev pub IsClaimable : Away → Option Thread → Type 0
IsClaimable away None = Unit {0}
IsClaimable away (Some t) = is_thread_among away.outside t ≡ false
