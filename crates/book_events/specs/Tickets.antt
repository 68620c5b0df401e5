-- A thread's ticket: what its next move is prepared of, apart from the book.
use Rattle.std.specs.Prelude.{◌≡◌, ◌+◌, ◌<◌, ◌^◌, true, false, Some, None, IsSome, Result, Ok, Err}
use Rattle.asl_tree.specs.Definition.{Definition}
use Rattle.branch_tree.specs.Ready.{readiness_at}
use Rattle.branch_tree.specs.declared.readiness.Readiness.{Readiness}
use Rattle.saved_steps.specs.Held.{paths_of}
use Rattle.step_history.specs.Frame.{Frame}
use Rattle.step_history.specs.Turn.{located}
use Rattle.step_names.specs.Thread.{Thread}
use Rattle.book_log.specs.Answers.{is_enabled}
use Rattle.book_log.specs.Log.{Log, machine_of, world_of}
use Rattle.book_log.specs.declared.refusal.Refusal.{Refusal}
use Rattle.book_log.specs.declared.refusal.Refusal.TheVariants.{NoThread, NotReady, Memory}
use Rattle.book_events.specs.declared.ticket.Ticket.{Ticket}

-- what a thread can do next
abbrev pub log_readiness : Log → Thread → Readiness
log_readiness log t = readiness_at (paths_of (world_of log).frames t.exec) t.path

-- the thread has this frame, of this machine, and a move
pub record IsMoving (log : Log) (t : Thread) (machine : Definition) (f : Frame) : Type 0 where
  pub frame : (world_of log).frames t ≡ Some f
  pub known : machine_of log f.level.machine ≡ Some machine
  pub moves : is_enabled log t ≡ true

-- a ticket is refused where there is no such thread, or it has no move; else memory alone may be wanting
abbrev pub IsTicketRefusal : Log → Thread → Refusal → Type 0
IsTicketRefusal log t NoThread = (world_of log).frames t ≡ None
IsTicketRefusal log t (NotReady readiness) = IsSome ((world_of log).frames t) × (is_enabled log t ≡ false) × (readiness ≡ log_readiness log t)
IsTicketRefusal log t Memory = is_enabled log t ≡ true
IsTicketRefusal log t _ = ⊥

-- the thread's name, its frame and the machine of that frame's level
abbrev pub AnswersTicket : Log → Thread → Result Ticket Refusal → Type 0
AnswersTicket log t (Ok ticket) = (ticket.thread ≡ t) × IsMoving log t ticket.machine ticket.frame
AnswersTicket log t (Err e) = IsTicketRefusal log t e

-- ---- inside

-- the thread's next move can be prepared, or its branches can be taken out
pub record IsTicketed (log : Log) (t : Thread) (machine : Definition) (f : Frame) : Type 0 where
  pub moving : IsMoving log t machine f
  pub stands : IsSome (located machine f)
  pub few : f.count + 1 < 2 ^ 32
