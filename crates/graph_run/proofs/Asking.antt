-- What clap's matches hold of the options, and how its errors are told.
use Rattle.std.proofs.Common.{◌≡◌, ◌⊎◌, ◌∙◌, Bool, true, false, List, [], ◌∷◌, length, map, Option, None, Some, Result, Ok, Err, IfOk, IfErr, codes, string_bytes, refl, subst, sym, ap, inl, inr}
use Rattle.std.specs.Borrow.{Bor}
use Rattle.clap.proofs.WalkLemmas.{one_text-rows}
use Rattle.clap.specs.Words.{App, Row, HasMatchesOf, HasKind, IsAmong, Text, fault_of, first_of, found_of, is_simple, kind_of, matches_of, one_of, one_text, rows_of}
use Rattle.clap.specs.declared.parser.matches.ArgMatches.{ArgMatches}
use Rattle.clap.specs.declared.parser.matches.Found.{Found}
use Rattle.clap.specs.declared.error.Error.{Error}
use Rattle.clap.specs.declared.error.kind.ErrorKind.{ErrorKind}
use Rattle.clap.specs.declared.error.kind.ErrorKind.TheVariants as kind
use Rattle.graph_run.specs.declared.asked.Question.{Question}
use Rattle.graph_run.specs.declared.asked.Asked.{Asked}
use Rattle.graph_run.specs.declared.asked.Asked.TheVariants.{Question as Ask, Serve}
use Rattle.graph_run.specs.declared.asked.AskRefusal.{AskRefusal}
use Rattle.graph_run.specs.declared.asked.AskRefusal.TheVariants.{Shown, Usage, Memory}
use Rattle.graph_run.specs.Questions.{Asks, AsksBeside, AsksNothing, has_any, IsAskedIn, IsFlag, IsQuestionIn, IsQuestionOf, IsServedIn, IsServeOf, NamesIn, AsksToServe, pair_of, question_of}
use Rattle.graph_run.specs.Words.{graph_program, IsAskRefusedBy, NamesAsked, RefusesAsked}

pub flag_rows : (f : Found) (id : Text) (value : Bool) → (one_text f id ≡ None → value ≡ false) → (one_text f id ≡ Some (codes "true") → value ≡ true)
    → (one_text f id ≡ Some (codes "false") → value ≡ false) → IsFlag (one_of id (rows_of f)) value
flag_rows f id value absent given withheld = record {
  absent = λ e. absent (one_text-rows f id ∙ e);
  given = λ e. given (one_text-rows f id ∙ e);
  withheld = λ e. withheld (one_text-rows f id ∙ e);
}

pub not_a_pair : (steps : List (Bor Text)) → (length steps ≡ 2 → ⊥) → pair_of (map (λ step. step.now) steps) ≡ None
not_a_pair [] other = refl
not_a_pair (one ∷ []) other = refl
not_a_pair (one ∷ two ∷ []) other = absurd (other refl)
not_a_pair (one ∷ two ∷ three ∷ more) other = refl

pub same_question : (list dot html : Bool) (p q : Option Text) (v w : Option (List Text)) (f g : Option Text) → p ≡ q → v ≡ w → f ≡ g
    → question_of list dot html p v f ≡ question_of list dot html q w g
same_question list dot html p q v w f g plan why from = rw (plan, why, from) refl

pub same_any : (list dot html : Bool) (p q : Option Text) (v w : Option (List Text)) (f g : Option Text) → p ≡ q → v ≡ w → f ≡ g
    → has_any list dot html p v f ≡ has_any list dot html q w g
same_any list dot html p q v w f g plan why from = rw (plan, why, from) refl

pub asked_in : (rows : List Row) (file : Text) (question : Question) (r : Result Asked AskRefusal) → first_of (codes "file") rows ≡ Some file
    → Asks rows (Some question) → IfOk r (IsQuestionOf file question) → IfErr r (λ refusal. refusal ≡ Memory) → IsQuestionIn rows r
asked_in rows file question (Ok (Ask own asked)) named asks ok err = record {
  named = named ∙ ap Some (sym ok.0);
  asks = subst (λ x. Asks rows (Some x)) (sym ok.1) asks;
}
asked_in rows file question (Ok (Serve own)) named asks ok err = absurd ok
asked_in rows file question (Err Memory) named asks ok err = tt
asked_in rows file question (Err Usage) named asks ok err = cc
asked_in rows file question (Err (Shown text)) named asks ok err = cc

pub served_in : (rows : List Row) (file : Option Text) (r : Result Asked AskRefusal) → file ≡ first_of (codes "file") rows → AsksBeside rows false
    → IfOk r (IsServeOf file) → IfErr r (λ refusal. refusal ≡ Memory) → IsServedIn rows r
served_in rows file (Ok (Ask own asked)) named alone ok err = absurd ok
served_in rows file (Ok (Serve own)) named alone ok err = record { named = ok ∙ named; alone = alone }
served_in rows file (Err Memory) named alone ok err = tt
served_in rows file (Err Usage) named alone ok err = cc
served_in rows file (Err (Shown text)) named alone ok err = cc

-- a line asks for a question, or for lines to be followed
pub of_question : (rows : List Row) (r : Result Asked AskRefusal) → AsksToServe rows false → IsQuestionIn rows r → IsAskedIn rows r
of_question rows (Ok (Ask file question)) s h = (s, h)
of_question rows (Ok (Serve file)) s h = absurd h
of_question rows (Err Memory) s h = tt
of_question rows (Err Usage) s h = inr (s, h)
of_question rows (Err (Shown text)) s h = absurd h

pub of_serve : (rows : List Row) (r : Result Asked AskRefusal) → AsksToServe rows true → IsServedIn rows r → IsAskedIn rows r
of_serve rows (Ok (Ask file question)) s h = absurd h
of_serve rows (Ok (Serve file)) s h = (s, h)
of_serve rows (Err Memory) s h = tt
of_serve rows (Err Usage) s h = inl (s, h)
of_serve rows (Err (Shown text)) s h = absurd h

-- the rows of a parse by the program's command
pub rows_are : (a : App) (m : ArgMatches) (words : List Text) → a ≡ graph_program → HasMatchesOf a words m → rows_of (found_of m) ≡ matches_of graph_program words
rows_are a m words app has = (has (ap is_simple app)).0 ∙ ap (λ x. matches_of x words) app

pub taken_by : (a : App) (words : List Text) → a ≡ graph_program → fault_of a words ≡ [] → fault_of graph_program words ≡ []
taken_by a words app h = subst (λ x. fault_of x words ≡ []) app h

pub names_by : (words : List Text) (rows : List Row) (r : Result Asked AskRefusal) → rows ≡ matches_of graph_program words → fault_of graph_program words ≡ []
    → IsAskedIn rows r → IfOk r (NamesAsked words)
names_by words rows (Ok asked) e taken h = record { taken = taken; names = subst (λ x. NamesIn x asked) e h }
names_by words rows (Err refusal) e taken h = tt

pub refuses_by : (words : List Text) (rows : List Row) (r : Result Asked AskRefusal) → rows ≡ matches_of graph_program words → IsAskedIn rows r
    → IfErr r (RefusesAsked words)
refuses_by words rows (Ok asked) e h = tt
refuses_by words rows (Err Memory) e h = tt
refuses_by words rows (Err Usage) e h = inl (subst AsksNothing e h)
refuses_by words rows (Err (Shown text)) e h = absurd h

-- the errors of a parse by the program's command
pub among_faults : (a : App) (words : List Text) (e : Error) → a ≡ graph_program → HasKind (fault_of a words) e
    → (kind_of e ≡ kind.OutOfMemory) ⊎ IsAmong (kind_of e) (fault_of graph_program words)
among_faults a words e app h = subst (λ x. HasKind (fault_of x words) e) app h

pub refuses : (words : List Text) (k : ErrorKind) (r : AskRefusal) → (k ≡ kind.OutOfMemory) ⊎ IsAmong k (fault_of graph_program words)
    → IsAskRefusedBy k r → RefusesAsked words r
refuses words k Memory h told = tt
refuses words k (Shown text) (inl e) (inl help) = cc
refuses words k (Shown text) (inl e) (inr version) = cc
refuses words k (Shown text) (inr among) told = record { kind = k; among = among; told = told }
refuses words k Usage (inl e) told = absurd (told.2 e)
refuses words k Usage (inr among) told = inr (record { kind = k; among = among; told = told })
