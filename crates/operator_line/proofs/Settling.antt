-- What a round of workers comes to.
use Rattle.std.proofs.Common.{◌≡◌, ◌≤◌, ◌+◌, ◌<◌, ℕ, zero, suc, List, [], ◌∷◌, ◌++◌, length, length-append, map, take, get_or, string_bytes, Option, Some, inl, inr, refl, sym, ap, subst, ◌∙◌, arith}
use Rattle.std.specs.Prelude.{Result, Ok, Err, IsSome, OnOk}
use Rattle.std.proofs.Math.Seq.{drop-append_seam}
use Rattle.std.proofs.lemmas.List.{map-append, take_more}
use Rattle.step_names.specs.Written.{step_text}
use Rattle.step_names.specs.declared.step.StepName.{StepName}
use Rattle.book_log.specs.Legal.{GoesOnLegally}
use Rattle.book_log.specs.Log.{Log, appended}
use Rattle.book_log.specs.declared.entry.Entry.{Entry}
use Rattle.book_log.specs.declared.entry.Entry.TheVariants.{Define, Start, Step as Stepped, Undo, Rollback, Settle, Hold}
use Rattle.book_rounds.specs.Rounds.{AreSteps, IsRound, with_entries}
use Rattle.book_rounds.proofs.Logs.{with_more, with_none}
use Rattle.book_rounds.specs.Work.{IsStepEntry}
use Rattle.journaled_book.specs.Journaled.{GoesOnBy}
use Rattle.journaled_book.specs.Lines.{AreEntryLines, IsLineOf}
use Rattle.journaled_book.proofs.Given.{both_entry_lines}
use Rattle.reply_lines.specs.Replies.{names_reply}
use Rattle.operator_line.specs.Answers.{TakesSteps, Works}
use Rattle.operator_line.specs.Answering.{GoesOnFrom, SettlesWork, Stays, WorksBy, since, stepped_names}
use Rattle.operator_line.specs.declared.working.Worked.{Worked}
use Rattle.operator_line.specs.declared.working.Worked.TheVariants as worked

-- ---- entries of steps

names_both : (xs ys : List Entry) → stepped_names (xs ++ ys) ≡ stepped_names xs ++ stepped_names ys
names_both [] ys = refl
names_both (Stepped name kind ∷ xs) ys = ap (λ (ns : List StepName). name ∷ ns) (names_both xs ys)
names_both (Define name machine ∷ xs) ys = names_both xs ys
names_both (Start exec machine input ∷ xs) ys = names_both xs ys
names_both (Undo name ∷ xs) ys = names_both xs ys
names_both (Rollback name undone ∷ xs) ys = names_both xs ys
names_both (Settle ∷ xs) ys = names_both xs ys
names_both (Hold name count ∷ xs) ys = names_both xs ys

names_few : (es : List Entry) → length (stepped_names es) ≤ length es
names_few [] = omega arith
names_few (Stepped name kind ∷ es) = let h = names_few es in omega (arith, h)
names_few (Define name machine ∷ es) = let h = names_few es in omega (arith, h)
names_few (Start exec machine input ∷ es) = let h = names_few es in omega (arith, h)
names_few (Undo name ∷ es) = let h = names_few es in omega (arith, h)
names_few (Rollback name undone ∷ es) = let h = names_few es in omega (arith, h)
names_few (Settle ∷ es) = let h = names_few es in omega (arith, h)
names_few (Hold name count ∷ es) = let h = names_few es in omega (arith, h)

-- steps that are legal were taken, each a move where it stands
takes_legal : (log : Log) (es : List Entry) → AreSteps es → GoesOnLegally log es → TakesSteps log (stepped_names es) (with_entries log es)
takes_legal log [] steps legal = with_none log
takes_legal log (Stepped name kind ∷ es) steps legal = (
  record { name = name; kind = kind },
  legal.0,
  refl,
  subst (TakesSteps (appended log (Stepped name kind)) (stepped_names es)) (with_more log (Stepped name kind) es) (takes_legal (appended log (Stepped name kind)) es steps.1 legal.1),
)
takes_legal log (Define name machine ∷ es) steps legal = absurd steps.0
takes_legal log (Start exec machine input ∷ es) steps legal = absurd steps.0
takes_legal log (Undo name ∷ es) steps legal = absurd steps.0
takes_legal log (Rollback name undone ∷ es) steps legal = absurd steps.0
takes_legal log (Settle ∷ es) steps legal = absurd steps.0
takes_legal log (Hold name count ∷ es) steps legal = absurd steps.0

-- ---- a round

module _ (begun moves : ℕ) (was after : Log) (begun_is : begun ≡ length was.entries) (round : IsRound moves was after) where
  since_is : since begun after ≡ round.more
  since_is = rw (begun_is, round.after_is) (drop-append_seam was.entries round.more)

  pub round_goes : (before : Option Log) → before ≡ Some was → GoesOnFrom begun before after
  round_goes before is = record {
    was = was;
    before_is = is;
    begun_is = begun_is;
    after_is = subst (λ (es : List Entry). after ≡ with_entries was es) (sym since_is) round.after_is;
    steps = subst AreSteps (sym since_is) round.steps;
  }

  pub round_few : length (since begun after) ≤ moves
  round_few = subst (λ (es : List Entry). length es ≤ moves) (sym since_is) round.few

  -- as many entries as before
  pub round_still : length after.entries ≡ begun → after ≡ was
  round_still same = by_more round.more refl
    where
      by_more : (more : List Entry) → round.more ≡ more → after ≡ was
      by_more [] is = round.after_is ∙ ap (with_entries was) is ∙ with_none was
      by_more (e ∷ more) is =
          let long : length after.entries ≡ length was.entries + length round.more = ap (λ (s : Log). length s.entries) round.after_is ∙ length-append was.entries round.more in
          let some : length round.more ≡ length more + 1 = ap length is ∙ omega arith in
          absurd (omega (arith, long, some, same, begun_is))

  pub round_works : (reply : List ℕ) (told : Option Log) → reply ≡ names_reply (stepped_names (since begun after)) → told ≡ Some after → Works was moves reply told
  round_works reply told text is = record {
    names = stepped_names round.more;
    last = after;
    few = let n = names_few round.more in let f = round.few in omega (arith, n, f);
    takes = subst (TakesSteps was (stepped_names round.more)) (sym round.after_is) (takes_legal was round.more round.steps round.legal);
    told = (text ∙ ap (λ (es : List Entry). names_reply (stepped_names es)) since_is, is);
  }

  pub settled_works : (w : Worked) (before told : Option Log) (workers : ℕ) → before ≡ Some was → SettlesWork w begun before after told → WorksBy w before workers moves told
  settled_works (worked.Told reply) before told workers is s = rw is (inl (round_works (string_bytes reply.text) told s.0 s.1))
  settled_works worked.NoMemory before told workers is s = absurd s
  settled_works worked.Lost before told workers is s = (subst IsSome (sym is) refl, s)

-- no step was taken
pub stayed_works : (w : Worked) (log : Log) (before told : Option Log) (workers moves : ℕ) → before ≡ Some log → told ≡ before → Stays w log → WorksBy w before workers moves told
stayed_works (worked.Told reply) log before told workers moves is same (inl none) =
    rw (same, is) (inl (record { names = []; last = log; few = omega arith; takes = refl; told = (none, refl) }))
stayed_works (worked.Told reply) log before told workers moves is same (inr full) = rw (same, is) (inr full)
stayed_works worked.NoMemory log before told workers moves is same s = same
stayed_works worked.Lost log before told workers moves is same s = absurd s

-- ---- its lines

pub goes_by : (lines : List (List ℕ)) (begun : ℕ) (before : Option Log) (after : Log) → GoesOnFrom begun before after → AreEntryLines lines (since begun after) → GoesOnBy lines before after
goes_by lines begun before after goes are = subst (λ (o : Option Log). GoesOnBy lines o after) (sym goes.before_is) (since begun after, goes.after_is, are)

pub one_line_more : (lines : List (List ℕ)) (es : List Entry) (line : List ℕ) (e : Entry) → AreEntryLines lines es → IsLineOf line e → AreEntryLines (lines ++ line ∷ []) (es ++ e ∷ [])
one_line_more lines es line e are is = both_entry_lines lines (line ∷ []) es (e ∷ []) are (is, tt)

pub texts_more : {U E : Type 0} (r : Result U E) (old new : List (List ℕ)) (line : List ℕ) (e : Entry) → new ≡ old ++ line ∷ [] → IsLineOf line e
    → OnOk r ((es : List Entry) → AreEntryLines old es → AreEntryLines new (es ++ e ∷ []))
texts_more (Ok u) old new line e is says = λ es are. subst (λ (ls : List (List ℕ)). AreEntryLines ls (es ++ e ∷ [])) (sym is) (one_line_more old es line e are says)
texts_more (Err f) old new line e is says = tt

pub names_more : (es : List Entry) (at : ℕ) (d e : Entry) → at < length es → get_or es at d ≡ e → map step_text (stepped_names (take (at + 1) es)) ≡ map step_text (stepped_names (take at es)) ++ map step_text (stepped_names (e ∷ []))
names_more es at d e low is =
    ap (λ (xs : List Entry). map step_text (stepped_names xs)) (take_more es at d low ∙ ap (λ (x : Entry). take at es ++ x ∷ []) is)
    ∙ ap (map step_text) (names_both (take at es) (e ∷ [])) ∙ map-append step_text (stepped_names (take at es)) (stepped_names (e ∷ []))

pub step_there : (es : List Entry) (at : ℕ) (d : Entry) → at < length es → AreSteps es → IsStepEntry (get_or es at d)
step_there [] at d low steps = absurd (omega (arith, low))
step_there (e ∷ es) zero d low steps = steps.0
step_there (e ∷ es) (suc at) d low steps = step_there es at d (omega (arith, low)) steps.1
