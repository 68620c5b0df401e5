-- What clap's matches hold of the two options, and how its errors are told.
use Rattle.std.proofs.Common.{◌≡◌, ◌⊎◌, ◌∙◌, Bool, true, false, List, [], ◌∷◌, Option, map, option_map, codes, refl, subst, ap, inl, inr}
use Rattle.std.specs.Prelude.{find, option_and_then, slice_get}
use Rattle.std.specs.Borrow.{Bor}
use Rattle.std.specs.Str.{bytes_eq}
use Rattle.clap.specs.Facts.{Entry}
use Rattle.clap.specs.Walk.{row_of}
use Rattle.clap.specs.Words.{App, HasMatchesOf, HasKind, IsAmong, Text, fault_of, first_of, first_value, found_of, is_simple, kind_of, matches_of}
use Rattle.clap.specs.declared.parser.matches.ArgMatches.{ArgMatches}
use Rattle.clap.specs.declared.error.Error.{Error}
use Rattle.clap.specs.declared.error.kind.ErrorKind.{ErrorKind}
use Rattle.clap.specs.declared.error.kind.ErrorKind.TheVariants as kind
use Rattle.rollback_run.specs.declared.mode.Mode.{Mode}
use Rattle.rollback_run.specs.declared.mode.ModeRefusal.{ModeRefusal}
use Rattle.rollback_run.specs.declared.mode.ModeRefusal.TheVariants.{Shown, Usage, Memory}
use Rattle.rollback_run.specs.Words.{program, value_in, IsModeRefusedBy, NamesMode, NamesFile, RefusesMode, RefusesNamed}

first_text : (vs : List (Bor Text)) → option_map (λ s. s.now) (slice_get vs 0) ≡ slice_get (map (λ s. s.now) vs) 0
first_text [] = refl
first_text (v ∷ vs) = refl

abbrev in_entries : Text → List Entry → Option Text
in_entries id es =
    option_and_then (λ a. option_map (λ s. s.now) (slice_get a.vals.items 0)) (option_map (λ e. e.1) (find (λ e. bytes_eq e.0.now id) es))

-- what is read of the entries is what stands in their rows
first_in : (id : Text) (es : List Entry) → in_entries id es ≡ first_of id (map row_of es)
first_in id [] = refl
first_in id (e ∷ es) = go (bytes_eq e.0.now id) refl (first_in id es)
  where
    go : (t : Bool) → bytes_eq e.0.now id ≡ t → in_entries id es ≡ first_of id (map row_of es)
        → in_entries id (e ∷ es) ≡ first_of id (map row_of (e ∷ es))
    go true t later = rw t (first_text e.1.vals.items)
    go false t later = rw t later

pub value_is : (a : App) (m : ArgMatches) (words : List Text) (name : Text) → a ≡ program → HasMatchesOf a words m
    → first_value (found_of m) name ≡ value_in words name
value_is a m words name app has =
    first_in name (found_of m).entries.items ∙ ap (first_of name) ((has (ap is_simple app)).0 ∙ ap (λ x. matches_of x words) app)

pub refuses : (words : List Text) (k : ErrorKind) (r : ModeRefusal) → (k ≡ kind.OutOfMemory) ⊎ IsAmong k (fault_of program words)
    → IsModeRefusedBy k r → RefusesMode words r
refuses words k Memory h told = tt
refuses words k (Shown text) (inl e) (inl help) = cc
refuses words k (Shown text) (inl e) (inr version) = cc
refuses words k Usage (inl e) told = absurd (told.2 e)
refuses words k (Shown text) (inr among) told = inr (record { kind = k; among = among; told = told })
refuses words k Usage (inr among) told = inr (record { kind = k; among = among; told = told })

pub refuses_named : (words : List Text) (r : ModeRefusal) → RefusesNamed (value_in words (codes "journal")) (value_in words (codes "check")) r
    → RefusesMode words r
refuses_named words Memory h = tt
refuses_named words (Shown text) h = inl h
refuses_named words Usage h = inl h

-- the errors of a parse by the program's command
pub among_faults : (a : App) (words : List Text) (e : Error) → a ≡ program → HasKind (fault_of a words) e
    → (kind_of e ≡ kind.OutOfMemory) ⊎ IsAmong (kind_of e) (fault_of program words)
among_faults a words e app h = subst (λ x. HasKind (fault_of x words) e) app h

pub names_by : (words : List Text) (journal check : Option Text) (mode : Mode) → journal ≡ value_in words (codes "journal")
    → check ≡ value_in words (codes "check") → fault_of program words ≡ [] → NamesFile journal check mode → NamesMode words mode
names_by words journal check mode e f taken h =
    (taken, subst (λ x. NamesFile x (value_in words (codes "check")) mode) e (subst (λ x. NamesFile journal x mode) f h))

-- the program's command takes the words
pub taken_by : (a : App) (words : List Text) → a ≡ program → fault_of a words ≡ [] → fault_of program words ≡ []
taken_by a words app h = subst (λ x. fault_of x words ≡ []) app h

pub refuses_by : (words : List Text) (journal check : Option Text) (refusal : ModeRefusal) → journal ≡ value_in words (codes "journal")
    → check ≡ value_in words (codes "check") → RefusesNamed journal check refusal → RefusesMode words refusal
refuses_by words journal check refusal e f h = refuses_named words refusal
    (subst (λ x. RefusesNamed x (value_in words (codes "check")) refusal) e (subst (λ x. RefusesNamed journal x refusal) f h))
