-- What is accepted for the words of a request says what its command promises.
use Rattle.std.proofs.Common.{◌≡◌, ◌⊎◌, ℕ, List, Bool, true, Option, Result, Ok, IfOk, sym, ap, subst, ◌∙◌, inl, inr}
use Rattle.vx_scheme.specs.declared.memory.NoMemory.{NoMemory}
use Rattle.vx_batch.specs.declared.reply.Answer.{Answer}
use Rattle.vx_batch.specs.Answers.{IsAnswer, IsLineAnswer}
use Rattle.vx_batch.specs.Fields.{fields_of_line}
use Rattle.vx_batch.specs.Requests.{fields_of}
use Rattle.vx_batch.specs.Translations.{Says}
use Rattle.vx_batch.specs.Laws.Translations.{says}
use Rattle.vx_batch.specs.declared.request.Request.{Request}
use Rattle.vx_spec.specs.Numerals.{value}
use Rattle.vx_cli.specs.Jobs.{IsJob}
use Rattle.vx_cli.specs.declared.job.Job.TheVariants.{Drill}
use Rattle.vx_cli.specs.Runs.{AppendsSuch, AppendsSuchFront, IsWordsAnswer}
use Rattle.vx_cli.specs.Steps.Puts.{Puts, PutsFront}

words_say : (words : List (List ℕ)) (request : Request (List ℕ)) (line : List ℕ) → fields_of request ≡ words → IsWordsAnswer words true line → Says request line
words_say words request line is (inl long) = cc long.1.0
words_say words request line is (inr fits) = says request line (subst (λ fields. IsAnswer fields true line) (sym is) fits.1)

-- and so does what is accepted for a line that makes the request
pub line_says : (line text : List ℕ) (request : Request (List ℕ)) → IsLineAnswer 65536 line true text → fields_of request ≡ fields_of_line line → Says request text
line_says line text request (inl long) is = cc long.1.0
line_says line text request (inr (inl none)) is = cc none.2.0
line_says line text request (inr (inr fits)) is = says request text (subst (λ fields. IsAnswer fields true text) (sym is) fits.2)

pub appends_said : (words : List (List ℕ)) (request : Request (List ℕ)) (old new : Option (List ℕ)) → fields_of request ≡ words → AppendsSuch (IsWordsAnswer words true) old new → AppendsSuch (Says request) old new
appends_said words request old new is a = record { line = a.line; is = words_say words request a.line is a.is; grown = a.grown }

-- an answer of which this holds, and that is written
module _ (Is : Bool → List ℕ → Type 0) (answer : Result Answer NoMemory) (old new : Option (List ℕ)) (is : IfOk answer (λ a. Is a.ok a.text)) where
  held : (ok : Bool) (text : List ℕ) → answer ≡ Ok (record { ok = ok; text = text }) → Is ok text
  held ok text e = subst (λ (r : Result Answer NoMemory). IfOk r (λ a. Is a.ok a.text)) e is

  pub appends_such : (ok : Bool) → Puts answer ok old new → AppendsSuch (Is ok) old new
  appends_such ok puts = record { line = puts.text; is = held ok puts.text puts.is; grown = puts.grown }

  pub appends_front : {C : Type 0} → C ⊎ PutsFront answer old new → C ⊎ ((ok : Bool) × AppendsSuchFront (Is ok) old new)
  appends_front (inl same) = inl same
  appends_front (inr puts) = inr (puts.ok, record { line = puts.text; is = held puts.ok puts.text puts.is; grown = puts.grown })

-- words ask for one number of lines
pub one_count : (words : List (List ℕ)) (m n : ℕ) → IsJob words (Drill m) → IsJob words (Drill n) → m ≡ n
one_count words m n (t, e, is) (u, f, also) =
    let same : t ≡ u = cc (e, f) in
    sym is.is ∙ ap value same ∙ also.is
