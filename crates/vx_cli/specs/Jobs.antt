-- What the words of the program ask.
use Rattle.std.specs.Prelude.{◌≡◌, ◌<◌, ◌≤◌, ℕ, List, [], ◌∷◌, true, Option, Some, None, codes}
use Rattle.vx_spec.specs.Numerals.{is_numeral, value}
use Rattle.vx_batch.specs.Requests.{fields_of, with_texts}
use Rattle.vx_cli.specs.declared.job.Job.{Job}
use Rattle.vx_cli.specs.declared.job.Job.TheVariants.{Line, Batch, Drill}

-- a numeral from 1 to 1,000,000, of this value
pub record IsLineCount (text : List ℕ) (count : ℕ) : Type 0 where
  pub numeral : is_numeral text ≡ true
  pub is : value text ≡ count
  pub some : 0 < count
  pub most : count ≤ 1000000

-- The words ask this: the fields of a line that is one request, or `batch`, or `drill` and a number of lines.
abbrev pub IsJob : List (List ℕ) → Job (List ℕ) → Type 0
IsJob words (Line request) = fields_of request ≡ words
IsJob words Batch = words ≡ codes "batch" ∷ []
IsJob words (Drill count) = (text : List ℕ) × (words ≡ codes "drill" ∷ text ∷ []) × IsLineCount text count

-- The words are a usage fault: they ask nothing.
abbrev pub IsUsageFault : List (List ℕ) → Type 0
IsUsageFault words = (job : Job (List ℕ)) → ¬ (IsJob words job)

-- the words ask this, or nothing
abbrev pub Asks : List (List ℕ) → Option (Job (List ℕ)) → Type 0
Asks words None = IsUsageFault words
Asks words (Some job) = IsJob words job

-- the job whose fields are the texts of these
abbrev pub with_job_texts : {F : Type 0} → (F → List ℕ) → Job F → Job (List ℕ)
with_job_texts text (Line request) = Line (with_texts text request)
with_job_texts text Batch = Batch
with_job_texts text (Drill count) = Drill count

abbrev pub job_texts : {F : Type 0} → (F → List ℕ) → Option (Job F) → Option (Job (List ℕ))
job_texts text None = None
job_texts text (Some job) = Some (with_job_texts text job)
