-- What is answered is one line, where what it rests on is one.
use Rattle.std.proofs.Common.{◌≡◌, ◌≢◌, ◌++◌, ℕ, Bool, true, false, List, Option, Some, None, codes, arith, refl, sym, ap, subst, ◌∙◌, inl, inr}
use Rattle.vx_scheme.specs.declared.name.SchemeName.{SchemeName}
use Rattle.vx_scheme.specs.declared.domain.Domain.{Domain}
use Rattle.vx_scheme.specs.Names.{scheme_named}
use Rattle.vx_translate.specs.Domains.{chosen_domain}
use Rattle.vx_batch.specs.declared.request.Request.{Request}
use Rattle.vx_batch.specs.declared.request.Request.TheVariants.{ToVers, FromVers, Canon, Has, Purl, Same, Check}
use Rattle.vx_batch.specs.Answers.{AnswersText, AnswersRange, AnswersInDomain, AnswersScheme, AnswersBack, AnswersCanon, AnswersHas, AnswersPurl, AnswersSame, AnswersCheck, AnswersRequest, AnswersAsked, IsAnswer, IsLineAnswer, IsDecided, IsLine, decision_text, domain_named}
use Rattle.vx_batch.specs.Fields.{fields_of_line}
use Rattle.vx_batch.specs.Laws.Requests.{one_asked}
use Rattle.vx_batch.specs.Steps.OneLine.{HasOneLine}

pub one_refused : (refused : List ℕ) → HasOneLine (IsLine refused)
one_refused refused a b line other p q = (p.0 ∙ sym q.0, p.1 ∙ sym q.1)

-- Texts of which one is accepted, or refusals of which one comes, and never both, have one line.
module _ {F : Type 0} (none : F) (printed : F → List ℕ) (IsText : List ℕ → Type 0) (Refuses : F → Type 0) where
  abbrev IsRefusal : List ℕ → Type 0
  IsRefusal line = (refusal : F) × (refusal ≢ none) × Refuses refusal × (line ≡ printed refusal)

  pub one_line : ((a b : List ℕ) → IsText a → IsText b → a ≡ b) → ((a b : F) → a ≢ none → b ≢ none → Refuses a → Refuses b → a ≡ b) → ((text : List ℕ) (refusal : F) → refusal ≢ none → IsText text → ¬ (Refuses refusal))
      → HasOneLine (AnswersText IsText IsRefusal)
  one_line text refusal apart true true line other (t, is, e) (s, be, f) = (refl, e ∙ ap (λ (found : List ℕ). codes "ok\t" ++ found) (text t s is be) ∙ sym f)
  one_line text refusal apart false false line other (r, some, is, e) (s, also, be, f) = (refl, e ∙ ap printed (refusal r s some also is be) ∙ sym f)
  one_line text refusal apart true false line other (t, is, e) (s, also, be, f) = absurd (apart t s also is be)
  one_line text refusal apart false true line other (r, some, is, e) (s, be, f) = absurd (apart s r some be is)

-- a decision that is one has one text
module _ (Is : Bool → Type 0) where
  pub one_decided : ((a b : Bool) → Is a → Is b → a ≡ b) → (a b : List ℕ) → IsDecided Is a → IsDecided Is b → a ≡ b
  one_decided one a b (x, p, e) (y, q, f) = e ∙ ap decision_text (one x y p q) ∙ sym f

-- ---- requests, fields and lines

module _ (range : (name : SchemeName) (domain : Domain) (text : List ℕ) → HasOneLine (AnswersRange name domain text)) (back : (domain : Option (Option Domain)) (vers : List ℕ) → HasOneLine (AnswersBack domain vers))
    (canon : (vers : List ℕ) → HasOneLine (AnswersCanon vers)) (has : (vers version : List ℕ) → HasOneLine (AnswersHas vers version)) (purl : (text : List ℕ) → HasOneLine (AnswersPurl text))
    (same : (first second : List ℕ) → HasOneLine (AnswersSame first second)) (check : (purl vers : List ℕ) → HasOneLine (AnswersCheck purl vers)) where
  one_in_domain : (name : SchemeName) (domain : Option (Option Domain)) (text : List ℕ) → HasOneLine (AnswersInDomain name domain text)
  one_in_domain name None text = one_refused (codes "no\t5 BadDomain\t-")
  one_in_domain name (Some domain) text = range name (chosen_domain domain name) text

  one_of_scheme : (name : Option SchemeName) (domain text : List ℕ) → HasOneLine (AnswersScheme name domain text)
  one_of_scheme None domain text = one_refused (codes "no\t4 BadScheme\t-")
  one_of_scheme (Some name) domain text = one_in_domain name (domain_named domain) text

  one_of_request : (request : Request (List ℕ)) → HasOneLine (AnswersRequest request)
  one_of_request (ToVers scheme domain text) = one_of_scheme (scheme_named scheme) domain text
  one_of_request (FromVers domain vers) = back (domain_named domain) vers
  one_of_request (Canon vers) = canon vers
  one_of_request (Has vers version) = has vers version
  one_of_request (Purl text) = purl text
  one_of_request (Same first second) = same first second
  one_of_request (Check purl vers) = check purl vers

  one_of_asked : (asked : Option (Request (List ℕ))) → HasOneLine (AnswersAsked asked)
  one_of_asked None = one_refused (codes "no\t3 BadCommand\t-")
  one_of_asked (Some request) = one_of_request request

  pub one_of_fields : (fields : List (List ℕ)) → HasOneLine (IsAnswer fields)
  one_of_fields fields a b line other p q =
      one_of_asked p.asked a b line other p.answered (subst (λ asked. AnswersAsked asked b other) (one_asked fields q.asked p.asked q.is p.is) q.answered)

  pub one_of_line : (most : ℕ) (bytes : List ℕ) → HasOneLine (IsLineAnswer most bytes)
  one_of_line most bytes a b line other (inl p) (inl q) = one_refused (codes "no\t1 LineTooLong\t-") a b line other p.1 q.1
  one_of_line most bytes a b line other (inl p) (inr (inl q)) = absurd (omega (arith, p.0, q.0))
  one_of_line most bytes a b line other (inl p) (inr (inr q)) = absurd (omega (arith, p.0, q.0))
  one_of_line most bytes a b line other (inr (inl p)) (inl q) = absurd (omega (arith, p.0, q.0))
  one_of_line most bytes a b line other (inr (inl p)) (inr (inl q)) = one_refused (codes "no\t2 NotText\t-") a b line other p.2 q.2
  one_of_line most bytes a b line other (inr (inl p)) (inr (inr q)) = absurd (p.1 q.1)
  one_of_line most bytes a b line other (inr (inr p)) (inl q) = absurd (omega (arith, p.0, q.0))
  one_of_line most bytes a b line other (inr (inr p)) (inr (inl q)) = absurd (q.1 p.1)
  one_of_line most bytes a b line other (inr (inr p)) (inr (inr q)) = one_of_fields (fields_of_line bytes) a b line other p.2 q.2
