-- An accepted line says what its command promises.
use Rattle.std.proofs.Common.{◌≡◌, ℕ, List, true, Option, Some, None, refl, subst, ◌↔◌, Ok}
use Rattle.vx_scheme.specs.declared.name.SchemeName.{SchemeName}
use Rattle.vx_scheme.specs.declared.domain.Domain.{Domain}
use Rattle.vx_scheme.specs.Names.{scheme_named}
use Rattle.purl_types.specs.Canonical.{AreBytes, IsCanonical, IsComparedAs}
use Rattle.purl_types.proofs.SameLaws.{one_text}
use Rattle.vx_batch.specs.declared.request.Request.{Request}
use Rattle.vx_batch.specs.declared.request.Request.TheVariants.{ToVers, FromVers, Canon, Has, Purl, Same, Check}
use Rattle.vx_batch.specs.Answers.{IsAnswer, AnswersAsked, AnswersRequest, AnswersScheme, AnswersInDomain, AnswersBack, domain_named}
use Rattle.vx_batch.specs.Requests.{fields_of}
use Rattle.vx_batch.specs.Translations.{IsTranslation, IsTranslationBack, Says}
use Rattle.vx_batch.specs.Laws.Requests.{one_asked}

module _ (scheme domain range line : List ℕ) where
  of_domain : (name : SchemeName) → scheme_named scheme ≡ Some name → (found : Option (Option Domain)) → domain_named domain ≡ found → AnswersInDomain name found range true line → IsTranslation scheme domain range line
  of_domain name is None none h = cc h.0
  of_domain name is (Some choice) some h = record { text = h.0; name = name; choice = choice; is_scheme = is; is_domain = some; printed = h.2; same = h.1.1 }

  of_scheme : (found : Option SchemeName) → scheme_named scheme ≡ found → AnswersScheme found domain range true line → IsTranslation scheme domain range line
  of_scheme None none h = cc h.0
  of_scheme (Some name) some h = of_domain name some (domain_named domain) refl h

of_back : (domain text line : List ℕ) (found : Option (Option Domain)) → domain_named domain ≡ found → AnswersBack found text true line → IsTranslationBack domain text line
of_back domain text line None none h = cc h.0
of_back domain text line (Some choice) some h = record { range = h.0; choice = choice; is_domain = some; printed = h.2; same = h.1.1 }

-- equal canonical texts exactly where the same package is meant
equal_texts : (text canonical other found : List ℕ) → AreBytes text → AreBytes other → IsCanonical text canonical → IsCanonical other found → (canonical ≡ found) ↔ IsComparedAs text other (Ok true)
equal_texts text canonical other found bytes also here there = (
  λ e. (here.purl, there.purl, here.spells, there.spells, (λ told. (one_text text other canonical found here.purl there.purl bytes also here.spells there.spells here there).0 e, λ same. refl)),
  λ compared. let (p, q, spells, spells', told) = compared in (one_text text other canonical found p q bytes also spells spells' here there).1 (told.0 refl),
)

of_request : (request : Request (List ℕ)) (line : List ℕ) → AnswersRequest request true line → Says request line
of_request (ToVers scheme domain range) line h = of_scheme scheme domain range line (scheme_named scheme) refl h
of_request (FromVers domain vers) line h = of_back domain vers line (domain_named domain) refl h
of_request (Canon vers) line h = record { canonical = h.0; printed = h.2; same = h.1.1 }
of_request (Has vers version) line (found, (held, is, shown), printed) = record { held = held; printed = rw shown at printed; is = is }
of_request (Purl purl) line h = record { canonical = h.0; printed = h.2; is = h.1; equal = λ other found bytes also there. equal_texts purl h.0 other found bytes also h.1 there }
of_request (Same first second) line (found, (told, is, shown), printed) = record { told = told; printed = rw shown at printed; is = is }
of_request (Check purl vers) line (found, (held, is, shown), printed) = record { held = held; printed = rw shown at printed; is = is }

-- the accepted line to the fields of a request says what the request's command promises
pub says : (request : Request (List ℕ)) (line : List ℕ) → IsAnswer (fields_of request) true line → Says request line
says request line a = of_request request line (subst (λ asked. AnswersAsked asked true line) (one_asked (fields_of request) a.asked (Some request) a.is refl) a.answered)
