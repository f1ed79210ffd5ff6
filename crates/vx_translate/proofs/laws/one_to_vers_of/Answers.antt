use Rattle.vx_translate.proofs.laws.one_to_vers_of.Goals as goal

pub returns-in-Maven-clause-text : goal.returns-in-Maven-clause-text
returns-in-Maven-clause-text c = rw c.in-Maven.is c.one_translation-in-Maven.ensures.text

pub returns-in-Maven-clause-refusal : goal.returns-in-Maven-clause-refusal
returns-in-Maven-clause-refusal c = rw c.in-Maven.is (λ domain range a b some also p q. c.one_translation-in-Maven.ensures.refusal domain range a b some also (p some) (q also))

pub returns-in-Maven-clause-apart : goal.returns-in-Maven-clause-apart
returns-in-Maven-clause-apart c = rw c.in-Maven.is (λ domain range text refusal some made refused. c.one_translation-in-Maven.ensures.apart domain range text refusal some made (refused some))

pub returns-in-Nuget-clause-text : goal.returns-in-Nuget-clause-text
returns-in-Nuget-clause-text c = rw c.in-Nuget.is c.one_translation-in-Nuget.ensures.text

pub returns-in-Nuget-clause-refusal : goal.returns-in-Nuget-clause-refusal
returns-in-Nuget-clause-refusal c = rw c.in-Nuget.is (λ domain range a b some also p q. c.one_translation-in-Nuget.ensures.refusal domain range a b some also (p some) (q also))

pub returns-in-Nuget-clause-apart : goal.returns-in-Nuget-clause-apart
returns-in-Nuget-clause-apart c = rw c.in-Nuget.is (λ domain range text refusal some made refused. c.one_translation-in-Nuget.ensures.apart domain range text refusal some made (refused some))
