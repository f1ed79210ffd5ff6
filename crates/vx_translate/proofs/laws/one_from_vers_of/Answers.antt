use Rattle.vx_translate.proofs.laws.one_from_vers_of.Goals as goal

pub returns-in-Maven-clause-text : goal.returns-in-Maven-clause-text
returns-in-Maven-clause-text c = rw c.in-Maven.is c.one_translation_back-in-Maven.ensures.text

pub returns-in-Maven-clause-refusal : goal.returns-in-Maven-clause-refusal
returns-in-Maven-clause-refusal c = rw c.in-Maven.is c.one_translation_back-in-Maven.ensures.refusal

pub returns-in-Maven-clause-apart : goal.returns-in-Maven-clause-apart
returns-in-Maven-clause-apart c = rw c.in-Maven.is c.one_translation_back-in-Maven.ensures.apart

pub returns-in-Nuget-clause-text : goal.returns-in-Nuget-clause-text
returns-in-Nuget-clause-text c = rw c.in-Nuget.is c.one_translation_back-in-Nuget.ensures.text

pub returns-in-Nuget-clause-refusal : goal.returns-in-Nuget-clause-refusal
returns-in-Nuget-clause-refusal c = rw c.in-Nuget.is c.one_translation_back-in-Nuget.ensures.refusal

pub returns-in-Nuget-clause-apart : goal.returns-in-Nuget-clause-apart
returns-in-Nuget-clause-apart c = rw c.in-Nuget.is c.one_translation_back-in-Nuget.ensures.apart
