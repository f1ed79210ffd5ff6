use Rattle.pep440_scheme.proofs.NextLaws as laws
use Rattle.pep440_scheme.proofs.next.succ_is_next.Goals as goal

pub returns-clause-version : goal.returns-clause-version
returns-clause-version c = laws.succ_version

pub returns-clause-public : goal.returns-clause-public
returns-clause-public c = laws.succ_public

pub returns-clause-above : goal.returns-clause-above
returns-clause-above c = laws.succ_above

pub returns-clause-lowest : goal.returns-clause-lowest
returns-clause-lowest c = laws.succ_lowest
