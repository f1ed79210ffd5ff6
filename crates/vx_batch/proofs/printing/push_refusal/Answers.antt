-- Each line is that of its refusal.
use Rattle.vx_batch.proofs.printing.push_refusal.Goals as goal

pub returns-in-NoEndpoint : goal.returns-in-NoEndpoint
returns-in-NoEndpoint c = rw c.in-NoEndpoint.is (rw c.end_kind_text.ensures at c.push_kind.ensures)

pub returns-in-Empty : goal.returns-in-Empty
returns-in-Empty c = rw c.in-Empty.is c.push_str-in-Empty.ensures.ok

pub returns-in-BadVers : goal.returns-in-BadVers
returns-in-BadVers c = rw c.in-BadVers.is (rw c.part_text.ensures at c.push_kind-in-BadVers.ensures)

pub returns-in-BadVersion : goal.returns-in-BadVersion
returns-in-BadVersion c = rw c.in-BadVersion.is c.push_str-in-BadVersion.ensures.ok

pub returns-in-NoNative : goal.returns-in-NoNative
returns-in-NoNative c = rw c.in-NoNative.is (rw c.back_kind_text.ensures at c.push_kind-in-NoNative.ensures)
