-- Under a sound book it answers and leaves what `read` does.
use Rattle.bridge.specs.Arranged.{IsRoomy}
use Rattle.bridge.proofs.Tied.{tells_checked, leaves_checked, accepted, exactly, stated, one, kept, in_table}
use Rattle.bridge.proofs.read_arrangement_checked.Goals as goal

pub returns-clause-accepted : goal.returns-clause-accepted
returns-clause-accepted c = λ h. accepted _ _ _ _ (tells_checked _ _ _ _ (IsRoomy.is_sound h) c.read_checked.ensures.told) h

pub returns-clause-exactly : goal.returns-clause-exactly
returns-clause-exactly c = λ good. exactly _ _ _ _ (tells_checked _ _ _ _ good c.read_checked.ensures.told)

pub returns-clause-stated : goal.returns-clause-stated
returns-clause-stated c = λ good.
    stated _ _ _ _ (tells_checked _ _ _ _ good c.read_checked.ensures.told) _ (leaves_checked _ _ _ _ good c.read_checked.ensures.index)

pub returns-clause-one : goal.returns-clause-one
returns-clause-one c = one _ _

pub returns-clause-kept : goal.returns-clause-kept
returns-clause-kept c = λ good.
    kept _ _ _ _ (tells_checked _ _ _ _ good c.read_checked.ensures.told) _ (leaves_checked _ _ _ _ good c.read_checked.ensures.index)

pub returns-clause-refused : goal.returns-clause-refused
returns-clause-refused c = λ good. in_table _ _ _ _ (tells_checked _ _ _ _ good c.read_checked.ensures.told)
