use Rattle.cak_roll.proofs.MembersFollow.{none-are}
use Rattle.cak_roll.proofs.members.Members.new.Goals as goal

pub returns : goal.returns
returns c = rw (c.new.ensures.items, c.new-2.ensures.items, c.new-3.ensures.items) none-are
