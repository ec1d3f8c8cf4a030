-- What is read of a frame that `protected` gives.
use Rattle.std.specs.Prelude.{ℕ, Bool, length}
use Rattle.lan_base.specs.declared.association_number.AssociationNumber.{AssociationNumber}
use Rattle.lan_base.specs.declared.address.Sci.{Sci}
use Rattle.lan_base.specs.declared.frame.UserFrame.{UserFrame}
use Rattle.gcm_frames.specs.declared.tag.Tag.{Tag}

-- the sender's fields; the secure data stands behind addresses and a SecTAG with an SCI, and is as
-- long as the user data
abbrev pub tag_written : Sci → AssociationNumber → ℕ → Bool → UserFrame → Tag
tag_written sci an pn conf user =
    record { sci = sci; an = an; pn = pn; conf = conf; start = 28; len = length user.body }
