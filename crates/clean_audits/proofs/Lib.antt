-- In this order each file rests on those above it: keys that are given before they are used; what is on
-- the air, and which MKPDUs are right; claims and their frames; what entries tell; and what stands of the
-- packets of a run.
pub mod Finding
pub mod Reported
pub mod NewKeys
pub mod Announced
pub mod GivenKeys
pub mod OnAir
pub mod RightMkpdus
pub mod Gifts
pub mod MkpdusRight
pub mod Claimed
pub mod SealedFrames
pub mod Told
pub mod OneKeys
pub mod Rising
pub mod Sent
pub mod NoReturns
pub mod RightFrames
pub mod NewFrames
pub mod Standing
pub mod SpokenStands
pub mod SealedStands
pub mod CleanRuns
pub mod Captures
pub mod Examples
