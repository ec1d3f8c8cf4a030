-- The last result of each test.
use Rattle.std.specs.Prelude.{ℕ, ◌-◌, List}
use Rattle.workbench_cases.specs.Frames.{end_of, frame_tag_after, receiver_after}
use Rattle.workbench_cases.specs.Work.{block_after, key, long_key, tag_after, value_after}
use Rattle.workbench_cases.specs.declared.ciphers.named.Frame.{Frame}
use Rattle.workbench_cases.specs.declared.ciphers.named.Frame.TheVariants.{Octets64, Octets512, Octets1500}
use Rattle.workbench_cases.specs.declared.ciphers.named.Test.{Test}
use Rattle.workbench_cases.specs.declared.ciphers.named.Test.TheVariants.{Block, Cmac, Gcm, LongKeyBlock, LongKeyGcm, Protect, Receive}

-- how many octets a frame has
abbrev pub frame_length : Frame → ℕ
frame_length Octets64 = 64
frame_length Octets512 = 512
frame_length Octets1500 = 1500

-- how many of them are sealed: all but two addresses of 6 octets
abbrev pub text_length : Frame → ℕ
text_length frame = frame_length frame - 12

-- the last result of a test that was done n times
abbrev pub last_result : Test → ℕ → List ℕ
last_result Block n = block_after key n
last_result LongKeyBlock n = block_after long_key n
last_result Cmac n = value_after n
last_result (Gcm frame) n = tag_after key (text_length frame) n
last_result LongKeyGcm n = tag_after long_key (text_length Octets1500) n
last_result Protect n = frame_tag_after n
last_result Receive n = end_of (receiver_after n).last

-- a test of a cipher alone, which takes no memory
abbrev pub IsOfCipher : Test → Type 0
IsOfCipher Protect = ⊥
IsOfCipher Receive = ⊥
IsOfCipher Block = Unit {0}
IsOfCipher LongKeyBlock = Unit {0}
IsOfCipher Cmac = Unit {0}
IsOfCipher (Gcm frame) = Unit {0}
IsOfCipher LongKeyGcm = Unit {0}
