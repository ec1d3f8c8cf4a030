-- The announcements of the run may be written, and their values are in their ranges.
use Rattle.std.proofs.Common.{◌≡◌, refl, ℕ, length, true}
use Rattle.std.proofs.Common.{arith}
use Rattle.std.specs.Prelude.{nat_lt}
use Rattle.gcm_frames.specs.Protected.{IsSci}
use Rattle.key_wrap.specs.Wrap.{wrapped}
use Rattle.lan_core.specs.Types.{IsMi, IsSecret}
use Rattle.group_safety.proofs.once.Ciphers.{wrapped-length}
use Rattle.group_safety.proofs.once.Living.{group_kek, kek-key}
use Rattle.group_safety.specs.worked.Group.{settings, mi, sci, octets_of_sak, sak}
use Rattle.group_safety.proofs.example.Scene.{octets_of, set_up, IsSayable}
use Rattle.group_safety.proofs.example.Sayable.{sayable}
use Rattle.group_safety.proofs.example.Run.{a1, b1, a2, b2, a3, c1, a4}
use Rattle.group_safety.proofs.example.Run.{c2, a5}

pub mi_is : (n : ℕ) → nat_lt n 256 ≡ true → IsMi (mi n)
mi_is n small = (refl, octets_of (mi n).0 (rw small refl))

pub sci_is : (n : ℕ) → nat_lt n 256 ≡ true → IsSci (sci n)
sci_is n small = record { count = refl; octets = octets_of (sci n).0 (rw small refl) }

pub sak_is : (n : ℕ) → nat_lt n 256 ≡ true → IsSecret (sak n)
sak_is n small = (refl, octets_of (octets_of_sak n) (rw small refl))

pub length-wrapped_sak : (n : ℕ) → nat_lt n 256 ≡ true
    → length (wrapped (group_kek settings) (octets_of_sak n)) ≡ 24
length-wrapped_sak n small =
    wrapped-length (group_kek settings) (octets_of_sak n) 16 (kek-key settings set_up) (omega arith)
    refl (sak_is n small).1

pub good_a1 : IsSayable a1
good_a1 = sayable a1 refl (tt, tt)

pub good_b1 : IsSayable b1
good_b1 = sayable b1 refl (tt, tt)

pub good_a2 : IsSayable a2
good_a2 = sayable a2 refl (tt, record { number = omega arith; key = length-wrapped_sak 1 refl })

pub good_b2 : IsSayable b2
good_b2 = sayable b2 refl (tt, tt)

pub good_a3 : IsSayable a3
good_a3 = sayable a3 refl (tt, tt)

pub good_c1 : IsSayable c1
good_c1 = sayable c1 refl (tt, tt)

pub good_a4 : IsSayable a4
good_a4 = sayable a4 refl (tt, record { number = omega arith; key = length-wrapped_sak 2 refl })

pub good_c2 : IsSayable c2
good_c2 = sayable c2 refl (tt, tt)

pub good_a5 : IsSayable a5
good_a5 = sayable a5 refl (tt, tt)
