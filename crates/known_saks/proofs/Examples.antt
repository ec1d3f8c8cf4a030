-- The definitions at worked values: the marks are those of the standard's examples of CMAC (NIST SP 800-38B,
-- appendix D: the first one of AES-128 and of AES-256, of an empty message).
use Rattle.std.proofs.Common.{◌≡◌, false, true, [], ◌∷◌, refl}
use Rattle.aes_block.specs.declared.secret.Secret.{Secret}
use Rattle.aes_block.specs.declared.secret.Secret.TheVariants.{S128, S256}
use Rattle.aes_block.specs.Octet.{times, inverse, affine, sub_octet}
use Rattle.aes_block.specs.State.{sub_bytes, shift_rows, mixed_column, mix_columns, round, last_round}
use Rattle.aes_block.specs.Expansion.{power_of_x, expansion, round_key}
use Rattle.aes_block.specs.Aes.{after_rounds, cipher, aes}
use Rattle.aes_cmac.specs.Cmac.{doubled, chain_after, cmac}
use Rattle.known_saks.specs.Known.{is_known, mark}

abbrev short : Secret
short = S128 (0x2b ∷ 0x7e ∷ 0x15 ∷ 0x16 ∷ 0x28 ∷ 0xae ∷ 0xd2 ∷ 0xa6 ∷ 0xab ∷ 0xf7 ∷ 0x15 ∷ 0x88 ∷ 0x09 ∷ 0xcf ∷ 0x4f ∷ 0x3c ∷ [])

abbrev long : Secret
long = S256 (0x60 ∷ 0x3d ∷ 0xeb ∷ 0x10 ∷ 0x15 ∷ 0xca ∷ 0x71 ∷ 0xbe ∷ 0x2b ∷ 0x73 ∷ 0xae ∷ 0xf0 ∷ 0x85 ∷ 0x7d ∷ 0x77 ∷ 0x81 ∷ 0x1f ∷ 0x35 ∷ 0x2c ∷ 0x07 ∷ 0x3b ∷ 0x61 ∷ 0x08 ∷ 0xd7 ∷ 0x2d ∷ 0x98 ∷ 0x10 ∷ 0xa3 ∷ 0x09 ∷ 0x14 ∷ 0xdf ∷ 0xf4 ∷ [])

mark_of_short : mark short ≡ 0xbb ∷ 0x1d ∷ 0x69 ∷ 0x29 ∷ 0xe9 ∷ 0x59 ∷ 0x37 ∷ 0x28 ∷ 0x7f ∷ 0xa3 ∷ 0x7d ∷ 0x12 ∷ 0x9b ∷ 0x75 ∷ 0x67 ∷ 0x46 ∷ []
unfolding times inverse affine sub_octet power_of_x expansion round_key sub_bytes shift_rows mixed_column mix_columns round last_round after_rounds cipher aes doubled chain_after cmac mark
mark_of_short = refl

mark_of_long : mark long ≡ 0x02 ∷ 0x89 ∷ 0x62 ∷ 0xf6 ∷ 0x1b ∷ 0x7b ∷ 0xf8 ∷ 0x9e ∷ 0xfc ∷ 0x6b ∷ 0x55 ∷ 0x1f ∷ 0x46 ∷ 0x67 ∷ 0xd9 ∷ 0x83 ∷ []
unfolding times inverse affine sub_octet power_of_x expansion round_key sub_bytes shift_rows mixed_column mix_columns round last_round after_rounds cipher aes doubled chain_after cmac mark
mark_of_long = refl

-- before anything is noted nothing is known
nothing_known : is_known [] short ≡ false
nothing_known = refl

-- one that was noted is known, whatever is noted after it
known : is_known (long ∷ short ∷ []) short ≡ true
known = rw (mark_of_short, mark_of_long) refl

-- one that was not is not
not_known : is_known (long ∷ []) short ≡ false
not_known = rw (mark_of_short, mark_of_long) refl
