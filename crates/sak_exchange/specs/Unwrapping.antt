-- The key that a wrap hides (RFC 3394): the one whose wrap it is.
use Rattle.std.specs.Prelude.{ℕ, zero, suc, nat_eq, List, [], ◌∷◌, map, Option, None, option_map}
use Rattle.std.specs.List.{find, flat_map}
use lib.Pointwise.{pointwise}
use Rattle.aes_block.specs.declared.secret.Secret.{Secret}
use Rattle.aes_block.specs.declared.secret.Secret.TheVariants.{S128, S256}
use Rattle.key_wrap.specs.Wrap.{wrapped}
use Rattle.mkpdu_codec.specs.declared.wrapped_key.WrappedKey.{WrappedKey}
use Rattle.mkpdu_codec.specs.declared.wrapped_key.WrappedKey.TheVariants.{Aes128, Aes256, Xpn128, Xpn256, Other}

-- the numbers below one
unfoldable pub below : ℕ → List ℕ
below zero = []
below (suc n) = n ∷ below n

-- all lists of so many octets
unfoldable pub octet_lists : ℕ → List (List ℕ)
octet_lists zero = [] ∷ []
octet_lists (suc n) = flat_map (λ rest. map (λ octet. octet ∷ rest) (below 256)) (octet_lists n)

-- of all keys of so many octets, the one whose wrap under a key encrypting key this is, if there is
-- one
unfoldable pub unwrapped : ℕ → List ℕ → List ℕ → Option (List ℕ)
unwrapped count kek octets =
    find (λ key. pointwise nat_eq (wrapped kek key) octets) (octet_lists count)

-- the SAK that is given, if what was given is a wrap of one for a suite that the station has
abbrev pub given_sak : List ℕ → WrappedKey → Option Secret
given_sak kek (Aes128 octets) = option_map S128 (unwrapped 16 kek octets)
given_sak kek (Aes256 octets) = option_map S256 (unwrapped 32 kek octets)
given_sak kek (Xpn128 octets) = None
given_sak kek (Xpn256 octets) = None
given_sak kek Other = None
