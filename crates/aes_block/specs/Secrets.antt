-- The octets of a key of either length.
use Rattle.std.specs.Prelude.{ℕ, ◌==◌, nat_eq, Bool, false, if◌then◌else◌, List, length, codes}
use Rattle.std.specs.Cmp.Lexicographic.{pointwise}
use Rattle.aes_block.specs.declared.secret.Secret.{Secret}
use Rattle.aes_block.specs.declared.secret.Secret.TheVariants.{S128, S256}

-- its octets, in their order
abbrev pub secret_octets : Secret → List ℕ
secret_octets (S128 octets) = octets
secret_octets (S256 octets) = octets

-- whether two secrets are of the same length and have the same octets
abbrev pub same_secret : Secret → Secret → Bool
same_secret (S128 a) (S128 b) = pointwise nat_eq a b
same_secret (S256 a) (S256 b) = pointwise nat_eq a b
same_secret _ _ = false

-- what is told of a secret: its length alone
abbrev pub secret_text : Secret → List ℕ
secret_text (S128 _) = codes "Secret(128 bits)"
secret_text (S256 _) = codes "Secret(256 bits)"

-- what is told of a key: its length alone
abbrev pub key_text : List ℕ → List ℕ
key_text key = if length key == 32 then codes "Key(256 bits)" else codes "Key(128 bits)"
