-- Secrets that are of the same length and have the same octets are the same.
use Rattle.std.proofs.Common.{◌≡◌, true, refl, ap}
use Rattle.std.proofs.lemmas.Slice.Eq.{bytes_eq-Decides}
use Rattle.aes_block.specs.declared.secret.Secret.{Secret}
use Rattle.aes_block.specs.declared.secret.Secret.TheVariants.{S128, S256}
use Rattle.aes_block.specs.Secrets.{same_secret}

pub same_secret-is : (a b : Secret) → same_secret a b ≡ true → a ≡ b
same_secret-is (S128 a) (S128 b) same = ap S128 ((bytes_eq-Decides a b).0 same)
same_secret-is (S256 a) (S256 b) same = ap S256 ((bytes_eq-Decides a b).0 same)
same_secret-is (S128 a) (S256 b) same = absurd (cc same)
same_secret-is (S256 a) (S128 b) same = absurd (cc same)

pub same_secret-itself : (a : Secret) → same_secret a a ≡ true
same_secret-itself (S128 a) = (bytes_eq-Decides a a).1 refl
same_secret-itself (S256 a) = (bytes_eq-Decides a a).1 refl
