-- Whether two keys are the same.
use Rattle.std.proofs.Common.{◌≡◌, ◌≢◌, ◌∙◌, ◌⊎◌, inl, inr, ℕ, true, Some, List, [], ◌∷◌, refl, sym, ap, subst}
use Rattle.std.proofs.lemmas.Bool.{and_parts, eqb-true, eq-eqb}
use Rattle.lan_base.specs.AssociationNumbers.{number_of, numbered, same_an}
use Rattle.lan_base.specs.declared.association_number.AssociationNumber.{AssociationNumber}
use Rattle.lan_base.specs.declared.association_number.AssociationNumber.TheVariants.{An0, An1, An2, An3}
use Rattle.lan_base.specs.declared.key_id.KeyId.{KeyId}
use Rattle.aes_block.specs.declared.secret.Secret.{Secret}
use Rattle.aes_block.specs.Secrets.{same_secret}
use Rattle.aes_block.proofs.Public.{same_secret-is, same_secret-itself}
use Rattle.aes_block.specs.declared.secret.Secret.TheVariants.{S128, S256}
use Rattle.transcript_check.specs.declared.named.Named.{Named}
use Rattle.transcript_check.specs.Judged.{Use, same_named}
use Rattle.least_pairs.proofs.Public.{nat_dec, some-same}

abbrev pub Told : {A : Type 0} → A → A → Type 0
Told a b = (a ≡ b) ⊎ (a ≢ b)

list_dec : (a b : List ℕ) → Told a b
list_dec [] [] = inl refl
list_dec [] (y ∷ b) = inr (λ e. absurd (cc e))
list_dec (x ∷ a) [] = inr (λ e. absurd (cc e))
list_dec (x ∷ a) (y ∷ b) = go (nat_dec x y) (list_dec a b)
  where
    go : Told x y → Told a b → Told (x ∷ a) (y ∷ b)
    go (inl e) (inl f) = inl (cc (e, f))
    go (inr n) f = inr (λ e. n (cc e))
    go (inl e) (inr n) = inr (λ f. n (cc f))

secret_dec : (a b : Secret) → Told a b
secret_dec (S128 a) (S128 b) = go (list_dec a b)
  where
    go : Told a b → Told (S128 a) (S128 b)
    go (inl e) = inl (ap S128 e)
    go (inr n) = inr (λ e. n (cc e))
secret_dec (S256 a) (S256 b) = go (list_dec a b)
  where
    go : Told a b → Told (S256 a) (S256 b)
    go (inl e) = inl (ap S256 e)
    go (inr n) = inr (λ e. n (cc e))
secret_dec (S128 a) (S256 b) = inr (λ e. absurd (cc e))
secret_dec (S256 a) (S128 b) = inr (λ e. absurd (cc e))

pub id_dec : (a b : KeyId) → Told a b
id_dec a b = go (list_dec a.server.0 b.server.0) (nat_dec a.number b.number)
  where
    go : Told a.server.0 b.server.0 → Told a.number b.number → Told a b
    go (inl e) (inl f) = inl (λ t. record { server = record { 0 = e t }; number = f t })
    go (inr n) f = inr (λ e. n (ap (λ (k : KeyId). k.server.0) e))
    go (inl e) (inr n) = inr (λ f. n (ap (λ (k : KeyId). k.number) f))

pub use_dec : (a b : Use) → Told a b
use_dec a b = go (nat_dec a.station b.station) (secret_dec a.sak b.sak) (nat_dec a.pn b.pn)
  where
    go : Told a.station b.station → Told a.sak b.sak → Told a.pn b.pn → Told a b
    go (inl e) (inl f) (inl g) = inl (λ t. record { station = e t; sak = f t; pn = g t })
    go (inr n) f g = inr (λ e. n (ap (λ (k : Use). k.station) e))
    go (inl e) (inr n) g = inr (λ f. n (ap (λ (k : Use). k.sak) f))
    go (inl e) (inl f) (inr n) = inr (λ g. n (ap (λ (k : Use). k.pn) g))

pub pair_dec : (s epoch t e : ℕ) → ((t ≡ s) × (e ≡ epoch)) ⊎ ((t ≡ s) × (e ≡ epoch) → ⊥)
pair_dec s epoch t e = go (nat_dec t s) (nat_dec e epoch)
  where
    go : Told t s → Told e epoch → ((t ≡ s) × (e ≡ epoch)) ⊎ ((t ≡ s) × (e ≡ epoch) → ⊥)
    go (inl a) (inl b) = inl (a, b)
    go (inr n) b = inr (λ p. n p.0)
    go (inl a) (inr n) = inr (λ p. n p.1)

-- ---- the same SAK and the same association number

named-again : (a : AssociationNumber) → numbered (number_of a) ≡ Some a
named-again An0 = refl
named-again An1 = refl
named-again An2 = refl
named-again An3 = refl

an-same : (a b : AssociationNumber) → number_of a ≡ number_of b → a ≡ b
an-same a b e = some-same (sym (named-again a) ∙ ap numbered e ∙ named-again b)

pub same-nameds : (a b : Named) → same_named a b ≡ true → a ≡ b
same-nameds a b e =
    let both = and_parts (same_an a.an b.an) (same_secret a.sak b.sak) e in
    let an = an-same a.an b.an (eqb-true (number_of a.an) (number_of b.an) both.0) in
    let sak = same_secret-is a.sak b.sak both.1 in
    λ t. record { an = an t; sak = sak t }

pub named-itself : (a : Named) → same_named a a ≡ true
named-itself a = rw (eq-eqb (number_of a.an) (number_of a.an) refl, same_secret-itself a.sak) refl

-- what two agree with, they agree in
pub named-joins : (u v w : Named) → same_named u v ≡ true → same_named u w ≡ true → same_named v w ≡ true
named-joins u v w e f =
    subst (λ x. same_named v x ≡ true) (sym (same-nameds u v e) ∙ same-nameds u w f) (named-itself v)
